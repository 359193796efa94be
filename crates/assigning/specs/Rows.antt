-- The lines of a sheet, line by line.
use Rattle.std.specs.Prelude.{ℕ, Bool, true, ◌&&◌, ◌||◌, List, [], ◌∷◌, ◌==◌, nat_le, nat_lt}
use Rattle.std.specs.List.{list_all}
use Rattle.rules.specs.declared.line.Line.{Line}

-- by slot, then by step
abbrev pub earlier : Line → Line → Bool
earlier l m = nat_lt l.slot m.slot || (l.slot == m.slot && nat_lt l.step m.step)

-- the line names one of the slots and one of the steps
abbrev pub named : ℕ → ℕ → Line → Bool
named slots steps l = (nat_le 1 l.slot && nat_le l.slot slots) && (nat_le 1 l.step && nat_le l.step steps)

-- it is earlier than the next line, if there is one
abbrev pub leads : Line → List Line → Bool
leads l [] = true
leads l (m ∷ ms) = earlier l m

-- each line leads
abbrev pub rises : List Line → Bool
rises [] = true
rises (l ∷ ls) = leads l ls && rises ls

-- each line leads and is named
abbrev pub rows : ℕ → ℕ → List Line → Bool
rows slots steps ls = rises ls && list_all (named slots steps) ls
