use Rattle.std.proofs.Common.{◌≡◌, length, take, drop}
use Rattle.rules.specs.Lists.{each}
use Rattle.text.specs.Lines.{literal_text, line_text}
use Rattle.text.proofs.writing.put_line.Given as goal

abbrev pub invariant-loop-l : goal.invariant-loop-l
invariant-loop-l l =
    (length l.bytes ≡ length l.initial.bytes)
    × (l.at ≡ length (each literal_text (take l.l-index l.clause)))
    × (take l.at l.bytes ≡ each literal_text (take l.l-index l.clause))
    × (drop (length (line_text l.clause)) l.bytes ≡ drop (length (line_text l.clause)) l.initial.bytes)
