-- All of the lent memory after encode: the formula's rendering and past it everything as it was; refused, everything as it was.
use Rattle.std.specs.Prelude.{◌≡◌, ℕ, List, ◌++◌, length, drop, ℤ, Ok, Err, Result}
use Rattle.rules.specs.declared.refusal.Refusal.{Refusal}
use Rattle.rules.specs.Steps.{Rule}
use Rattle.rules.specs.Problems.{Problem}
use Rattle.rules.specs.Formula.{formula}
use Rattle.clauses.specs.Rows.{flat}
use Rattle.text.specs.Lines.{lines_text}

-- n cells are rendered; the rest of the memory is as it was
abbrev pub rendered_over : {X : Type 0} → List X → List X → ℕ → List X → Type 0
rendered_over text before n after = (n ≡ length text) × (after ≡ text ++ drop n before)

abbrev pub words_after : Problem → Rule → ℕ → List ℤ → Result ℕ Refusal → List ℤ → Type 0
words_after p rule t before (Ok n) after = rendered_over (flat (formula p rule t)) before n after
words_after p rule t before (Err e) after = after ≡ before

abbrev pub text_after : Problem → Rule → ℕ → List ℕ → Result ℕ Refusal → List ℕ → Type 0
text_after p rule t before (Ok n) after = rendered_over (lines_text (formula p rule t)) before n after
text_after p rule t before (Err e) after = after ≡ before
