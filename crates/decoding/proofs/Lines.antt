-- One step or one slot more of a sheet's lines.
use Rattle.std.proofs.Common.{◌≡◌, ℕ, suc, ◌+◌, ◌-◌, ◌<◌, Bool, true, false, cond, List, ◌∷◌, ◌++◌, map, sym, refl, ap, ◌∙◌, add-one, arith}
use Rattle.std.proofs.lemmas.Bool.{cond-true, cond-false}
use Rattle.rules.specs.declared.line.Line.{Line}
use Rattle.rules.specs.Problems.{Problem}
use Rattle.rules.specs.Clauses.{Valuation}
use Rattle.rules.specs.Formula.{step_var}
use Rattle.decoding.specs.Added.{lines_from, slot_lines, slots_from}

abbrev pub line : ℕ → ℕ → Line
line s a = record { slot = s; step = a }

map_cond : {X Y : Type 0} (f : X → Y) (b : Bool) (x : X) (xs : List X) → map f (cond b (x ∷ xs) xs) ≡ cond b (f x ∷ map f xs) (map f xs)
map_cond f true x xs = refl
map_cond f false x xs = refl

module _ (p : Problem) (w : Valuation) where
  module _ (u a end : ℕ) (l : a < end) where
    one_left : lines_from p w u a (end - a) ≡ cond (w (step_var p u a)) (record { slot = suc u; step = a } ∷ lines_from p w u (a + 1) (end - (a + 1))) (lines_from p w u (a + 1) (end - (a + 1)))
    one_left =
        let e : end - a ≡ suc (end - (a + 1)) = omega arith in
        ap (λ n. lines_from p w u a n) e ∙ map_cond (λ b. record { slot = suc u; step = b }) (w (step_var p u a)) a _

    pub step_in : w (step_var p u a) ≡ true → lines_from p w u a (end - a) ≡ line (u + 1) a ∷ lines_from p w u (a + 1) (end - (a + 1))
    step_in t = one_left ∙ cond-true (w (step_var p u a)) _ _ t ∙ ap (λ s. line s a ∷ lines_from p w u (a + 1) (end - (a + 1))) (sym (add-one u))

    pub step_out : w (step_var p u a) ≡ false → lines_from p w u a (end - a) ≡ lines_from p w u (a + 1) (end - (a + 1))
    step_out t = one_left ∙ cond-false (w (step_var p u a)) _ _ t

  pub slot_more : (u end : ℕ) → u < end → slots_from p w u (end - u) ≡ slot_lines p w u ++ slots_from p w (u + 1) (end - (u + 1))
  slot_more u end l = let e : end - u ≡ suc (end - (u + 1)) = omega arith in ap (λ n. slots_from p w u n) e
