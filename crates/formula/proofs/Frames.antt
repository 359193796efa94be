-- Clauses as the enumeration makes them, and as the definitions state them.
use Rattle.std.proofs.Common.{◌≡◌, ℕ, ◌+◌, ◌-◌, ◌<◌, ◌≤◌, Bool, true, false, cond, List, [], ◌∷◌, ◌++◌, map, length, ℤ, filter, sym, ap, ◌∙◌, append_assoc, append-nil, arith, length-append, w32, SFits, to_z, of_z}
use Rattle.std.proofs.lemmas.Int.{to_z-of_z}
use Rattle.std.specs.List.{range_with_len}
use Rattle.rules.specs.Lists.{has}
use Rattle.rules.specs.Steps.{Rule, Step}
use Rattle.rules.specs.Problems.{Problem, step}
use Rattle.rules.specs.Clauses.{aye}
use Rattle.rules.specs.Formula.{step_var, parted_cell}
use Rattle.rules.proofs.Counting.{counting_next, counting_over}
use Rattle.problem.specs.declared.part.Part.{Part}
use Rattle.problem.specs.Tables.{part_of}
use Rattle.formula.specs.Effects.{doers}
use Rattle.formula.specs.Rows.{parted_pair}

pub parted_is : (p : Problem) (rule : Rule) (u a b : ℕ) (s t : Step) → s ≡ step p a → t ≡ step p b → parted_pair p rule u s t ≡ parted_cell p rule u a b
parted_is p rule u a b s t e k = ap (λ x. parted_pair p rule u x t) e ∙ ap (λ y. parted_pair p rule u (step p a) y) k

pub word_is : (x y : ℤ) → SFits w32 x → x ≡ y → to_z w32 (of_z w32 x) ≡ y
word_is x y f e = to_z-of_z w32 x f ∙ e

pub heads_is : (x y s t : ℤ) (ls ms : List ℤ) → ms ≡ x ∷ y ∷ ls → x ≡ s → y ≡ t → ms ≡ s ∷ t ∷ ls
heads_is x y s t ls ms e h k = cc

module _ (p : Problem) (part : Part) (u f : ℕ) where
  -- the literals so far, and then those of the steps from a on, are the clause
  abbrev pub Explains : List ℤ → List ℤ → ℕ → Type 0
  Explains all xs a = (length xs ≤ a + 1) × (xs ++ doers p part u f (range_with_len a (p.steps + 1 - a)) ≡ all)

  next : (a : ℕ) (b : Bool) → a < p.steps + 1 → has f (part_of p part a) ≡ b → doers p part u f (range_with_len a (p.steps + 1 - a)) ≡ map (λ j. aye (step_var p u j)) (cond b (a ∷ filter (λ j. has f (part_of p part j)) (range_with_len (a + 1) (p.steps + 1 - (a + 1)))) (filter (λ j. has f (part_of p part j)) (range_with_len (a + 1) (p.steps + 1 - (a + 1)))))
  next a b l e =
      let rest = filter (λ j. has f (part_of p part j)) (range_with_len (a + 1) (p.steps + 1 - (a + 1))) in
      ap (doers p part u f) (counting_next a (p.steps + 1) l) ∙ ap (λ (t : Bool). map (λ j. aye (step_var p u j)) (cond t (a ∷ rest) rest)) e

  pub explains_miss : (all xs : List ℤ) (a : ℕ) → Explains all xs a → a < p.steps + 1 → has f (part_of p part a) ≡ false → Explains all xs (a + 1)
  explains_miss all xs a h l e = (omega (arith, h.0), ap (λ ls. xs ++ ls) (sym (next a false l e)) ∙ h.1)

  pub explains_hit : (all xs ys : List ℤ) (a : ℕ) (x : ℤ) → Explains all xs a → a < p.steps + 1 → has f (part_of p part a) ≡ true → x ≡ aye (step_var p u a) → ys ≡ xs ++ x ∷ [] → Explains all ys (a + 1)
  explains_hit all xs ys a x h l e k is =
      let rest = doers p part u f (range_with_len (a + 1) (p.steps + 1 - (a + 1))) in (
        omega (arith, h.0, ap length is, length-append xs (x ∷ [])),
        ap (λ ls. ls ++ rest) is
            ∙ append_assoc xs (x ∷ []) rest
            ∙ ap (λ z. xs ++ (z ∷ rest)) k
            ∙ ap (λ ls. xs ++ ls) (sym (next a true l e)) ∙ h.1,
      )

  pub explains_end : (all xs : List ℤ) (a : ℕ) → Explains all xs a → p.steps + 1 ≤ a → xs ≡ all
  explains_end all xs a h l = sym (append-nil xs) ∙ ap (λ js. xs ++ doers p part u f js) (sym (counting_over a (p.steps + 1) l)) ∙ h.1
