-- The lent memory after encode, from what the sink holds and leaves.
use Rattle.std.proofs.Common.{◌≡◌, ℕ, zero, suc, ◌+◌, ◌-◌, ◌<◌, ◌≤◌, List, [], ◌∷◌, ◌++◌, map, length, take, drop, pos, nat_abs, sym, refl, ap, ◌∙◌, ⊎_elim, arith}
use Rattle.std.proofs.lemmas.List.{length-take-le, length-drop, drop_all, take-append-drop}
use Rattle.std.proofs.lemmas.Bool.{cases_lt}
use Rattle.rules.specs.Checks.{first_refusal}
use Rattle.rules.specs.Steps.{Rule}
use Rattle.rules.specs.Problems.{Problem}
use Rattle.rules.specs.Clauses.{Clause, total}
use Rattle.planner.specs.Encoded.{encode_checks}
use Rattle.requests.specs.Lent.{rendered_over}

-- an empty sink over the whole memory has the checks of that memory
pub same_checks : (p : Problem) (rule : Rule) (t : ℕ) (held : List Clause) (widest capacity given : ℕ) (cost : Clause → ℕ) → held ≡ [] → capacity ≡ given → first_refusal (encode_checks p rule t held widest (capacity - total cost held) cost) ≡ first_refusal (encode_checks p rule t [] widest given cost)
same_checks p rule t held widest capacity given cost e f =
    let left : capacity - total cost [] ≡ given = omega (arith, f) in
    ap (λ (cs : List Clause). first_refusal (encode_checks p rule t cs widest (capacity - total cost cs) cost)) e
    ∙ ap (λ n. first_refusal (encode_checks p rule t [] widest n cost)) left

-- nothing taken off a list of the same length is that list
drop_whole : {X : Type 0} (n : ℕ) (xs ys : List X) → length xs ≡ length ys → drop n xs ≡ ys → xs ≡ ys
drop_whole zero xs ys l e = e
drop_whole (suc n) [] ys l e = e
drop_whole (suc n) (x ∷ xs) ys l e = absurd (omega (arith, ap length e, length-drop n xs))

-- what is in use, then what is left of the memory
pub after_grant : {X : Type 0} (text before after : List X) (used cost : ℕ) → used ≤ length after → take used after ≡ text → drop used after ≡ drop cost before → length after ≡ length before → rendered_over text before used after
after_grant text before after used cost within is rest long =
    let n : used ≡ length text = sym (length-take-le used after within) ∙ ap length is in
    let short : length before - used ≡ length before - cost = omega (arith, ap length rest, length-drop used after, length-drop cost before) in
    let same : drop cost before ≡ drop used before =
    ⊎_elim
    (λ (l : cost < length before + 1). let e : cost ≡ used = omega arith in ap (λ k. drop k before) e)
    (λ (l : length before + 1 ≤ cost). drop_all cost before (omega arith) ∙ sym (drop_all used before (omega arith)))
    (cases_lt cost (length before + 1)) in
    (n, sym (take-append-drop used after) ∙ ap (λ xs. xs ++ drop used after) is ∙ ap (λ xs. text ++ xs) (rest ∙ same))

pub after_refusal : {X : Type 0} (before after : List X) (used : ℕ) → drop used after ≡ before → length after ≡ length before → after ≡ before
after_refusal before after used e l = drop_whole used after before l e

-- bytes as numbers are the bytes
pub from_numbers : (xs ys : List ℕ) → map pos xs ≡ map pos ys → xs ≡ ys
from_numbers xs ys e = sym (back xs) ∙ ap (map nat_abs) e ∙ back ys
  where
    back : (zs : List ℕ) → map nat_abs (map pos zs) ≡ zs
    back [] = refl
    back (z ∷ zs) = ap (λ ws. z ∷ ws) (back zs)
