-- Which clauses a sink grants, and what then holds of those that it has.
use Rattle.std.proofs.Common.{◌≡◌, ℕ, zero, suc, ◌<◌, ◌≤◌, Bool, true, false, ◌||◌, ltb, List, [], ◌∷◌, ◌++◌, length, get_or, pos, Ok, Err, sym, refl, ap, ◌∙◌, arith}
use Rattle.std.specs.List.{list_any}
use Rattle.std.proofs.lemmas.Bool.{or_parts, or_from, le-ltb, lt-ltb, cond-true, cond-false}
use Rattle.rules.specs.declared.refusal.Refusal.TheVariants.{BadClause, NoSpace}
use Rattle.rules.specs.Lists.{any}
use Rattle.rules.specs.Clauses.{Clause, bad_literal, bad_clause}
use Rattle.clauses.specs.Judged.{judged}

pub judged_bad : (w room p : ℕ) (c : Clause) → bad_clause w c ≡ true → judged w room p c ≡ Err BadClause
judged_bad w room p c e = cond-true (bad_clause w c) _ _ e

pub judged_full : (w room p : ℕ) (c : Clause) → bad_clause w c ≡ false → room < p → judged w room p c ≡ Err NoSpace
judged_full w room p c e l = cond-false (bad_clause w c) _ _ e ∙ cond-true (ltb room p) _ _ (lt-ltb room p l)

pub judged_ok : (w room p : ℕ) (c : Clause) → bad_clause w c ≡ false → p ≤ room → judged w room p c ≡ Ok tt
judged_ok w room p c e l = cond-false (bad_clause w c) _ _ e ∙ cond-false (ltb room p) _ _ (le-ltb room p l)

-- one more clause that is not bad
pub none_bad_push : (w : ℕ) (cs : List Clause) (c : Clause) → any (bad_clause w) cs ≡ false → bad_clause w c ≡ false → any (bad_clause w) (cs ++ (c ∷ [])) ≡ false
none_bad_push w [] c h e = or_from (bad_clause w c) false e refl
none_bad_push w (d ∷ cs) c h e =
    let p = or_parts (bad_clause w d) (any (bad_clause w) cs) h in
    or_from (bad_clause w d) (any (bad_clause w) (cs ++ (c ∷ []))) p.0 (none_bad_push w cs c p.1 e)

any_is : {X : Type 0} (p : X → Bool) (xs : List X) → list_any p xs ≡ any p xs
any_is p [] = refl
any_is p (x ∷ xs) = ap (λ b. p x || b) (any_is p xs)

-- no longer than any clause, it is bad by its literals
pub bad_by_literals : (w : ℕ) (c : Clause) → length c ≤ 130 → list_any (bad_literal w) c ≡ bad_clause w c
bad_by_literals w c h = any_is (bad_literal w) c ∙ sym (ap (λ b. b || any (bad_literal w) c) (le-ltb 130 (length c) h))

-- a literal of a clause that has no bad one
pub good_at : (w : ℕ) (c : Clause) (i : ℕ) → any (bad_literal w) c ≡ false → i < length c → bad_literal w (get_or c i (pos 0)) ≡ false
good_at w [] i h l = absurd (omega arith)
good_at w (x ∷ c) zero h l = (or_parts (bad_literal w x) (any (bad_literal w) c) h).0
good_at w (x ∷ c) (suc i) h l = good_at w c i (or_parts (bad_literal w x) (any (bad_literal w) c) h).1 (omega arith)
