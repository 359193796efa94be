-- What holds of clauses of which none is bad.
use Rattle.std.specs.Prelude.{◌≡◌, ℕ, ◌≤◌, true, false, not, List, [], ◌∷◌, length, nat_lt, refl}
use Rattle.std.proofs.lemmas.Bool.{or_parts, and_from, not_from_false}
use Rattle.rules.specs.Clauses.{Clause, bad_literal, bad_clause}
use Rattle.rules.specs.Lists.{any}
use Rattle.clauses.specs.Asked.{Bounded, sized}

pub sized_by : (w : ℕ) (cs : List Clause) → any (bad_clause w) cs ≡ false → sized w cs ≡ true
sized_by w [] h = refl
sized_by w (c ∷ cs) h =
    let p = or_parts (bad_clause w c) (any (bad_clause w) cs) h in
    let q = or_parts (nat_lt 130 (length c)) (any (bad_literal w) c) p.0 in
    and_from (not (any (bad_literal w) c)) (sized w cs) (not_from_false (any (bad_literal w) c) q.1) (sized_by w cs p.1)

pub bounded_by : (w : ℕ) (cs : List Clause) → w ≤ 999999 → any (bad_clause w) cs ≡ false → Bounded w cs
bounded_by w cs l h = record { narrow = l; literals_in = sized_by w cs h }
