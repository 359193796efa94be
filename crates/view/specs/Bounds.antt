-- What holds of clauses over at most 999,999 variables.
use Rattle.std.specs.Prelude.{◌≡◌, ℕ, ◌≤◌, false, List, [], ◌∷◌, length, ◌==◌, nat_lt, unsigned_abs, refl}
use Rattle.std.proofs.Common.{arith, lit≤}
use Rattle.std.proofs.lemmas.Bool.{or_parts, or_from, ltb-false, le-ltb}
use Rattle.rules.specs.Lists.{any}
use Rattle.rules.specs.Clauses.{Clause, bad_literal, bad_clause}
use Rattle.clauses.specs.Asked.{Bounded}
use Rattle.clauses.specs.Granted.{bounded_by}

literals_within : (v : ℕ) (c : Clause) → v ≤ 999999 → any (bad_literal v) c ≡ false → any (bad_literal 999999) c ≡ false
literals_within v [] n h = refl
literals_within v (l ∷ c) n h =
    let p = or_parts (bad_literal v l) (any (bad_literal v) c) h in
    let q = or_parts (unsigned_abs l == 0) (nat_lt v (unsigned_abs l)) p.0 in
    let m : unsigned_abs l ≤ v = ltb-false v (unsigned_abs l) q.1 in
    let k : unsigned_abs l ≤ 999999 = omega arith in
    or_from (bad_literal 999999 l) (any (bad_literal 999999) c) (or_from (unsigned_abs l == 0) (nat_lt 999999 (unsigned_abs l)) q.0 (le-ltb 999999 (unsigned_abs l) k)) (literals_within v c n p.1)

-- what is not bad over v variables is not bad over more
pub none_bad_within : (v : ℕ) (cs : List Clause) → v ≤ 999999 → any (bad_clause v) cs ≡ false → any (bad_clause 999999) cs ≡ false
none_bad_within v [] n h = refl
none_bad_within v (c ∷ cs) n h =
    let p = or_parts (bad_clause v c) (any (bad_clause v) cs) h in
    let q = or_parts (nat_lt 130 (length c)) (any (bad_literal v) c) p.0 in
    or_from (bad_clause 999999 c) (any (bad_clause 999999) cs) (or_from (nat_lt 130 (length c)) (any (bad_literal 999999) c) q.0 (literals_within v c n q.1)) (none_bad_within v cs n p.1)

pub bounded_within : (v : ℕ) (cs : List Clause) → v ≤ 999999 → any (bad_clause v) cs ≡ false → Bounded 999999 cs
bounded_within v cs n h = bounded_by 999999 cs (lit≤ tt) (none_bad_within v cs n h)
