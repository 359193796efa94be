-- Words complete clauses exactly where they are the clauses' numbers, written.
use Rattle.std.proofs.Common.{◌≡◌, ℕ, zero, suc, ◌+◌, ◌^◌, ◌<◌, ◌≤◌, Bool, true, false, ◌&&◌, eqb, ltb, List, [], ◌∷◌, ◌++◌, map, length, ℤ, pos, negsuc, nat_abs, Some, None, Option, refl, ap, ◌∙◌, arith}
use Rattle.std.specs.Fmt.{signed_decimal}
use Rattle.std.proofs.lemmas.Fmt.{decimal_digit}
use Rattle.std.proofs.lemmas.Bool.{or_parts, or_from, and_parts, eqb-true, eq-eqb, ne_eqb, eqb-false, ltb-true, lt-ltb, ltb-false, le-ltb, false≢true}
use Rattle.rules.specs.Lists.{any}
use Rattle.rules.specs.Clauses.{Clause, bad_literal, bad_clause}
use Rattle.clauses.specs.Rows.{flat, parse}
use Rattle.clauses.proofs.Rows.{parse_flat}
use Rattle.lines.specs.Numbers.{number_of}
use Rattle.lines.proofs.Numerals.{only, back}
use Rattle.view.specs.Body.{or_zero, value_of, by_number, completes, is_nought, shuts}
use Rattle.view.specs.Bounds.{none_bad_within}

-- what words say that complete the clauses cs
pub record Said (v count : ℕ) (ws : List (List ℕ)) (cs : List Clause) : Type 0 where
  pub written : ws ≡ map signed_decimal (flat cs)
  pub counted : length cs ≡ count
  pub none_bad : any (bad_clause v) cs ≡ false

-- the same, where `closed` clauses are done and the next is `long` already
abbrev First : ℕ → List Clause → Type 0
First long [] = long ≡ 0
First long (c ∷ cs) = long + length c ≤ 130

record Goes (v count closed long : ℕ) (ws : List (List ℕ)) (cs : List Clause) : Type 0 where
  written : ws ≡ map signed_decimal (flat cs)
  counted : closed + length cs ≡ count
  first : First long cs
  none_bad : any (bad_clause v) cs ≡ false

goes_close : (v count closed long : ℕ) (w : List ℕ) (ws : List (List ℕ)) (cs : List Clause) → long ≤ 130 → w ≡ signed_decimal (pos 0) → Goes v count (closed + 1) 0 ws cs → Goes v count closed long (w ∷ ws) ([] ∷ cs)
goes_close v count closed long w ws cs l e g = record {
  written = ap (λ x. x ∷ ws) e ∙ ap (λ xs. signed_decimal (pos 0) ∷ xs) g.written;
  counted = omega (arith, g.counted);
  first = omega arith;
  none_bad = g.none_bad;
}

goes_literal : (v count closed long : ℕ) (w : List ℕ) (ws : List (List ℕ)) (z : ℤ) (cs : List Clause) → long < 130 → w ≡ signed_decimal z → 0 < nat_abs z → nat_abs z ≤ v → Goes v count closed (long + 1) ws cs → (ds : List Clause) × Goes v count closed long (w ∷ ws) ds
goes_literal v count closed long w ws z [] l e some small g = let q = g.first in absurd (omega arith)
goes_literal v count closed long w ws z (c ∷ cs) l e some small g =
    let p = or_parts (bad_clause v c) (any (bad_clause v) cs) g.none_bad in
    let q = or_parts (ltb 130 (length c)) (any (bad_literal v) c) p.0 in
    let room = g.first in
    let short : suc (length c) ≤ 130 = omega arith in (
      (z ∷ c) ∷ cs,
      record {
        written = ap (λ x. x ∷ ws) e ∙ ap (λ xs. signed_decimal z ∷ xs) g.written;
        counted = g.counted;
        first = omega arith;
        none_bad =
            or_from (bad_clause v (z ∷ c)) (any (bad_clause v) cs)
            (or_from (ltb 130 (suc (length c))) (any (bad_literal v) (z ∷ c)) (le-ltb 130 (suc (length c)) short)
            (or_from (bad_literal v z) (any (bad_literal v) c) (or_from (eqb (nat_abs z) 0) (ltb v (nat_abs z)) (ne_eqb (nat_abs z) 0 (λ y. omega arith)) (le-ltb v (nat_abs z) small)) q.1))
            p.1;
      },
    )

-- what is known of the words after the first
abbrev Closes : ℕ → ℕ → ℕ → List (List ℕ) → Type 0
Closes v count closed ws = completes v count (closed + 1) 0 ws ≡ true → (cs : List Clause) × Goes v count (closed + 1) 0 ws cs

abbrev Follows : ℕ → ℕ → ℕ → ℕ → List (List ℕ) → Type 0
Follows v count closed long ws = long + 1 ≤ 130 → completes v count closed (long + 1) ws ≡ true → (cs : List Clause) × Goes v count closed (long + 1) ws cs

goes : (v count closed long : ℕ) (ws : List (List ℕ)) → v < 2 ^ 64 → long ≤ 130 → completes v count closed long ws ≡ true → (cs : List Clause) × Goes v count closed long ws cs
goes v count closed long [] m l h =
    let p = and_parts (eqb long 0) (eqb closed count) h in
    ([], record { written = refl; counted = let e = eqb-true closed count p.1 in omega arith; first = eqb-true long 0 p.0; none_bad = refl })
goes v count closed long (w ∷ ws) m l h = at (number_of v w) refl h (goes v count (closed + 1) 0 ws m (omega arith)) (λ r. goes v count closed (long + 1) ws m r)
  where
    literal : (z : ℤ) → 0 < nat_abs z → number_of v w ≡ Some z → (ltb long 130 && completes v count closed (long + 1) ws) ≡ true → Follows v count closed long ws → (cs : List Clause) × Goes v count closed long (w ∷ ws) cs
    literal z some e k follows =
        let p = and_parts (ltb long 130) (completes v count closed (long + 1) ws) k in
        let room : long < 130 = ltb-true long 130 p.0 in
        let o = only v w z m e in
        let g = follows (omega arith) p.1 in
        goes_literal v count closed long w ws z g.0 room o.0 some o.1 g.1

    at : (o : Option ℤ) → number_of v w ≡ o → by_number o (completes v count (closed + 1) 0 ws) (ltb long 130 && completes v count closed (long + 1) ws) ≡ true → Closes v count closed ws → Follows v count closed long ws → (cs : List Clause) × Goes v count closed long (w ∷ ws) cs
    at None e k closes follows = absurd (false≢true k)
    at (Some (pos zero)) e k closes follows =
        let g = closes k in
        ([] ∷ g.0, goes_close v count closed long w ws g.0 l (only v w (pos 0) m e).0 g.1)
    at (Some (pos (suc n))) e k closes follows = literal (pos (suc n)) (omega arith) e k follows
    at (Some (negsuc n)) e k closes follows = literal (negsuc n) (omega arith) e k follows

-- words that complete clauses are their numbers
pub said : (v count : ℕ) (ws : List (List ℕ)) → v ≤ 999999 → completes v count 0 0 ws ≡ true → (cs : List Clause) × Said v count ws cs
said v count ws m h =
    let g = goes v count 0 0 ws (omega arith) (omega arith) h in
    (g.0, record { written = g.1.written; counted = omega (arith, g.1.counted); none_bad = g.1.none_bad })

-- and back

good : (v : ℕ) (l : ℤ) (c : Clause) → any (bad_literal v) (l ∷ c) ≡ false → (0 < nat_abs l) × (nat_abs l ≤ v) × (any (bad_literal v) c ≡ false)
good v l c h =
    let p = or_parts (bad_literal v l) (any (bad_literal v) c) h in
    let q = or_parts (eqb (nat_abs l) 0) (ltb v (nat_abs l)) p.0 in
    let ne : nat_abs l ≡ 0 → ⊥ = eqb-false (nat_abs l) 0 q.0 in
    (positive (nat_abs l) ne, ltb-false v (nat_abs l) q.1, p.1)
  where
    positive : (n : ℕ) → (n ≡ 0 → ⊥) → 0 < n
    positive n ne = omega arith

pub goods : (v : ℕ) (c : Clause) (cs : List Clause) → any (bad_clause v) (c ∷ cs) ≡ false → (length c ≤ 130) × (any (bad_literal v) c ≡ false) × (any (bad_clause v) cs ≡ false)
goods v c cs h =
    let p = or_parts (bad_clause v c) (any (bad_clause v) cs) h in
    let q = or_parts (ltb 130 (length c)) (any (bad_literal v) c) p.0 in
    (ltb-false 130 (length c) q.0, q.1, p.1)

by_literal : (l : ℤ) (closes go : Bool) → 0 < nat_abs l → by_number (Some l) closes go ≡ go
by_literal (pos zero) closes go h = absurd (omega arith)
by_literal (pos (suc n)) closes go h = refl
by_literal (negsuc n) closes go h = refl

completes_clause : (v count closed long : ℕ) (c rest : List ℤ) → v < 2 ^ 64 → any (bad_literal v) c ≡ false → long + length c ≤ 130 → completes v count closed long (map signed_decimal (c ++ (pos 0 ∷ rest))) ≡ completes v count (closed + 1) 0 (map signed_decimal rest)
completes_clause v count closed long [] rest m h l =
    ap (λ o. by_number o (completes v count (closed + 1) 0 (map signed_decimal rest)) (ltb long 130 && completes v count closed (long + 1) (map signed_decimal rest))) (back v (pos 0) m (omega arith))
completes_clause v count closed long (z ∷ c) rest m h l =
    let g = good v z c h in
    let more = map signed_decimal (c ++ (pos 0 ∷ rest)) in
    let room : long < 130 = omega arith in
    ap (λ o. by_number o (completes v count (closed + 1) 0 more) (ltb long 130 && completes v count closed (long + 1) more)) (back v z m g.1)
    ∙ by_literal z (completes v count (closed + 1) 0 more) (ltb long 130 && completes v count closed (long + 1) more) g.0
    ∙ ap (λ b. b && completes v count closed (long + 1) more) (lt-ltb long 130 room)
    ∙ completes_clause v count closed (long + 1) c rest m g.2 (omega arith)

completes_all : (v count closed : ℕ) (cs : List Clause) → v < 2 ^ 64 → any (bad_clause v) cs ≡ false → closed + length cs ≡ count → completes v count closed 0 (map signed_decimal (flat cs)) ≡ true
completes_all v count closed [] m h e = eq-eqb closed count (omega arith)
completes_all v count closed (c ∷ cs) m h e =
    let g = goods v c cs h in
    completes_clause v count closed 0 c (flat cs) m g.1 (omega (arith, g.0)) ∙ completes_all v count (closed + 1) cs m g.2 (omega arith)

pub said_completes : (v count : ℕ) (ws : List (List ℕ)) (cs : List Clause) → v ≤ 999999 → Said v count ws cs → completes v count 0 0 ws ≡ true
said_completes v count ws cs m s = ap (completes v count 0 0) s.written ∙ completes_all v count 0 cs (omega arith) s.none_bad (omega (arith, s.counted))

-- the values of the words

value_signed : (z : ℤ) → nat_abs z ≤ 999999 → value_of (signed_decimal z) ≡ z
value_signed z h = ap or_zero (back 999999 z (omega arith) h)

values_clause : (c rest : List ℤ) → any (bad_literal 999999) c ≡ false → map value_of (map signed_decimal (c ++ (pos 0 ∷ rest))) ≡ c ++ (pos 0 ∷ map value_of (map signed_decimal rest))
values_clause [] rest h = ap (λ z. z ∷ map value_of (map signed_decimal rest)) (value_signed (pos 0) (omega arith))
values_clause (z ∷ c) rest h =
    let g = good 999999 z c h in
    ap (λ y. y ∷ map value_of (map signed_decimal (c ++ (pos 0 ∷ rest)))) (value_signed z g.1) ∙ ap (λ ys. z ∷ ys) (values_clause c rest g.2)

values : (cs : List Clause) → any (bad_clause 999999) cs ≡ false → map value_of (map signed_decimal (flat cs)) ≡ flat cs
values [] h = refl
values (c ∷ cs) h = let g = goods 999999 c cs h in values_clause c (flat cs) g.1 ∙ ap (λ ns. c ++ (pos 0 ∷ ns)) (values cs g.2)

-- the clauses are those of the words
pub said_parse : (v count : ℕ) (ws : List (List ℕ)) (cs : List Clause) → v ≤ 999999 → Said v count ws cs → parse (map value_of ws) ≡ cs
said_parse v count ws cs m s =
    let none = none_bad_within v cs m s.none_bad in
    ap (λ xs. parse (map value_of xs)) s.written ∙ ap parse (values cs none) ∙ parse_flat 999999 cs none

nought : is_nought (signed_decimal (pos 0)) ≡ true
nought = ap is_nought (decimal_digit 0 (omega arith))

shuts_clause : (b : Bool) (c rest : List ℤ) → shuts b (map signed_decimal (c ++ (pos 0 ∷ rest))) ≡ shuts true (map signed_decimal rest)
shuts_clause b [] rest = ap (λ t. shuts t (map signed_decimal rest)) nought
shuts_clause b (z ∷ c) rest = shuts_clause (is_nought (signed_decimal z)) c rest

shuts_all : (cs : List Clause) → shuts true (map signed_decimal (flat cs)) ≡ true
shuts_all [] = refl
shuts_all (c ∷ cs) = shuts_clause true c (flat cs) ∙ shuts_all cs

pub said_shuts : (v count : ℕ) (ws : List (List ℕ)) (cs : List Clause) → Said v count ws cs → shuts true ws ≡ true
said_shuts v count ws cs s = ap (shuts true) s.written ∙ shuts_all cs
