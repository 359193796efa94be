-- How long a line is.
use Rattle.std.specs.Prelude.{◌≡◌, suc, ◌+◌, ◌*◌, ◌≤◌, false, [], ◌∷◌, length, ℤ, pos, negsuc, ◌==◌, nat_lt, unsigned_abs}
use Rattle.std.proofs.Common.{arith}
use Rattle.std.specs.Fmt.{signed_decimal}
use Rattle.std.proofs.lemmas.Fmt.{length-decimal-le}
use Rattle.std.proofs.lemmas.List.{length-append}
use Rattle.std.proofs.lemmas.Bool.{cond_both, or_parts, ltb-false}
use Rattle.rules.specs.Lists.{any, each}
use Rattle.rules.specs.Clauses.{Clause, bad_literal, bad_clause}
use Rattle.text.specs.Lines.{literal_text, line_text, text_cost}

length_signed : (l : ℤ) → unsigned_abs l ≤ 999999 → length (signed_decimal l) ≤ 7
length_signed (pos n) h = omega (arith, length-decimal-le 6 n (omega arith) (omega arith) (omega arith))
length_signed (negsuc n) h = omega (arith, length-decimal-le 6 (suc n) (omega arith) (omega arith) (omega arith))

pub size_of : (l : ℤ) → bad_literal 999999 l ≡ false → unsigned_abs l ≤ 999999
size_of l h = ltb-false 999999 (unsigned_abs l) (or_parts (unsigned_abs l == 0) (nat_lt 999999 (unsigned_abs l)) h).1

-- seven bytes and a space
pub literal_short : (l : ℤ) → bad_literal 999999 l ≡ false → length (literal_text l) ≤ 8
literal_short l h = omega (arith, length-append (signed_decimal l) (32 ∷ []), length_signed l (size_of l h))

pub literals_short : (c : Clause) → any (bad_literal 999999) c ≡ false → length (each literal_text c) ≤ 8 * length c
literals_short [] h = omega arith
literals_short (l ∷ c) h =
    let p = or_parts (bad_literal 999999 l) (any (bad_literal 999999) c) h in
    omega (arith, length-append (literal_text l) (each literal_text c), literal_short l p.0, literals_short c p.1)

pub line_short : (c : Clause) → bad_clause 999999 c ≡ false → length (line_text c) ≤ 8 * length c + 2
line_short c h = omega (arith, length-append (each literal_text c) (48 ∷ 10 ∷ []), literals_short c (or_parts (nat_lt 130 (length c)) (any (bad_literal 999999) c) h).1)

pub text_cheap : (c : Clause) → text_cost c ≤ 8 * length c + 2
text_cheap c = cond_both (bad_clause 999999 c) 0 (length (line_text c)) (λ n. n ≤ 8 * length c + 2) (λ e. omega arith) (line_short c)
