-- What is scanned of a text that was written.
use Rattle.std.proofs.Common.{◌≡◌, ℕ, zero, suc, ◌+◌, ◌-◌, ◌*◌, ◌%◌, ◌<◌, ◌≤◌, Bool, true, false, cond, eqb, ltb, List, [], ◌∷◌, ◌++◌, length, ℤ, pos, negsuc, nat_abs, decimal, sym, refl, ap, ◌∙◌, subst, mod-eq_of_lt, arith, rules}
use Rattle.std.specs.Char.{is_ascii_digit}
use Rattle.std.specs.Fmt.{signed_decimal}
use Rattle.std.specs.Str.{all_ascii_digits}
use Rattle.std.proofs.lemmas.Fmt.{digits_decimal, digits_value-decimal}
use Rattle.std.proofs.lemmas.List.{append_assoc}
use Rattle.std.proofs.lemmas.Str.Parse.{IsNumeralModel, numerals_by_fold}
use Rattle.std.proofs.lemmas.Bool.{and_parts, or_parts, leb-true, le-ltb, ne_eqb, cond-false, cond_both}
use Rattle.rules.specs.Lists.{any, each}
use Rattle.rules.specs.Clauses.{Clause, bad_literal, bad_clause}
use Rattle.clauses.specs.Rows.{parse, flat, ends, is_zero}
use Rattle.clauses.proofs.Rows.{parse_flat, ends_app}
use Rattle.text.specs.Bounds.{size_of}
use Rattle.text.specs.Lines.{literal_text, line_text, lines_text}
use Rattle.text.specs.Scan.{longer, signed_by, scan, numbers}
use Rattle.text.specs.Words.{Shut}

abbrev read_on : ℕ → List ℕ → ℕ
read_on n [] = n
read_on n (b ∷ bs) = read_on (10 * n + (b - 48)) bs

own : IsNumeralModel (λ ds. all_ascii_digits ds ≡ true) (read_on 0)
own = numerals_by_fold _ (search rules) read_on (search rules)

grows : (a : ℕ) (ds : List ℕ) → a ≤ read_on a ds
grows a [] = omega arith
grows a (d ∷ ds) = omega (arith, grows (10 * a + (d - 48)) ds)

scan_digits : (m : Bool) (a : ℕ) (ds ys : List ℕ) → all_ascii_digits ds ≡ true → read_on a ds < 1048576 → scan m a (ds ++ ys) ≡ scan m (read_on a ds) ys
scan_digits m a [] ys h l = refl
scan_digits m a (d ∷ ds) ys h l =
    let p = and_parts (is_ascii_digit d) (all_ascii_digits ds) h in
    let q = and_parts _ _ p.0 in
    let low : 48 ≤ d = leb-true 48 d q.0 in
    let high : d ≤ 57 = leb-true d 57 q.1 in
    let up = grows (10 * a + (d - 48)) ds in
    let digit : d % 16 ≡ d - 48 = omega arith in
    let small : 10 * a + (d - 48) < 1048576 = omega arith in
    let e : longer a d ≡ 10 * a + (d - 48) = ap (λ x. (10 * a + x) % 1048576) digit ∙ mod-eq_of_lt small in
    let wide : 33 ≤ d = omega arith in
    cond-false (ltb d 33) _ _ (le-ltb d 33 wide)
    ∙ cond-false (eqb d 45) _ _ (ne_eqb d 45 (λ z. omega arith))
    ∙ ap (λ n. scan m n (ds ++ ys)) e
    ∙ scan_digits m (10 * a + (d - 48)) ds ys p.1 l

scan_decimal : (m : Bool) (n : ℕ) (ys : List ℕ) → n ≤ 999999 → scan m 0 (decimal n ++ ys) ≡ scan m n ys
scan_decimal m n ys h =
    let v = digits_value-decimal own n (omega arith) in
    let l : read_on 0 (decimal n) < 1048576 = omega arith in
    scan_digits m 0 (decimal n) ys (digits_decimal own n (omega arith)) l ∙ ap (λ k. scan m k ys) v

literal_before : (l : ℤ) (ys : List ℕ) → literal_text l ++ ys ≡ signed_decimal l ++ (32 ∷ ys)
literal_before l ys = append_assoc (signed_decimal l) (32 ∷ []) ys

scan_literal : (l : ℤ) (ys : List ℕ) → nat_abs l ≤ 999999 → numbers (signed_decimal l ++ (32 ∷ ys)) ≡ l ∷ numbers ys
scan_literal (pos n) ys h = scan_decimal false n (32 ∷ ys) h
scan_literal (negsuc n) ys h = scan_decimal true (suc n) (32 ∷ ys) h

line_cons : (l : ℤ) (c : Clause) (ys : List ℕ) → line_text (l ∷ c) ++ ys ≡ signed_decimal l ++ (32 ∷ (line_text c ++ ys))
line_cons l c ys =
    ap (λ bs. bs ++ ys) (append_assoc (literal_text l) (each literal_text c) (48 ∷ 10 ∷ []))
    ∙ append_assoc (literal_text l) (line_text c) ys
    ∙ literal_before l (line_text c ++ ys)

numbers_line : (c : Clause) (ys : List ℕ) → any (bad_literal 999999) c ≡ false → numbers (line_text c ++ ys) ≡ c ++ (pos 0 ∷ numbers ys)
numbers_line [] ys h = refl
numbers_line (l ∷ c) ys h =
    let p = or_parts (bad_literal 999999 l) (any (bad_literal 999999) c) h in
    ap numbers (line_cons l c ys) ∙ scan_literal l (line_text c ++ ys) (size_of l p.0) ∙ ap (λ ws. l ∷ ws) (numbers_line c ys p.1)

good_literals : (c : Clause) (cs : List Clause) → any (bad_clause 999999) (c ∷ cs) ≡ false → any (bad_literal 999999) c ≡ false
good_literals c cs h = (or_parts (ltb 130 (length c)) (any (bad_literal 999999) c) (or_parts (bad_clause 999999 c) (any (bad_clause 999999) cs) h).0).1

good_others : (c : Clause) (cs : List Clause) → any (bad_clause 999999) (c ∷ cs) ≡ false → any (bad_clause 999999) cs ≡ false
good_others c cs h = (or_parts (bad_clause 999999 c) (any (bad_clause 999999) cs) h).1

-- the numbers of the lines are the words of the clauses
pub numbers_lines : (cs : List Clause) → any (bad_clause 999999) cs ≡ false → numbers (lines_text cs) ≡ flat cs
numbers_lines [] h = refl
numbers_lines (c ∷ cs) h = numbers_line c (lines_text cs) (good_literals c cs h) ∙ ap (λ ws. c ++ (pos 0 ∷ ws)) (numbers_lines cs (good_others c cs h))

-- what is written is read back
pub back : (cs : List Clause) → any (bad_clause 999999) cs ≡ false → parse (numbers (lines_text cs)) ≡ cs
back cs h = ap parse (numbers_lines cs h) ∙ parse_flat 999999 cs h

-- what is scanned before a text that ends in the 0 of a clause
ends_scan : (b m : Bool) (a : ℕ) (xs ys : List ℕ) → ((d : Bool) → ends d (numbers ys) ≡ true) → ends b (scan m a (xs ++ (32 ∷ ys))) ≡ true
ends_scan b m a [] ys q = q (is_zero (signed_by m a))
ends_scan b m a (x ∷ xs) ys q =
    cond_both (ltb x 33) (signed_by m a ∷ scan false 0 (xs ++ (32 ∷ ys))) (cond (eqb x 45) (scan true a (xs ++ (32 ∷ ys))) (scan m (longer a x) (xs ++ (32 ∷ ys)))) (λ ws. ends b ws ≡ true)
    (λ e. ends_scan (is_zero (signed_by m a)) false 0 xs ys q)
    (λ e. cond_both (eqb x 45) (scan true a (xs ++ (32 ∷ ys))) (scan m (longer a x) (xs ++ (32 ∷ ys))) (λ ws. ends b ws ≡ true) (λ f. ends_scan b true a xs ys q) (λ f. ends_scan b m (longer a x) xs ys q))

shut_word : (xs ys : List ℕ) → ((d : Bool) → ends d (numbers ys) ≡ true) → Shut ys → Shut (xs ++ (32 ∷ ys))
shut_word [] ys q s zero = q _
shut_word [] ys q s (suc p) = s p
shut_word (x ∷ xs) ys q s zero = ends_scan true false 0 (x ∷ xs) ys q
shut_word (x ∷ xs) ys q s (suc p) = shut_word xs ys q s p

shut_line : (c : Clause) (ys : List ℕ) → any (bad_literal 999999) c ≡ false → Shut ys → Shut (line_text c ++ ys)
shut_line [] ys h s zero = s 0
shut_line [] ys h s (suc zero) = s 0
shut_line [] ys h s (suc (suc p)) = s p
shut_line (l ∷ c) ys h s k =
    let p = or_parts (bad_literal 999999 l) (any (bad_literal 999999) c) h in
    let whole = shut_word (signed_decimal l) (line_text c ++ ys) (λ d. ap (ends d) (numbers_line c ys p.1) ∙ ends_app d c (pos 0 ∷ numbers ys) ∙ s 0) (shut_line c ys p.1 s) in
    subst Shut (sym (line_cons l c ys)) whole k

pub shut_lines : (cs : List Clause) → any (bad_clause 999999) cs ≡ false → Shut (lines_text cs)
shut_lines [] h zero = refl
shut_lines [] h (suc p) = refl
shut_lines (c ∷ cs) h p = shut_line c (lines_text cs) (good_literals c cs h) (shut_lines cs (good_others c cs h)) p
