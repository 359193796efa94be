-- A body walked word by word.
use Rattle.std.proofs.Common.{◌≡◌, ℕ, zero, suc, ◌+◌, ◌-◌, ◌<◌, ◌≤◌, Bool, true, false, cond, eqb, List, [], ◌∷◌, map, length, drop, ℤ, Some, None, Option, sym, refl, ap, ◌∙◌, arith}
use Rattle.std.proofs.lemmas.Bool.{and_parts, and_right, eqb-true, ne_eqb, not-true, false≢true, cond-true}
use Rattle.std.proofs.lemmas.List.{length-drop, drop-drop}
use Rattle.clauses.specs.Walk.{Word, Reads}
use Rattle.clauses.specs.Rows.{parse, ends, is_zero}
use Rattle.clauses.proofs.Rows.{word_read}
use Rattle.view.specs.Body.{value_of, numbers, clauses_of, is_nought, shuts}
use Rattle.view.specs.Reads.{Shut}
use Rattle.view.specs.Words.{gap, in_word, on_first, words_of, NextWord}
use Rattle.view.proofs.Spaces.{words_on, words_one}

-- one byte on, the last word stays `0`

shuts_more : (a : Bool) (ws : List (List ℕ)) → shuts a ws ≡ true → shuts true ws ≡ true
shuts_more a [] h = refl
shuts_more a (w ∷ ws) h = h

shuts_any : (a : Bool) (ws : List (List ℕ)) → shuts false ws ≡ true → shuts a ws ≡ true
shuts_any a [] h = absurd (false≢true h)
shuts_any a (w ∷ ws) h = h

on_some : (c : ℕ) (ws : List (List ℕ)) → (w : List ℕ) × (vs : List (List ℕ)) × (on_first c ws ≡ (c ∷ w) ∷ vs)
on_some c [] = ([], [], refl)
on_some c (w ∷ ws) = (w, ws, refl)

-- a word that stands first begins with the first byte
first_word : (c : ℕ) (cs : List ℕ) (i : Bool) → in_word cs ≡ i → gap c ≡ false → (w : List ℕ) × (vs : List (List ℕ)) × (words_of (c ∷ cs) ≡ (c ∷ w) ∷ vs)
first_word c cs true e g = let o = on_some c (words_of cs) in (o.0, o.1, words_on c cs g e ∙ o.2)
first_word c cs false e g = ([], words_of cs, words_one c cs g e)

shuts_inner : (b : ℕ) (bs : List ℕ) → in_word bs ≡ true → shuts true (on_first b (words_of bs)) ≡ true → shuts true (words_of bs) ≡ true
shuts_inner b [] i h = absurd (false≢true i)
shuts_inner b (c ∷ cs) i h =
    let f = first_word c cs (in_word cs) refl (not-true (gap c) i) in
    let w = f.0 in
    let vs = f.1 in
    let long : shuts (is_nought (b ∷ c ∷ w)) vs ≡ true = ap (λ ws. shuts true (on_first b ws)) (sym f.2) ∙ h in
    let two : is_nought (b ∷ c ∷ w) ≡ false = and_right (eqb b 48) (eqb (length (c ∷ w)) 0) (ne_eqb (length (c ∷ w)) 0 (λ e. omega arith)) in
    ap (shuts true) f.2 ∙ shuts_any (is_nought (c ∷ w)) vs (ap (λ t. shuts t vs) (sym two) ∙ long)

shuts_step : (b : ℕ) (bs : List ℕ) (g i : Bool) → gap b ≡ g → in_word bs ≡ i → shuts true (words_of (b ∷ bs)) ≡ true → shuts true (words_of bs) ≡ true
shuts_step b bs true i e f h = ap (shuts true) (sym (cond-true (gap b) (words_of bs) (cond (in_word bs) (on_first b (words_of bs)) ((b ∷ []) ∷ words_of bs)) e)) ∙ h
shuts_step b bs false true e f h = shuts_inner b bs f (ap (shuts true) (sym (words_on b bs e f)) ∙ h)
shuts_step b bs false false e f h = shuts_more (is_nought (b ∷ [])) (words_of bs) (ap (shuts true) (sym (words_one b bs e f)) ∙ h)

shuts_drop : (t : List ℕ) (p : ℕ) → shuts true (words_of t) ≡ true → shuts true (words_of (drop p t)) ≡ true
shuts_drop t zero h = h
shuts_drop [] (suc p) h = h
shuts_drop (b ∷ bs) (suc p) h = shuts_drop bs p (shuts_step b bs (gap b) (in_word bs) refl refl h)

-- and so the last number is 0

ends_more : (a c : Bool) (ns : List ℤ) → (a ≡ true → c ≡ true) → ends a ns ≡ true → ends c ns ≡ true
ends_more a c [] f h = f h
ends_more a c (n ∷ ns) f h = h

none_left : (bs : List ℕ) → length bs ≡ 0 → bs ≡ []
none_left [] e = refl
none_left (b ∷ bs) e = absurd (omega arith)

nought_zero : (w : List ℕ) → is_nought w ≡ true → is_zero (value_of w) ≡ true
nought_zero [] h = absurd (false≢true h)
nought_zero (b ∷ bs) h =
    let p = and_parts (eqb b 48) (eqb (length bs) 0) h in
    ap (λ c. is_zero (value_of (c ∷ bs))) (eqb-true b 48 p.0) ∙ ap (λ cs. is_zero (value_of (48 ∷ cs))) (none_left bs (eqb-true (length bs) 0 p.1))

ends_shut : (a : Bool) (ws : List (List ℕ)) → shuts a ws ≡ true → ends a (map value_of ws) ≡ true
ends_shut a [] h = h
ends_shut a (w ∷ ws) h = ends_more (is_nought w) (is_zero (value_of w)) (map value_of ws) (nought_zero w) (ends_shut (is_nought w) ws h)

pub shut : (t : List ℕ) → shuts true (words_of t) ≡ true → Shut t
shut t h p = ends_shut true (words_of (drop p t)) (shuts_drop t p h)

-- the next number from a place on, and the place after it
abbrev pub Next : List ℕ → ℕ → Option (ℤ × ℕ) → Type 0
Next text place None = numbers (drop place text) ≡ []
Next text place (Some p) = (numbers (drop place text) ≡ p.0 ∷ numbers (drop p.1 text)) × (place < p.1) × (p.1 ≤ length text)

-- the next word, as a walk reads it
pub reads : (text : List ℕ) (place : ℕ) (r : Option (ℤ × ℕ)) → Shut text → Next text place r → Reads (clauses_of (drop place text)) (λ p. clauses_of (drop p text)) r
reads text place None s n = ap parse n
reads text place (Some p) s n = word_read (numbers (drop place text)) p.0 (numbers (drop p.1 text)) (s place) n.0

-- the first word of the text from a place on, by what stands after it
pub reads_first : (text : List ℕ) (place : ℕ) (word rest : List ℕ) → NextWord (drop place text) word rest → shuts true (words_of text) ≡ true → Word (value_of word) (clauses_of (drop place text)) (clauses_of (drop (length text - length rest) text))
reads_first text place word rest next h =
    let long = length-drop place text in
    let n : place + (length (drop place text) - length rest) ≡ length text - length rest = omega (arith, next.shorter, long) in
    let is : rest ≡ drop (length text - length rest) text = next.stands ∙ drop-drop (length (drop place text) - length rest) place text ∙ ap (λ k. drop k text) n in
    let word_is : numbers (drop place text) ≡ value_of word ∷ numbers (drop (length text - length rest) text) = ap (map value_of) next.cuts ∙ ap (λ r. value_of word ∷ numbers r) is in
    reads text place (Some (value_of word, length text - length rest)) (shut text h) (word_is, omega (arith, next.shorter, long), omega arith)
