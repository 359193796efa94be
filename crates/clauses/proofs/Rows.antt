-- What `parse` gives of rows that are joined or walked.
use Rattle.std.proofs.Common.{◌≡◌, ℕ, zero, suc, ◌+◌, ◌-◌, ◌<◌, ◌≤◌, Bool, true, false, ltb, List, [], ◌∷◌, ◌++◌, length, get_or, take, drop, set, ℤ, pos, negsuc, Some, sym, refl, ap, ◌∙◌, subst, arith}
use Rattle.std.proofs.lemmas.Bool.{false≢true, true≢false, or_parts, cond-false}
use Rattle.std.proofs.lemmas.List.{length-take-le, take_more_set, append_assoc, length-append, length-set, drop-set-lt, drop_more}
use Rattle.std.proofs.lemmas.Grind.{common_steps}
use Rattle.std.proofs.lemmas.Slice.{take-put_mid, drop-put_mid}
use borrow.Rule.Slice.PartMut.{put_mid}
use Rattle.rules.specs.Lists.{any}
use Rattle.rules.specs.Clauses.{Clause, bad_literal, bad_clause, total}
use Rattle.clauses.specs.Asked.{at0}
use Rattle.clauses.specs.Walk.{onto, some_clause, Word}
use Rattle.clauses.specs.Rows.{flat, parse, is_zero, ends, word_cost}

onto_app : (l : ℤ) (cs ds : List Clause) → some_clause cs ≡ true → onto l (cs ++ ds) ≡ onto l cs ++ ds
onto_app l [] ds h = absurd (false≢true h)
onto_app l (c ∷ cs) ds h = refl

full_onto : (l : ℤ) (cs : List Clause) → some_clause cs ≡ true → some_clause (onto l cs) ≡ true
full_onto l [] h = h
full_onto l (c ∷ cs) h = refl

-- a closed row before another
pub parse_app : (b : Bool) (xs ys : List ℤ) → ends b xs ≡ true → (parse (xs ++ ys) ≡ parse xs ++ parse ys) × (b ≡ false → some_clause (parse xs) ≡ true)
parse_app b [] ys h = (refl, λ e. sym e ∙ h)
parse_app b (pos zero ∷ xs) ys h = (ap (λ cs. [] ∷ cs) (parse_app true xs ys h).0, λ e. refl)
parse_app b (pos (suc n) ∷ xs) ys h =
    let ih = parse_app false xs ys h in
    (ap (onto (pos (suc n))) ih.0 ∙ onto_app (pos (suc n)) (parse xs) (parse ys) (ih.1 refl), λ e. full_onto (pos (suc n)) (parse xs) (ih.1 refl))
parse_app b (negsuc n ∷ xs) ys h =
    let ih = parse_app false xs ys h in
    (ap (onto (negsuc n)) ih.0 ∙ onto_app (negsuc n) (parse xs) (parse ys) (ih.1 refl), λ e. full_onto (negsuc n) (parse xs) (ih.1 refl))

-- a clause, its 0, and what comes after
pub parse_clause : (w : ℕ) (c : Clause) (ws : List ℤ) → any (bad_literal w) c ≡ false → parse (c ++ (pos 0 ∷ ws)) ≡ c ∷ parse ws
parse_clause w [] ws h = refl
parse_clause w (pos zero ∷ c) ws h = absurd (true≢false h)
parse_clause w (pos (suc n) ∷ c) ws h = ap (onto (pos (suc n))) (parse_clause w c ws (or_parts (bad_literal w (pos (suc n))) (any (bad_literal w) c) h).1)
parse_clause w (negsuc n ∷ c) ws h = ap (onto (negsuc n)) (parse_clause w c ws (or_parts (bad_literal w (negsuc n)) (any (bad_literal w) c) h).1)

-- the words of clauses stand for them
pub parse_flat : (w : ℕ) (cs : List Clause) → any (bad_clause w) cs ≡ false → parse (flat cs) ≡ cs
parse_flat w [] h = refl
parse_flat w (c ∷ cs) h =
    let p = or_parts (bad_clause w c) (any (bad_clause w) cs) h in
    let q = or_parts (ltb 130 (length c)) (any (bad_literal w) c) p.0 in
    parse_clause w c (flat cs) q.1 ∙ ap (λ ds. c ∷ ds) (parse_flat w cs p.1)

pub ends_app : (b : Bool) (xs ys : List ℤ) → ends b (xs ++ ys) ≡ ends (ends b xs) ys
ends_app b [] ys = refl
ends_app b (x ∷ xs) ys = ends_app (is_zero x) xs ys

pub flat_onto : (l : ℤ) (cs : List Clause) → some_clause cs ≡ true → flat (onto l cs) ≡ l ∷ flat cs
flat_onto l [] h = absurd (false≢true h)
flat_onto l (c ∷ cs) h = refl

-- a closed row is the words of what it stands for
pub flat_parse : (b : Bool) (xs : List ℤ) → ends b xs ≡ true → flat (parse xs) ≡ xs
flat_parse b [] h = refl
flat_parse b (pos zero ∷ xs) h = ap (λ ws. pos 0 ∷ ws) (flat_parse true xs h)
flat_parse b (pos (suc n) ∷ xs) h = flat_onto (pos (suc n)) (parse xs) ((parse_app false xs [] h).1 refl) ∙ ap (λ ws. pos (suc n) ∷ ws) (flat_parse false xs h)
flat_parse b (negsuc n ∷ xs) h = flat_onto (negsuc n) (parse xs) ((parse_app false xs [] h).1 refl) ∙ ap (λ ws. negsuc n ∷ ws) (flat_parse false xs h)

pub total_flat : (cs : List Clause) → any (bad_clause 4096) cs ≡ false → total word_cost cs ≡ length (flat cs)
total_flat [] h = refl
total_flat (c ∷ cs) h =
    let p = or_parts (bad_clause 4096 c) (any (bad_clause 4096) cs) h in
    let ih = total_flat cs p.1 in
    omega (arith, cond-false (bad_clause 4096 c) 0 (length c + 1) p.0, length-append c (pos 0 ∷ flat cs))

length_onto : (l : ℤ) (cs : List Clause) → length (onto l cs) ≡ length cs
length_onto l [] = refl
length_onto l (c ∷ cs) = refl

pub count_le : (xs : List ℤ) → length (parse xs) ≤ length xs
count_le [] = omega arith
count_le (pos zero ∷ xs) = let ih = count_le xs in omega arith
count_le (pos (suc n) ∷ xs) = omega (arith, count_le xs, length_onto (pos (suc n)) (parse xs))
count_le (negsuc n ∷ xs) = omega (arith, count_le xs, length_onto (negsuc n) (parse xs))

-- what the words in use cost
pub spent : (ws : List ℤ) (used : ℕ) → used ≤ length ws → ends true (take used ws) ≡ true → any (bad_clause 4096) (parse (take used ws)) ≡ false → total word_cost (parse (take used ws)) ≡ used
spent ws used h e g = total_flat (parse (take used ws)) g ∙ ap length (flat_parse true (take used ws) e) ∙ length-take-le used ws h

-- the words once ys and a 0 are written where a clause has its place
abbrev pub put : ℕ → List ℤ → List ℤ → List ℤ → List ℤ
put used ws c ys = set (put_mid used (used + length c - used) ws ys) (used + length c) (pos 0)

-- a clause and its 0 are written after the words in use
pub record Put (used : ℕ) (ws c rs : List ℤ) : Type 0 where
  pub long : length rs ≡ length ws
  pub within : used + length c + 1 ≤ length rs
  pub closed : ends true (take (used + length c + 1) rs) ≡ true
  pub held : parse (take (used + length c + 1) rs) ≡ parse (take used ws) ++ (c ∷ [])
  pub rest : drop (used + length c + 1) rs ≡ drop (used + length c + 1) ws

pub put_clause : (used : ℕ) (ws c ys : List ℤ) → ys ≡ c → used + length c + 1 ≤ length ws → ends true (take used ws) ≡ true → bad_clause 4096 c ≡ false → Put used ws c (put used ws c ys)
put_clause used ws c ys e room closed good =
    let end = used + length c in
    let vs = put_mid used (end - used) ws ys in
    let rs = set vs end (pos 0) in
    let n : length c ≡ end - used = omega arith in
    let k : length ys ≡ end - used = ap length e ∙ n in
    let size : length vs ≡ length ws = grind (arith, common_steps) in
    let long = length-set vs end (pos 0) ∙ size in
    let is : take (end + 1) rs ≡ take used ws ++ (c ++ (pos 0 ∷ [])) =
    take_more_set vs end (pos 0) (omega arith)
    ∙ ap (λ xs. xs ++ (pos 0 ∷ [])) (take-put_mid used (end - used) ws ys end (omega (arith, ap length e)) (omega arith) ∙ ap (λ xs. take used ws ++ xs) e)
    ∙ append_assoc (take used ws) c (pos 0 ∷ []) in
    record {
      long = long;
      within = omega arith;
      closed = ap (ends true) is ∙ ends_app true (take used ws) (c ++ (pos 0 ∷ [])) ∙ ends_app _ c (pos 0 ∷ []);
      held =
          ap parse is
          ∙ (parse_app true (take used ws) (c ++ (pos 0 ∷ [])) closed).0
          ∙ ap (λ cs. parse (take used ws) ++ cs) (parse_clause 4096 c [] (or_parts (ltb 130 (length c)) (any (bad_literal 4096) c) good).1);
      rest = drop-set-lt (end + 1) vs end (pos 0) (omega arith) ∙ drop-put_mid used (end - used) ws ys (end + 1) (omega arith) (omega arith) k;
    }

-- the first clause of a row
onto_head : (l : ℤ) (cs : List Clause) (c : List ℤ) → at0 (onto l cs) 0 ≡ Some c → (d : List ℤ) × (at0 cs 0 ≡ Some d) × (c ≡ l ∷ d)
onto_head l [] c e = let z : ◌≡◌ {A = ℕ} 0 1 = cc in absurd (omega arith)
onto_head l (d ∷ cs) c e = (d, refl, cc)

pub head_is : (xs c : List ℤ) → at0 (parse xs) 0 ≡ Some c → (c ≡ take (length c) xs) × (length c < length xs)
head_is [] c e = let z : ◌≡◌ {A = ℕ} 0 1 = cc in absurd (omega arith)
head_is (pos zero ∷ xs) c e = let n : [] ≡ c = cc in subst (λ (d : List ℤ). (d ≡ take (length d) (pos zero ∷ xs)) × (length d < length (pos zero ∷ xs))) n (refl, omega arith)
head_is (pos (suc n) ∷ xs) c e =
    let o = onto_head (pos (suc n)) (parse xs) c e in
    let ih = head_is xs o.0 o.1 in
    subst (λ (d : List ℤ). (d ≡ take (length d) (pos (suc n) ∷ xs)) × (length d < length (pos (suc n) ∷ xs))) (sym o.2) (ap (λ d. pos (suc n) ∷ d) ih.0, omega (arith, ih.1))
head_is (negsuc n ∷ xs) c e =
    let o = onto_head (negsuc n) (parse xs) c e in
    let ih = head_is xs o.0 o.1 in
    subst (λ (d : List ℤ). (d ≡ take (length d) (negsuc n ∷ xs)) × (length d < length (negsuc n ∷ xs))) (sym o.2) (ap (λ d. negsuc n ∷ d) ih.0, omega (arith, ih.1))

-- a word in a closed row
closed_at : (b : Bool) (ws : List ℤ) (i : ℕ) (x : ℤ) (ys : List ℤ) → ends b ws ≡ true → drop i ws ≡ x ∷ ys → ends (is_zero x) ys ≡ true
closed_at b [] zero x ys h e = let z : ◌≡◌ {A = ℕ} 0 1 = omega (arith, ap length e) in absurd (omega arith)
closed_at b [] (suc i) x ys h e = let z : ◌≡◌ {A = ℕ} 0 1 = omega (arith, ap length e) in absurd (omega arith)
closed_at b (w ∷ ws) zero x ys h e =
    let p : w ≡ x = cc in
    let q : ws ≡ ys = cc in
    ap (λ (z : ℤ). ends (is_zero z) ys) (sym p) ∙ ap (ends (is_zero w)) (sym q) ∙ h
closed_at b (w ∷ ws) (suc i) x ys h e = closed_at (is_zero w) ws i x ys h e

pub word_is : (x : ℤ) (ys : List ℤ) → ends (is_zero x) ys ≡ true → Word x (parse (x ∷ ys)) (parse ys)
word_is (pos zero) ys h = refl
word_is (pos (suc n)) ys h = (refl, (parse_app false ys [] h).1 refl)
word_is (negsuc n) ys h = (refl, (parse_app false ys [] h).1 refl)

-- the first word of a closed row
pub word_read : (ws : List ℤ) (x : ℤ) (ys : List ℤ) → ends true ws ≡ true → ws ≡ x ∷ ys → Word x (parse ws) (parse ys)
word_read ws x ys h e = subst (λ (zs : List ℤ). Word x (parse zs) (parse ys)) (sym e) (word_is x ys (sym (ap (ends true) e) ∙ h))

pub reads_row : (ws : List ℤ) (i : ℕ) → ends true ws ≡ true → i < length ws → Word (get_or ws i (pos 0)) (parse (drop i ws)) (parse (drop (i + 1) ws))
reads_row ws i h l =
    let e = drop_more ws i (pos 0) l in
    subst (λ (zs : List ℤ). Word (get_or ws i (pos 0)) (parse zs) (parse (drop (i + 1) ws))) (sym e) (word_is (get_or ws i (pos 0)) (drop (i + 1) ws) (closed_at true ws i (get_or ws i (pos 0)) (drop (i + 1) ws) h e))
