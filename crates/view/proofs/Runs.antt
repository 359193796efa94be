-- A gap and a word, by their lengths.
use Rattle.std.proofs.Common.{◌≡◌, ℕ, suc, ◌+◌, ◌-◌, ◌<◌, ◌≤◌, Bool, true, false, not, ltb, List, [], ◌∷◌, length, take, drop, Some, None, sym, refl, ap, ◌∙◌, ⊎_elim, arith}
use Rattle.std.specs.List.{position, position_or_len}
use Rattle.std.specs.Option.{unwrap_or}
use Rattle.std.proofs.lemmas.Bool.{cond-true, cond-false, lt-ltb, le-ltb, cases_lt, false≢true}
use Rattle.std.proofs.lemmas.List.{drop_all, drop-drop, length-drop}
use Rattle.std.proofs.lemmas.List.Sums.{prefix_len-le-length}
use Rattle.view.specs.Words.{gap, in_word, on_first, words_of, NextWord}
use Rattle.view.proofs.Spaces.{words_one, words_on}

-- where the first word begins
abbrev pub start : List ℕ → ℕ
start t = position_or_len (λ b. not (gap b)) t

-- where the first gap begins
abbrev pub stop : List ℕ → ℕ
stop t = position_or_len gap t

start_gap : (b : ℕ) (bs : List ℕ) → gap b ≡ true → start (b ∷ bs) ≡ suc (start bs)
start_gap b bs e = let s : 1 + start bs ≡ suc (start bs) = omega arith in cond-true (not (not (gap b))) (1 + start bs) 0 (ap (λ x. not (not x)) e) ∙ s

start_word : (b : ℕ) (bs : List ℕ) → gap b ≡ false → start (b ∷ bs) ≡ 0
start_word b bs e = cond-false (not (not (gap b))) (1 + start bs) 0 (ap (λ x. not (not x)) e)

stop_gap : (b : ℕ) (bs : List ℕ) → gap b ≡ true → stop (b ∷ bs) ≡ 0
stop_gap b bs e = cond-false (not (gap b)) (1 + stop bs) 0 (ap not e)

stop_word : (b : ℕ) (bs : List ℕ) → gap b ≡ false → stop (b ∷ bs) ≡ suc (stop bs)
stop_word b bs e = let s : 1 + stop bs ≡ suc (stop bs) = omega arith in cond-true (not (gap b)) (1 + stop bs) 0 (ap not e) ∙ s

pub skip : (t : List ℕ) → words_of t ≡ words_of (drop (start t) t)
skip [] = refl
skip (b ∷ bs) = at (gap b) refl (skip bs)
  where
    at : (g : Bool) → gap b ≡ g → words_of bs ≡ words_of (drop (start bs) bs) → words_of (b ∷ bs) ≡ words_of (drop (start (b ∷ bs)) (b ∷ bs))
    at true e h = cond-true _ _ _ e ∙ h ∙ ap (λ k. words_of (drop k (b ∷ bs))) (sym (start_gap b bs e))
    at false e h = ap (λ k. words_of (drop k (b ∷ bs))) (sym (start_word b bs e))

pub started : (t : List ℕ) → start t < length t → in_word (drop (start t) t) ≡ true
started [] l = absurd (omega arith)
started (b ∷ bs) l = at (gap b) refl (started bs)
  where
    at : (g : Bool) → gap b ≡ g → (start bs < length bs → in_word (drop (start bs) bs) ≡ true) → in_word (drop (start (b ∷ bs)) (b ∷ bs)) ≡ true
    at true e h = ap (λ k. in_word (drop k (b ∷ bs))) (start_gap b bs e) ∙ h (omega (arith, l, start_gap b bs e))
    at false e h = ap (λ k. in_word (drop k (b ∷ bs))) (start_word b bs e) ∙ ap not e

none_here : (t : List ℕ) → in_word t ≡ false → stop t ≡ 0
none_here [] h = refl
none_here (b ∷ bs) h = at (gap b) refl
  where
    at : (g : Bool) → gap b ≡ g → stop (b ∷ bs) ≡ 0
    at true e = stop_gap b bs e
    at false e = absurd (false≢true (sym h ∙ ap not e))

pub some_long : (t : List ℕ) → in_word t ≡ true → 0 < stop t
some_long [] h = absurd (false≢true h)
some_long (b ∷ bs) h = at (gap b) refl
  where
    at : (g : Bool) → gap b ≡ g → 0 < stop (b ∷ bs)
    at true e = absurd (false≢true (sym (ap not e) ∙ h))
    at false e = omega (arith, stop_word b bs e)

pub run : (t : List ℕ) → in_word t ≡ true → words_of t ≡ take (stop t) t ∷ words_of (drop (stop t) t)
run [] h = absurd (false≢true h)
run (b ∷ bs) h = at (gap b) refl (in_word bs) refl (run bs)
  where
    cut : ℕ → List (List ℕ)
    cut k = take k (b ∷ bs) ∷ words_of (drop k (b ∷ bs))

    at : (g : Bool) → gap b ≡ g → (i : Bool) → in_word bs ≡ i → (in_word bs ≡ true → words_of bs ≡ take (stop bs) bs ∷ words_of (drop (stop bs) bs)) → words_of (b ∷ bs) ≡ cut (stop (b ∷ bs))
    at true e i f more = absurd (false≢true (sym (ap not e) ∙ h))
    at false e true f more = words_on b bs e f ∙ ap (on_first b) (more f) ∙ ap cut (sym (stop_word b bs e))
    at false e false f more = words_one b bs e f ∙ ap cut (sym (stop_word b bs e ∙ ap suc (none_here bs f)))

-- where a search ends

pub position_none : (p : ℕ → Bool) (t : List ℕ) → None ≡ position p t → length t ≤ position_or_len p t
position_none p t e =
    ⊎_elim
    (λ (l : position_or_len p t < length t). absurd (some_none (e ∙ cond-true (ltb (position_or_len p t) (length t)) _ _ (lt-ltb _ _ l))))
    (λ (g : length t ≤ position_or_len p t). g)
    (cases_lt (position_or_len p t) (length t))
  where
    some_none : {n : ℕ} → None ≡ Some n → ⊥
    some_none e = let z : ◌≡◌ {A = ℕ} 0 1 = cc in absurd (omega arith)

pub position_some : (p : ℕ → Bool) (t : List ℕ) (i : ℕ) → Some i ≡ position p t → (i ≡ position_or_len p t) × (position_or_len p t < length t)
position_some p t i e =
    ⊎_elim
    (λ (l : position_or_len p t < length t). (some_same (e ∙ cond-true (ltb (position_or_len p t) (length t)) _ _ (lt-ltb _ _ l)), l))
    (λ (g : length t ≤ position_or_len p t). absurd (none_some (e ∙ cond-false (ltb (position_or_len p t) (length t)) _ _ (le-ltb _ _ g))))
    (cases_lt (position_or_len p t) (length t))
  where
    some_same : {m n : ℕ} → Some m ≡ Some n → m ≡ n
    some_same e = cc

    none_some : {n : ℕ} → Some n ≡ None → ⊥
    none_some e = let z : ◌≡◌ {A = ℕ} 0 1 = cc in absurd (omega arith)

pub or_end : (p : ℕ → Bool) (t : List ℕ) → unwrap_or (position p t) (length t) ≡ position_or_len p t
or_end p t =
    ⊎_elim
    (λ (l : position_or_len p t < length t). ap (λ o. unwrap_or o (length t)) (cond-true (ltb (position_or_len p t) (length t)) _ _ (lt-ltb _ _ l)))
    (λ (g : length t ≤ position_or_len p t). ap (λ o. unwrap_or o (length t)) (cond-false (ltb (position_or_len p t) (length t)) _ _ (le-ltb _ _ g)) ∙ omega (arith, prefix_len-le-length (λ x. not (p x)) t))
    (cases_lt (position_or_len p t) (length t))

pub no_word : (t : List ℕ) → None ≡ position (λ b. not (gap b)) t → words_of t ≡ []
no_word t e = skip t ∙ ap words_of (drop_all (start t) t (position_none _ t e))

pub next : (t word rest : List ℕ) (i e : ℕ) → Some i ≡ position (λ b. not (gap b)) t → e ≡ stop (drop i t) → word ≡ take e (drop i t) → rest ≡ drop e (drop i t) → NextWord t word rest
next t word rest i e found until front back =
    let s = position_some _ t i found in
    let in-text : i < length t = omega (arith, s.0, s.1) in
    let in-word : in_word (drop i t) ≡ true = ap (λ k. in_word (drop k t)) s.0 ∙ started t s.1 in
    let some : 0 < e = omega (arith, until, some_long (drop i t) in-word) in
    let upto : e ≤ length t - i = omega (arith, until, prefix_len-le-length (λ b. not (gap b)) (drop i t), length-drop i t) in
    let whole : rest ≡ drop (i + e) t = back ∙ drop-drop e i t in
    let long : length rest ≡ length t - (i + e) = ap length whole ∙ length-drop (i + e) t in
    let at : i + e ≡ length t - length rest = omega arith in
    record {
      cuts =
          skip t
          ∙ ap (λ k. words_of (drop k t)) (sym s.0)
          ∙ run (drop i t) in-word
          ∙ ap (λ k. take k (drop i t) ∷ words_of (drop k (drop i t))) (sym until)
          ∙ ap (λ w. w ∷ words_of (drop e (drop i t))) (sym front)
          ∙ ap (λ r. word ∷ words_of r) (sym back);
      shorter = omega arith;
      stands = whole ∙ ap (λ k. drop k t) at;
    }
