-- A text is its words, with gaps.
use Rattle.std.proofs.Common.{◌≡◌, ℕ, ◌<◌, ◌≤◌, Bool, true, false, not, eqb, ◌⊎◌, List, [], ◌∷◌, ◌++◌, length, sym, refl, ap, ◌∙◌, subst, inl, inr, ⊎_elim, arith}
use Rattle.std.specs.List.{AllByRecursion}
use Rattle.std.proofs.lemmas.Bool.{cond-true, cond-false, eq-eqb, eqb-true, or_left, or_right, or_cases, not_from_true, not_from_false}
use Rattle.view.specs.Words.{gap, in_word, on_first, words_of}
use Rattle.view.specs.Format.{spaced, Gap, Gaps}

-- a word: at least one byte, none of them a space or an LF
abbrev pub Word : List ℕ → Type 0
Word w = (0 < length w) × AllByRecursion (λ b. gap b ≡ false) w

pub gap_is : (b : ℕ) → (b ≡ 32) ⊎ (b ≡ 10) → gap b ≡ true
gap_is b h = ⊎_elim (λ e. or_left _ _ (eq-eqb b 32 e)) (λ e. or_right (eqb b 32) _ (eq-eqb b 10 e)) h

pub is_gap_lem : (b : ℕ) → gap b ≡ true → (b ≡ 32) ⊎ (b ≡ 10)
is_gap_lem b h = ⊎_elim (λ e. inl (eqb-true b 32 e)) (λ e. inr (eqb-true b 10 e)) (or_cases (eqb b 32) (eqb b 10) h)

-- reading what is rendered

pub words_gap : (g t : List ℕ) → Gap g → words_of (g ++ t) ≡ words_of t
words_gap [] t h = refl
words_gap (b ∷ bs) t h = cond-true _ _ _ (gap_is b h.0) ∙ words_gap bs t h.1

pub words_none : (g : List ℕ) → Gap g → words_of g ≡ []
words_none [] h = refl
words_none (b ∷ bs) h = cond-true _ _ _ (gap_is b h.0) ∙ words_none bs h.1

pub words_one : (b : ℕ) (t : List ℕ) → gap b ≡ false → in_word t ≡ false → words_of (b ∷ t) ≡ (b ∷ []) ∷ words_of t
words_one b t g h = cond-false _ _ _ g ∙ cond-false _ _ _ h

pub words_on : (b : ℕ) (t : List ℕ) → gap b ≡ false → in_word t ≡ true → words_of (b ∷ t) ≡ on_first b (words_of t)
words_on b t g h = cond-false _ _ _ g ∙ cond-true _ _ _ h

pub words_word : (w t : List ℕ) → Word w → in_word t ≡ false → words_of (w ++ t) ≡ w ∷ words_of t
words_word [] t h e = absurd (omega arith)
words_word (b ∷ []) t h e = words_one b t h.1.0 e
words_word (b ∷ c ∷ cs) t h e = words_on b (c ∷ (cs ++ t)) h.1.0 (not_from_false _ h.1.1.0) ∙ ap (on_first b) (words_word (c ∷ cs) t (omega arith, h.1.1) e)

parted_gap : (g t : List ℕ) → Gap g → 1 ≤ length g → in_word (g ++ t) ≡ false
parted_gap [] t h l = absurd (omega arith)
parted_gap (b ∷ bs) t h l = not_from_true _ (gap_is b h.0)

parted_last : (g : List ℕ) → Gap g → in_word g ≡ false
parted_last [] h = refl
parted_last (b ∷ bs) h = not_from_true _ (gap_is b h.0)

parted : (gs ws : List (List ℕ)) → Gaps 1 gs ws → in_word (spaced gs ws) ≡ false
parted [] ws h = elim h [ ]
parted (g ∷ gs) [] h = parted_last g h.0
parted (g ∷ gs) (w ∷ ws) h = parted_gap g _ h.0 h.1

pub words_spaced : (k : ℕ) (gs ws : List (List ℕ)) → Gaps k gs ws → AllByRecursion Word ws → words_of (spaced gs ws) ≡ ws
words_spaced k [] ws h a = elim h [ ]
words_spaced k (g ∷ gs) [] h a = words_none g h.0
words_spaced k (g ∷ gs) (w ∷ ws) h a =
    words_gap g _ h.0 ∙ words_word w (spaced gs ws) a.0 (parted gs ws h.2) ∙ ap (λ r. w ∷ r) (words_spaced 1 gs ws h.2 a.1)

-- rendering what is read

-- t, where no word stands first, and the words ws
abbrev Shut : List ℕ → List (List ℕ) → Type 0
Shut t ws = (gs : List (List ℕ)) × (t ≡ spaced gs ws) × Gaps 1 gs ws

-- t, where a word stands first
abbrev Open : List ℕ → List (List ℕ) → Type 0
Open t [] = ⊥
Open t (w ∷ ws) = (gs : List (List ℕ)) × (t ≡ w ++ spaced gs ws) × Gaps 1 gs ws

abbrev Split : Bool → List ℕ → List (List ℕ) → Type 0
Split true t ws = Open t ws
Split false t ws = Shut t ws

longer : (b : ℕ) (t : List ℕ) (ws : List (List ℕ)) → gap b ≡ true → Shut t ws → Shut (b ∷ t) ws
longer b t [] g ([], e, h) = elim h [ ]
longer b t (w ∷ ws) g ([], e, h) = elim h [ ]
longer b t [] g (a ∷ gs, e, h) = ((b ∷ a) ∷ gs, ap (λ x. b ∷ x) e, ((is_gap_lem b g, h.0), h.1))
longer b t (w ∷ ws) g (a ∷ gs, e, h) = ((b ∷ a) ∷ gs, ap (λ x. b ∷ x) e, ((is_gap_lem b g, h.0), omega arith, h.2))

opened : (b : ℕ) (t : List ℕ) (ws : List (List ℕ)) → gap b ≡ true → Open t ws → Shut (b ∷ t) ws
opened b t [] g h = elim h [ ]
opened b t (w ∷ ws) g h = ((b ∷ []) ∷ h.0, ap (λ x. b ∷ x) h.1, ((is_gap_lem b g, tt), omega arith, h.2))

more : (b : ℕ) (t : List ℕ) (ws : List (List ℕ)) → Open t ws → Open (b ∷ t) (on_first b ws)
more b t [] h = elim h [ ]
more b t (w ∷ ws) h = (h.0, ap (λ x. b ∷ x) h.1, h.2)

one : (b : ℕ) (t : List ℕ) (ws : List (List ℕ)) → Shut t ws → Open (b ∷ t) ((b ∷ []) ∷ ws)
one b t ws h = (h.0, ap (λ x. b ∷ x) h.1, h.2)

at : (b : ℕ) (t : List ℕ) (g i : Bool) → gap b ≡ g → in_word t ≡ i → Split i t (words_of t) → Split (not g) (b ∷ t) (words_of (b ∷ t))
at b t true true e f h = subst (Shut (b ∷ t)) (sym (cond-true _ _ _ e)) (opened b t (words_of t) e h)
at b t true false e f h = subst (Shut (b ∷ t)) (sym (cond-true _ _ _ e)) (longer b t (words_of t) e h)
at b t false true e f h = subst (Open (b ∷ t)) (sym (words_on b t e f)) (more b t (words_of t) h)
at b t false false e f h = subst (Open (b ∷ t)) (sym (words_one b t e f)) (one b t (words_of t) h)

split : (t : List ℕ) → Split (in_word t) t (words_of t)
split [] = ([] ∷ [], refl, (tt, refl))
split (b ∷ bs) = at b bs (gap b) (in_word bs) refl refl (split bs)

fewer : (gs ws : List (List ℕ)) → Gaps 1 gs ws → Gaps 0 gs ws
fewer [] ws h = elim h [ ]
fewer (g ∷ gs) [] h = h
fewer (g ∷ gs) (w ∷ ws) h = (h.0, omega arith, h.2)

joined : (i : Bool) (t : List ℕ) (ws : List (List ℕ)) → Split i t ws → (gs : List (List ℕ)) × (t ≡ spaced gs ws) × Gaps 0 gs ws
joined true t [] h = elim h [ ]
joined true t (w ∷ ws) h = ([] ∷ h.0, h.1, (tt, omega arith, h.2))
joined false t ws h = (h.0, h.1, fewer h.0 ws h.2)

-- every text is its words with gaps
pub spaces : (t : List ℕ) → (gs : List (List ℕ)) × (t ≡ spaced gs (words_of t)) × Gaps 0 gs (words_of t)
spaces t = joined (in_word t) t (words_of t) (split t)
