-- What a turn of each loop does.
use Rattle.std.proofs.Common.{⊎_elim, ◌≡◌, ℕ, suc, ◌<◌, false, List, [], ◌∷◌, length, get_or, Some, None, Option, sym, refl, ap, ◌∙◌, arith}
use Rattle.std.specs.Str.{bytes_eq}
use Rattle.std.proofs.lemmas.Slice.Eq.{bytes_eq-Decides}
use Rattle.std.proofs.lemmas.List.{length-append, nil_from_length}
use Rattle.std.proofs.lemmas.Bool.{cases_eq, cond-false}
use Rattle.rules.specs.Lists.{has}
use Rattle.rules.proofs.Tests.{is_false}
use Rattle.lines.specs.Cut.{CutAt, Unended, Cut}
use Rattle.answers.specs.declared.stage.Stage.{Stage}
use Rattle.answers.specs.declared.stage.Stage.TheVariants.{Before, Among, Past}
use Rattle.answers.specs.declared.status.Status.{Status}
use Rattle.answers.specs.declared.status.Status.TheVariants.{Satisfiable, Unsatisfiable, Unknown}
use Rattle.answers.specs.Rendering.{s_line}
use Rattle.answers.specs.Following.{bind, lines_of, first_word, later_words, claim_of, still_among, take_word, last_word, take_words, mark, step, finish, follow}
use Rattle.answers.proofs.Pieces.{one_word, word_cut, lines_cut, lines_none}

-- s lines

-- the bytes of a text from place i on are these
abbrev pub Spells : List ℕ → ℕ → List ℕ → Type 0
Spells l i [] = Unit {0}
Spells l i (b ∷ bs) = (get_or l i 0 ≡ b) × Spells l (suc i) bs

spells_more : (c : ℕ) (l : List ℕ) (i : ℕ) (bs : List ℕ) → Spells (c ∷ l) (suc i) bs → Spells l i bs
spells_more c l i [] h = tt
spells_more c l i (b ∷ bs) h = (h.0, spells_more c l (suc i) bs h.1)

spelled : (l bs : List ℕ) → length l ≡ length bs → Spells l 0 bs → l ≡ bs
spelled [] [] e h = refl
spelled [] (b ∷ bs) e h = absurd (omega arith)
spelled (c ∷ l) [] e h = absurd (omega arith)
spelled (c ∷ l) (b ∷ bs) e h = ap (λ x. x ∷ l) h.0 ∙ ap (λ x. b ∷ x) (spelled l bs (omega arith) (spells_more c l 0 bs h.1))

claim_back : (s : Status) → claim_of (s_line s) ≡ Some s
claim_back Satisfiable = refl
claim_back Unsatisfiable = refl
claim_back Unknown = refl

pub claims : (l : List ℕ) (s : Status) → length l ≡ length (s_line s) → Spells l 0 (s_line s) → Some s ≡ claim_of l
claims l s e h = sym (ap claim_of (spelled l (s_line s) e h) ∙ claim_back s)

differs : (l x : List ℕ) → (l ≡ x → ⊥) → bytes_eq l x ≡ false
differs l x ne = is_false (bytes_eq l x) (λ e. ne ((bytes_eq-Decides l x).0 e))

pub claims_none : (l : List ℕ) → (l ≡ s_line Satisfiable → ⊥) → (l ≡ s_line Unsatisfiable → ⊥) → (l ≡ s_line Unknown → ⊥) → None ≡ claim_of l
claims_none l a b c =
    sym (cond-false (bytes_eq l (s_line Satisfiable)) _ _ (differs l (s_line Satisfiable) a)
    ∙ cond-false (bytes_eq l (s_line Unsatisfiable)) _ _ (differs l (s_line Unsatisfiable) b)
    ∙ cond-false (bytes_eq l (s_line Unknown)) _ _ (differs l (s_line Unknown) c))

-- words

parted_words : (left word rest : List ℕ) → CutAt 32 left word rest → (first_word left ≡ word) × (later_words left ≡ first_word rest ∷ later_words rest)
parted_words left word rest p =
    let cut = word_cut word rest p.inside in
    (ap first_word p.parts ∙ cut.0, ap later_words p.parts ∙ cut.1)

module _ (n : ℕ) (m left : List ℕ) (long : length m ≡ n) where
  abbrev said : Option (Stage × List ℕ)
  said = take_words n mark m (first_word left) (later_words left)

  at_n : (word : List ℕ) (o : Option (List ℕ)) → take_word (length m) mark m word ≡ o → take_word n mark m word ≡ o
  at_n word o h = ap (λ j. take_word j mark m word) (sym long) ∙ h

  module _ (word rest : List ℕ) (p : CutAt 32 left word rest) where
    said_is : said ≡ bind (take_word n mark m word) (λ k. take_words n mark k (first_word rest) (later_words rest))
    said_is =
        let w = parted_words left word rest p in
        ap (λ x. take_words n mark m x (later_words left)) w.0 ∙ ap (take_words n mark m word) w.1

    pub word_on : (k : List ℕ) → take_word (length m) mark m word ≡ Some k → said ≡ take_words n mark k (first_word rest) (later_words rest)
    word_on k h = said_is ∙ ap (λ o. bind o (λ k. take_words n mark k (first_word rest) (later_words rest))) (at_n word (Some k) h)

    pub word_off : take_word (length m) mark m word ≡ None → said ≡ None
    word_off h = said_is ∙ ap (λ o. bind o (λ k. take_words n mark k (first_word rest) (later_words rest))) (at_n word None h)

  module _ (one : has 32 left ≡ false) where
    said_last : said ≡ last_word n mark m left
    said_last = let w = one_word left one in ap (λ x. take_words n mark m x (later_words left)) w.0 ∙ ap (take_words n mark m left) w.1

    pub closed : left ≡ 48 ∷ [] → said ≡ Some (Past Satisfiable, m)
    closed e = said_last ∙ ap (last_word n mark m) e

    module _ (more : left ≡ 48 ∷ [] → ⊥) where
      said_other : said ≡ still_among (take_word n mark m left)
      said_other = said_last ∙ cond-false (bytes_eq left (48 ∷ [])) _ _ (differs left (48 ∷ []) more)

      pub last_on : (k : List ℕ) → take_word (length m) mark m left ≡ Some k → said ≡ Some (Among, k)
      last_on k h = said_other ∙ ap still_among (at_n left (Some k) h)

      pub last_off : take_word (length m) mark m left ≡ None → said ≡ None
      last_off h = said_other ∙ ap still_among (at_n left None h)

pub word_shorter : (left word rest : List ℕ) → CutAt 32 left word rest → length rest < length left
word_shorter left word rest p = omega (arith, ap length p.parts, length-append word (32 ∷ rest))

-- lines

module _ (n : ℕ) (at : Stage) (m left : List ℕ) where
  abbrev told : Option (Status × List ℕ)
  told = bind (lines_of left) (follow n mark at m)

  module _ (long : length m ≡ n) (line rest : List ℕ) (p : Cut left line rest) where
    over : (o : Option (List (List ℕ))) → bind (bind o (λ ls. Some (line ∷ ls))) (follow n mark at m) ≡ bind o (λ ls. bind (step n mark at m line) (λ q. follow n mark q.0 q.1 ls))
    over None = refl
    over (Some ls) = refl

    told_is : (o : Option (Stage × List ℕ)) → step (length m) mark at m line ≡ o → told ≡ bind (lines_of rest) (λ ls. bind o (λ q. follow n mark q.0 q.1 ls))
    told_is o h =
        ap (λ o. bind o (follow n mark at m)) (ap lines_of p.parts ∙ lines_cut line rest p.inside)
        ∙ over (lines_of rest)
        ∙ ap (λ s. bind (lines_of rest) (λ ls. bind s (λ q. follow n mark q.0 q.1 ls))) (ap (λ j. step j mark at m line) (sym long) ∙ h)

    none : (o : Option (List (List ℕ))) → ◌≡◌ {A = Option (Status × List ℕ)} (bind o (λ ls. None)) None
    none None = refl
    none (Some ls) = refl

    pub line_on : (to : Stage) (k : List ℕ) → step (length m) mark at m line ≡ Some (to, k) → told ≡ bind (lines_of rest) (follow n mark to k)
    line_on to k h = told_is (Some (to, k)) h

    pub line_off : step (length m) mark at m line ≡ None → told ≡ None
    line_off h = told_is None h ∙ none (lines_of rest)

  pub text_ends : length left ≡ 0 → told ≡ finish at m
  text_ends e = ap (λ x. bind (lines_of x) (follow n mark at m)) (nil_from_length left e)

  pub text_unended : Unended left → 0 < length left → told ≡ None
  text_unended u some = ap (λ o. bind o (follow n mark at m)) (lines_none left u some)

  unfinished : (s : Stage) → ((t : Status) → s ≡ Past t → ⊥) → finish s m ≡ None
  unfinished Before h = refl
  unfinished Among h = refl
  unfinished (Past t) h = absurd (h t refl)

  -- whatever is left, no stage before the last one ends a text
  pub text_unfinished : Unended left → ((t : Status) → at ≡ Past t → ⊥) → told ≡ None
  text_unfinished u h = ⊎_elim (λ e. text_ends e ∙ unfinished at h) (λ ne. text_unended u (omega arith)) (cases_eq (length left) 0)

pub line_shorter : (left line rest : List ℕ) → Cut left line rest → length rest < length left
line_shorter left line rest p = omega (arith, ap length p.parts, length-append line (10 ∷ rest))
