-- Each call has exactly one answer.
use Rattle.std.proofs.Common.{◌≡◌, ℕ, ◌-◌, ◌<◌, ◌≤◌, cond, List, [], ◌∷◌, length, get_or, is_ok, Ok, Err, Result, sym, refl, ap, ◌∙◌, inl, inr, arith}
use native.Mathlib.Decide.{dec_le}
use Rattle.rules.specs.declared.refusal.Refusal.{Refusal}
use Rattle.rules.specs.declared.refusal.Refusal.TheVariants.{TooShort, HeadOutOfRange, WrongLength, UnknownPair, PairsNotRising, SetsAndClears, BadRequest, BadClause, NoSpace, SinkNotEmpty, TooManyVariables, NotClauseText, NotAnAnswer, BadTruthMemory, NotAModel, BadSheetLines, SheetDoesNotHold, NotAsNoted, BadLemma, NotShown, CutTooLong}
use Rattle.rules.specs.Refusals.{number, answer}
use Rattle.rules.specs.Checks.{Tests, Answers}
use Rattle.rules.specs.Clauses.{Clause}
use Rattle.rules.specs.Propagation.{Shown}
use Rattle.rules.proofs.Outcomes.{outcome_unique_lem}
use Rattle.runs.specs.declared.noted.Noted.{Noted}
use Rattle.runs.specs.declared.verdict.Verdict.{Verdict}
use Rattle.runs.specs.Memory.{Memory}
use Rattle.runs.specs.Calls.{Refutation, known, IsShown, cleared, Gives, CanBegin, AsNoted, Proper, RoomFor, begin_tests, lemma_tests, cut_tests, conclude_tests, more_by, cut_to, VerdictOf, BeginCall, LemmaCall, CutCall, ConcludeCall}
use Rattle.runs.specs.Laws.{ExactlyOne, OneAnswerEach}
use Rattle.runs.proofs.Tested.{can_begin?, as_noted?, proper?, room_for?, is_shown?}

-- the first test that is not met is one
answers_once : (ts : Tests) (m n : ℕ) → Answers ts m → Answers ts n → m ≡ n
answers_once [] m n h k = h ∙ sym k
answers_once (t ∷ ts) m n (inl (_, h)) (inl (_, k)) = answers_once ts m n h k
answers_once (t ∷ ts) m n (inl (met, _)) (inr (unmet, _)) = absurd (unmet met)
answers_once (t ∷ ts) m n (inr (unmet, _)) (inl (met, _)) = absurd (unmet met)
answers_once (t ∷ ts) m n (inr (_, e)) (inr (_, f)) = e ∙ sym f

-- the refusals, by number
refusals : List Refusal
refusals = TooShort ∷ HeadOutOfRange ∷ WrongLength ∷ UnknownPair ∷ PairsNotRising ∷ SetsAndClears ∷ BadRequest ∷ BadClause ∷ NoSpace ∷ SinkNotEmpty ∷ TooManyVariables ∷ NotClauseText ∷ NotAnAnswer ∷ BadTruthMemory ∷ NotAModel ∷ BadSheetLines ∷ SheetDoesNotHold ∷ NotAsNoted ∷ BadLemma ∷ NotShown ∷ CutTooLong ∷ []

numbered : (e : Refusal) → (0 < number e) × (get_or refusals (number e - 1) TooShort ≡ e)
unfolding refusals
numbered TooShort = (omega arith, refl)
numbered HeadOutOfRange = (omega arith, refl)
numbered WrongLength = (omega arith, refl)
numbered UnknownPair = (omega arith, refl)
numbered PairsNotRising = (omega arith, refl)
numbered SetsAndClears = (omega arith, refl)
numbered BadRequest = (omega arith, refl)
numbered BadClause = (omega arith, refl)
numbered NoSpace = (omega arith, refl)
numbered SinkNotEmpty = (omega arith, refl)
numbered TooManyVariables = (omega arith, refl)
numbered NotClauseText = (omega arith, refl)
numbered NotAnAnswer = (omega arith, refl)
numbered BadTruthMemory = (omega arith, refl)
numbered NotAModel = (omega arith, refl)
numbered BadSheetLines = (omega arith, refl)
numbered SheetDoesNotHold = (omega arith, refl)
numbered NotAsNoted = (omega arith, refl)
numbered BadLemma = (omega arith, refl)
numbered NotShown = (omega arith, refl)
numbered CutTooLong = (omega arith, refl)

pub never_0 : (e : Refusal) → number e ≡ 0 → ⊥
never_0 e h = omega (arith, (numbered e).0)

same_refusal : (e f : Refusal) → number e ≡ number f → e ≡ f
same_refusal e f h = sym (numbered e).1 ∙ (ap (λ n. get_or refusals (n - 1) TooShort) h ∙ (numbered f).1)

-- a call by its tests, by what it gives, and by what it leaves for each answer
module _ {X Y : Type 0} (ts : Tests) (P : X → Type 0) (same : (x y : X) → P x → P y → x ≡ y) (after : Result X Refusal → Y) (marks : List ℕ) where
  pub Told : Result X Refusal × Y × List ℕ → Type 0
  Told x = Answers ts (answer x.0) × Gives x.0 P × (x.1 ≡ after x.0) × (x.2 ≡ cleared marks)

  same_answer : (r s : Result X Refusal) → answer r ≡ answer s → Gives r P → Gives s P → r ≡ s
  same_answer (Ok x) (Ok y) e g h = ap Ok (same x y g h)
  same_answer (Ok x) (Err f) e g h = absurd (never_0 f (sym e))
  same_answer (Err f) (Ok y) e g h = absurd (never_0 f e)
  same_answer (Err f) (Err k) e g h = ap Err (same_refusal f k e)

  told_once : (x y : Result X Refusal × Y × List ℕ) → Told x → Told y → y ≡ x
  unfolding Told
  told_once (r, a, l) (s, b, k) (t, g, p, q) (u, h, p', q') =
      let e : s ≡ r = same_answer s r (answers_once ts (answer s) (answer r) u t) h g in
      let e' : b ≡ a = p' ∙ (ap after e ∙ sym p) in
      let e'' : k ≡ l = q' ∙ sym q in
      ap (λ x. (x, b, k)) e ∙ (ap (λ x. (r, x, k)) e' ∙ ap (λ x. (r, a, x)) e'')

  pub exactly : (Q : Result X Refusal × Y × List ℕ → Type 0) → ((x : Result X Refusal × Y × List ℕ) → Q x → Told x) → ((x : Result X Refusal × Y × List ℕ) → Told x → Q x) → (r : Result X Refusal) × Answers ts (answer r) × Gives r P → ExactlyOne Q
  unfolding Told
  exactly Q to from (r, a, g) =
      let x : Result X Refusal × Y × List ℕ = (r, after r, cleared marks) in
      let told : Told x = (a, g, refl, refl) in
      (x, from x told, λ y q. told_once x y told (to y q))

begin_one : (cs : List Clause) (vars : ℕ) (marks : List ℕ) (m : Memory) → ExactlyOne {X = Result Noted Refusal × Memory × List ℕ} (λ x. BeginCall cs vars marks m x.0 x.1 x.2)
unfolding Told
begin_one cs vars marks m =
    exactly (begin_tests cs vars marks m) (λ n. n ≡ record { variables = vars; clauses = length cs; lemmas = 0 }) (λ x y g h. g ∙ sym h) (λ r. m) marks
    (λ x. BeginCall cs vars marks m x.0 x.1 x.2) (λ x h. (h.answers, h.notes, h.keeps, h.clears)) (λ x h. record { answers = h.0; notes = h.1; keeps = h.2; clears = h.3 }) (go (can_begin? cs vars marks m))
  where
    go : Dec (CanBegin cs vars marks m) → (r : Result Noted Refusal) × Answers (begin_tests cs vars marks m) (answer r) × Gives r (λ n. n ≡ record { variables = vars; clauses = length cs; lemmas = 0 })
    go (no h) = (Err NotAsNoted, inr (h, refl), tt)
    go (yes h) = (Ok (record { variables = vars; clauses = length cs; lemmas = 0 }), inl (h, refl), refl)

lemma_one : (cs : List Clause) (o : Refutation) (marks : List ℕ) (c : Clause) → ExactlyOne {X = Result ℕ Refusal × Refutation × List ℕ} (λ x. LemmaCall cs o marks c x.0 x.1 x.2)
unfolding Told
lemma_one cs o marks c =
    exactly (lemma_tests cs o marks c) (Shown (known cs o) c) (outcome_unique_lem (known cs o) c).shown_count (λ r. cond (is_ok r) (more_by o c) o) marks
    (λ x. LemmaCall cs o marks c x.0 x.1 x.2) (λ x h. (h.answers, h.counts, h.adds, h.clears)) (λ x h. record { answers = h.0; counts = h.1; adds = h.2; clears = h.3 })
    (go (as_noted? cs o marks) (proper? o.noted.variables c) (room_for? o.memory c) (is_shown? (known cs o) c))
  where
    go : Dec (AsNoted cs o marks) → Dec (Proper o.noted.variables c) → Dec (RoomFor o.memory c) → Dec (IsShown (known cs o) c) → (r : Result ℕ Refusal) × Answers (lemma_tests cs o marks c) (answer r) × Gives r (Shown (known cs o) c)
    go (no n) p q s = (Err NotAsNoted, inr (n, refl), tt)
    go (yes n) (no p) q s = (Err BadLemma, inl (n, inr (p, refl)), tt)
    go (yes n) (yes p) (no q) s = (Err NoSpace, inl (n, inl (p, inr (q, refl))), tt)
    go (yes n) (yes p) (yes q) (no s) = (Err NotShown, inl (n, inl (p, inl (q, inr (s, refl)))), tt)
    go (yes n) (yes p) (yes q) (yes s) = (Ok s.0, inl (n, inl (p, inl (q, inl (s, refl)))), s.1)

no_more : (r : Result Unit Refusal) → Gives r (λ _. Unit {0})
no_more (Ok u) = tt
no_more (Err e) = tt

cut_one : (cs : List Clause) (o : Refutation) (marks : List ℕ) (n : ℕ) → ExactlyOne {X = Result Unit Refusal × Refutation × List ℕ} (λ x. CutCall cs o marks n x.0 x.1 x.2)
unfolding Told
cut_one cs o marks n =
    exactly (cut_tests cs o marks n) (λ _. Unit {0}) (λ x y _ _. refl) (λ r. cond (is_ok r) (cut_to o n) o) marks
    (λ x. CutCall cs o marks n x.0 x.1 x.2) (λ x h. (h.answers, no_more x.0, h.cuts, h.clears)) (λ x h. record { answers = h.0; cuts = h.2; clears = h.3 })
    (go (as_noted? cs o marks) (dec_le n (length o.memory.records.items)))
  where
    go : Dec (AsNoted cs o marks) → Dec (n ≤ length o.memory.records.items) → (r : Result Unit Refusal) × Answers (cut_tests cs o marks n) (answer r) × Gives r (λ _. Unit {0})
    go (no h) k = (Err NotAsNoted, inr (h, refl), tt)
    go (yes h) (no k) = (Err CutTooLong, inl (h, inr (k, refl)), tt)
    go (yes h) (yes k) = (Ok tt, inl (h, inl (k, refl)), tt)

same_verdict : (cs : List Clause) (o : Refutation) (v w : Verdict) → VerdictOf cs o v → VerdictOf cs o w → v ≡ w
same_verdict cs o v w h k =
    let made : ℕ → ℕ → ℕ → Verdict = λ x y z. record { variables = x; lemmas = y; count = z } in
    ap (λ x. made x v.lemmas v.count) (h.variables_noted ∙ sym k.variables_noted) ∙ (ap (λ y. made w.variables y v.count) (h.lemmas_live ∙ sym k.lemmas_live) ∙ ap (made w.variables w.lemmas) ((outcome_unique_lem (known cs o) []).shown_count v.count w.count h.counted k.counted))

conclude_one : (cs : List Clause) (o : Refutation) (marks : List ℕ) → ExactlyOne {X = Result Verdict Refusal × Refutation × List ℕ} (λ x. ConcludeCall cs o marks x.0 x.1 x.2)
unfolding Told
conclude_one cs o marks =
    exactly (conclude_tests cs o marks) (VerdictOf cs o) (same_verdict cs o) (λ r. o) marks
    (λ x. ConcludeCall cs o marks x.0 x.1 x.2) (λ x h. (h.answers, h.settles, h.keeps, h.clears)) (λ x h. record { answers = h.0; settles = h.1; keeps = h.2; clears = h.3 })
    (go (as_noted? cs o marks) (is_shown? (known cs o) []))
  where
    go : Dec (AsNoted cs o marks) → Dec (IsShown (known cs o) []) → (r : Result Verdict Refusal) × Answers (conclude_tests cs o marks) (answer r) × Gives r (VerdictOf cs o)
    go (no h) s = (Err NotAsNoted, inr (h, refl), tt)
    go (yes h) (no s) = (Err NotShown, inl (h, inr (s, refl)), tt)
    go (yes h) (yes s) = (Ok (record { variables = o.noted.variables; lemmas = length o.memory.records.items; count = s.0 }), inl (h, inl (s, refl)), record { variables_noted = refl; lemmas_live = refl; counted = s.1 })

pub one_answer_each_lem : OneAnswerEach
one_answer_each_lem = record { to_begin = begin_one; to_lemma = lemma_one; to_cut = cut_one; to_conclude = conclude_one }
