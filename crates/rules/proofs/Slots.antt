-- The clauses of a slot say that the slot is allowed and that its end is the state after it.
use Rattle.std.proofs.Common.{◌≡◌, ℕ, zero, suc, ◌+◌, ◌-◌, ◌<◌, Bool, true, false, not, ◌&&◌, ◌||◌, ◌⊎◌, ◌↔◌, List, [], ◌∷◌, sym, refl, ◌∙◌, subst, inr, ⊎_elim, true≢false, arith}
use Rattle.std.specs.List.{range_with_len}
use Rattle.std.proofs.lemmas.Bool.{cases_order}
use Rattle.rules.specs.Lists.{In, has}
use Rattle.rules.specs.Steps.{Rule, Lawful}
use Rattle.rules.specs.Problems.{Problem, Sound, step, facts_of, steps_of}
use Rattle.rules.specs.States.{State, Allowed, after, cleared, made}
use Rattle.rules.specs.Clauses.{Valuation, says, Meets, Satisfies, aye, nay}
use Rattle.rules.specs.Formula.{fact_var, step_var, comes, goes, slot_clauses}
use Rattle.rules.proofs.Tests.{any_in, in_any, any_none, is_false, has_in, in_has}
use Rattle.rules.proofs.Members.{counting_in, in_counting, any_kept, all-is}

-- clauses, literal by literal
imp : (a b : Bool) → ((not a || b) ≡ true) ↔ (a ≡ true → b ≡ true)
imp a b = (λ h e. grind arith, λ h. grind arith)

or_imp : (a b : Bool) → ((a || b) ≡ true) ↔ (a ≡ false → b ≡ true)
or_imp a b = (λ h e. grind arith, λ h. grind arith)

last : (a : Bool) → ((a || false) ≡ true) ↔ (a ≡ true)
last a = (λ h. grind arith, λ h. grind arith)

last_not : (a : Bool) → ((not a || false) ≡ true) ↔ (a ≡ false)
last_not a = (λ h. grind arith, λ h. grind arith)

pub says_nay : (w : Valuation) (v : ℕ) → 0 < v → says w (nay v) ≡ not (w v)
says_nay w zero h = absurd (omega arith)
says_nay w (suc v) h = refl

module _ (w : Valuation) (v : ℕ) where
  pub nay_first : (b : Bool) → 0 < v → ((says w (nay v) || b) ≡ true) ↔ (w v ≡ true → b ≡ true)
  nay_first b h = rw (says_nay w v h) (imp (w v) b)

  pub aye_first : (b : Bool) → ((w v || b) ≡ true) ↔ (w v ≡ false → b ≡ true)
  aye_first b = or_imp (w v) b

  pub aye_last : Meets w (aye v ∷ []) ↔ (w v ≡ true)
  aye_last = last (w v)

  pub nay_last : 0 < v → Meets w (nay v ∷ []) ↔ (w v ≡ false)
  nay_last h = rw (says_nay w v h) (last_not (w v))

-- what the clauses of a slot say: c is what is chosen, s the state before, e the state after
pub record Slotted (p : Problem) (rule : Rule) (c : ℕ → Bool) (s e : State) : Type 0 where
  pub finds : (a f : ℕ) → In a (steps_of p) → In f (p.needs a) → c a ≡ true → s f ≡ true
  pub makes : (a f : ℕ) → In a (steps_of p) → In f (p.sets a) → c a ≡ true → e f ≡ true
  pub unmakes : (a f : ℕ) → In a (steps_of p) → In f (p.clears a) → c a ≡ true → e f ≡ false
  pub comes : (f : ℕ) → In f (facts_of p) → s f ≡ false → e f ≡ true → (a : ℕ) × In a (steps_of p) × (has f (p.sets a) ≡ true) × (c a ≡ true)
  pub goes : (f : ℕ) → In f (facts_of p) → s f ≡ true → e f ≡ false → (a : ℕ) × In a (steps_of p) × (has f (p.clears a) ≡ true) × (c a ≡ true)
  pub apart : (a b : ℕ) → In a (steps_of p) → In b (range_with_len (a + 1) (p.steps - a)) → rule (step p a) (step p b) ≡ true → c a ≡ true → c b ≡ false

module _ (p : Problem) (sound : Sound p) (rule : Rule) (w : Valuation) (u : ℕ) where
  step_pos : (lo n a : ℕ) → 0 < lo → In a (range_with_len lo n) → 0 < step_var p u a
  step_pos lo n a h m = omega (arith, counting_in lo n a m)

  fact_pos : (t f : ℕ) → In f (facts_of p) → 0 < fact_var p t f
  fact_pos t f m = omega (arith, counting_in 1 p.facts f m)

  -- the six kinds of clauses, each with what it says
  need : (a f : ℕ) → In a (steps_of p) → Meets w (nay (step_var p u a) ∷ aye (fact_var p u f) ∷ []) ↔ (w (step_var p u a) ≡ true → w (fact_var p u f) ≡ true)
  need a f m = (λ h c. (aye_last w (fact_var p u f)).0 ((nay_first w (step_var p u a) _ (step_pos 1 _ a (omega arith) m)).0 h c), λ h. (nay_first w (step_var p u a) _ (step_pos 1 _ a (omega arith) m)).1 (λ c. (aye_last w (fact_var p u f)).1 (h c)))

  make : (a f : ℕ) → In a (steps_of p) → Meets w (nay (step_var p u a) ∷ aye (fact_var p (suc u) f) ∷ []) ↔ (w (step_var p u a) ≡ true → w (fact_var p (suc u) f) ≡ true)
  make a f m = (λ h c. (aye_last w (fact_var p (suc u) f)).0 ((nay_first w (step_var p u a) _ (step_pos 1 _ a (omega arith) m)).0 h c), λ h. (nay_first w (step_var p u a) _ (step_pos 1 _ a (omega arith) m)).1 (λ c. (aye_last w (fact_var p (suc u) f)).1 (h c)))

  unmake : (a f : ℕ) → In a (steps_of p) → In f (facts_of p) → Meets w (nay (step_var p u a) ∷ nay (fact_var p (suc u) f) ∷ []) ↔ (w (step_var p u a) ≡ true → w (fact_var p (suc u) f) ≡ false)
  unmake a f m n = (λ h c. (nay_last w (fact_var p (suc u) f) (fact_pos (suc u) f n)).0 ((nay_first w (step_var p u a) _ (step_pos 1 _ a (omega arith) m)).0 h c), λ h. (nay_first w (step_var p u a) _ (step_pos 1 _ a (omega arith) m)).1 (λ c. (nay_last w (fact_var p (suc u) f) (fact_pos (suc u) f n)).1 (h c)))

  come : (f : ℕ) → In f (facts_of p) → Meets w (comes p u f) ↔ (w (fact_var p u f) ≡ false → w (fact_var p (suc u) f) ≡ true → (a : ℕ) × In a (steps_of p) × (has f (p.sets a) ≡ true) × (w (step_var p u a) ≡ true))
  come f m =
      let some = any_kept (says w) (λ a. aye (step_var p u a)) (λ a. has f (p.sets a)) (steps_of p) in
      (λ h s e. some.0 ((nay_first w (fact_var p (suc u) f) _ (fact_pos (suc u) f m)).0 ((aye_first w (fact_var p u f) _).0 h s) e), λ h. (aye_first w (fact_var p u f) _).1 (λ s. (nay_first w (fact_var p (suc u) f) _ (fact_pos (suc u) f m)).1 (λ e. some.1 (h s e))))

  go : (f : ℕ) → In f (facts_of p) → Meets w (goes p u f) ↔ (w (fact_var p u f) ≡ true → w (fact_var p (suc u) f) ≡ false → (a : ℕ) × In a (steps_of p) × (has f (p.clears a) ≡ true) × (w (step_var p u a) ≡ true))
  go f m =
      let some = any_kept (says w) (λ a. aye (step_var p u a)) (λ a. has f (p.clears a)) (steps_of p) in
      (λ h s e. some.0 ((aye_first w (fact_var p (suc u) f) _).0 ((nay_first w (fact_var p u f) _ (fact_pos u f m)).0 h s) e), λ h. (nay_first w (fact_var p u f) _ (fact_pos u f m)).1 (λ s. (aye_first w (fact_var p (suc u) f) _).1 (λ e. some.1 (h s e))))

  part : (a b : ℕ) → In a (steps_of p) → In b (range_with_len (a + 1) (p.steps - a)) → Meets w (nay (step_var p u a) ∷ nay (step_var p u b) ∷ []) ↔ (w (step_var p u a) ≡ true → w (step_var p u b) ≡ false)
  part a b m n = (λ h c. (nay_last w (step_var p u b) (step_pos (a + 1) _ b (omega arith) n)).0 ((nay_first w (step_var p u a) _ (step_pos 1 _ a (omega arith) m)).0 h c), λ h. (nay_first w (step_var p u a) _ (step_pos 1 _ a (omega arith) m)).1 (λ c. (nay_last w (step_var p u b) (step_pos (a + 1) _ b (omega arith) n)).1 (h c)))

  pub clauses_say : Satisfies w (slot_clauses p rule u) → Slotted p rule (λ a. w (step_var p u a)) (λ f. w (fact_var p u f)) (λ f. w (fact_var p (suc u) f))
  clauses_say h =
      let k = simp all-is at h in
      record {
        finds = λ a f m n. (need a f m).0 (k.0 a m f (sound.needs_in a f n) (in_has f (p.needs a) n));
        makes = λ a f m n. (make a f m).0 (k.1.0 a m f (sound.sets_in a f n) (in_has f (p.sets a) n));
        unmakes = λ a f m n. (unmake a f m (sound.clears_in a f n)).0 (k.1.1.0 a m f (sound.clears_in a f n) (in_has f (p.clears a) n));
        comes = λ f m. (come f m).0 (k.1.1.1.0 f m).0;
        goes = λ f m. (go f m).0 (k.1.1.1.0 f m).1.0;
        apart = λ a b m n t. (part a b m n).0 (k.1.1.1.1 a m b n t);
      }

  pub say_clauses : Slotted p rule (λ a. w (step_var p u a)) (λ f. w (fact_var p u f)) (λ f. w (fact_var p (suc u) f)) → Satisfies w (slot_clauses p rule u)
  say_clauses h =
      simp all-is (
        λ a m f n t. (need a f m).1 (h.finds a f m (has_in f (p.needs a) t)),
        (
          λ a m f n t. (make a f m).1 (h.makes a f m (has_in f (p.sets a) t)),
          (
            λ a m f n t. (unmake a f m n).1 (h.unmakes a f m (has_in f (p.clears a) t)),
            (
              λ f m. ((come f m).1 (h.comes f m), ((go f m).1 (h.goes f m), tt)),
              λ a m b n t. (part a b m n).1 (h.apart a b m n t),
            ),
          ),
        ),
      )

-- s: before, e: after, x: some chosen step sets it, d: some chosen step clears it
ends : (s e x d : Bool) → (x ≡ true → e ≡ true) → (d ≡ true → e ≡ false) → (s ≡ false → e ≡ true → x ≡ true) → (s ≡ true → e ≡ false → d ≡ true) → e ≡ (s && not d || x)
ends s e x d f g h k = grind arith

set_true : (s d x : Bool) → x ≡ true → (s && not d || x) ≡ true
set_true s d x h = grind arith

cleared_false : (s d x : Bool) → d ≡ true → x ≡ false → (s && not d || x) ≡ false
cleared_false s d x h k = grind arith

came : (s d x : Bool) → s ≡ false → (s && not d || x) ≡ true → x ≡ true
came s d x h k = grind arith

went : (s d x : Bool) → s ≡ true → (s && not d || x) ≡ false → d ≡ true
went s d x h k = grind arith

module _ (p : Problem) (sound : Sound p) (rule : Rule) (law : Lawful rule) (c : ℕ → Bool) (xs : List ℕ) (is : (a : ℕ) → In a xs ↔ (In a (steps_of p) × (c a ≡ true))) (s e : State) where
  below : (a b : ℕ) → In b (steps_of p) → a < b → In b (range_with_len (a + 1) (p.steps - a))
  below a b m h = let k = counting_in 1 p.steps b m in in_counting (a + 1) (p.steps - a) b (omega arith) (omega arith)

  pub slotted_allowed : Slotted p rule c s e → Allowed p rule s xs
  slotted_allowed h =
      let clash : (a b : ℕ) → In a xs → In b xs → a < b → rule (step p a) (step p b) ≡ true → ⊥ = λ a b m n l t. true≢false (sym ((is b).0 n).1 ∙ h.apart a b ((is a).0 m).0 (below a b ((is b).0 n).0 l) t ((is a).0 m).1) in
      record {
        finds = λ a m f n. h.finds a f ((is a).0 m).0 n ((is a).0 m).1;
        apart = λ a b m n ne. is_false (rule (step p a) (step p b)) (λ t. ⊎_elim ne (λ (o : (a < b) ⊎ (b < a)). ⊎_elim (λ l. clash a b m n l t) (λ l. clash b a n m l (law.symmetric (step p b) (step p a) (λ i. ne (sym i)) ∙ t)) o) (cases_order a b));
      }

  pub slotted_after : Slotted p rule c s e → (f : ℕ) → In f (facts_of p) → e f ≡ after p s xs f
  slotted_after h f m =
      ends (s f) (e f) (made p xs f) (cleared p xs f)
      (λ t. let (a, n, k) = any_in (λ a. has f (p.sets a)) xs t in h.makes a f ((is a).0 n).0 (has_in f (p.sets a) k) ((is a).0 n).1)
      (λ t. let (a, n, k) = any_in (λ a. has f (p.clears a)) xs t in h.unmakes a f ((is a).0 n).0 (has_in f (p.clears a) k) ((is a).0 n).1)
      (λ t u. let (a, n, k, l) = h.comes f m t u in in_any (λ a. has f (p.sets a)) xs a ((is a).1 (n, l)) k)
      (λ t u. let (a, n, k, l) = h.goes f m t u in in_any (λ a. has f (p.clears a)) xs a ((is a).1 (n, l)) k)

  pub allowed_slotted : Allowed p rule s xs → ((f : ℕ) → In f (facts_of p) → e f ≡ after p s xs f) → Slotted p rule c s e
  allowed_slotted h k =
      let unset : (a f : ℕ) → In a xs → In f (p.clears a) → made p xs f ≡ false = λ a f m t. any_none (λ a. has f (p.sets a)) xs (λ b n x. let ne : a ≡ b → ⊥ = λ i. sound.never_both a f (subst (λ z. In f (p.sets z)) (sym i) (has_in f (p.sets b) x)) t in true≢false (sym (law.parts (step p a) (step p b) f ne t (inr (has_in f (p.sets b) x))) ∙ h.apart a b m n ne)) in
      record {
        finds = λ a f m n l. h.finds a ((is a).1 (m, l)) f n;
        makes = λ a f m n l. k f (sound.sets_in a f n) ∙ set_true (s f) (cleared p xs f) (made p xs f) (in_any (λ a. has f (p.sets a)) xs a ((is a).1 (m, l)) (in_has f (p.sets a) n));
        unmakes = λ a f m n l. k f (sound.clears_in a f n) ∙ cleared_false (s f) (cleared p xs f) (made p xs f) (in_any (λ a. has f (p.clears a)) xs a ((is a).1 (m, l)) (in_has f (p.clears a) n)) (unset a f ((is a).1 (m, l)) n);
        comes = λ f m t u. let (a, n, i) = any_in (λ a. has f (p.sets a)) xs (came (s f) (cleared p xs f) (made p xs f) t (sym (k f m) ∙ u)) in (a, ((is a).0 n).0, i, ((is a).0 n).1);
        goes = λ f m t u. let (a, n, i) = any_in (λ a. has f (p.clears a)) xs (went (s f) (cleared p xs f) (made p xs f) t (sym (k f m) ∙ u)) in (a, ((is a).0 n).0, i, ((is a).0 n).1);
        apart = λ a b m n t l. is_false (c b) (λ l'. let r = counting_in (a + 1) (p.steps - a) b n in let r' = counting_in 1 p.steps a m in true≢false (sym t ∙ h.apart a b ((is a).1 (m, l)) ((is b).1 (in_counting 1 p.steps b (omega arith) (omega arith), l')) (omega arith)));
      }
