-- Sums of weights over the lists that the formula is made of, what a tally comes to, and how much a slot can weigh.
use Rattle.std.proofs.Common.{◌≡◌, ℕ, zero, suc, ◌+◌, ◌-◌, ◌*◌, ◌^◌, ◌<◌, ◌≤◌, Bool, true, false, cond, List, [], ◌∷◌, ◌++◌, map, length, ℤ, Ok, Err, filter, Result, sym, refl, ap, ◌∙◌, subst, inl, inr, suc-mul, mul-le-mul_left, mul-suc, arith}
use Rattle.std.specs.List.{range_with_len}
use Rattle.std.specs.declared.convert.Infallible.{Infallible}
use Rattle.std.proofs.lemmas.List.FromFn.{length-range_with_len}
use Rattle.std.proofs.lemmas.List.{length-map}
use Rattle.rules.specs.Lists.{has, each, only}
use Rattle.rules.specs.Steps.{Rule}
use Rattle.rules.specs.Problems.{Problem, step, facts_of, steps_of}
use Rattle.rules.specs.Clauses.{Clause, aye, nay, total, literals}
use Rattle.rules.specs.Formula.{step_var, fact_var, start_cell, start_clauses, needs_cell, needs_clauses, sets_cell, sets_clauses, clears_cell, clears_clauses, comes, goes, frame_cell, frame_clauses, parted_cell, parted_clauses, slot_clauses, goal_cell, goal_clauses, formula}
use Rattle.formula.specs.declared.tally.Tally.{Tally}
use Rattle.std.specs.Fn.{Shared}
use denote.Ref.{Bor, MutBor}
use Rattle.formula.specs.Visits.{Shown, Visits, Stops}
use Rattle.formula.proofs.Visiting.{visits_map}
use Rattle.formula.specs.Sizes.{Counted}

-- what never stops does not stop
pub no_stop : (r : Result Unit Infallible) → Stops r → ⊥
no_stop (Ok u) s = s
no_stop (Err e) s = elim e [ ]

-- a tally after a visit
pub tallied : (cs : List Clause) (a b : Tally) (r : Result Unit Infallible) → Visits (λ a c r b. Counted a c b) a cs r b → a.clauses + length cs < 2 ^ 64 → a.literals + literals cs < 2 ^ 64 → (b.clauses ≡ a.clauses + length cs) × (b.literals ≡ a.literals + literals cs)
tallied [] a b r h k l = let e : a ≡ b = h.1 in (omega (arith, ap (λ (t : Tally). t.clauses) e), omega (arith, ap (λ (t : Tally). t.literals) e))
tallied (c ∷ cs) a b r (inl h) k l =
    let p : h.0.clauses ≡ a.clauses + 1 = h.1.one (omega arith) in
    let q : h.0.literals ≡ a.literals + length c = h.1.some (omega arith) in
    let i = tallied cs h.0 b r h.2 (omega arith) (omega arith) in
    (omega (arith, i.0), omega (arith, i.1))
tallied (c ∷ cs) a b r (inr h) k l = absurd (no_stop r h.0)

-- the same, where each call of a closure counts the clause that it is shown
pub tallied_by : {F : Type 0} (calls : Shared F (MutBor Tally × (Bor (List ℤ) × Unit {0})) (Result Unit Infallible × (MutBor Tally × Unit {0}))) (f : F) → ((a b : MutBor Tally) (c : Bor (List ℤ)) (r : Result Unit Infallible) → calls.post f (a, (c, tt)) (r, (b, tt)) → Counted a.now c.now b.now) → (cs : List Clause) (a b : Tally) (r : Result Unit Infallible) → Visits (Shown calls f) a cs r b → a.clauses + length cs < 2 ^ 64 → a.literals + literals cs < 2 ^ 64 → (b.clauses ≡ a.clauses + length cs) × (b.literals ≡ a.literals + literals cs)
tallied_by calls f counts cs a b r v =
    let one : (x : Tally) (c : Clause) (s : Result Unit Infallible) (y : Tally) → Shown calls f x c s y → Counted x c y = λ x c s y h.
    subst (λ z. Counted z c y) h.lends (subst (λ z. Counted h.lent.now z y) h.shows (subst (λ z. Counted h.lent.now h.clause.now z) h.leaves (counts h.lent h.left h.clause s h.answers))) in
    tallied cs a b r (visits_map {one = Shown calls f} {two = λ x c s y. Counted x c y} one cs a b r v)

pub length_total : (cs : List Clause) → length cs ≡ total (λ _. 1) cs
length_total [] = refl
length_total (c ∷ cs) = omega (arith, length_total cs)

module _ (w : Clause → ℕ) where
  pub total_append : (xs ys : List Clause) → total w (xs ++ ys) ≡ total w xs + total w ys
  total_append [] ys = omega arith
  total_append (x ∷ xs) ys = omega (arith, total_append xs ys)

  -- as much from each
  pub total_same : (g h : ℕ → List Clause) (js : List ℕ) → ((j : ℕ) → total w (g j) ≡ total w (h j)) → total w (each g js) ≡ total w (each h js)
  total_same g h [] e = refl
  total_same g h (j ∷ js) e = omega (arith, total_append (g j) (each g js), total_append (h j) (each h js), e j, total_same g h js e)

  pub total_times : (g : ℕ → List Clause) (k a n : ℕ) → ((j : ℕ) → total w (g j) ≡ k) → total w (each g (range_with_len a n)) ≡ n * k
  total_times g k a zero e = omega arith
  total_times g k a (suc n) e = omega (arith, total_append (g a) (each g (range_with_len (a + 1) n)), e a, total_times g k (a + 1) n e, suc-mul n k)

  total_each : (g : ℕ → List Clause) (k : ℕ) (js : List ℕ) → ((j : ℕ) → total w (g j) ≤ k) → total w (each g js) ≤ k * length js
  total_each g k [] h = omega arith
  total_each g k (j ∷ js) h = omega (arith, total_append (g j) (each g js), h j, total_each g k js h, mul-suc k (length js))

  total_only : (b : Bool) (c : Clause) (k : ℕ) → w c ≤ k → total w (only b c) ≤ k
  total_only true c k h = omega arith
  total_only false c k h = omega arith

  total_counting : (g : ℕ → List Clause) (k a n m : ℕ) → ((j : ℕ) → total w (g j) ≤ k) → n ≤ m → total w (each g (range_with_len a n)) ≤ k * m
  total_counting g k a n m h l =
      let z : k * length (range_with_len a n) ≤ k * m = mul-le-mul_left k (omega (arith, length-range_with_len a n)) in
      omega (arith, total_each g k (range_with_len a n) h)

  -- a weight that is at most 2 for short clauses and 130 for the others
  module _ (p : Problem) (facts : p.facts ≤ 64) (steps : p.steps ≤ 128) (rule : Rule) (first : (c : Clause) → length c ≤ 2 → w c ≤ 2) (any : (c : Clause) → length c ≤ 130 → w c ≤ 130) where
    few_cells : (cell : ℕ → ℕ → List Clause) → ((a f : ℕ) → total w (cell a f) ≤ 2) → total w (each (λ a. each (cell a) (facts_of p)) (steps_of p)) ≤ 16384
    few_cells cell h = total_counting (λ a. each (cell a) (facts_of p)) 128 1 p.steps 128 (λ a. total_counting (cell a) 2 1 p.facts 64 (h a) facts) steps

    few_kept : (t : ℕ → Bool) (js : List ℕ) → length (filter t js) ≤ length js
    few_kept t [] = omega arith
    few_kept t (j ∷ js) = let h = few_kept t js in elim (t j) as (λ (b : Bool). length (cond b (j ∷ filter t js) (filter t js)) ≤ length (j ∷ js)) [ true ↦ omega arith | false ↦ omega arith ]

    few_doers : (u : ℕ) (t : ℕ → Bool) → length (map (λ a. aye (step_var p u a)) (filter t (steps_of p))) ≤ 128
    few_doers u t = omega (arith, length-map (filter t (steps_of p)) (λ a. aye (step_var p u a)), few_kept t (steps_of p), length-range_with_len 1 p.steps, steps)

    pub few_slot : (u : ℕ) → total w (slot_clauses p rule u) ≤ 98560
    few_slot u =
        let n = needs_clauses p u in
        let s = sets_clauses p u in
        let c = clears_clauses p u in
        let f = frame_clauses p u in
        let d = parted_clauses p rule u in
        let hn : total w n ≤ 16384 = few_cells (needs_cell p u) (λ a g. total_only (has g (p.needs a)) _ 2 (first _ (omega arith))) in
        let hs : total w s ≤ 16384 = few_cells (sets_cell p u) (λ a g. total_only (has g (p.sets a)) _ 2 (first _ (omega arith))) in
        let hc : total w c ≤ 16384 = few_cells (clears_cell p u) (λ a g. total_only (has g (p.clears a)) _ 2 (first _ (omega arith))) in
        let hf : total w f ≤ 16640 = total_counting (frame_cell p u) 260 1 p.facts 64 (λ g. omega (arith, any (comes p u g) (omega (arith, few_doers u (λ a. has g (p.sets a)))), any (goes p u g) (omega (arith, few_doers u (λ a. has g (p.clears a)))))) facts in
        let hd : total w d ≤ 32768 = total_counting (λ a. each (parted_cell p rule u a) (range_with_len (a + 1) (p.steps - a))) 256 1 p.steps 128 (λ a. total_counting (parted_cell p rule u a) 2 (a + 1) (p.steps - a) 128 (λ b. total_only (rule (step p a) (step p b)) _ 2 (first _ (omega arith))) (omega (arith, steps))) steps in
        omega (arith, hn, hs, hc, hf, hd, total_append n (s ++ (c ++ (f ++ d))), total_append s (c ++ (f ++ d)), total_append c (f ++ d), total_append f d)

    pub few_starts : total w (start_clauses p) ≤ 128
    few_starts = total_counting (start_cell p) 2 1 p.facts 64 (λ f. omega (arith, first (cond (has f p.start) (aye (fact_var p 0 f)) (nay (fact_var p 0 f)) ∷ []) (omega arith))) facts

    pub few_goals : (h : ℕ) → total w (goal_clauses p h) ≤ 128
    few_goals h = total_counting (goal_cell p h) 2 1 p.facts 64 (λ f. total_only (has f p.goals) _ 2 (first _ (omega arith))) facts

-- a weight by length alone is the same in every slot
module _ (weigh : ℕ → ℕ) (p : Problem) (rule : Rule) where
  only_same : (b : Bool) (c d : Clause) → length c ≡ length d → total (λ c. weigh (length c)) (only b c) ≡ total (λ c. weigh (length c)) (only b d)
  only_same true c d e = ap (λ n. weigh n + 0) e
  only_same false c d e = refl

  doers_same : (t : ℕ → Bool) (u : ℕ) → length (map (λ a. aye (step_var p u a)) (filter t (steps_of p))) ≡ length (map (λ a. aye (step_var p 0 a)) (filter t (steps_of p)))
  doers_same t u = length-map (filter t (steps_of p)) (λ a. aye (step_var p u a)) ∙ sym (length-map (filter t (steps_of p)) (λ a. aye (step_var p 0 a)))

  pub slot_same : (u : ℕ) → total (λ c. weigh (length c)) (slot_clauses p rule u) ≡ total (λ c. weigh (length c)) (slot_clauses p rule 0)
  slot_same u =
      let W : Clause → ℕ = λ c. weigh (length c) in
      let n = needs_clauses p in
      let s = sets_clauses p in
      let c = clears_clauses p in
      let f = frame_clauses p in
      let d = parted_clauses p rule in
      let hn : total W (n u) ≡ total W (n 0) = total_same W _ _ (steps_of p) (λ a. total_same W _ _ (facts_of p) (λ g. only_same (has g (p.needs a)) _ _ refl)) in
      let hs : total W (s u) ≡ total W (s 0) = total_same W _ _ (steps_of p) (λ a. total_same W _ _ (facts_of p) (λ g. only_same (has g (p.sets a)) _ _ refl)) in
      let hc : total W (c u) ≡ total W (c 0) = total_same W _ _ (steps_of p) (λ a. total_same W _ _ (facts_of p) (λ g. only_same (has g (p.clears a)) _ _ refl)) in
      let hf : total W (f u) ≡ total W (f 0) = total_same W (frame_cell p u) (frame_cell p 0) (facts_of p) (λ g.
      ap (λ x. weigh (suc (suc x)) + total W (goes p u g ∷ [])) (doers_same (λ a. has g (p.sets a)) u) ∙ ap (λ x. W (comes p 0 g) + (weigh (suc (suc x)) + 0)) (doers_same (λ a. has g (p.clears a)) u)) in
      let hd : total W (d u) ≡ total W (d 0) = total_same W _ _ (steps_of p) (λ a. total_same W _ _ (range_with_len (a + 1) (p.steps - a)) (λ b. only_same (rule (step p a) (step p b)) _ _ refl)) in
      omega (
        arith,
        hn,
        hs,
        hc,
        hf,
        hd,
        total_append W (n u) (s u ++ (c u ++ (f u ++ d u))),
        total_append W (s u) (c u ++ (f u ++ d u)),
        total_append W (c u) (f u ++ d u),
        total_append W (f u) (d u),
        total_append W (n 0) (s 0 ++ (c 0 ++ (f 0 ++ d 0))),
        total_append W (s 0) (c 0 ++ (f 0 ++ d 0)),
        total_append W (c 0) (f 0 ++ d 0),
        total_append W (f 0) (d 0),
      )

  pub formula_total : (t : ℕ) → total (λ c. weigh (length c)) (formula p rule t) ≡ total (λ c. weigh (length c)) (start_clauses p) + (t * total (λ c. weigh (length c)) (slot_clauses p rule 0) + total (λ c. weigh (length c)) (goal_clauses p t))
  formula_total t =
      let W : Clause → ℕ = λ c. weigh (length c) in
      let slots = each (slot_clauses p rule) (range_with_len 0 t) in
      omega (arith, total_append W (start_clauses p) (slots ++ goal_clauses p t), total_append W slots (goal_clauses p t), total_times W (slot_clauses p rule) (total W (slot_clauses p rule 0)) 0 t slot_same)
