-- One line more in the arrays of what stands in each slot.
use Rattle.std.proofs.Common.{◌≡◌, ℕ, zero, suc, ◌+◌, ◌-◌, ◌*◌, ◌<◌, ◌≤◌, Bool, true, false, ◌&&◌, ◌||◌, eqb, List, [], ◌∷◌, ◌++◌, length, get_or, set, replicate, sym, refl, ap, ◌∙◌, subst, ⊎_elim, arith}
use Rattle.std.proofs.lemmas.List.{length-set, length-replicate, get_or-set_same, get_or-set_other, get_or-replicate}
use Rattle.std.proofs.lemmas.Bool.{cases_eq, eq-eqb, ne_eqb, and_from, and_left, and_right, or_right}
use Rattle.rules.specs.declared.line.Line.{Line}
use Rattle.rules.specs.Lists.{any, has, only}
use Rattle.rules.specs.Problems.{Problem}
use Rattle.rules.specs.Sheets.{slot, chosen}
use Rattle.steps.specs.declared.fact_set.FactSet.{FactSet}
use Rattle.steps.specs.Sets.{facts_in}
use Rattle.assigning.specs.declared.gathering.SlotChange.{SlotChange}
use Rattle.assigning.specs.Slots.{no_change, Marks, Changes}

or_false : (a b : Bool) → b ≡ false → (a || b) ≡ a
or_false true b e = refl
or_false false b e = e

module _ (q : ℕ → Bool) where
  one_more : (b : Bool) (x : ℕ) → any q (only b x ++ []) ≡ (b && q x)
  one_more true x = or_false (q x) false refl
  one_more false x = refl

  one_first : (b : Bool) (x : ℕ) (ys zs : List ℕ) (c : Bool) → any q zs ≡ (any q ys || c) → any q (only b x ++ zs) ≡ (any q (only b x ++ ys) || c)
  one_first false x ys zs c e = e
  one_first true x ys zs c e = ap (λ (t : Bool). q x || t) e ∙ sym (or_assoc (q x) (any q ys) c)
    where
      or_assoc : (a b c : Bool) → ((a || b) || c) ≡ (a || (b || c))
      or_assoc true b c = refl
      or_assoc false b c = refl

  -- the test over a slot's steps, with one line more
  pub slot_push : (ls : List Line) (l : Line) (t : ℕ) → any q (slot (ls ++ l ∷ []) t) ≡ (any q (slot ls t) || (eqb l.slot t && q l.step))
  slot_push [] l t = one_more (eqb l.slot t) l.step
  slot_push (m ∷ ls) l t = one_first (eqb m.slot t) m.step (slot ls t) (slot (ls ++ l ∷ []) t) _ (slot_push ls l t)

get_or_same : {X : Type 0} (n i : ℕ) (x : X) → get_or (replicate n x) i x ≡ x
get_or_same zero i x = refl
get_or_same (suc n) zero x = refl
get_or_same (suc n) (suc i) x = get_or_same n i x

pub marks_none : Marks [] (replicate 4096 false)
marks_none = record { long = length-replicate 4096 false; marked = λ u a h k l. get_or_same 4096 (128 * u + (a - 1)) false }

pub marks_more : (ls : List Line) (l : Line) (marks : List Bool) (k : ℕ) → k ≡ 128 * (l.slot - 1) + (l.step - 1) → 1 ≤ l.slot → l.slot ≤ 32 → 1 ≤ l.step → l.step ≤ 128 → Marks ls marks → Marks (ls ++ l ∷ []) (set marks k true)
marks_more ls l marks k e lo hi lo' hi' h = record {
  long = length-set marks k true ∙ h.long;
  marked = λ u a hu ha ha'.
      ⊎_elim
      (λ (i : 128 * u + (a - 1) ≡ k).
      let s : l.slot ≡ suc u = omega arith in
      let b : a ≡ l.step = omega arith in
      let within : k < length marks = omega (arith, h.long) in
      subst (λ j. get_or (set marks k true) j false ≡ chosen (ls ++ l ∷ []) (suc u) a) (sym i)
      (get_or-set_same marks k true false within ∙ sym (slot_push (eqb a) ls l (suc u) ∙ or_right _ _ (and_from _ _ (eq-eqb l.slot (suc u) s) (eq-eqb a l.step b)))))
      (λ (ne : 128 * u + (a - 1) ≡ k → ⊥).
      let none : (eqb l.slot (suc u) && eqb a l.step) ≡ false =
      ⊎_elim
      (λ (s : l.slot ≡ suc u). and_right _ _ (ne_eqb a l.step (λ b. ne (omega arith))))
      (λ (s : l.slot ≡ suc u → ⊥). and_left _ _ (ne_eqb l.slot (suc u) s))
      (cases_eq l.slot (suc u)) in
      get_or-set_other marks k (128 * u + (a - 1)) true false ne ∙ h.marked u a hu ha ha' ∙ sym (slot_push (eqb a) ls l (suc u) ∙ or_false _ _ none))
      (cases_eq (128 * u + (a - 1)) k);
}

-- all of one kind that the slots change, as in Changes
abbrev pub Joins : (SlotChange → FactSet) → (ℕ → List ℕ) → List Line → List SlotChange → Type 0
Joins of of_step lines changes = (u f : ℕ) → u < 32 → has f (facts_in (of (get_or changes u no_change))) ≡ any (λ a. has f (of_step a)) (slot lines (suc u))

module _ (of : SlotChange → FactSet) (of_step : ℕ → List ℕ) where
  joins_none : (none : SlotChange) → facts_in (of none) ≡ [] → Joins of of_step [] (replicate 32 none)
  joins_none none e u f h = ap (has f) (ap (λ (s : SlotChange). facts_in (of s)) (get_or-replicate 32 u none no_change h) ∙ e)

  joins_more : (ls : List Line) (l : Line) (changes : List SlotChange) (joint : SlotChange) → 1 ≤ l.slot → l.slot ≤ 32 → length changes ≡ 32 → ((f : ℕ) → has f (facts_in (of joint)) ≡ (has f (facts_in (of (get_or changes (l.slot - 1) no_change))) || has f (of_step l.step))) → Joins of of_step ls changes → Joins of of_step (ls ++ l ∷ []) (set changes (l.slot - 1) joint)
  joins_more ls l changes joint lo hi long both h u f hu =
      let k = l.slot - 1 in
      let q = λ (a : ℕ). has f (of_step a) in
      ⊎_elim
      (λ (i : u ≡ k).
      let s : l.slot ≡ suc u = omega (arith, i) in
      let within : k < length changes = omega (arith, long) in
      let here = ap (λ (t : Bool). t && q l.step) (eq-eqb l.slot (suc u) s) in
      subst (λ j. has f (facts_in (of (get_or (set changes k joint) j no_change))) ≡ any q (slot (ls ++ l ∷ []) (suc u))) (sym i)
      (ap (λ (x : SlotChange). has f (facts_in (of x))) (get_or-set_same changes k joint no_change within) ∙ both f ∙ ap (λ (t : Bool). t || q l.step) (ap (λ j. has f (facts_in (of (get_or changes j no_change)))) (sym i) ∙ h u f hu) ∙ sym (slot_push q ls l (suc u) ∙ ap (λ (t : Bool). any q (slot ls (suc u)) || t) here)))
      (λ (ne : u ≡ k → ⊥).
      let none : (eqb l.slot (suc u) && q l.step) ≡ false = and_left _ _ (ne_eqb l.slot (suc u) (λ s. ne (omega (arith, s)))) in
      ap (λ (x : SlotChange). has f (facts_in (of x))) (get_or-set_other changes k u joint no_change ne) ∙ h u f hu ∙ sym (slot_push q ls l (suc u) ∙ or_false _ _ none))
      (cases_eq u k)

no_facts : (s : FactSet) → s.bits ≡ 0 → facts_in s ≡ []
unfolding facts_in
no_facts s e = ap (λ b. facts_in (record { bits = b })) e

module _ (p : Problem) where
  pub changes_none : (none : SlotChange) → none.clears.bits ≡ 0 → none.sets.bits ≡ 0 → Changes p [] (replicate 32 none)
  changes_none none c s = record {
    long = length-replicate 32 none;
    clears = joins_none (λ x. x.clears) p.clears none (no_facts none.clears c);
    sets = joins_none (λ x. x.sets) p.sets none (no_facts none.sets s);
  }

  pub changes_more : (ls : List Line) (l : Line) (changes : List SlotChange) (joint : SlotChange) → 1 ≤ l.slot → l.slot ≤ 32
      → ((f : ℕ) → has f (facts_in joint.clears) ≡ (has f (facts_in (get_or changes (l.slot - 1) no_change).clears) || has f (p.clears l.step)))
      → ((f : ℕ) → has f (facts_in joint.sets) ≡ (has f (facts_in (get_or changes (l.slot - 1) no_change).sets) || has f (p.sets l.step)))
      → Changes p ls changes → Changes p (ls ++ l ∷ []) (set changes (l.slot - 1) joint)
  changes_more ls l changes joint lo hi c s h = record {
    long = length-set changes (l.slot - 1) joint ∙ h.long;
    clears = joins_more (λ x. x.clears) p.clears ls l changes joint lo hi h.long c h.clears;
    sets = joins_more (λ x. x.sets) p.sets ls l changes joint lo hi h.long s h.sets;
  }
