-- The formula's models are the models of the sheets that hold.
use Rattle.std.proofs.Common.{◌≡◌, ℕ, zero, suc, ◌<◌, ◌≤◌, Bool, true, false, cond, not, ◌&&◌, ◌||◌, ◌↔◌, List, [], ◌∷◌, sym, ap, ◌∙◌, arith}
use Rattle.std.specs.List.{range_with_len}
use Rattle.std.proofs.lemmas.List.FromFn.{length-map-range_with_len}
use Rattle.rules.specs.Lists.{In, each}
use Rattle.rules.specs.declared.line.Line.{Line}
use Rattle.rules.specs.Steps.{Rule, Lawful}
use Rattle.rules.specs.Problems.{Problem, Sound, facts_of, steps_of}
use Rattle.rules.specs.States.{State, Allowed, cleared, made, start_state}
use Rattle.rules.specs.Clauses.{Model, Valuation, value, Meets, Satisfies, aye, nay}
use Rattle.rules.specs.Formula.{fact_var, step_var, vars, start_clauses, slot_clauses, formula}
use Rattle.rules.specs.Sheets.{Sheet, Holds, slot, state, chosen, valued, model, sheet_of}
use Rattle.rules.specs.Laws.{FormulaMeansSheets}
use Rattle.rules.proofs.Tests.{same, has_in, in_has}
use Rattle.rules.proofs.Members.{counting_in, in_counting, all_append_is, all_each_is, all_only_is}
use Rattle.rules.proofs.Slots.{Slotted, aye_last, nay_last, clauses_say, say_clauses, slotted_allowed, slotted_after, allowed_slotted}
use Rattle.rules.proofs.Lines.{slot_in, chosen_in, in_chosen, facts_read, steps_read, one_each}
use Rattle.rules.proofs.Decoding.{agree, is_sheet, sheet_slot}

-- a start clause
start_says : (w : Valuation) (b : Bool) (v : ℕ) → 0 < v → Meets w (cond b (aye v) (nay v) ∷ []) ↔ (w v ≡ b)
start_says w true v h = aye_last w v
start_says w false v h = nay_last w v h

-- what the formula says
pub record Said (p : Problem) (rule : Rule) (horizon : ℕ) (w : Valuation) : Type 0 where
  pub start : (f : ℕ) → In f (facts_of p) → w (fact_var p 0 f) ≡ start_state p f
  pub slots : (u : ℕ) → u < horizon → Slotted p rule (λ a. w (step_var p u a)) (λ f. w (fact_var p u f)) (λ f. w (fact_var p (suc u) f))
  pub goals : (f : ℕ) → In f p.goals → w (fact_var p horizon f) ≡ true

module _ (p : Problem) (sound : Sound p) (rule : Rule) (horizon : ℕ) (w : Valuation) where
  fact_pos : (t f : ℕ) → In f (facts_of p) → 0 < fact_var p t f
  fact_pos t f m = omega (arith, counting_in 1 p.facts f m)

  pub formula_says : Satisfies w (formula p rule horizon) → Said p rule horizon w
  formula_says h =
      let k = simp (all_append_is (Meets w) (start_clauses p), all_append_is (Meets w) (each (slot_clauses p rule) (range_with_len 0 horizon)), all_each_is {Z = ℕ} (Meets w), all_only_is (Meets w)) at h in
      record {
        start = λ f m. (start_says w (start_state p f) (fact_var p 0 f) (fact_pos 0 f m)).0 (k.0 f m).0;
        slots = λ u l. clauses_say p sound rule w u (k.1.0 u (in_counting 0 horizon u (omega arith) (omega arith)));
        goals = λ f m. (aye_last w (fact_var p horizon f)).0 (k.1.1 f (sound.goals_in f m) (in_has f p.goals m));
      }

  pub says_formula : Said p rule horizon w → Satisfies w (formula p rule horizon)
  says_formula h =
      simp (all_append_is (Meets w) (start_clauses p), all_append_is (Meets w) (each (slot_clauses p rule) (range_with_len 0 horizon)), all_each_is {Z = ℕ} (Meets w), all_only_is (Meets w)) (
        λ f m. ((start_says w (start_state p f) (fact_var p 0 f) (fact_pos 0 f m)).1 (h.start f m), tt),
        (
          λ u m. let r = counting_in 0 horizon u m in say_clauses p sound rule w u (h.slots u (omega arith)),
          λ f m t. (aye_last w (fact_var p horizon f)).1 (h.goals f (has_in f p.goals t)),
        ),
      )

-- states that agree on the facts allow the same slots
moved : (p : Problem) → Sound p → (rule : Rule) (s t : State) (xs : List ℕ) → ((f : ℕ) → In f (facts_of p) → s f ≡ t f) → Allowed p rule s xs → Allowed p rule t xs
moved p sound rule s t xs e h = record { finds = λ a m f n. sym (e f (sound.needs_in a f n)) ∙ h.finds a m f n; apart = h.apart }

module _ (p : Problem) (sound : Sound p) (rule : Rule) (law : Lawful rule) (horizon : ℕ) where
  -- the facts that a valuation of the formula makes true are those of the states of its sheet
  track : (w : Valuation) → Said p rule horizon w → (t : ℕ) → t ≤ horizon → (f : ℕ) → In f (facts_of p) → w (fact_var p t f) ≡ state p (sheet_of p horizon w) t f
  track w said zero h f m = said.start f m
  track w said (suc t) h f m =
      let xs : List ℕ = slot (sheet_of p horizon w) (suc t) in
      slotted_after p sound rule law (λ a. w (step_var p t a)) xs (sheet_slot p w horizon t h) (λ f. w (fact_var p t f)) (λ f. w (fact_var p (suc t) f)) (said.slots t h) f m
      ∙ ap (λ b. b && not (cleared p xs f) || made p xs f) (track w said t (omega arith) f m)

  decodes : (vs : List Bool) → Model (vars p horizon) (formula p rule horizon) vs → Sheet p horizon (sheet_of p horizon (value vs)) × Holds p rule horizon (sheet_of p horizon (value vs)) × (model p horizon (sheet_of p horizon (value vs)) ≡ vs)
  decodes vs is_model =
      let w : Valuation = value vs in
      let lines : List Line = sheet_of p horizon w in
      let said = formula_says p sound rule horizon w is_model.meets in
      let is = λ (u : ℕ) (h : u < horizon). sheet_slot p w horizon u h in
      let states : (t : ℕ) → t ≤ horizon → (f : ℕ) → In f (facts_of p) → w (fact_var p t f) ≡ state p lines t f = track w said in
      let holds : Holds p rule horizon lines = record {
        allowed = λ u h. moved p sound rule (λ f. w (fact_var p u f)) (state p lines u) (slot lines (suc u)) (states u (omega arith)) (slotted_allowed p sound rule law (λ a. w (step_var p u a)) (slot lines (suc u)) (is u h) (λ f. w (fact_var p u f)) (λ f. w (fact_var p (suc u) f)) (said.slots u h));
        reached = λ f g. sym (states horizon (omega arith) f (sound.goals_in f g)) ∙ said.goals f g;
      } in
      let steps : (u a : ℕ) → u < horizon → In a (steps_of p) → value (model p horizon lines) (step_var p u a) ≡ w (step_var p u a) = λ u a h m. steps_read p horizon lines u a h m ∙ same (chosen lines (suc u) a) (w (step_var p u a)) (λ e. ((is u h a).0 (chosen_in lines (suc u) a e)).1) (λ e. in_chosen lines (suc u) a ((is u h a).1 (m, e))) in
      (is_sheet p w horizon, holds, agree p horizon (model p horizon lines) vs (length-map-range_with_len (valued p lines) 0 (vars p horizon)) is_model.long (λ t f h m. facts_read p horizon lines t f h m ∙ sym (states t h f m)) steps)

  encodes : (lines : List Line) → Sheet p horizon lines → Holds p rule horizon lines → Model (vars p horizon) (formula p rule horizon) (model p horizon lines)
  encodes lines sheet holds =
      let w : Valuation = value (model p horizon lines) in
      let facts = facts_read p horizon lines in
      let steps = steps_read p horizon lines in
      let is : (u : ℕ) → u < horizon → (a : ℕ) → In a (slot lines (suc u)) ↔ (In a (steps_of p) × (w (step_var p u a) ≡ true)) = λ u h a. (
        λ m. let n = sheet.steps_in (record { slot = suc u; step = a }) (slot_in lines (suc u) a m) in (n, steps u a h n ∙ in_chosen lines (suc u) a m),
        λ r. chosen_in lines (suc u) a (sym (steps u a h r.0) ∙ r.1),
      ) in
      let said : Said p rule horizon w = record {
        start = λ f m. facts 0 f (omega arith) m;
        slots = λ u h. allowed_slotted p sound rule law (λ a. w (step_var p u a)) (slot lines (suc u)) (is u h) (λ f. w (fact_var p u f)) (λ f. w (fact_var p (suc u) f))
            (moved p sound rule (state p lines u) (λ f. w (fact_var p u f)) (slot lines (suc u)) (λ f m. sym (facts u f (omega arith) m)) (holds.allowed u h))
            (λ f m. facts (suc u) f h m ∙ ap (λ b. b && not (cleared p (slot lines (suc u)) f) || made p (slot lines (suc u)) f) (sym (facts u f (omega arith) m)));
        goals = λ f g. facts horizon f (omega arith) (sound.goals_in f g) ∙ holds.reached f g;
      } in
      record { long = length-map-range_with_len (valued p lines) 0 (vars p horizon); meets = says_formula p sound rule horizon w said }

pub formula_means_sheets_lem : FormulaMeansSheets
formula_means_sheets_lem p sound rule law horizon = record {
  encodes = encodes p sound rule law horizon;
  decodes = decodes p sound rule law horizon;
  one_each = one_each p horizon;
  facts_read = facts_read p horizon;
  steps_read = steps_read p horizon;
}
