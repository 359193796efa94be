-- Each way out of a call: what refuses it, or all that it is granted on, gives its answer and what it leaves.
use Rattle.std.proofs.Common.{ℕ, ◌≤◌, List, [], length, Ok, Err, refl, inl, inr}
use Rattle.rules.specs.declared.refusal.Refusal.TheVariants.{NoSpace, NotAsNoted, BadLemma, NotShown, CutTooLong}
use Rattle.rules.specs.Clauses.{Clause}
use Rattle.rules.specs.Propagation.{Shown, IsNotShown}
use Rattle.rules.proofs.Outcomes.{outcome_unique_lem}
use Rattle.runs.specs.Memory.{Memory}
use Rattle.runs.specs.Calls.{Refutation, known, IsShown, cleared, CanBegin, AsNoted, Proper, RoomFor, more_by, cut_to, BeginCall, LemmaCall, CutCall, ConcludeCall}

never_shown : (cs : List Clause) (c : Clause) (n : ℕ) → IsNotShown cs c n → IsShown cs c → ⊥
never_shown cs c n h (m, s) = (outcome_unique_lem cs c).never_both m n s h

module _ (cs : List Clause) (vars : ℕ) (marks : List ℕ) (m : Memory) where
  pub begin_18 : (CanBegin cs vars marks m → ⊥) → BeginCall cs vars marks m (Err NotAsNoted) m (cleared marks)
  begin_18 h = record { answers = inr (h, refl); notes = tt; keeps = refl; clears = refl }

  pub begin_granted : CanBegin cs vars marks m → BeginCall cs vars marks m (Ok (record { variables = vars; clauses = length cs; lemmas = 0 })) m (cleared marks)
  begin_granted h = record { answers = inl (h, refl); notes = refl; keeps = refl; clears = refl }

module _ (cs : List Clause) (o : Refutation) (marks : List ℕ) where
  pub lemma_18 : (c : Clause) → (AsNoted cs o marks → ⊥) → LemmaCall cs o marks c (Err NotAsNoted) o (cleared marks)
  lemma_18 c h = record { answers = inr (h, refl); counts = tt; adds = refl; clears = refl }

  pub cut_18 : (n : ℕ) → (AsNoted cs o marks → ⊥) → CutCall cs o marks n (Err NotAsNoted) o (cleared marks)
  cut_18 n h = record { answers = inr (h, refl); cuts = refl; clears = refl }

  pub conclude_18 : (AsNoted cs o marks → ⊥) → ConcludeCall cs o marks (Err NotAsNoted) o (cleared marks)
  conclude_18 h = record { answers = inr (h, refl); settles = tt; keeps = refl; clears = refl }

  module _ (noted : AsNoted cs o marks) where
    pub lemma_19 : (c : Clause) → (Proper o.noted.variables c → ⊥) → LemmaCall cs o marks c (Err BadLemma) o (cleared marks)
    lemma_19 c h = record { answers = inl (noted, inr (h, refl)); counts = tt; adds = refl; clears = refl }

    pub lemma_9 : (c : Clause) → Proper o.noted.variables c → (RoomFor o.memory c → ⊥) → LemmaCall cs o marks c (Err NoSpace) o (cleared marks)
    lemma_9 c proper h = record { answers = inl (noted, inl (proper, inr (h, refl))); counts = tt; adds = refl; clears = refl }

    pub lemma_20 : (c : Clause) → Proper o.noted.variables c → RoomFor o.memory c → (n : ℕ) → IsNotShown (known cs o) c n → LemmaCall cs o marks c (Err NotShown) o (cleared marks)
    lemma_20 c proper room n h = record { answers = inl (noted, inl (proper, inl (room, inr (never_shown (known cs o) c n h, refl)))); counts = tt; adds = refl; clears = refl }

    pub lemma_granted : (c : Clause) → Proper o.noted.variables c → RoomFor o.memory c → (count : ℕ) → Shown (known cs o) c count → LemmaCall cs o marks c (Ok count) (more_by o c) (cleared marks)
    lemma_granted c proper room count h = record { answers = inl (noted, inl (proper, inl (room, inl ((count, h), refl)))); counts = h; adds = refl; clears = refl }

    pub cut_21 : (n : ℕ) → (n ≤ length o.memory.records.items → ⊥) → CutCall cs o marks n (Err CutTooLong) o (cleared marks)
    cut_21 n h = record { answers = inl (noted, inr (h, refl)); cuts = refl; clears = refl }

    pub cut_granted : (n : ℕ) → n ≤ length o.memory.records.items → CutCall cs o marks n (Ok tt) (cut_to o n) (cleared marks)
    cut_granted n h = record { answers = inl (noted, inl (h, refl)); cuts = refl; clears = refl }

    pub conclude_20 : (n : ℕ) → IsNotShown (known cs o) [] n → ConcludeCall cs o marks (Err NotShown) o (cleared marks)
    conclude_20 n h = record { answers = inl (noted, inr (never_shown (known cs o) [] n h, refl)); settles = tt; keeps = refl; clears = refl }

    pub conclude_granted : (count : ℕ) → Shown (known cs o) [] count → ConcludeCall cs o marks (Ok (record { variables = o.noted.variables; lemmas = length o.memory.records.items; count = count })) o (cleared marks)
    conclude_granted count h = record { answers = inl (noted, inl ((count, h), refl)); settles = record { variables_noted = refl; lemmas_live = refl; counted = h }; keeps = refl; clears = refl }
