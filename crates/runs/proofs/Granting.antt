-- What is so where a call is granted.
use Rattle.std.proofs.Common.{ℕ, ◌<◌, ◌≤◌, List, [], ◌∷◌, length, Ok, inl, inr, arith}
use Rattle.rules.specs.Checks.{Tests, Answers}
use Rattle.rules.specs.Clauses.{Clause}
use Rattle.runs.specs.declared.noted.Noted.{Noted}
use Rattle.runs.specs.declared.verdict.Verdict.{Verdict}
use Rattle.runs.specs.Memory.{Memory}
use Rattle.runs.specs.Calls.{Refutation, known, IsShown, CanBegin, AsNoted, Proper, RoomFor, BeginCall, LemmaCall, CutCall, ConcludeCall}

-- where nothing refuses, the first test is met and nothing refuses after it
first_met : (n : ℕ) (P : Type 0) (more : Tests) → 0 < n → Answers ((n, P) ∷ more) 0 → P × Answers more 0
first_met n P more h (inl r) = r
first_met n P more h (inr (_, e)) = absurd (omega arith)

pub begin_met : (cs : List Clause) (vars : ℕ) (marks : List ℕ) (m : Memory) (n : Noted) (after : Memory) (left : List ℕ) → BeginCall cs vars marks m (Ok n) after left → CanBegin cs vars marks m
begin_met cs vars marks m n after left h = (first_met 18 (CanBegin cs vars marks m) [] (omega arith) h.answers).0

module _ (cs : List Clause) (o : Refutation) (marks : List ℕ) where
  pub lemma_met : (c : Clause) (k : ℕ) (after : Refutation) (left : List ℕ) → LemmaCall cs o marks c (Ok k) after left → AsNoted cs o marks × Proper o.noted.variables c × RoomFor o.memory c
  lemma_met c k after left h =
      let noted = first_met 18 (AsNoted cs o marks) ((19, Proper o.noted.variables c) ∷ (9, RoomFor o.memory c) ∷ (20, IsShown (known cs o) c) ∷ []) (omega arith) h.answers in
      let proper = first_met 19 (Proper o.noted.variables c) ((9, RoomFor o.memory c) ∷ (20, IsShown (known cs o) c) ∷ []) (omega arith) noted.1 in
      let room = first_met 9 (RoomFor o.memory c) ((20, IsShown (known cs o) c) ∷ []) (omega arith) proper.1 in
      (noted.0, proper.0, room.0)

  pub cut_met : (n : ℕ) (after : Refutation) (left : List ℕ) → CutCall cs o marks n (Ok tt) after left → AsNoted cs o marks × (n ≤ length o.memory.records.items)
  cut_met n after left h =
      let noted = first_met 18 (AsNoted cs o marks) ((21, n ≤ length o.memory.records.items) ∷ []) (omega arith) h.answers in
      (noted.0, (first_met 21 (n ≤ length o.memory.records.items) [] (omega arith) noted.1).0)

  pub conclude_met : (v : Verdict) (after : Refutation) (left : List ℕ) → ConcludeCall cs o marks (Ok v) after left → AsNoted cs o marks
  conclude_met v after left h = (first_met 18 (AsNoted cs o marks) ((20, IsShown (known cs o) []) ∷ []) (omega arith) h.answers).0
