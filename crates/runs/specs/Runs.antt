-- Runs of a refutation's calls.
use Rattle.std.specs.Prelude.{◌≡◌, ℕ, List, [], ◌∷◌, ◌++◌, take, Ok, Err, Result}
use Rattle.rules.specs.declared.refusal.Refusal.{Refusal}
use Rattle.rules.specs.Clauses.{Clause}
use Rattle.runs.specs.declared.verdict.Verdict.{Verdict}
use Rattle.runs.specs.Calls.{Refutation, cleared, BeginCall, LemmaCall, CutCall, ConcludeCall}

-- newly begun: `begin` was granted for V and some marks, over a source with these clauses and over this memory
pub record Begun (cs : List Clause) (vars : ℕ) (o : Refutation) : Type 0 where
  pub marks : List ℕ
  pub granted : BeginCall cs vars marks o.memory (Ok o.noted) o.memory (cleared marks)

-- a call after `begin`, with what it was given and what it answered
pub data Turn : Type 0 where
  asked_lemma : (marks : List ℕ) (c : Clause) → Result ℕ Refusal → Turn
  asked_cut : (marks : List ℕ) (n : ℕ) → Result Unit Refusal → Turn
  asked_conclude : (marks : List ℕ) → Result Verdict Refusal → Turn

-- the call answers this, and leaves the refutation so
abbrev pub Answered : List Clause → Refutation → Turn → Refutation → Type 0
Answered cs o (asked_lemma marks c r) after = LemmaCall cs o marks c r after (cleared marks)
Answered cs o (asked_cut marks n r) after = CutCall cs o marks n r after (cleared marks)
Answered cs o (asked_conclude marks r) after = ConcludeCall cs o marks r after (cleared marks)

-- a granted `conclude`
abbrev pub Concludes : Turn → Type 0
Concludes (asked_lemma marks c r) = ⊥
Concludes (asked_cut marks n r) = ⊥
Concludes (asked_conclude marks (Ok v)) = Unit {0}
Concludes (asked_conclude marks (Err e)) = ⊥

-- a run from one refutation to another, over any source with these clauses: each call finds what the one before it left, and none follows a granted `conclude`
abbrev pub Run : List Clause → Refutation → List Turn → Refutation → Type 0
Run cs o [] end = end ≡ o
Run cs o (t ∷ ts) end = (after : Refutation) × Answered cs o t after × (Concludes t → ts ≡ []) × Run cs after ts end

-- the live lemmas after a call: a granted lemma stands last, a granted cut keeps the first n
abbrev pub live_by : List Clause → Turn → List Clause
live_by lemmas (asked_lemma marks c (Ok count)) = lemmas ++ c ∷ []
live_by lemmas (asked_lemma marks c (Err e)) = lemmas
live_by lemmas (asked_cut marks n (Ok u)) = take n lemmas
live_by lemmas (asked_cut marks n (Err e)) = lemmas
live_by lemmas (asked_conclude marks r) = lemmas

-- and after all the calls of a run
abbrev pub live_after : List Clause → List Turn → List Clause
live_after lemmas [] = lemmas
live_after lemmas (t ∷ ts) = live_after (live_by lemmas t) ts
