-- The theorems on a refutation's calls and runs.
use Rattle.std.specs.Prelude.{◌≡◌, ℕ, ◌+◌, ◌*◌, ◌^◌, ◌≤◌, Bool, List, [], ◌∷◌, ◌++◌, map, length, take, Ok, Result}
use Rattle.std.specs.List.{AllByRecursion}
use Rattle.rules.specs.declared.refusal.Refusal.{Refusal}
use Rattle.rules.specs.Clauses.{Clause, Model}
use Rattle.runs.specs.declared.noted.Noted.{Noted}
use Rattle.runs.specs.declared.verdict.Verdict.{Verdict}
use Rattle.runs.specs.Memory.{Memory, lemmas_in, EndToEnd, with_lemma, with_first}
use Rattle.runs.specs.Calls.{Refutation, Over, AsNoted, Proper, BeginCall, LemmaCall, CutCall, ConcludeCall}
use Rattle.runs.specs.Runs.{Begun, Turn, asked_lemma, asked_conclude, Concludes, Run, live_after}

-- where the source's clauses have a model no run concludes, whatever V `begin` was given
abbrev pub ModelsAreSafe : Type 0
ModelsAreSafe = (cs : List Clause) (v : ℕ) (values : List Bool) → Model v cs values → (vars : ℕ) (o e : Refutation) → Begun cs vars o → (turns : List Turn) → Run cs o turns e → AllByRecursion (λ t. Concludes t → ⊥) turns

-- the lemmas one after another, each granted with its count, and then a granted `conclude`
abbrev pub refuting : List ℕ → List (Clause × ℕ) → Verdict → List Turn
refuting marks lemmas verdict = map (λ l. asked_lemma marks l.0 (Ok l.1)) lemmas ++ asked_conclude marks (Ok verdict) ∷ []

-- some run of granted lemmas concludes
pub record Concluded (cs : List Clause) (o : Refutation) (marks : List ℕ) : Type 0 where
  pub lemmas : List (Clause × ℕ)
  pub verdict : Verdict
  pub end : Refutation
  pub run : Run cs o (refuting marks lemmas verdict) end

-- where clauses over variables 1 to v have no model, every refutation begun for these variables or more can be concluded; lists with room for 2^v lemmas and v × 2^v literals are enough
abbrev pub NoModelConcludes : Type 0
NoModelConcludes = (cs : List Clause) (v : ℕ) → v ≤ 16 → AllByRecursion (Over v) cs → ((values : List Bool) → Model v cs values → ⊥) → (vars : ℕ) (o : Refutation) → Begun cs vars o → v ≤ vars → 2 ^ v ≤ o.memory.records.room → v * 2 ^ v ≤ o.memory.literals.room → (marks : List ℕ) → length marks ≡ vars → Concluded cs o marks

-- the literals forced, with those of the lemma itself, are at most V
pub record CountsWithinVariables : Type 0 where
  pub of_lemma : (cs : List Clause) (o after : Refutation) (marks left : List ℕ) (c : Clause) (count : ℕ) → LemmaCall cs o marks c (Ok count) after left → length c + count ≤ o.noted.variables
  pub of_conclude : (cs : List Clause) (o after : Refutation) (marks left : List ℕ) (v : Verdict) → ConcludeCall cs o marks (Ok v) after left → v.count ≤ o.noted.variables

-- something is so, and nothing else
abbrev pub ExactlyOne : {X : Type 0} → (X → Type 0) → Type 0
ExactlyOne {X} P = (x : X) × P x × ((y : X) → P y → y ≡ x)

-- for every input each call has exactly one answer, and leaves exactly one memory behind
pub record OneAnswerEach : Type 0 where
  pub to_begin : (cs : List Clause) (vars : ℕ) (marks : List ℕ) (m : Memory) → ExactlyOne {X = Result Noted Refusal × Memory × List ℕ} (λ x. BeginCall cs vars marks m x.0 x.1 x.2)
  pub to_lemma : (cs : List Clause) (o : Refutation) (marks : List ℕ) (c : Clause) → ExactlyOne {X = Result ℕ Refusal × Refutation × List ℕ} (λ x. LemmaCall cs o marks c x.0 x.1 x.2)
  pub to_cut : (cs : List Clause) (o : Refutation) (marks : List ℕ) (n : ℕ) → ExactlyOne {X = Result Unit Refusal × Refutation × List ℕ} (λ x. CutCall cs o marks n x.0 x.1 x.2)
  pub to_conclude : (cs : List Clause) (o : Refutation) (marks : List ℕ) → ExactlyOne {X = Result Verdict Refusal × Refutation × List ℕ} (λ x. ConcludeCall cs o marks x.0 x.1 x.2)

-- in memory whose records stand end to end, a lemma that is added is read back last, and a cut leaves the first n lemmas
pub record ReadsBack (m : Memory) : Type 0 where
  pub added_last : (c : Clause) → lemmas_in (with_lemma m c) ≡ lemmas_in m ++ c ∷ []
  pub first_kept : (n : ℕ) → lemmas_in (with_first n m) ≡ take n (lemmas_in m)

abbrev pub LemmasReadBack : Type 0
LemmasReadBack = (m : Memory) → EndToEnd 0 m.records.items (length m.literals.items) → ReadsBack m

-- after a run the lists hold the lemmas that were granted and not cut since, and no other
abbrev pub ListsHoldLiveLemmas : Type 0
ListsHoldLiveLemmas = (cs : List Clause) (vars : ℕ) (o e : Refutation) → Begun cs vars o → (turns : List Turn) → Run cs o turns e → lemmas_in e.memory ≡ live_after [] turns

-- what holds of a refutation all along its runs: it is as noted for every V marks, its lemmas are proper, and they fit in the room that it began with
pub record InOrder (cs : List Clause) (vars : ℕ) (begun o : Refutation) : Type 0 where
  pub as_noted : (marks : List ℕ) → length marks ≡ vars → AsNoted cs o marks
  pub lemmas_proper : AllByRecursion (Proper vars) (lemmas_in o.memory)
  pub literal_room_kept : o.memory.literals.room ≡ begun.memory.literals.room
  pub record_room_kept : o.memory.records.room ≡ begun.memory.records.room
  pub literals_fit : length o.memory.literals.items ≤ o.memory.literals.room
  pub records_fit : length o.memory.records.items ≤ o.memory.records.room

abbrev pub RunsKeepOrder : Type 0
RunsKeepOrder = (cs : List Clause) (vars : ℕ) (o e : Refutation) → Begun cs vars o → (turns : List Turn) → Run cs o turns e → InOrder cs vars o e
