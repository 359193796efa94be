-- The calls of a refutation: what each tests, what it answers, and all that it leaves behind.
use Rattle.std.specs.Prelude.{◌≡◌, ℕ, ◌+◌, ◌<◌, ◌≤◌, cond, List, [], ◌∷◌, ◌++◌, map, length, replicate, is_ok, Ok, Err, Result, unsigned_abs}
use Rattle.std.specs.List.{AllByRecursion}
use Rattle.rules.specs.declared.refusal.Refusal.{Refusal}
use Rattle.rules.specs.Refusals.{answer}
use Rattle.rules.specs.Lists.{Once}
use Rattle.rules.specs.Checks.{Tests, Answers}
use Rattle.rules.specs.Clauses.{Clause}
use Rattle.rules.specs.Propagation.{Shown}
use Rattle.runs.specs.declared.noted.Noted.{Noted}
use Rattle.runs.specs.declared.verdict.Verdict.{Verdict}
use Rattle.runs.specs.Memory.{Memory, lemmas_in, EndToEnd, with_lemma, with_first}

-- a refutation that is open: what it notes, and its memory
pub record Refutation : Type 0 where
  pub noted : Noted
  pub memory : Memory

-- the clauses that a call propagates over: the source's, then the live lemmas
abbrev pub known : List Clause → Refutation → List Clause
known cs o = cs ++ lemmas_in o.memory

-- every literal is of a variable from 1 to `vars`
abbrev pub Over : ℕ → Clause → Type 0
Over vars c = AllByRecursion (λ l. (1 ≤ unsigned_abs l) × (unsigned_abs l ≤ vars)) c

-- propagation comes to a false clause, after some count of literals
abbrev pub IsShown : List Clause → Clause → Type 0
IsShown cs c = (count : ℕ) × Shown cs c count

-- marks of any length, all 0
abbrev pub cleared : List ℕ → List ℕ
cleared marks = replicate (length marks) 0

-- where a call is granted, what it gives is so
abbrev pub Gives : {X : Type 0} → Result X Refusal → (X → Type 0) → Type 0
Gives (Ok x) P = P x
Gives (Err e) P = Unit {0}

-- `begin` is granted for V from 1 to 999999, a mark for each variable, clauses over the variables, and two empty lists
pub record CanBegin (cs : List Clause) (vars : ℕ) (marks : List ℕ) (m : Memory) : Type 0 where
  pub some_variable : 1 ≤ vars
  pub not_too_many : vars ≤ 999999
  pub a_mark_each : length marks ≡ vars
  pub clauses_over : AllByRecursion (Over vars) cs
  pub no_literals : m.literals.items ≡ []
  pub no_records : m.records.items ≡ []

-- every later call finds marks, clauses and lemmas as noted, only literals of the variables, and records end to end over the literals
pub record AsNoted (cs : List Clause) (o : Refutation) (marks : List ℕ) : Type 0 where
  pub a_mark_each : length marks ≡ o.noted.variables
  pub clauses_noted : length cs ≡ o.noted.clauses
  pub lemmas_noted : length o.memory.records.items ≡ o.noted.lemmas
  pub clauses_over : AllByRecursion (Over o.noted.variables) cs
  pub literals_over : Over o.noted.variables o.memory.literals.items
  pub end_to_end : EndToEnd 0 o.memory.records.items (length o.memory.literals.items)

-- a lemma has 1 to 130 literals, over the variables, and no variable twice
pub record Proper (vars : ℕ) (c : Clause) : Type 0 where
  pub some : 1 ≤ length c
  pub short : length c ≤ 130
  pub once : Once (map unsigned_abs c)
  pub over : Over vars c

-- both lists have room for the lemma
pub record RoomFor (m : Memory) (c : Clause) : Type 0 where
  pub its_literals : length m.literals.items + length c ≤ m.literals.room
  pub its_record : length m.records.items < m.records.room

-- what `begin` tests
abbrev pub begin_tests : List Clause → ℕ → List ℕ → Memory → Tests
begin_tests cs vars marks m = (18, CanBegin cs vars marks m) ∷ []

-- what `lemma` tests, in order: as noted, proper, room, shown
abbrev pub lemma_tests : List Clause → Refutation → List ℕ → Clause → Tests
lemma_tests cs o marks c =
    (18, AsNoted cs o marks)
    ∷ (19, Proper o.noted.variables c)
    ∷ (9, RoomFor o.memory c)
    ∷ (20, IsShown (known cs o) c)
    ∷ []

-- what `cut` tests: as noted, and not beyond the live lemmas
abbrev pub cut_tests : List Clause → Refutation → List ℕ → ℕ → Tests
cut_tests cs o marks n = (18, AsNoted cs o marks) ∷ (21, n ≤ length o.memory.records.items) ∷ []

-- what `conclude` tests: as noted, and a false clause is reached from nothing
abbrev pub conclude_tests : List Clause → Refutation → List ℕ → Tests
conclude_tests cs o marks = (18, AsNoted cs o marks) ∷ (20, IsShown (known cs o) []) ∷ []

-- the refutation with one lemma more
abbrev pub more_by : Refutation → Clause → Refutation
more_by o c = record {
  noted = record { variables = o.noted.variables; clauses = o.noted.clauses; lemmas = o.noted.lemmas + 1 };
  memory = with_lemma o.memory c;
}

-- the refutation with its first n lemmas alone
abbrev pub cut_to : Refutation → ℕ → Refutation
cut_to o n = record {
  noted = record { variables = o.noted.variables; clauses = o.noted.clauses; lemmas = n };
  memory = with_first n o.memory;
}

-- `begin` notes V, the clauses, and no lemma; the lists stay empty
pub record BeginCall (cs : List Clause) (vars : ℕ) (marks : List ℕ) (m : Memory) (r : Result Noted Refusal) (after : Memory) (left : List ℕ) : Type 0 where
  pub answers : Answers (begin_tests cs vars marks m) (answer r)
  pub notes : Gives r (λ n. n ≡ record { variables = vars; clauses = length cs; lemmas = 0 })
  pub keeps : after ≡ m
  pub clears : left ≡ cleared marks

-- `lemma` adds the lemma and answers the count of literals forced until it is shown; refused, it changes nothing but the marks
pub record LemmaCall (cs : List Clause) (o : Refutation) (marks : List ℕ) (c : Clause) (r : Result ℕ Refusal) (after : Refutation) (left : List ℕ) : Type 0 where
  pub answers : Answers (lemma_tests cs o marks c) (answer r)
  pub counts : Gives r (Shown (known cs o) c)
  pub adds : after ≡ cond (is_ok r) (more_by o c) o
  pub clears : left ≡ cleared marks

-- `cut` keeps the first n lemmas; refused, it keeps them all
pub record CutCall (cs : List Clause) (o : Refutation) (marks : List ℕ) (n : ℕ) (r : Result Unit Refusal) (after : Refutation) (left : List ℕ) : Type 0 where
  pub answers : Answers (cut_tests cs o marks n) (answer r)
  pub cuts : after ≡ cond (is_ok r) (cut_to o n) o
  pub clears : left ≡ cleared marks

-- the verdict: V, how many lemmas are live, and the count of literals forced from nothing until a clause is false
pub record VerdictOf (cs : List Clause) (o : Refutation) (v : Verdict) : Type 0 where
  pub variables_noted : v.variables ≡ o.noted.variables
  pub lemmas_live : v.lemmas ≡ length o.memory.records.items
  pub counted : Shown (known cs o) [] v.count

-- `conclude` settles the verdict; the lists stay as they are, and where it is refused the refutation is open as it was
pub record ConcludeCall (cs : List Clause) (o : Refutation) (marks : List ℕ) (r : Result Verdict Refusal) (after : Refutation) (left : List ℕ) : Type 0 where
  pub answers : Answers (conclude_tests cs o marks) (answer r)
  pub settles : Gives r (VerdictOf cs o)
  pub keeps : after ≡ o
  pub clears : left ≡ cleared marks
