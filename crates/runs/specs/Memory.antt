-- The memory of a refutation: its lemmas, as literals and records.
use Rattle.std.specs.Prelude.{◌≡◌, ℕ, ◌+◌, List, [], ◌∷◌, ◌++◌, map, length, take, drop, ℤ}
use Rattle.rules.specs.Clauses.{Clause}
use Rattle.runs.specs.declared.place.Record.{Record}

-- a list in lent memory: what it holds, the memory past that, and how many items it has room for
pub record Store (X : Type 0) : Type 0 where
  pub items : List X
  pub spare : List X
  pub room : ℕ

-- more items at the end, written over the spare memory
abbrev pub added : {X : Type 0} → Store X → List X → Store X
added s xs = record { items = s.items ++ xs; spare = drop (length xs) s.spare; room = s.room }

-- the first n items alone; the memory stays as it is
abbrev pub first : {X : Type 0} → ℕ → Store X → Store X
first n s = record { items = take n s.items; spare = drop n s.items ++ s.spare; room = s.room }

-- the lemmas' literals, and a record for each lemma
pub record Memory : Type 0 where
  pub literals : Store ℤ
  pub records : Store Record

-- the literals that a record points at
abbrev pub lemma_at : List ℤ → Record → Clause
lemma_at literals r = take r.length (drop r.place literals)

-- the live lemmas, in order
abbrev pub lemmas_in : Memory → List Clause
lemmas_in m = map (lemma_at m.literals.items) m.records.items

-- the first record is at `from`, each is where the one before it ends, and the last ends at `to`
abbrev pub EndToEnd : ℕ → List Record → ℕ → Type 0
EndToEnd from [] to = from ≡ to
EndToEnd from (r ∷ rs) to = (r.place ≡ from) × EndToEnd (from + r.length) rs to

-- how many literals the records point at, all together
abbrev pub span : List Record → ℕ
span [] = 0
span (r ∷ rs) = r.length + span rs

-- one lemma more, which stands last in both lists
abbrev pub with_lemma : Memory → Clause → Memory
with_lemma m c = record {
  literals = added m.literals c;
  records = added m.records (record { place = length m.literals.items; length = length c } ∷ []);
}

-- the first n lemmas alone
abbrev pub with_first : ℕ → Memory → Memory
with_first n m = record {
  literals = first (span (take n m.records.items)) m.literals;
  records = first n m.records;
}
