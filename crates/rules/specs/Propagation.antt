-- Unit propagation, and its laws.
use Rattle.std.specs.Prelude.{◌≡◌, ℕ, suc, ◌<◌, ◌⊎◌, ◌↔◌, List, [], ◌∷◌, map, length, ℤ, pos, neg_ℤ, ◌≢◌, slice_index_or}
use Rattle.std.specs.List.{AllByRecursion}
use Rattle.rules.specs.Lists.{In}
use Rattle.rules.specs.Clauses.{Clause, Valuation, Meets, Satisfies}

-- a partial assignment, as a trail: the literals that it makes true, the newest first
abbrev pub Trail : Type 0
Trail = List ℤ

-- a literal is true if it stands in the trail
abbrev pub IsTrueOn : Trail → ℤ → Type 0
IsTrueOn trail l = In l trail

-- false if its opposite does
abbrev pub IsFalseOn : Trail → ℤ → Type 0
IsFalseOn trail l = In (neg_ℤ l) trail

-- and open if neither does
abbrev pub IsOpenOn : Trail → ℤ → Type 0
IsOpenOn trail l = (IsTrueOn trail l → ⊥) × (IsFalseOn trail l → ⊥)

-- a clause is false if all its literals are
abbrev pub FalseClause : Trail → Clause → Type 0
FalseClause trail c = AllByRecursion (IsFalseOn trail) c

-- a conflict: some clause is false
abbrev pub Conflict : List Clause → Trail → Type 0
Conflict cs trail = (c : Clause) × In c cs × FalseClause trail c

-- a clause forces the literal l if no literal of it is true and l is its one open literal, whether it stands there once or more often
pub record Forces (trail : Trail) (c : Clause) (l : ℤ) : Type 0 where
  pub none_true : (m : ℤ) → In m c → IsTrueOn trail m → ⊥
  pub member : In l c
  pub is_open : IsOpenOn trail l
  pub no_other : (m : ℤ) → In m c → IsOpenOn trail m → m ≡ l

-- clause i, counted from 0, is the lowest that forces a literal, and it forces l
pub record Lowest (cs : List Clause) (trail : Trail) (i : ℕ) (l : ℤ) : Type 0 where
  pub within : i < length cs
  pub forces : Forces trail (slice_index_or cs i []) l
  pub first : (j : ℕ) → j < i → (m : ℤ) → Forces trail (slice_index_or cs j []) m → ⊥

-- no clause forces a literal
abbrev pub NoneForced : List Clause → Trail → Type 0
NoneForced cs trail = (c : Clause) → In c cs → (l : ℤ) → Forces trail c l → ⊥

-- propagation from one trail to another: while no clause is false, the lowest forcing clause makes its literal true; the number counts the forced literals
pub data Propagates (cs : List Clause) : Trail → ℕ → Trail → Type 0 where
  halt : {t : Trail} → Propagates cs t 0 t
  force : {t e : Trail} {i n : ℕ} {l : ℤ} → (Conflict cs t → ⊥) → Lowest cs t i l → Propagates cs (l ∷ t) n e → Propagates cs t (suc n) e

-- the trail that a lemma starts from: the opposites of its literals, which are not counted
abbrev pub opposites : Clause → Trail
opposites lemma = map neg_ℤ lemma

-- the lemma is shown, after n forced literals: propagation comes to a false clause
abbrev pub Shown : List Clause → Clause → ℕ → Type 0
Shown cs lemma n = (e : Trail) × Propagates cs (opposites lemma) n e × Conflict cs e

-- the lemma is not shown, after n forced literals: propagation comes to a trail that makes no clause false and by which no clause forces a literal
abbrev pub IsNotShown : List Clause → Clause → ℕ → Type 0
IsNotShown cs lemma n = (e : Trail) × Propagates cs (opposites lemma) n e × (Conflict cs e → ⊥) × NoneForced cs e

-- propagation in any order: each literal is forced by any clause that forces one
pub data PropagatesFreely (cs : List Clause) : Trail → Trail → Type 0 where
  halt_freely : {t : Trail} → PropagatesFreely cs t t
  force_freely : {t e : Trail} {l : ℤ} (c : Clause) → In c cs → Forces t c l → PropagatesFreely cs (l ∷ t) e → PropagatesFreely cs t e

-- no literal is 0
abbrev pub NoZero : Clause → Type 0
NoZero c = AllByRecursion (λ l. l ≢ pos 0) c

-- each lemma is shown or not shown
abbrev pub ShownOrNot : Type 0
ShownOrNot = (cs : List Clause) (lemma : Clause) → ((n : ℕ) × Shown cs lemma n) ⊎ ((n : ℕ) × IsNotShown cs lemma n)

-- no lemma is shown and not shown, and either comes with one count
pub record OneOutcome (cs : List Clause) (lemma : Clause) : Type 0 where
  pub never_both : (m n : ℕ) → Shown cs lemma m → IsNotShown cs lemma n → ⊥
  pub shown_count : (m n : ℕ) → Shown cs lemma m → Shown cs lemma n → m ≡ n
  pub not_shown_count : (m n : ℕ) → IsNotShown cs lemma m → IsNotShown cs lemma n → m ≡ n

abbrev pub OutcomeUnique : Type 0
OutcomeUnique = (cs : List Clause) (lemma : Clause) → OneOutcome cs lemma

-- a lemma is shown exactly if propagation in some order comes to a false clause, and exactly if it does in every order that is taken as far as it goes
pub record InAnyOrder (cs : List Clause) (lemma : Clause) : Type 0 where
  pub some_order : ((n : ℕ) × Shown cs lemma n) ↔ ((e : Trail) × PropagatesFreely cs (opposites lemma) e × Conflict cs e)
  pub every_order : ((n : ℕ) × Shown cs lemma n) ↔ ((e : Trail) → PropagatesFreely cs (opposites lemma) e → NoneForced cs e → Conflict cs e)

abbrev pub ForcedInAnyOrder : Type 0
ForcedInAnyOrder = (cs : List Clause) (lemma : Clause) → InAnyOrder cs lemma

-- what propagation shows holds in every model of the clauses
abbrev pub ShownHolds : Type 0
ShownHolds = (cs : List Clause) → AllByRecursion NoZero cs → (lemma : Clause) → NoZero lemma → (n : ℕ) → Shown cs lemma n → (w : Valuation) → Satisfies w cs → Meets w lemma
