-- What bytes a problem may have: the rendering of a lawful listing of pairs, and nothing else.
use Rattle.std.specs.Prelude.{◌≡◌, ℕ, ◌+◌, ◌*◌, ◌/◌, ◌%◌, ◌<◌, ◌≤◌, true, ◌⊎◌, ◌↔◌, List, [], ◌∷◌, ◌++◌, map, length}
use Rattle.std.specs.List.{AllByRecursion}
use Rattle.rules.specs.Lists.{In, each}
use Rattle.rules.specs.Problems.{Sound}
use Rattle.problem.specs.Listed.{has_pair, problem_of}
use Rattle.problem.specs.Verdict.{verdict}

-- a fact is listed under a code
pub record Pair : Type 0 where
  pub code : ℕ
  pub fact : ℕ

abbrev pub pair : ℕ → ℕ → Pair
pair c g = record { code = c; fact = g }

-- the codes: of the start, of the goals, and of what step b needs, sets and clears
abbrev pub start_code : ℕ
start_code = 0

abbrev pub goals_code : ℕ
goals_code = 1

abbrev pub needs_code : ℕ → ℕ
needs_code b = 4 * b

abbrev pub sets_code : ℕ → ℕ
sets_code b = 4 * b + 1

abbrev pub clears_code : ℕ → ℕ
clears_code b = 4 * b + 2

-- c is a code of one of the steps 1 to a
pub record StepCode (a c : ℕ) : Type 0 where
  pub step : ℕ
  pub first : 1 ≤ step
  pub last : step ≤ a
  pub kind : (c ≡ needs_code step) ⊎ ((c ≡ sets_code step) ⊎ (c ≡ clears_code step))

abbrev pub KnownCode : ℕ → ℕ → Type 0
KnownCode a c = (c ≡ start_code) ⊎ ((c ≡ goals_code) ⊎ StepCode a c)

-- by code, then by fact
abbrev pub Before : Pair → Pair → Type 0
Before p q = (p.code < q.code) ⊎ ((p.code ≡ q.code) × (p.fact < q.fact))

-- each pair is before all that follow it
abbrev pub Rising : List Pair → Type 0
Rising [] = Unit {0}
Rising (p ∷ ps) = AllByRecursion (Before p) ps × Rising ps

-- pairs that state a problem with f facts and a steps
pub record LawfulListing (f a : ℕ) (ps : List Pair) : Type 0 where
  pub some_fact : 1 ≤ f
  pub few_facts : f ≤ 64
  pub few_steps : a ≤ 128
  pub few_pairs : length ps ≤ 4096
  pub known_codes : (p : Pair) → In p ps → KnownCode a p.code
  pub known_facts : (p : Pair) → In p ps → (1 ≤ p.fact) × (p.fact ≤ f)
  pub rises : Rising ps
  -- no step sets and clears one fact
  pub never_both : (b g : ℕ) → In (pair (sets_code b) g) ps → In (pair (clears_code b) g) ps → ⊥

-- a number below 65,536 in two bytes, the low byte first
abbrev pub two_bytes : ℕ → List ℕ
two_bytes n = n % 256 ∷ n / 256 ∷ []

-- F, A, P, then all codes, then all facts
abbrev pub rendering : ℕ → ℕ → List Pair → List ℕ
rendering f a ps = each two_bytes (f ∷ a ∷ length ps ∷ (map (λ (p : Pair). p.code) ps ++ map (λ (p : Pair). p.fact) ps))

-- the bytes are the rendering of a lawful listing
pub record Renders (s : List ℕ) : Type 0 where
  pub facts : ℕ
  pub steps : ℕ
  pub pairs : List Pair
  pub lawful : LawfulListing facts steps pairs
  pub is : s ≡ rendering facts steps pairs

-- bytes are granted exactly where they are the rendering of a lawful listing
abbrev pub GrantedIsRendering : Type 0
GrantedIsRendering = (s : List ℕ) → AllByRecursion (λ b. b < 256) s → (verdict s ≡ 0) ↔ Renders s

-- the problem read from s has the numbers f and a, and lists exactly the pairs ps
pub record Reads (s : List ℕ) (f a : ℕ) (ps : List Pair) : Type 0 where
  pub facts_read : (problem_of s).facts ≡ f
  pub steps_read : (problem_of s).steps ≡ a
  pub pairs_read : (c g : ℕ) → (has_pair s c g ≡ true) ↔ In (pair c g) ps
  pub start_read : (g : ℕ) → In g (problem_of s).start ↔ In (pair start_code g) ps
  pub goals_read : (g : ℕ) → In g (problem_of s).goals ↔ In (pair goals_code g) ps
  pub needs_read : (b g : ℕ) → In g ((problem_of s).needs b) ↔ In (pair (needs_code b) g) ps
  pub sets_read : (b g : ℕ) → In g ((problem_of s).sets b) ↔ In (pair (sets_code b) g) ps
  pub clears_read : (b g : ℕ) → In g ((problem_of s).clears b) ↔ In (pair (clears_code b) g) ps

-- a lawful listing is read back from its rendering
abbrev pub ReadsTheListing : Type 0
ReadsTheListing = (f a : ℕ) (ps : List Pair) → LawfulListing f a ps → Reads (rendering f a ps) f a ps

-- a granted problem names only facts that there are, and none of its steps sets and clears one
abbrev pub GrantedIsSound : Type 0
GrantedIsSound = (s : List ℕ) → verdict s ≡ 0 → Sound (problem_of s)
