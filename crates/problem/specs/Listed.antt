-- What the pairs list under each code, and the problem that they state.
use Rattle.std.specs.Prelude.{ℕ, zero, suc, ◌+◌, ◌*◌, Bool, false, ◌&&◌, ◌||◌, List, filter, ◌==◌}
use Rattle.std.specs.List.{range_with_len}
use Rattle.rules.specs.Problems.{Problem}
use Rattle.problem.specs.Bytes.{facts, steps, pairs, code, fact}

-- the pair of code c and fact f is among the first n
abbrev pub among : List ℕ → ℕ → ℕ → ℕ → Bool
among s c f zero = false
among s c f (suc n) = (code s n == c && fact s n == f) || among s c f n

abbrev pub has_pair : List ℕ → ℕ → ℕ → Bool
has_pair s c f = among s c f (pairs s)

-- the facts under a code, rising
abbrev pub listed : List ℕ → ℕ → List ℕ
listed s c = filter (has_pair s c) (range_with_len 1 (facts s))

-- code 0 lists the start and 1 the goals; for step a, 4a what it needs, 4a + 1 what it sets, 4a + 2 what it clears
abbrev pub problem_of : List ℕ → Problem
problem_of s = record {
  facts = facts s;
  steps = steps s;
  needs = λ a. listed s (4 * a);
  sets = λ a. listed s (4 * a + 1);
  clears = λ a. listed s (4 * a + 2);
  start = listed s 0;
  goals = listed s 1;
}
