-- The dash: what holds at the start, the goals, and what each step needs, sets and clears.
use Rattle.std.specs.Prelude.{ℕ, List, [], ◌∷◌, ◌++◌, map}
use Rattle.problem.specs.Rendering.{Pair, pair, start_code, goals_code, needs_code, sets_code, clears_code}

-- facts listed under one code
abbrev under : ℕ → List ℕ → List Pair
under code facts = map (pair code) facts

abbrev pub dash_pairs : List Pair
dash_pairs =
    under start_code (4 ∷ 7 ∷ 8 ∷ 9 ∷ [])
    ++ (under goals_code (5 ∷ 6 ∷ 7 ∷ 8 ∷ 9 ∷ [])
    ++ (under (needs_code 1) (7 ∷ [])
    ++ (under (sets_code 1) (1 ∷ [])
    ++ (under (clears_code 1) (7 ∷ [])
    ++ (under (needs_code 2) (1 ∷ [])
    ++ (under (sets_code 2) (2 ∷ [])
    ++ (under (clears_code 2) (8 ∷ [])
    ++ (under (needs_code 3) (9 ∷ [])
    ++ (under (sets_code 3) (3 ∷ [])
    ++ (under (clears_code 3) (9 ∷ [])
    ++ (under (needs_code 4) (2 ∷ 3 ∷ 4 ∷ [])
    ++ (under (sets_code 4) (5 ∷ [])
    ++ (under (clears_code 4) (4 ∷ [])
    ++ (under (needs_code 5) (3 ∷ 5 ∷ [])
    ++ (under (sets_code 5) (6 ∷ [])
    ++ (under (needs_code 6) (3 ∷ 6 ∷ [])
    ++ (under (sets_code 6) (9 ∷ [])
    ++ (under (clears_code 6) (3 ∷ [])
    ++ (under (needs_code 7) (2 ∷ [])
    ++ (under (sets_code 7) (8 ∷ [])
    ++ (under (clears_code 7) (2 ∷ [])
    ++ (under (needs_code 8) (6 ∷ 8 ∷ [])
    ++ (under (sets_code 8) (7 ∷ [])
    ++ (under (clears_code 8) (1 ∷ [])))))))))))))))))))))))))
