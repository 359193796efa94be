-- Truth bytes: 1 is true, 0 is false.
use Rattle.std.specs.Prelude.{◌≡◌, ℕ, ◌≤◌, Bool, cond, List, map, length, nat_eq}
use Rattle.std.specs.List.{AllByRecursion}

-- the truth values that bytes tell
abbrev pub told : List ℕ → List Bool
told bytes = map (λ b. nat_eq b 1) bytes

-- the bytes that tell truth values
abbrev pub bytes_of : List Bool → List ℕ
bytes_of vs = map (λ v. cond v 1 0) vs

-- a byte for each variable, none above 1
pub record TruthBytes (vars : ℕ) (bytes : List ℕ) : Type 0 where
  pub long : length bytes ≡ vars
  pub bits : AllByRecursion (λ b. b ≤ 1) bytes
