-- What reading an answer gives, case by case.
use Rattle.std.specs.Prelude.{◌≡◌, ℕ, ◌+◌, Bool, false, cond, ◌⊎◌, List, map, length, replicate, ℤ, pos, negsuc, Ok, Err, Result, ◌==◌}
use Rattle.std.specs.List.{range_with_len}
use Rattle.rules.specs.declared.refusal.Refusal.{Refusal}
use Rattle.rules.specs.Lists.{any}
use Rattle.rules.specs.Refusals.{number}
use Rattle.answers.specs.declared.status.Status.{Status}
use Rattle.answers.specs.Rendering.{Rendering}

-- the literal is variable v itself, and not its negative
abbrev pub affirms : ℕ → ℤ → Bool
affirms v (pos k) = v == k
affirms v (negsuc k) = false

-- 1 where variable v is listed, else 0
abbrev pub truth_value : List ℤ → ℕ → ℕ
truth_value literals v = cond (any (affirms v) literals) 1 0

-- a byte for each of the variables 1 to n
abbrev pub truth_of : ℕ → List ℤ → List ℕ
truth_of n literals = map (λ i. truth_value literals (i + 1)) (range_with_len 0 n)

-- 14: the memory has not a byte for each variable, and stays as it was
pub record BadMemory (n : ℕ) (before after : List ℕ) (e : Refusal) : Type 0 where
  pub number_is : number e ≡ 14
  pub size : length before ≡ n → ⊥
  pub kept : after ≡ before

-- 13: the text is no answer, and the bytes become 0
pub record NoAnswer (n : ℕ) (text before after : List ℕ) (e : Refusal) : Type 0 where
  pub number_is : number e ≡ 13
  pub size : length before ≡ n
  pub none : (status : Status) (literals : List ℤ) → Rendering n text status literals → ⊥
  pub cleared : after ≡ replicate n 0

-- the text is an answer with this status, and the bytes are the truth values of its literals
pub record AnAnswer (n : ℕ) (text before after : List ℕ) (status : Status) : Type 0 where
  pub size : length before ≡ n
  pub literals : List ℤ
  pub renders : Rendering n text status literals
  pub told : after ≡ truth_of n literals

-- what the call answers, and what it leaves in the memory
abbrev pub Answered : ℕ → List ℕ → List ℕ → List ℕ → Result Status Refusal → Type 0
Answered n text before after (Ok status) = AnAnswer n text before after status
Answered n text before after (Err e) = BadMemory n before after e ⊎ NoAnswer n text before after e
