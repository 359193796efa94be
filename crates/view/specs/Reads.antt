-- What the readers of clause text answer.
use Rattle.std.specs.Prelude.{◌≡◌, ℕ, ◌≤◌, true, List, drop, Some, None, Option, ◌≢◌}
use Rattle.clauses.specs.Rows.{ends}
use Rattle.view.specs.Body.{numbers}
use Rattle.view.specs.Format.{head_line, Headed}

-- V and C of a head line, or nothing where it is none
abbrev pub ReadsHead : List ℕ → Option (ℕ × ℕ) → Type 0
ReadsHead line None = (v c : ℕ) → v ≤ 999999 → c ≤ 999999 → line ≢ head_line v c
ReadsHead line (Some p) = (p.0 ≤ 999999) × (p.1 ≤ 999999) × (line ≡ head_line p.0 p.1)

-- no comments and head line stand before any body
abbrev pub Unheaded : List ℕ → Type 0
Unheaded text = (v c : ℕ) (body : List ℕ) → Headed text v c body → ⊥

-- from each place on, the last number is the 0 of a clause
abbrev pub Shut : List ℕ → Type 0
Shut text = (p : ℕ) → ends true (numbers (drop p text)) ≡ true
