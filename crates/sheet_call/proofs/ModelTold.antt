-- What decode comes to where only a model can be missing.
use Rattle.std.proofs.Common.{◌≡◌, ℕ, zero, suc, ◌+◌, ◌*◌, ◌≤◌, Bool, true, false, cond, List, [], ◌∷◌, map, length, IfOk, Ok, Err, filter, Result, refl, ap, inl, inr, arith}
use Rattle.std.specs.List.{range_with_len}
use Rattle.std.proofs.lemmas.List.{length-append, length-map}
use Rattle.rules.specs.declared.line.Line.{Line}
use Rattle.rules.specs.declared.refusal.Refusal.{Refusal}
use Rattle.rules.specs.Checks.{Answers}
use Rattle.rules.specs.Refusals.{number}
use Rattle.rules.specs.Lists.{each}
use Rattle.rules.specs.Steps.{Rule}
use Rattle.rules.specs.Problems.{Problem, steps_of}
use Rattle.rules.specs.Clauses.{Valuation, Model, value}
use Rattle.rules.specs.Formula.{vars, formula, step_var}
use Rattle.rules.specs.Sheets.{sheet_of}
use Rattle.problem.proofs.Refused.{refused}
use Rattle.checking.specs.Told.{told, TruthBytes}
use Rattle.decoding.specs.Decode.{decode_tests}

-- what is made passes on what follows
pub made_so : {X Y : Type 0} (r : Result X Y) (P Q : X → Type 0) → ((x : X) → P x → Q x) → IfOk r P → IfOk r Q
made_so (Ok x) P Q f h = f x h
made_so (Err y) P Q f h = tt

kept_short : (q : ℕ → Bool) (xs : List ℕ) → length (filter q xs) ≤ length xs
kept_short q [] = omega arith
kept_short q (x ∷ xs) = one (q x) (kept_short q xs)
  where
    one : (b : Bool) → length (filter q xs) ≤ length xs → length (cond b (x ∷ filter q xs) (filter q xs)) ≤ length (x ∷ xs)
    one true h = omega (arith, h)
    one false h = omega (arith, h)

pub count_long : (a n : ℕ) → length (range_with_len a n) ≡ n
count_long a zero = refl
count_long a (suc n) = ap suc (count_long (a + 1) n)

each_short : (g : ℕ → List Line) (most : ℕ) → ((u : ℕ) → length (g u) ≤ most) → (us : List ℕ) → length (each g us) ≤ length us * most
each_short g most h [] = omega arith
each_short g most h (u ∷ us) = omega (arith, length-append (g u) (each g us), h u, each_short g most h us)

-- no sheet has more lines than slots times steps
pub sheet_short : (p : Problem) (t : ℕ) (w : Valuation) → t ≤ 32 → p.steps ≤ 128 → length (sheet_of p t w) ≤ 4096
sheet_short p t w h k =
    let line : ℕ → ℕ → Line = λ u a. record { slot = suc u; step = a } in
    let row : (u : ℕ) → List Line = λ u. map (line u) (filter (λ a. w (step_var p u a)) (steps_of p)) in
    let short : (u : ℕ) → length (row u) ≤ 128 = λ u. omega (arith, length-map (filter (λ a. w (step_var p u a)) (steps_of p)) (line u), kept_short (λ a. w (step_var p u a)) (steps_of p), count_long 1 p.steps) in
    omega (arith, each_short row 128 short (range_with_len 0 t), count_long 0 t)

-- the only refusal that is left is 15
pub only_15 : (p : Problem) (rule : Rule) (t : ℕ) (truth : List ℕ) (space : ℕ) (e : Refusal) → t ≤ 32 → TruthBytes (vars p t) truth → length (sheet_of p t (value (told truth))) ≤ space → Answers (decode_tests p rule t truth space) (number e) → (Model (vars p t) (formula p rule t) (told truth) → ⊥) × (number e ≡ 15)
only_15 p rule t truth space e h b l (inr a) = absurd (a.0 h)
only_15 p rule t truth space e h b l (inl (h', inr a)) = absurd (a.0 b)
only_15 p rule t truth space e h b l (inl (h', inl (b', inr a))) = a
only_15 p rule t truth space e h b l (inl (h', inl (b', inl (m, inr a)))) = absurd (a.0 l)
only_15 p rule t truth space e h b l (inl (h', inl (b', inl (m, inl (s, z))))) = absurd (refused e z)
