-- Decode's answer, test by test.
use Rattle.std.proofs.Common.{◌≡◌, ℕ, ◌<◌, ◌≤◌, eqb, List, length, Err, sym, refl, ◌∙◌, subst, inl, inr, arith}
use Rattle.std.proofs.lemmas.List.{length-map}
use Rattle.rules.specs.declared.line.Line.{Line}
use Rattle.rules.specs.declared.refusal.Refusal.{Refusal}
use Rattle.rules.specs.Refusals.{number}
use Rattle.rules.specs.Checks.{Answers}
use Rattle.rules.specs.Steps.{Rule}
use Rattle.rules.specs.Problems.{Problem}
use Rattle.rules.specs.Clauses.{Model, Satisfies, value}
use Rattle.rules.specs.Formula.{vars, formula}
use Rattle.rules.specs.Sheets.{sheet_of}
use Rattle.checking.specs.Told.{told, TruthBytes}
use Rattle.memory.specs.declared.lent_list.List as lent_list
use Rattle.memory.specs.Held.{room}
use Rattle.decoding.specs.Decode.{decode_tests}
use Rattle.decoding.specs.Added.{Decodes}

module _ (p : Problem) (rule : Rule) (horizon : ℕ) (truth : List ℕ) (space : ℕ) where
  pub refuse_7 : 32 < horizon → Answers (decode_tests p rule horizon truth space) 7
  refuse_7 h = inr (λ k. omega arith, refl)

  pub refuse_14 : horizon ≤ 32 → (TruthBytes (vars p horizon) truth → ⊥) → Answers (decode_tests p rule horizon truth space) 14
  refuse_14 h k = inl (h, inr (k, refl))

  module _ (h : horizon ≤ 32) (bytes : TruthBytes (vars p horizon) truth) where
    pub refuse_15 : (Satisfies (value (told truth)) (formula p rule horizon) → ⊥) → Answers (decode_tests p rule horizon truth space) 15
    refuse_15 k = inl (h, inl (bytes, inr (λ m. k m.meets, refl)))

    module _ (meets : Satisfies (value (told truth)) (formula p rule horizon)) where
      pub is_model : Model (vars p horizon) (formula p rule horizon) (told truth)
      is_model = record { long = length-map truth (λ b. eqb b 1) ∙ bytes.long; meets = meets }

      pub refuse_9 : space < length (sheet_of p horizon (value (told truth))) → Answers (decode_tests p rule horizon truth space) 9
      refuse_9 l = inl (h, inl (bytes, inl (is_model, inr (λ k. omega arith, refl))))

      pub grant : length (sheet_of p horizon (value (told truth))) ≤ space → Answers (decode_tests p rule horizon truth space) 0
      grant l = inl (h, inl (bytes, inl (is_model, inl (l, refl))))

-- what a grant says
pub model_of : (p : Problem) (rule : Rule) (horizon : ℕ) (truth : List ℕ) (space n : ℕ) → Answers (decode_tests p rule horizon truth space) n → n ≡ 0 → Model (vars p horizon) (formula p rule horizon) (told truth)
model_of p rule horizon truth space n (inl (h, inl (b, inl (m, k)))) z = m
model_of p rule horizon truth space n (inl (h, inl (b, inr k))) z = absurd (omega (arith, k.1))
model_of p rule horizon truth space n (inl (h, inr k)) z = absurd (omega (arith, k.1))
model_of p rule horizon truth space n (inr k) z = absurd (omega (arith, k.1))

-- a horizon above 32 is refused by 7, and nothing changes
pub decodes_not : (p : Problem) (rule : Rule) (horizon : ℕ) (truth : List ℕ) (a : lent_list.List Line) (e : Refusal) → number e ≡ 7 → 32 < horizon → Decodes p rule horizon truth a (Err e) a
decodes_not p rule horizon truth a e k h =
    record { answers = subst (λ n. Answers (decode_tests p rule horizon truth (room a)) n) (sym k) (refuse_7 p rule horizon truth (room a) h); holds = refl; rest = refl; same_room = refl; same_loan = refl }
