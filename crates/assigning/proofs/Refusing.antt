-- Assign's answer, test by test, and the way back from decode.
use Rattle.std.proofs.Common.{◌≡◌, ℕ, ◌<◌, ◌≤◌, cond, eqb, List, [], ◌∷◌, length, Err, Result, sym, refl, ap, ◌∙◌, subst, inl, inr, ⊎_elim, arith}
use Rattle.std.specs.List.{AllByRecursion}
use Rattle.std.proofs.lemmas.List.FromFn.{length-map-range_with_len}
use Rattle.std.proofs.lemmas.Bool.{cases_eq, eq-eqb, ne_eqb}
use Rattle.rules.specs.declared.line.Line.{Line}
use Rattle.rules.specs.declared.refusal.Refusal.{Refusal}
use Rattle.rules.specs.Refusals.{number}
use Rattle.rules.specs.Checks.{Answers}
use Rattle.rules.specs.Steps.{Rule}
use Rattle.rules.specs.Problems.{Problem}
use Rattle.rules.specs.Clauses.{Satisfies, value}
use Rattle.rules.specs.Formula.{vars, formula}
use Rattle.rules.specs.Sheets.{Sheet, Holds, valued, model, sheet_of}
use Rattle.rules.specs.Laws.{ModelsAreSheets}
use Rattle.checking.specs.Told.{told, bytes_of}
use Rattle.assigning.specs.Assign.{assign_tests, Assigns}
use Rattle.assigning.specs.Returned.{UndoesDecode}

module _ (p : Problem) (rule : Rule) (horizon : ℕ) (lines : List Line) (bytes : ℕ) (h : horizon ≤ 32) (long : bytes ≡ vars p horizon) (sheet : Sheet p horizon lines) where
  pub refuse_17 : (Holds p rule horizon lines → ⊥) → Answers (assign_tests p rule horizon lines bytes) 17
  refuse_17 k = inl (h, inl (long, inl (sheet, inr (k, refl))))

  pub grant : Holds p rule horizon lines → Answers (assign_tests p rule horizon lines bytes) 0
  grant k = inl (h, inl (long, inl (sheet, inl (k, refl))))

module _ (p : Problem) (rule : Rule) (horizon : ℕ) (law : ModelsAreSheets p rule horizon) where
  module _ (lines : List Line) (sheet : Sheet p horizon lines) where
    -- the model meets the formula exactly where the sheet holds
    pub meets_holds : Satisfies (value (model p horizon lines)) (formula p rule horizon) → Holds p rule horizon lines
    meets_holds h =
        let vs = model p horizon lines in
        let d = law.decodes vs (record { long = length-map-range_with_len (valued p lines) 0 (vars p horizon); meets = h }) in
        subst (Holds p rule horizon) (law.one_each (sheet_of p horizon (value vs)) lines d.0 sheet d.2) d.1

    pub holds_meets : Holds p rule horizon lines → Satisfies (value (model p horizon lines)) (formula p rule horizon)
    holds_meets h = (law.encodes lines sheet h).meets

  bytes_back : (bs : List ℕ) → AllByRecursion (λ b. b ≤ 1) bs → bytes_of (told bs) ≡ bs
  bytes_back [] h = refl
  bytes_back (b ∷ bs) h = ap (λ x. x ∷ bytes_of (told bs)) (one b h.0) ∙ ap (λ xs. b ∷ xs) (bytes_back bs h.1)
    where
      one : (b : ℕ) → b ≤ 1 → cond (eqb b 1) 1 0 ≡ b
      one b l = ⊎_elim (λ (e : b ≡ 1). rw (eq-eqb b 1 e) (sym e)) (λ (ne : b ≡ 1 → ⊥). let z : 0 ≡ b = omega arith in rw (ne_eqb b 1 ne) z) (cases_eq b 1)

  pub undoes_decode_lem : UndoesDecode p rule horizon
  undoes_decode_lem truth space (inl (h, inl (b, inl (m, k)))) =
      let d = law.decodes (told truth) m in
      record { grants = inl (h, inl (b.long, inl (d.0, inl (d.1, refl)))); writes = ap bytes_of d.2 ∙ bytes_back truth b.bits }
  undoes_decode_lem truth space (inl (h, inl (b, inr k))) = absurd (omega (arith, k.1))
  undoes_decode_lem truth space (inl (h, inr k)) = absurd (omega (arith, k.1))
  undoes_decode_lem truth space (inr k) = absurd (omega (arith, k.1))

-- what assign promises, told of equal parts
pub assigns_as : {p q : Problem} {r s : Rule} {t u : ℕ} {ls : List Line} {before after : List ℕ} {x : Result Unit Refusal} → p ≡ q → r ≡ s → t ≡ u → Assigns p r t ls before x after → Assigns q s u ls before x after
assigns_as {p} {q} {r} {s} {t} {u} {ls} {before} {after} {x} e k h d = subst (λ (y : Problem). Assigns y s u ls before x after) e (subst (λ (y : Rule). Assigns p y u ls before x after) k (subst (λ y. Assigns p r y ls before x after) h d))

-- a horizon above 32 is refused by 7, and nothing changes
pub assigns_not : (p : Problem) (rule : Rule) (horizon : ℕ) (lines : List Line) (before : List ℕ) (e : Refusal) → number e ≡ 7 → 32 < horizon → Assigns p rule horizon lines before (Err e) before
assigns_not p rule horizon lines before e k h = record { answers = subst (λ n. Answers (assign_tests p rule horizon lines (length before)) n) (sym k) (inr (λ l. omega arith, refl)); writes = refl }
