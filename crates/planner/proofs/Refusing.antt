-- Which check of encode fails first.
use Rattle.std.proofs.Common.{◌≡◌, ℕ, ◌<◌, ◌≤◌, eqb, leb, List, length, sym, ap, ◌∙◌}
use Rattle.std.proofs.lemmas.Bool.{cond-true, cond-false, le-leb, lt-leb, eq-eqb, ne_eqb}
use Rattle.rules.specs.Checks.{first_refusal}
use Rattle.rules.specs.Steps.{Rule, Lawful}
use Rattle.rules.specs.Problems.{Problem, Sound}
use Rattle.rules.specs.Clauses.{Clause, total}
use Rattle.rules.specs.Formula.{vars, formula}
use Rattle.rules.proofs.Models.{formula_means_sheets_lem}
use Rattle.rules.proofs.Serial.{sheets_can_be_done_lem}
use Rattle.planner.specs.Encoded.{encode_checks, MeansSheets}

pub means_sheets_lem : (p : Problem) (rule : Rule) (t : ℕ) → Sound p → Lawful rule → MeansSheets p rule t
means_sheets_lem p rule t sound lawful = record { models = formula_means_sheets_lem p sound rule lawful t; plans = sheets_can_be_done_lem p rule lawful t }

module _ (p : Problem) (rule : Rule) (t : ℕ) (held : List Clause) (widest left : ℕ) (cost : Clause → ℕ) where
  pub refuse_7 : 32 < t → 7 ≡ first_refusal (encode_checks p rule t held widest left cost)
  refuse_7 h = sym (cond-false (leb t 32) _ 7 (lt-leb t 32 h))

  module _ (h : t ≤ 32) where
    pub refuse_10 : (length held ≡ 0 → ⊥) → 10 ≡ first_refusal (encode_checks p rule t held widest left cost)
    refuse_10 ne = sym (cond-true (leb t 32) _ 7 (le-leb t 32 h) ∙ cond-false (eqb (length held) 0) _ 10 (ne_eqb (length held) 0 ne))

    module _ (e : length held ≡ 0) where
      pub refuse_11 : widest < vars p t → 11 ≡ first_refusal (encode_checks p rule t held widest left cost)
      refuse_11 l = sym (cond-true (leb t 32) _ 7 (le-leb t 32 h) ∙ cond-true (eqb (length held) 0) _ 10 (eq-eqb (length held) 0 e) ∙ cond-false (leb (vars p t) widest) _ 11 (lt-leb (vars p t) widest l))

      module _ (v : vars p t ≤ widest) where
        pub refuse_9 : left < total cost (formula p rule t) → 9 ≡ first_refusal (encode_checks p rule t held widest left cost)
        refuse_9 l = sym (cond-true (leb t 32) _ 7 (le-leb t 32 h) ∙ cond-true (eqb (length held) 0) _ 10 (eq-eqb (length held) 0 e) ∙ cond-true (leb (vars p t) widest) _ 11 (le-leb (vars p t) widest v) ∙ cond-false (leb (total cost (formula p rule t)) left) 0 9 (lt-leb (total cost (formula p rule t)) left l))

        pub grant : total cost (formula p rule t) ≤ left → 0 ≡ first_refusal (encode_checks p rule t held widest left cost)
        grant l = sym (cond-true (leb t 32) _ 7 (le-leb t 32 h) ∙ cond-true (eqb (length held) 0) _ 10 (eq-eqb (length held) 0 e) ∙ cond-true (leb (vars p t) widest) _ 11 (le-leb (vars p t) widest v) ∙ cond-true (leb (total cost (formula p rule t)) left) 0 9 (le-leb (total cost (formula p rule t)) left l))

-- a formula and its variables by equal parts
pub same_vars : {p q : Problem} {t u : ℕ} → p ≡ q → t ≡ u → vars p t ≡ vars q u
same_vars {p} {q} {t} {u} e h = ap (λ (x : Problem). vars x t) e ∙ ap (vars q) h

pub same_formula : {R : Type 0} (parts : R → Rule) {p q : Problem} {r s : R} {t u : ℕ} → p ≡ q → r ≡ s → t ≡ u → formula p (parts r) t ≡ formula q (parts s) u
same_formula parts {p} {q} {r} {s} {t} {u} e k h = ap (λ (x : Problem). formula x (parts r) t) e ∙ ap (λ y. formula q (parts y) t) k ∙ ap (formula q (parts s)) h
