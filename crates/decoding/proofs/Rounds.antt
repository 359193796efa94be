-- Bytes and truth values are one another's, and decode undoes assign.
use Rattle.std.proofs.Common.{◌≡◌, ℕ, ◌≤◌, Bool, true, false, cond, List, [], ◌∷◌, length, sym, refl, ap, ◌∙◌, subst, arith}
use Rattle.std.specs.List.{AllByRecursion}
use Rattle.std.proofs.lemmas.List.{length-map}
use Rattle.rules.specs.declared.line.Line.{Line}
use Rattle.rules.specs.Steps.{Rule}
use Rattle.rules.specs.Problems.{Problem}
use Rattle.rules.specs.Clauses.{Model, Satisfies, value}
use Rattle.rules.specs.Formula.{vars, formula}
use Rattle.rules.specs.Sheets.{Sheet, Holds, model, sheet_of}
use Rattle.rules.specs.Laws.{ModelsAreSheets}
use Rattle.checking.specs.Told.{told, bytes_of, TruthBytes}
use Rattle.decoding.specs.Decode.{SheetOfModel}
use Rattle.decoding.specs.Round.{UndoesAssign}
use Rattle.decoding.proofs.Refusing.{grant}

pub told_back : (vs : List Bool) → told (bytes_of vs) ≡ vs
told_back [] = refl
told_back (true ∷ vs) = ap (λ ws. true ∷ ws) (told_back vs)
told_back (false ∷ vs) = ap (λ ws. false ∷ ws) (told_back vs)

bits_of : (vs : List Bool) → AllByRecursion (λ b. b ≤ 1) (bytes_of vs)
bits_of [] = tt
bits_of (true ∷ vs) = (omega arith, bits_of vs)
bits_of (false ∷ vs) = (omega arith, bits_of vs)

module _ (p : Problem) (rule : Rule) (horizon : ℕ) (law : ModelsAreSheets p rule horizon) where
  -- a sheet that holds is the one that is read off its model
  pub read_back : (lines : List Line) → Sheet p horizon lines → Holds p rule horizon lines → sheet_of p horizon (value (model p horizon lines)) ≡ lines
  read_back lines sheet holds =
      let d = law.decodes (model p horizon lines) (law.encodes lines sheet holds) in
      law.one_each (sheet_of p horizon (value (model p horizon lines))) lines d.0 sheet d.2

  pub sheet_of_model : (truth : List ℕ) → Model (vars p horizon) (formula p rule horizon) (told truth) → SheetOfModel p rule horizon truth (sheet_of p horizon (value (told truth)))
  sheet_of_model truth m = let d = law.decodes (told truth) m in record { sheet = d.0; holds = d.1; modelled = d.2 }

  pub undoes_assign_lem : (space : ℕ) → UndoesAssign p rule horizon space
  undoes_assign_lem space h lines sheet holds l =
      let vs = model p horizon lines in
      let m = law.encodes lines sheet holds in
      let same : told (bytes_of vs) ≡ vs = told_back vs in
      let e : sheet_of p horizon (value (told (bytes_of vs))) ≡ lines = ap (λ ws. sheet_of p horizon (value ws)) same ∙ read_back lines sheet holds in
      let bytes : TruthBytes (vars p horizon) (bytes_of vs) = record { long = length-map vs (λ v. cond v 1 0) ∙ m.long; bits = bits_of vs } in
      record {
        grants = grant p rule horizon (bytes_of vs) space h bytes (subst (λ (ws : List Bool). Satisfies (value ws) (formula p rule horizon)) (sym same) m.meets) (omega (arith, ap length e));
        reads = e;
      }
