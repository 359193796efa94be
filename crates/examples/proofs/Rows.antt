-- The rows of the table, by computation.
use Rattle.std.proofs.Common.{◌≡◌, ℕ, ◌-◌, ◌≤◌, Bool, true, List, [], ◌∷◌, map, length, sym, refl, ap, ◌∙◌, subst, inl, inr, arith}
use mathlib.Core.List.{head-eq_of_cons-eq, tail-eq_of_cons-eq}
use Rattle.std.specs.Fmt.{digits}
use Rattle.std.specs.List.{AllByRecursion}
use Rattle.rules.specs.Checks.{first_refusal, Answers}
use Rattle.checking.specs.Told.{told, bytes_of}
use Rattle.decoding.specs.Decode.{decode_tests}
use Rattle.decoding.proofs.Rounds.{undoes_assign_lem}
use Rattle.rules.specs.Lists.{any}
use Rattle.rules.specs.Steps.{Lawful}
use Rattle.rules.specs.Clauses.{Model, Meets, says, value, total, literals}
use Rattle.rules.specs.Formula.{vars, formula}
use Rattle.rules.specs.Sheets.{Sheet, Holds, model, sheet_of}
use Rattle.rules.proofs.Models.{formula_means_sheets_lem}
use Rattle.rules.proofs.Rules.{single_lawful_lem, parallel_lawful_lem}
use Rattle.clauses.specs.Rows.{word_cost}
use Rattle.problem.specs.Listed.{problem_of}
use Rattle.problem.specs.Verdict.{verdict}
use Rattle.problem.proofs.Lawful.{lawful_sound}
use Rattle.planner.specs.Encoded.{encode_checks}
use Rattle.requests.specs.Written.{written}
use Rattle.examples.specs.Table.{ExamplesHold, SheetExamplesHold, GoesBothWays, Printed, Prints, texts, refusals, Sized, Sizes, sizes, Encoded, Encodes, encodings, Solved, Solves, sheets, OnlyModel, only_sheets}
use Rattle.examples.proofs.Replies.{replies_told}
use Rattle.examples.proofs.Only.{every, tried, meets_all, same, only}

-- what is computed of each row is what the row says
all_computed : {X Y : Type 0} (P : X → Type 0) (computed said : X → Y) → ((x : X) → computed x ≡ said x → P x) → (xs : List X) → map computed xs ≡ map said xs → AllByRecursion P xs
all_computed P computed said holds [] e = tt
all_computed P computed said holds (x ∷ xs) e = (holds x (head-eq_of_cons-eq e), all_computed P computed said holds xs (tail-eq_of_cons-eq e))

texts_printed : AllByRecursion Prints texts
unfolding digits
texts_printed = all_computed Prints (λ row. written row.input) (λ row. row.text) (λ row e. e) texts refl

refusals_printed : AllByRecursion Prints refusals
unfolding digits
refusals_printed = all_computed Prints (λ row. written row.input) (λ row. row.text) (λ row e. e) refusals refl

-- the verdict, V, C, L and the words
count : Sized → ℕ × ℕ × ℕ × ℕ × ℕ
count row = (verdict row.bytes, vars (problem_of row.bytes) row.horizon, length (formula (problem_of row.bytes) row.rule row.horizon), literals (formula (problem_of row.bytes) row.rule row.horizon), total word_cost (formula (problem_of row.bytes) row.rule row.horizon))

counted : (row : Sized) → count row ≡ (0, row.counts.0, row.counts.1, row.counts.2, row.words) → Sizes row
unfolding count
counted row e = record {
  granted = ap (λ s. s.0) e;
  are = record { variables = sym (ap (λ s. s.1) e); clauses = sym (ap (λ s. s.2) e); all_literals = sym (ap (λ s. s.3) e) };
  costs = ap (λ s. s.4) e;
}

sizes_counted : AllByRecursion Sizes sizes
unfolding count
sizes_counted = all_computed Sizes count (λ row. (0, row.counts.0, row.counts.1, row.counts.2, row.words)) counted sizes refl

-- the verdict, and encode's answer
encode : Encoded → ℕ × ℕ
encode row = (verdict row.bytes, first_refusal (encode_checks (problem_of row.bytes) row.rule row.horizon row.held 4096 (row.words - total word_cost row.held) word_cost))

answered : (row : Encoded) → encode row ≡ (0, row.answer) → Encodes row
unfolding encode
answered row e = record { granted = ap (λ s. s.0) e; answers = ap (λ s. s.1) e }

formulas_encoded : AllByRecursion Encodes encodings
unfolding encode
formulas_encoded = all_computed Encodes encode (λ row. (0, row.answer)) answered encodings refl

-- that the lines are a sheet that holds comes from their being read off a model
module _ (row : Solved) (lawful : Lawful row.rule) (v : verdict row.bytes ≡ 0) where
  solves : length row.values ≡ vars (problem_of row.bytes) row.horizon → map (any (says (value row.values))) (formula (problem_of row.bytes) row.rule row.horizon) ≡ map (λ c. true) (formula (problem_of row.bytes) row.rule row.horizon) → model (problem_of row.bytes) row.horizon row.lines ≡ row.values → sheet_of (problem_of row.bytes) row.horizon (value row.values) ≡ row.lines → Solves row
  solves long meets m s =
      let w = value row.values in
      let is : Model (vars (problem_of row.bytes) row.horizon) (formula (problem_of row.bytes) row.rule row.horizon) row.values = record { long = long; meets = all_computed (Meets w) (any (says w)) (λ c. true) (λ c e. e) (formula (problem_of row.bytes) row.rule row.horizon) meets } in
      let d = (formula_means_sheets_lem (problem_of row.bytes) (lawful_sound row.bytes v) row.rule lawful row.horizon).decodes row.values is in
      record {
        granted = v;
        is_sheet = subst (Sheet (problem_of row.bytes) row.horizon) s d.0;
        holds = subst (Holds (problem_of row.bytes) row.rule row.horizon) s d.1;
        is_model = is;
        gives_values = m;
        gives_lines = s;
      }

sheets_solve : AllByRecursion Solves sheets
sheets_solve = (
  solves _ parallel_lawful_lem refl refl refl refl refl,
  (
    solves _ parallel_lawful_lem refl refl refl refl refl,
    (solves _ single_lawful_lem refl refl refl refl refl, tt),
  ),
)

-- a row that is solved is decoded and assigned
both_ways : (row : Solved) → Lawful row.rule → row.horizon ≤ 32 → Solves row → GoesBothWays row
both_ways row lawful few r =
    let law = formula_means_sheets_lem (problem_of row.bytes) (lawful_sound row.bytes r.granted) row.rule lawful row.horizon in
    let back = undoes_assign_lem (problem_of row.bytes) row.rule row.horizon law (length row.lines) few row.lines r.is_sheet r.holds (omega arith) in
    record {
      decode_grants = subst (λ (vs : List Bool). Answers (decode_tests (problem_of row.bytes) row.rule row.horizon (bytes_of vs) (length row.lines)) 0) r.gives_values back.grants;
      decode_gives = ap (λ (vs : List Bool). sheet_of (problem_of row.bytes) row.horizon (value (told (bytes_of vs)))) (sym r.gives_values) ∙ back.reads;
      assign_grants = inl (few, inl (r.is_model.long, inl (r.is_sheet, inl (r.holds, refl))));
    }

rows_go_both_ways : AllByRecursion GoesBothWays sheets
rows_go_both_ways = (
  both_ways _ parallel_lawful_lem (omega arith) sheets_solve.0,
  (
    both_ways _ parallel_lawful_lem (omega arith) sheets_solve.1.0,
    (both_ways _ single_lawful_lem (omega arith) sheets_solve.1.1.0, tt),
  ),
)

models_are_only : AllByRecursion OnlyModel only_sheets
models_are_only = (only 10 _ _ refl, (only 6 _ _ refl, tt))

pub examples_hold_lem : ExamplesHold
examples_hold_lem = record {
  texts_printed = texts_printed;
  refusals_printed = refusals_printed;
  sizes_counted = sizes_counted;
  formulas_encoded = formulas_encoded;
  sheets_solve = sheets_solve;
}

pub sheet_examples_hold_lem : SheetExamplesHold
sheet_examples_hold_lem = record { rows_go_both_ways = rows_go_both_ways; models_are_only = models_are_only; replies_told = replies_told sheets_solve }
