use Rattle.problem.specs.Listed.{problem_of}
use Rattle.problem.proofs.Lawful.{lawful_sound}
use Rattle.planner.proofs.Refusing.{means_sheets_lem}
use Rattle.planner.proofs.encoding.encode.Goals as goal

pub returns-then-horizon-gt32-clause-means_sheets : goal.returns-then-horizon-gt32-clause-means_sheets
returns-then-horizon-gt32-clause-means_sheets g c = means_sheets_lem (problem_of c.args.problem.now.bytes.now) (g.R.SlotRule.parts c.args.rule.now) c.args.horizon (lawful_sound c.args.problem.now.bytes.now c.args.problem.now.lawful) (g.met.R.SlotRule.lawful c.args.rule.now)

pub returns-in_err-formula-clause-means_sheets : goal.returns-in_err-formula-clause-means_sheets
returns-in_err-formula-clause-means_sheets g c = means_sheets_lem (problem_of c.args.problem.now.bytes.now) (g.R.SlotRule.parts c.args.rule.now) c.args.horizon (lawful_sound c.args.problem.now.bytes.now c.args.problem.now.lawful) (g.met.R.SlotRule.lawful c.args.rule.now)

pub returns-then-clause_count-ne0-clause-means_sheets : goal.returns-then-clause_count-ne0-clause-means_sheets
returns-then-clause_count-ne0-clause-means_sheets g c = means_sheets_lem (problem_of c.args.problem.now.bytes.now) (g.R.SlotRule.parts c.args.rule.now) c.args.horizon (lawful_sound c.args.problem.now.bytes.now c.args.problem.now.lawful) (g.met.R.SlotRule.lawful c.args.rule.now)

pub returns-then-variables-widest_variable-clause-means_sheets : goal.returns-then-variables-widest_variable-clause-means_sheets
returns-then-variables-widest_variable-clause-means_sheets g c = means_sheets_lem (problem_of c.args.problem.now.bytes.now) (g.R.SlotRule.parts c.args.rule.now) c.args.horizon (lawful_sound c.args.problem.now.bytes.now c.args.problem.now.lawful) (g.met.R.SlotRule.lawful c.args.rule.now)

pub returns-then-not-formula_fits-clause-means_sheets : goal.returns-then-not-formula_fits-clause-means_sheets
returns-then-not-formula_fits-clause-means_sheets g c = means_sheets_lem (problem_of c.args.problem.now.bytes.now) (g.R.SlotRule.parts c.args.rule.now) c.args.horizon (lawful_sound c.args.problem.now.bytes.now c.args.problem.now.lawful) (g.met.R.SlotRule.lawful c.args.rule.now)

pub returns-clause-means_sheets : goal.returns-clause-means_sheets
returns-clause-means_sheets g c = means_sheets_lem (problem_of c.args.problem.now.bytes.now) (g.R.SlotRule.parts c.args.rule.now) c.args.horizon (lawful_sound c.args.problem.now.bytes.now c.args.problem.now.lawful) (g.met.R.SlotRule.lawful c.args.rule.now)
