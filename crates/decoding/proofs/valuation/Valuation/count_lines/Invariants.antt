use Rattle.std.proofs.Common.{◌≡◌, ◌+◌, ◌-◌, ◌*◌, ◌≤◌, length}
use Rattle.rules.specs.Clauses.{value}
use Rattle.rules.specs.Sheets.{sheet_of}
use Rattle.problem.specs.Tables.{means}
use Rattle.checking.specs.Told.{told}
use Rattle.decoding.specs.Added.{slots_from}
use Rattle.decoding.proofs.valuation.Valuation.count_lines.Given as goal

abbrev pub invariant-loop-u : goal.invariant-loop-u
invariant-loop-u l = (l.n + length (slots_from (means l.self.table.now) (value (told l.self.truth.now)) l.u (l.self.horizon - l.u)) ≡ length (sheet_of (means l.self.table.now) l.self.horizon (value (told l.self.truth.now)))) × (l.n ≤ 128 * l.u)
