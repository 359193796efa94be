use Rattle.std.proofs.Common.{◌≡◌, ◌+◌, ◌-◌, ◌<◌, length}
use Rattle.rules.specs.Clauses.{value}
use Rattle.problem.specs.Tables.{means}
use Rattle.checking.specs.Told.{told}
use Rattle.decoding.specs.Added.{lines_from, slot_lines}
use Rattle.decoding.proofs.valuation.Valuation.count_slot.Given as goal

abbrev pub invariant-loop-a : goal.invariant-loop-a
invariant-loop-a l = (l.n + length (lines_from (means l.self.table.now) (value (told l.self.truth.now)) l.u l.a (l.a-end - l.a)) ≡ length (slot_lines (means l.self.table.now) (value (told l.self.truth.now)) l.u)) × (l.n < l.a)
