use Rattle.std.proofs.Common.{◌-◌}
use Rattle.rules.specs.Clauses.{value}
use Rattle.problem.specs.Tables.{means}
use Rattle.checking.specs.Told.{told}
use Rattle.decoding.specs.Added.{lines_from, slot_lines}
use Rattle.decoding.proofs.Adding.{Way}
use Rattle.decoding.proofs.valuation.Valuation.write_slot.Given as goal

abbrev pub invariant-loop-a : goal.invariant-loop-a
invariant-loop-a l = Way l.initial.sheet (slot_lines (means l.self.table.now) (value (told l.self.truth.now)) l.u) l.sheet (lines_from (means l.self.table.now) (value (told l.self.truth.now)) l.u l.a (l.a-end - l.a))
