use Rattle.std.proofs.Common.{◌-◌}
use Rattle.rules.specs.Clauses.{value}
use Rattle.rules.specs.Sheets.{sheet_of}
use Rattle.problem.specs.Tables.{means}
use Rattle.checking.specs.Told.{told}
use Rattle.decoding.specs.Added.{slots_from}
use Rattle.decoding.proofs.Adding.{Way}
use Rattle.decoding.proofs.valuation.Valuation.write_slots.Given as goal

abbrev pub invariant-loop-u : goal.invariant-loop-u
invariant-loop-u l = Way l.initial.sheet (sheet_of (means l.self.table.now) l.self.horizon (value (told l.self.truth.now))) l.sheet (slots_from (means l.self.table.now) (value (told l.self.truth.now)) l.u (l.self.horizon - l.u))
