use Rattle.std.proofs.Common.{◌≡◌, map, length, take}
use Rattle.std.specs.List.{range_with_len}
use Rattle.rules.specs.Sheets.{valued}
use Rattle.problem.specs.Tables.{means}
use Rattle.checking.specs.Told.{bytes_of}
use Rattle.assigning.proofs.gathering.SlotTable.build.Given as goal

abbrev pub invariant-loop-i : goal.invariant-loop-i
invariant-loop-i l = (length l.bytes ≡ 6208) × (take l.i l.bytes ≡ bytes_of (map (valued (means l.self.sheet.table.now) l.self.sheet.lines.now) (range_with_len 0 l.i)))
