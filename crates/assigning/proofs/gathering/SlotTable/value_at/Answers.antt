use Rattle.std.proofs.Common.{◌+◌, ◌<◌, arith}
use Rattle.std.proofs.lemmas.Nat.{mod_below}
use Rattle.assigning.proofs.Valuing.{slot_most, slot_below, past_first}
use Rattle.assigning.proofs.gathering.SlotTable.value_at.Goals as goal

pub bounds-self-t : goal.bounds-self-t
bounds-self-t c =
    let t = c.args.self.now.sheet.table.now in
    let w = t.facts + t.steps in
    let pos : 0 < w = omega (arith, c.requires.within) in
    let below = slot_below w t.facts c.args.i pos (omega arith) c.requires.within c.if-k-table.true in
    omega (arith, below, mod_below c.args.i w pos, t.few.1, c.args.self.now.marked.long)

pub overflow_sub-i : goal.overflow_sub-i
overflow_sub-i c =
    let t = c.args.self.now.sheet.table.now in
    let w = t.facts + t.steps in
    let pos : 0 < w = omega (arith, c.requires.within) in
    past_first w c.args.i pos c.if-t-eq0.false

pub bounds-self-t-2 : goal.bounds-self-t-2
bounds-self-t-2 c =
    let t = c.args.self.now.sheet.table.now in
    let w = t.facts + t.steps in
    let pos : 0 < w = omega (arith, c.requires.within) in
    omega (arith, slot_most w t.facts c.args.i pos (omega arith) c.requires.within, c.if-t-eq0.false, c.args.self.now.joined.long)
