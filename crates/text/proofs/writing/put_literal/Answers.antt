use Rattle.std.proofs.Common.{◌+◌, ◌<◌, List, ℕ, [], ◌∷◌, ◌++◌, length, take, set, pos, decimal, sym, ap, ◌∙◌, arith, length-set, w32, to_z, of_z}
use lib.Signed.{lt_z}
use mir.Val.{bool_byte}
use Rattle.std.proofs.lemmas.List.{take-set-le, drop-set-lt}
use Rattle.std.proofs.lemmas.Int.{to_z-of_z}
use Rattle.text.proofs.Places.{more_from, written_from, rest_from, literal_long, literal_front}
use Rattle.text.proofs.writing.put_literal.Goals as goal

pub loop-i-preserved : goal.loop-i-preserved
loop-i-preserved c =
    let z = to_z w32 (of_z w32 c.args.l) in
    let n = c.digit_count-count.result in
    let long = literal_long z c.args.l c.unsigned_abs-size.result (to_z-of_z w32 c.args.l c.ranges.l) c.unsigned_abs-size.ensures.value n c.digit_count-count.ensures.counts_digits in
    let v = set c.args.bytes.now 0 45 in
    more_from _ _ _ _ _ _ _ _ c.loop-i.invariant (sym c.digit_count-count.ensures.counts_digits) c.loop-i-test.true (omega (arith, long, c.requires.room, length-set v (bool_byte (lt_z z (pos 0)) + n) 32, length-set c.args.bytes.now 0 45))

pub returns-clause-writes_literal : goal.returns-clause-writes_literal
returns-clause-writes_literal c =
    let ws = c.args.bytes.now in
    let l = c.args.l in
    let m = c.unsigned_abs-size.result in
    let z = to_z w32 (of_z w32 l) in
    let is = to_z-of_z w32 l c.ranges.l in
    let first = bool_byte (lt_z z (pos 0)) in
    let n = c.digit_count-count.result in
    let v = set ws 0 45 in
    let w = set v (first + n) 32 in
    let long = literal_long z l m is c.unsigned_abs-size.ensures.value n c.digit_count-count.ensures.counts_digits in
    let room : first + n < length w = omega (arith, long, c.requires.room, length-set v (first + n) 32, length-set ws 0 45) in
    written_from w (decimal m) (take first w) first n c.loop-i.i c.loop-i.left c.loop-i.bytes c.loop-i.invariant (sym c.digit_count-count.ensures.counts_digits) c.loop-i-test.false room
    ∙ ap (λ (xs : List ℕ). xs ++ (decimal m ++ (32 ∷ []))) (take-set-le first v (first + n) 32 (omega arith))
    ∙ literal_front z l m is c.unsigned_abs-size.ensures.value ws (omega (arith, long, c.requires.room))

pub returns-clause-leaves_the_rest : goal.returns-clause-leaves_the_rest
returns-clause-leaves_the_rest c =
    let ws = c.args.bytes.now in
    let m = c.unsigned_abs-size.result in
    let z = to_z w32 (of_z w32 c.args.l) in
    let first = bool_byte (lt_z z (pos 0)) in
    let n = c.digit_count-count.result in
    let v = set ws 0 45 in
    let w = set v (first + n) 32 in
    let long = literal_long z c.args.l m (to_z-of_z w32 c.args.l c.ranges.l) c.unsigned_abs-size.ensures.value n c.digit_count-count.ensures.counts_digits in
    let room : first + n < length w = omega (arith, long, c.requires.room, length-set v (first + n) 32, length-set ws 0 45) in
    rest_from w (decimal m) (take first w) first n c.loop-i.i c.loop-i.left c.loop-i.bytes c.loop-i.invariant (sym c.digit_count-count.ensures.counts_digits) c.loop-i-test.false room
    ∙ drop-set-lt (first + n + 1) v (first + n) 32 (omega arith)
    ∙ drop-set-lt (first + n + 1) ws 0 45 (omega arith)
