use Rattle.std.proofs.Common.{◌≡◌, ◌+◌, ◌≤◌, [], ◌∷◌, ◌++◌, length, get_or, take, drop, ℤ, pos, sym, ap, ◌∙◌, arith, w32, SFits, rules}
use Rattle.std.proofs.lemmas.List.{length-append, take_rest, length-drop}
use Rattle.std.proofs.lemmas.Int.{to_z-of_z}
use Rattle.rules.specs.Lists.{each}
use Rattle.text.specs.Lines.{literal_text}
use Rattle.text.proofs.Rendering.{literals_more, literals_within, room_here}
use Rattle.text.proofs.Tails.{tail_long, tail_take, tail_drop}
use Rattle.text.proofs.writing.put_line.Goals as goal

pub put_literal-at-requires-clause-room : goal.put_literal-at-requires-clause-room
put_literal-at-requires-clause-room c =
    let xs = c.args.clause.now in
    let i = c.loop-l.l-index in
    let f : SFits w32 (get_or xs i (pos 0)) = search rules in
    omega (
      arith,
      c.loop-l.invariant.0,
      c.loop-l.invariant.1,
      ap length (take_rest c.loop-l.bytes c.loop-l.at) ∙ length-drop c.loop-l.at c.loop-l.bytes,
      ap (λ (z : ℤ). length (literal_text z)) (to_z-of_z w32 (get_or xs i (pos 0)) f),
      room_here 0 xs i (length c.args.bytes.now) c.loop-l-test.true (omega (arith, c.requires.room)),
    )

pub loop-l-preserved : goal.loop-l-preserved
loop-l-preserved c =
    let xs = c.args.clause.now in
    let i = c.loop-l.l-index in
    let at = c.loop-l.at in
    let bs = c.loop-l.bytes in
    let r = c.put_literal-at.result in
    let f : SFits w32 (get_or xs i (pos 0)) = search rules in
    let same = ap literal_text (to_z-of_z w32 (get_or xs i (pos 0)) f) in
    let more = literals_more xs i c.loop-l-test.true in
    let sum = length-append (each literal_text (take i xs)) (literal_text (get_or xs i (pos 0))) in
    let next : at + r ≡ length (each literal_text (take (i + 1) xs)) = omega (arith, c.put_literal-at.ensures.counts_bytes, c.loop-l.invariant.1, ap length same, ap length more, sum) in
    let end : at + r ≤ length (each literal_text xs ++ (48 ∷ 10 ∷ [])) = omega (arith, next, literals_within xs (i + 1), length-append (each literal_text xs) (48 ∷ 10 ∷ [])) in
    let tail = take_rest bs at in
    let within : at ≤ length bs = omega (arith, c.loop-l.invariant.0, end, c.requires.room) in
    let long = c.put_literal-at.ensures.keeps_length ∙ ap length tail ∙ length-drop at bs in (
      tail_long bs _ at within long ∙ c.loop-l.invariant.0,
      next,
      tail_take bs _ at within long r
          ∙ ap (λ ys. take at bs ++ ys) (c.put_literal-at.ensures.writes_literal ∙ same)
          ∙ ap (λ ys. ys ++ literal_text (get_or xs i (pos 0))) c.loop-l.invariant.2
          ∙ sym more,
      tail_drop bs _ at within long r _ end (c.put_literal-at.ensures.leaves_the_rest ∙ ap (drop r) tail) ∙ c.loop-l.invariant.3,
    )
