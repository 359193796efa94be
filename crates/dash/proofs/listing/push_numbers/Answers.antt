use Rattle.std.proofs.Common.{refl, arith}
use Rattle.dash.proofs.Pushing.{pushed_more, pushed_all}
use Rattle.dash.proofs.listing.push_numbers.Goals as goal

pub loop-pair-preserved : goal.loop-pair-preserved
loop-pair-preserved g c = (
  c.requires.callable,
  λ of is. pushed_more of c.args.bytes.now.items c.loop-pair.bytes.items c.args.pairs.now c.loop-pair.pair-index (c.loop-pair.invariant.1 of is) c.push_number.new.bytes.items c.number.result (omega arith) (is _ _ (record { shown = _; shows = refl; says = record { met = c.number.ensures } })) c.in_ok-push_number.ensures.adds_two_bytes,
)

pub returns : goal.returns
returns g c = record { adds_each = λ of is. pushed_all of c.args.bytes.now.items c.loop-pair.bytes.items c.args.pairs.now c.loop-pair.pair-index (c.loop-pair.invariant.1 of is) (omega arith) }
