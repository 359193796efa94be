use Rattle.std.proofs.Common.{refl, ap, subst, List, ℕ}
use Rattle.std.specs.Fn.{FnOnceReturnsAt}
use Rattle.std.specs.Io.KnownBytes.{Appends}
use Rattle.feeding.specs.Records.{ReturnsBytes}
use Rattle.feeding.proofs.Reading.{of_known}
use Rattle.feeding.proofs.whole.answer_input.Goals as goal

pub returns : goal.returns
returns g c = record {
  writes_answer = of_known 65537 c.take.result.limit
      (λ xs. (out : List ℕ) × ReturnsBytes (FnOnceReturnsAt g.F.FnOnce c.args.call) xs out × Appends (g.W.Write.contents c.args.output.now) (g.W.Write.contents c.write_all.new.self) out)
      c.new-bytes.result.items c.read_to_end.new.buf.items (g.R.Read.remaining c.args.input) (g.R.Read.remaining c.take.result.inner)
      c.take.ensures.limit (ap g.R.Read.remaining c.take.ensures.inner) c.new-bytes.ensures.items c.in_ok-read_to_end.ensures.bytes
      (c.in_ok-answer.answer.items, (c.in_ok-answer.answer, (c.deref.result, subst (λ r. g.F.FnOnce.post c.args.call (c.deref.result, tt) r) c.in_ok-answer.was c.call.ensures, c.deref.ensures.value), refl), subst (λ b. Appends (g.W.Write.contents c.args.output.now) (g.W.Write.contents c.write_all.new.self) b) c.deref-2.ensures.value c.in_ok-write_all.ensures.bytes);
}
