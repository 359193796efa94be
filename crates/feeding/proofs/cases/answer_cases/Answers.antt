use Rattle.std.proofs.Common.{◌≡◌, ◌∙◌, ℕ, List, [], ◌++◌, ap, subst, refl, arith}
use Rattle.std.specs.Fn.{FnReturnsAt}
use Rattle.std.specs.Io.KnownBytes.{Appends}
use Rattle.feeding.specs.Records.{ReturnsBytes, Told, case_text}
use Rattle.feeding.proofs.Reading.{of_all, appends_none, appends_more}
use Rattle.feeding.proofs.Records.{first_longer, at_first, one_more, at_last}
use Rattle.feeding.proofs.cases.answer_cases.Goals as goal

pub loop-record-init : goal.loop-record-init
loop-record-init g c = (c.requires.callable, omega arith, [], appends_none (g.W.Write.contents c.args.output.now), at_first (ReturnsBytes (FnReturnsAt g.F.Fn c.args.call)) c.as_slice-left.result.now)

pub overflow_add-number : goal.overflow_add-number
overflow_add-number g c = omega (arith, c.loop-record.invariant.1, first_longer c.loop-record.left.now c.in-Some.«record».now c.in-Some.rest.now c.in-Some.ensures.takes_record)

pub loop-record-smaller : goal.loop-record-smaller
loop-record-smaller g c = first_longer c.loop-record.left.now c.in-Some.«record».now c.in-Some.rest.now c.in-Some.ensures.takes_record

pub loop-record-preserved : goal.loop-record-preserved
loop-record-preserved g c =
    let i = c.loop-record.invariant in
    let answer = c.in_ok-call.field-0.items in
    let text = case_text c.loop-record.number answer in
    let gives : ReturnsBytes (FnReturnsAt g.F.Fn c.args.call) c.in-Some.«record».now answer = (c.in_ok-call.field-0, record { shown = c.in-Some.«record»; shows = refl; says = record { met = subst (λ r. g.F.Fn.post c.args.call (c.in-Some.«record», tt) r) c.in_ok-call.was c.call.ensures } }, refl) in
    let written : c.deref-in-Some.result.now ≡ text = c.deref-in-Some.ensures.value ∙ c.in_ok-numbered.ensures.heads_answer ∙ ap (case_text c.loop-record.number) c.deref.ensures.value in (
      i.0,
      omega (arith, i.1, first_longer c.loop-record.left.now c.in-Some.«record».now c.in-Some.rest.now c.in-Some.ensures.takes_record),
      i.2 ++ text,
      appends_more (g.W.Write.contents c.args.output.now) (g.W.Write.contents c.loop-record.output) (g.W.Write.contents c.write_all.new.self) i.2 text i.3 (subst (λ b. Appends (g.W.Write.contents c.loop-record.output) (g.W.Write.contents c.write_all.new.self) b) written c.in_ok-write_all.ensures.bytes),
      one_more (ReturnsBytes (FnReturnsAt g.F.Fn c.args.call)) c.as_slice-left.result.now c.loop-record.number c.loop-record.left.now i.2 c.in-Some.«record».now c.in-Some.rest.now answer i.4 c.in-Some.ensures.takes_record gives,
    )

pub returns : goal.returns
returns g c =
    let i = c.loop-record.invariant in
    let R = ReturnsBytes (FnReturnsAt g.F.Fn c.args.call) in
    let told = at_last R c.as_slice-left.result.now c.loop-record.number c.loop-record.left.now i.2 i.4 c.in_default.ensures.takes_record in
    record {
      writes_answers = of_all
          (λ bytes. (records : List (List ℕ)) × (out : List ℕ) × Told R 1 records bytes out × Appends (g.W.Write.contents c.args.output.now) (g.W.Write.contents c.loop-record.output) out)
          c.new-bytes.result.items c.read_to_end.new.buf.items (g.R.Read.remaining c.args.input)
          c.new-bytes.ensures.items c.in_ok-read_to_end.ensures.bytes
          (told.0, i.2, subst (λ b. Told R 1 told.0 b i.2) c.as_slice-left.ensures.value told.1, i.3);
    }
