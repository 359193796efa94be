use Rattle.std.proofs.Common.{◌≡◌, ◌∙◌, ℕ, List, ◌++◌, ap, subst, refl, arith, ◌<◌}
use Rattle.std.specs.Fn.{FnReturnsAt}
use Rattle.std.specs.Io.KnownBytes.{Appends}
use Rattle.feeding.specs.Records.{ReturnsBytes, case_text}
use Rattle.feeding.specs.Cases.{ToldCases, NoCase}
use Rattle.feeding.proofs.Reading.{of_all, appends_more}
use Rattle.feeding.proofs.FirstCases.{one_case_more, at_last_case}
use Rattle.feeding.proofs.cases.answer_first_cases.Goals as goal
use Rattle.feeding.proofs.cases.answer_first_cases.Goals.{else-loop-number-test, then-loop-number-test+in_default}

pub loop-number-preserved : goal.loop-number-preserved
loop-number-preserved g c =
    let i = c.loop-number.invariant in
    let answer = c.in_ok-call.field-0.items in
    let text = case_text c.loop-number.number answer in
    let gives : ReturnsBytes (FnReturnsAt g.F.Fn c.args.call) c.in-Some.«record».now answer = (c.in_ok-call.field-0, record { shown = c.in-Some.«record»; shows = refl; says = record { met = subst (λ r. g.F.Fn.post c.args.call (c.in-Some.«record», tt) r) c.in_ok-call.was c.call.ensures } }, refl) in
    let written : c.deref-in-loop-number.result.now ≡ text = c.deref-in-loop-number.ensures.value ∙ c.in_ok-numbered.ensures.heads_answer ∙ ap (case_text c.loop-number.number) c.deref.ensures.value in (
      i.0,
      i.1 ++ text,
      appends_more (g.W.Write.contents c.args.output.now) (g.W.Write.contents c.loop-number.output) (g.W.Write.contents c.write_all.new.self) i.1 text i.2 (subst (λ b. Appends (g.W.Write.contents c.loop-number.output) (g.W.Write.contents c.write_all.new.self) b) written c.in_ok-write_all.ensures.bytes),
      one_case_more (ReturnsBytes (FnReturnsAt g.F.Fn c.args.call)) c.as_slice-left.result.now c.loop-number.number c.loop-number.left.now i.1 c.in-Some.«record».now c.in-Some.rest.now answer i.3 (omega (arith, c.loop-number-test.true)) c.in-Some.ensures.takes_record gives,
    )

pub returns : goal.returns
returns g c =
    let i = c.loop-number.invariant in
    let R = ReturnsBytes (FnReturnsAt g.F.Fn c.args.call) in
    let ended : c.loop-number.number < 100000 → NoCase c.loop-number.left.now =
    elim c.loop-number-test.branch [ else-loop-number-test w ↦ λ few. absurd (omega (arith, few, w.loop-number-test.false)) | then-loop-number-test+in_default w ↦ λ few. w.in_default.ensures.takes_record ] in
    let told = at_last_case R c.as_slice-left.result.now c.loop-number.number c.loop-number.left.now i.1 i.3 ended in
    record {
      writes_answers = of_all
          (λ bytes. (records : List (List ℕ)) × (out : List ℕ) × ToldCases R 1 records bytes out × Appends (g.W.Write.contents c.args.output.now) (g.W.Write.contents c.loop-number.output) out)
          c.new-bytes.result.items c.read_to_end.new.buf.items (g.R.Read.remaining c.args.input)
          c.new-bytes.ensures.items c.in_ok-read_to_end.ensures.bytes
          (told.0, i.1, subst (λ b. ToldCases R 1 told.0 b i.1) c.as_slice-left.ensures.value told.1, i.2);
    }
