use Rattle.std.proofs.Common.{length, refl, inr}
use Rattle.problem.specs.Listed.{problem_of}
use Rattle.sheet_call.proofs.ModelTold.{made_so}
use Rattle.sheet_call.proofs.AnswersTold.{truth_bytes, only_13}
use Rattle.sheet_call.proofs.replying.print_answer.Goals as goal

pub print_model-requires : goal.print_model-requires
print_model-requires c =
    let told = c.in-Ok-Satisfiable.ensures.answers_by_case in
    record { few_slots = c.requires.few_slots; truth_bytes = truth_bytes (length c.args.truth.now) _ told.literals _ c.requires.long told.told }

pub returns-in-Err : goal.returns-in-Err
returns-in-Err c =
    let p = problem_of c.args.problem.now.bytes.now in
    let told = c.in-Err.ensures.answers_by_case in
    record { prints_answer = made_so c.refused_text.result _ _ (λ out e. inr (only_13 p c.args.request.horizon (length c.args.truth.now) c.args.answer.now c.args.truth.now _ c.in-Err.refusal refl c.requires.long told _ e)) c.refused_text.ensures.prints_refusal }
