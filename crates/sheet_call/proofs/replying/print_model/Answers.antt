use Rattle.std.proofs.Common.{◌≡◌, length, refl, ap, ◌∙◌, inl, inr, arith, rules}
use Rattle.rules.specs.Clauses.{value}
use Rattle.steps.specs.Named.{rule_named}
use Rattle.problem.specs.Listed.{problem_of}
use Rattle.problem.proofs.Lawful.{lawful_head}
use Rattle.memory.specs.Held.{items, room}
use Rattle.checking.specs.Told.{told}
use Rattle.requests.specs.Printed.{refused_line}
use Rattle.sheet_call.specs.Printed.{sheet_text}
use Rattle.sheet_call.proofs.ModelTold.{made_so, sheet_short, only_15}
use Rattle.sheet_call.proofs.replying.print_model.Goals as goal

pub returns-in-Err : goal.returns-in-Err
returns-in-Err c =
    let s = c.args.problem.now.bytes.now in
    let p = problem_of s in
    let rule = rule_named c.args.request.rule in
    let t = c.args.request.horizon in
    let truth = c.args.truth.now in
    let head = lawful_head s c.args.problem.now.lawful in
    let short = sheet_short p t (value (told truth)) c.requires.few_slots head.2 in
    let long : length c.deref_mut.result.now ≡ 4096 = search rules in
    let space : room c.new-sheet.result ≡ 4096 = omega (arith, c.new-sheet.ensures.has_room, long) in
    let only = only_15 p rule t truth (room c.new-sheet.result) c.in-Err.refusal c.requires.few_slots c.requires.truth_bytes (omega (arith, short, space)) c.in-Err.ensures.refuses_in_order in
    record { prints_model = made_so c.refused_text.result _ _ (λ out e. inr (record { none = only.0; text = e ∙ ap refused_line only.1 })) c.refused_text.ensures.prints_refusal }

pub returns : goal.returns
returns c =
    let sheet = c.in_default.ensures.gives_a_sheet refl in
    record { prints_model = made_so c.sheet_text.result _ _ (λ out e. inl (record { lines = items c.decode.new.sheet; sheet = sheet.sheet; holds = sheet.holds; modelled = sheet.modelled; text = e ∙ ap sheet_text c.as_slice.ensures.shows_items })) c.sheet_text.ensures.prints_lines }
