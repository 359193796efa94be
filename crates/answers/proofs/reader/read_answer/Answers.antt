use Rattle.std.proofs.Common.{refl, inr, arith}
use Rattle.answers.proofs.Ending.{granted, refused}
use Rattle.answers.proofs.reader.read_answer.Goals as goal

pub returns : goal.returns
returns c = record { answers_by_case = granted c.args.variables (omega arith) c.args.text.now c.args.truth.now c.fill.new.self (omega arith) (c.fill.ensures.after (λ y h. h)) c.in-Some.status c.take_lines.new.truth c.settle.new.truth c.in-Some.ensures.takes_text c.settle.ensures.settles_marks }

pub returns-in_default : goal.returns-in_default
returns-in_default c = record { answers_by_case = inr (refused c.args.variables (omega arith) c.args.text.now c.args.truth.now c.fill.new.self (omega arith) (c.fill.ensures.after (λ y h. h)) c.take_lines.new.truth c.fill-in_default.new.self _ refl c.in_default.ensures.takes_text (omega arith) (c.fill-in_default.ensures.after (λ y h. h))) }
