use Rattle.std.proofs.Common.{◌≡◌, get_or, ◌∷◌, [], length, ap, ◌∙◌, rules, arith}
use Rattle.std.proofs.lemmas.Bool.Decides.{nat_tests}
use Rattle.answers.proofs.Turns.{word_on, word_off, word_shorter, last_on, last_off}
use Rattle.answers.proofs.values.take_numbers.Goals as goal

pub returns-in_err-take_literal : goal.returns-in_err-take_literal
returns-in_err-take_literal c =
    let none = c.loop-word.invariant ∙ word_off (length c.args.truth.now) c.loop-word.truth c.loop-word.left.now (omega arith) c.in-Some.word.now c.in-Some.rest.now c.in-Some.ensures.cuts_at_first c.in_err-take_literal.ensures.marks_literal in
    record { takes_numbers = search rules }

pub loop-word-smaller : goal.loop-word-smaller
loop-word-smaller c = word_shorter c.loop-word.left.now c.in-Some.word.now c.in-Some.rest.now c.in-Some.ensures.cuts_at_first

pub loop-word-preserved : goal.loop-word-preserved
loop-word-preserved c = c.loop-word.invariant ∙ word_on (length c.args.truth.now) c.loop-word.truth c.loop-word.left.now (omega arith) c.in-Some.word.now c.in-Some.rest.now c.in-Some.ensures.cuts_at_first _ c.in_ok-take_literal.ensures.marks_literal

pub returns-in_err-take_literal-2 : goal.returns-in_err-take_literal-2
returns-in_err-take_literal-2 c =
    let more : c.loop-word.left.now ≡ 48 ∷ [] → ⊥ = λ e. grind (arith, nat_tests, ap length e, ap (λ x. get_or x 0 0) e, c.if-left-lt1.branch) in
    let none = c.loop-word.invariant ∙ last_off (length c.args.truth.now) c.loop-word.truth c.loop-word.left.now (omega arith) c.in_default.ensures.cuts_at_first more c.in_err-take_literal-2.ensures.marks_literal in
    record { takes_numbers = search rules }

pub returns : goal.returns
returns c =
    let more : c.loop-word.left.now ≡ 48 ∷ [] → ⊥ = λ e. grind (arith, nat_tests, ap length e, ap (λ x. get_or x 0 0) e, c.if-left-lt1.branch) in
    record { takes_numbers = c.loop-word.invariant ∙ last_on (length c.args.truth.now) c.loop-word.truth c.loop-word.left.now (omega arith) c.in_default.ensures.cuts_at_first more _ c.in_ok-take_literal-2.ensures.marks_literal }
