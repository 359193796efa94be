use Rattle.std.proofs.Common.{◌-◌, ap, drop, take, length, ◌∙◌}
use Rattle.std.specs.Option.{unwrap_or}
use Rattle.std.proofs.lemmas.List.{take_rest}
use Rattle.view.specs.Words.{gap}
use Rattle.view.proofs.Runs.{no_word, next, or_end, stop}
use Rattle.view.proofs.walk.next_word.Goals as goal

pub returns-in_err-left : goal.returns-in_err-left
returns-in_err-left c = record { cuts_word = rw c.from_residual.ensures (no_word c.args.text.now c.in_err-left.ensures.finds_word) }

pub returns : goal.returns
returns c =
    let t = c.args.text.now in
    let i = c.in_ok-left.field-0 in
    let tail = take_rest t i in
    let left = take (length t - i) (drop i t) in
    let end = c.unwrap_or-end.ensures ∙ ap (λ o. unwrap_or o (length left)) c.gap_start.ensures.finds_gap ∙ or_end gap left ∙ ap stop tail in
    record { cuts_word = next t _ _ i c.unwrap_or-end.result c.in_ok-left.ensures.finds_word end (c.split_at.ensures.front ∙ ap (take c.unwrap_or-end.result) tail) (c.split_at.ensures.back ∙ ap (drop c.unwrap_or-end.result) tail) }
