use Rattle.std.proofs.Common.{eqb, sym, ◌∙◌, rules, tests}
use Rattle.std.proofs.lemmas.Iterator.{YieldsList-from_slice}
use Rattle.std.proofs.lemmas.Iterator.Search.{position_from_yields_List}
use Rattle.lines.proofs.Cuts.{uncut, cut}
use Rattle.lines.proofs.cutting.cut_at.Goals as goal

pub returns-in_err-n : goal.returns-in_err-n
returns-in_err-n c = let first = position_from_yields_List (λ b. eqb b c.args.at) _ _ c.position.result c.position.ensures.ran (YieldsList-from_slice _ c.iter.ensures.rest) (λ x b q k. search (rules, tests)) in let none = uncut c.args.at c.args.text.now (sym first ∙ c.in_err-n.was) in record { cuts_at_first = search rules }

pub returns : goal.returns
returns c = let first = position_from_yields_List (λ b. eqb b c.args.at) _ _ c.position.result c.position.ensures.ran (YieldsList-from_slice _ c.iter.ensures.rest) (λ x b q k. search (rules, tests)) in record { cuts_at_first = cut c.args.at c.args.text.now c.in_ok-n.n (sym first ∙ c.in_ok-n.was) }
