use Rattle.std.proofs.Common.{◌≤◌, length, take, drop, sym, ap, ◌∙◌, arith, length-take}
use Rattle.std.proofs.lemmas.List.{take-append-drop, drop-append-le}
use Rattle.memory.proofs.lent_list.List.cut.Goals as goal

pub returns-clause-gives_back : goal.returns-clause-gives_back
returns-clause-gives_back g c =
    let s = c.args.self.now in
    let m = s.memory.now in
    let held : c.args.n ≤ length (take s.len m) = omega (arith, length-take s.len m) in
    sym (ap (drop c.args.n) (take-append-drop s.len m)) ∙ drop-append-le c.args.n (take s.len m) (drop s.len m) held
