use Rattle.std.proofs.Common.{◌+◌, ◌<◌, length, get_or, take, drop, ℤ, pos, sym, ◌∙◌, subst, arith, w32, SFits, rules}
use Rattle.std.proofs.lemmas.Int.{to_z-of_z}
use Rattle.std.proofs.lemmas.List.{length-take-le, get_or-take, at_drop_all}
use Rattle.clauses.specs.Walk.{Word}
use Rattle.clauses.specs.Rows.{parse}
use Rattle.clauses.proofs.Rows.{reads_row}
use Rattle.clauses.proofs.words.asking.WordSinkSource.word_at.Goals as goal

pub returns-then-place-self : goal.returns-then-place-self
returns-then-place-self c =
    let s = c.args.self.now in
    let ws = s.words.now in
    let i = c.args.place in
    let f : SFits w32 (get_or ws i (pos 0)) = search rules in
    let l : i < length (take s.used ws) = omega (arith, length-take-le s.used ws s.within) in
    record {
      reads_word =
          subst (λ (z : ℤ). Word z (parse (drop i (take s.used ws))) (parse (drop (i + 1) (take s.used ws))))
          (get_or-take s.used ws i (pos 0) c.if-place-self.true ∙ sym (to_z-of_z w32 (get_or ws i (pos 0)) f))
          (reads_row (take s.used ws) i s.closed l);
    }

pub returns-else-place-self : goal.returns-else-place-self
returns-else-place-self c =
    let s = c.args.self.now in
    let ws = s.words.now in
    record {
      reads_word =
          at_drop_all parse (take s.used ws) c.args.place (omega (arith, length-take-le s.used ws s.within));
    }
