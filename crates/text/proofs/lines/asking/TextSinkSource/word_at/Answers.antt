use Rattle.std.proofs.Common.{◌≡◌, ◌+◌, ◌∷◌, take, drop, ℤ, sym, ap, ◌∙◌, subst, w32, SFits, rules}
use Rattle.std.proofs.lemmas.Int.{to_z-of_z}
use Rattle.std.proofs.lemmas.List.{drop-drop}
use Rattle.std.proofs.lemmas.Slice.{between_is}
use Rattle.clauses.specs.Walk.{Word}
use Rattle.clauses.specs.Rows.{parse}
use Rattle.clauses.proofs.Rows.{word_read}
use Rattle.text.specs.Scan.{numbers}
use Rattle.text.proofs.Rendering.{shut}
use Rattle.text.proofs.lines.asking.TextSinkSource.word_at.Goals as goal

pub returns-in_err-word : goal.returns-in_err-word
returns-in_err-word c =
    let s = c.args.self.now in
    record {
      reads_word =
          rw c.from_residual.ensures (ap parse (ap numbers (sym (between_is s.bytes.now c.args.place s.used)) ∙ c.in_err-word.ensures.reads_number));
    }

pub returns : goal.returns
returns c =
    let s = c.args.self.now in
    let bs = take s.used s.bytes.now in
    let x = c.in_ok-word.word in
    let long = c.in_ok-word.long in
    let f : SFits w32 x = search rules in
    let ys = numbers (drop (c.args.place + long) bs) in
    let all = between_is s.bytes.now c.args.place s.used in
    let more = ap numbers (ap (drop long) all ∙ drop-drop long c.args.place bs) in
    let is : numbers (drop c.args.place bs) ≡ x ∷ ys = ap numbers (sym all) ∙ c.in_ok-word.ensures.reads_number.0 ∙ ap (λ ws. x ∷ ws) more in
    record {
      reads_word =
          subst (λ (z : ℤ). Word z (parse (numbers (drop c.args.place bs))) (parse ys)) (sym (to_z-of_z w32 x f))
          (word_read (numbers (drop c.args.place bs)) x ys (shut bs s.rendered s.granted c.args.place) is);
    }
