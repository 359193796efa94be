use Rattle.std.proofs.Common.{List, ℕ, ℤ, ◌-◌, drop, length, subst, sym, ◌∙◌, w32, SFits, rules}
use Rattle.std.proofs.lemmas.Int.{to_z-of_z}
use Rattle.std.proofs.lemmas.List.{take_rest}
use Rattle.clauses.specs.Walk.{Word}
use Rattle.view.specs.Body.{clauses_of}
use Rattle.view.specs.Words.{NextWord}
use Rattle.view.proofs.Walking.{reads_first}
use Rattle.view.proofs.text_view.asking.TextViewSource.word_at.Goals as goal

pub returns : goal.returns
returns c =
    let s = c.args.self.now in
    let t = s.body.now in
    let word = c.in_ok-word.word.now in
    let rest = c.in_ok-word.rest.now in
    let f : SFits w32 c.number_in.result = search rules in
    let next = subst (λ (left : List ℕ). NextWord left word rest) (take_rest t c.args.place) c.in_ok-word.ensures.cuts_word in
    record {
      reads_word =
          subst (λ (z : ℤ). Word z (clauses_of (drop c.args.place t)) (clauses_of (drop (length t - length rest) t)))
          (sym c.number_in.ensures.reads_value ∙ sym (to_z-of_z w32 c.number_in.result f))
          (reads_first t c.args.place word rest next s.closed);
    }
