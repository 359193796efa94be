use Rattle.std.proofs.Common.{◌≡◌, ◌+◌, ◌≤◌, length, take, drop, sym, ap, ◌∙◌, arith, rules}
use Rattle.std.proofs.lemmas.Bool.{cond-false}
use Rattle.std.proofs.lemmas.List.{length_push, length-take-le, drop-drop}
use Rattle.rules.specs.Lists.{any}
use Rattle.rules.specs.Clauses.{bad_clause}
use Rattle.clauses.specs.Rows.{parse, word_cost}
use Rattle.clauses.proofs.Granting.{judged_full, judged_ok, none_bad_push}
use Rattle.clauses.proofs.Rows.{spent, count_le, put_clause}
use Rattle.clauses.proofs.words.taking.WordSinkSink.add.Goals as goal

pub returns-then-self-at-clause-grants_where_space : goal.returns-then-self-at-clause-grants_where_space
returns-then-self-at-clause-grants_where_space c =
    let s = c.args.self.now in
    let ws = s.words.now in
    let xs = c.args.clause.now in
    let b = sym c.if-bad_clause.ensures.tells_bad_clause in
    let e = spent ws s.used s.within s.closed s.granted in
    let p = cond-false (bad_clause 4096 xs) 0 (length xs + 1) b in
    sym (judged_full 4096 _ _ xs b (omega arith))

pub overflow_add-self-4 : goal.overflow_add-self-4
overflow_add-self-4 c =
    let s = c.args.self.now in
    let ws = s.words.now in
    let a : s.count ≤ s.used = omega (arith, s.counted, count_le (take s.used ws), length-take-le s.used ws s.within) in
    search rules

pub invariant_of-self-2 : goal.invariant_of-self-2
invariant_of-self-2 c =
    let s = c.args.self.now in
    let ws = s.words.now in
    let xs = c.args.clause.now in
    let w = put_clause s.used s.words.now c.args.clause.now c.put_words.new.words c.put_words.ensures.after (omega arith) s.closed (sym c.if-bad_clause.ensures.tells_bad_clause) in
    record {
      within = w.within;
      closed = w.closed;
      counted = ap (λ n. n + 1) s.counted ∙ sym (ap length w.held ∙ length_push (parse (take s.used ws)) xs);
      granted = ap (any (bad_clause 4096)) w.held ∙ none_bad_push 4096 (parse (take s.used ws)) xs s.granted (sym c.if-bad_clause.ensures.tells_bad_clause);
    }

pub returns-clause-grants_where_space : goal.returns-clause-grants_where_space
returns-clause-grants_where_space c =
    let s = c.args.self.now in
    let xs = c.args.clause.now in
    let b = sym c.if-bad_clause.ensures.tells_bad_clause in
    let p = cond-false (bad_clause 4096 xs) 0 (length xs + 1) b in
    let q = spent s.words.now s.used s.within s.closed s.granted in
    sym (judged_ok 4096 _ _ xs b (omega arith))

pub returns-clause-stands_last : goal.returns-clause-stands_last
returns-clause-stands_last c =
    let s = c.args.self.now in
    let w = put_clause s.used s.words.now c.args.clause.now c.put_words.new.words c.put_words.ensures.after (omega arith) s.closed (sym c.if-bad_clause.ensures.tells_bad_clause) in
    w.held

pub returns-clause-leaves_the_rest : goal.returns-clause-leaves_the_rest
returns-clause-leaves_the_rest c =
    let s = c.args.self.now in
    let ws = s.words.now in
    let xs = c.args.clause.now in
    let p = cond-false (bad_clause 4096 xs) 0 (length xs + 1) (sym c.if-bad_clause.ensures.tells_bad_clause) in
    let sum : s.used + length xs + 1 ≡ s.used + word_cost xs = omega arith in
    let w = put_clause s.used s.words.now c.args.clause.now c.put_words.new.words c.put_words.ensures.after (omega arith) s.closed (sym c.if-bad_clause.ensures.tells_bad_clause) in
    w.rest ∙ ap (λ n. drop n ws) sum ∙ sym (drop-drop (word_cost xs) s.used ws)
