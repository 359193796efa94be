use Rattle.std.proofs.Common.{◌≡◌, ◌+◌, ◌-◌, ◌≤◌, map, length, take, drop, pos, sym, ap, ◌∙◌, arith, rules}
use Rattle.std.proofs.lemmas.List.{length_push, drop-map}
use Rattle.std.proofs.lemmas.Bool.{cond-false, leb-true, leb-false}
use Rattle.rules.specs.Clauses.{bad_clause}
use Rattle.clauses.specs.Rows.{parse}
use Rattle.clauses.proofs.Granting.{judged_full, judged_ok}
use Rattle.text.specs.Lines.{line_text, text_cost}
use Rattle.text.specs.Scan.{numbers}
use Rattle.text.proofs.Rendering.{spent, few, put_line}
use Rattle.text.proofs.lines.taking.TextSinkSink.add.Goals as goal

pub returns-then-not-line_fits-clause-grants_where_space : goal.returns-then-not-line_fits-clause-grants_where_space
returns-then-not-line_fits-clause-grants_where_space c =
    let s = c.args.self.now in
    let xs = c.args.clause.now in
    let b = sym c.if-bad_clause.ensures.tells_bad_clause in
    let e = spent s.bytes.now s.used s.within s.rendered s.granted in
    let p = cond-false (bad_clause 999999 xs) 0 (length (line_text xs)) b in
    let less = leb-false (length (line_text xs)) (length s.bytes.now - s.used) (sym c.line_fits.ensures.fits_line ∙ c.if-not-line_fits.true) in
    sym (judged_full 999999 _ _ xs b (omega arith))

pub overflow_add-self-2 : goal.overflow_add-self-2
overflow_add-self-2 c =
    let s = c.args.self.now in
    let a : s.count ≤ s.used = omega (arith, s.counted, few s.bytes.now s.used s.within) in
    search rules

pub invariant_of-self : goal.invariant_of-self
invariant_of-self c =
    let s = c.args.self.now in
    let bs = s.bytes.now in
    let fit = leb-true (length (line_text c.args.clause.now)) (length s.bytes.now - s.used) (sym c.line_fits.ensures.fits_line ∙ c.if-not-line_fits.false) in
    let w = put_line s.used s.bytes.now c.put_line-line.new.bytes c.args.clause.now c.put_line-line.result s.within s.rendered s.granted (sym c.if-bad_clause.ensures.tells_bad_clause) (omega (arith, c.put_line-line.ensures.counts_bytes, fit)) c.put_line-line.ensures.keeps_length (c.put_line-line.ensures.writes_line) c.put_line-line.ensures.leaves_the_rest in
    record {
      within = w.within;
      rendered = w.more.renders;
      counted = ap (λ n. n + 1) s.counted ∙ sym (ap length w.more.holds ∙ length_push (parse (numbers (take s.used bs))) c.args.clause.now);
      granted = w.more.none_bad;
    }

pub returns-clause-grants_where_space : goal.returns-clause-grants_where_space
returns-clause-grants_where_space c =
    let s = c.args.self.now in
    let xs = c.args.clause.now in
    let b = sym c.if-bad_clause.ensures.tells_bad_clause in
    let e = spent s.bytes.now s.used s.within s.rendered s.granted in
    let p = cond-false (bad_clause 999999 xs) 0 (length (line_text xs)) b in
    let fit = leb-true (length (line_text c.args.clause.now)) (length s.bytes.now - s.used) (sym c.line_fits.ensures.fits_line ∙ c.if-not-line_fits.false) in
    sym (judged_ok 999999 _ _ xs b (omega arith))

pub returns-clause-stands_last : goal.returns-clause-stands_last
returns-clause-stands_last c =
    let s = c.args.self.now in
    let fit = leb-true (length (line_text c.args.clause.now)) (length s.bytes.now - s.used) (sym c.line_fits.ensures.fits_line ∙ c.if-not-line_fits.false) in
    let w = put_line s.used s.bytes.now c.put_line-line.new.bytes c.args.clause.now c.put_line-line.result s.within s.rendered s.granted (sym c.if-bad_clause.ensures.tells_bad_clause) (omega (arith, c.put_line-line.ensures.counts_bytes, fit)) c.put_line-line.ensures.keeps_length (c.put_line-line.ensures.writes_line) c.put_line-line.ensures.leaves_the_rest in
    w.more.holds

pub returns-clause-leaves_the_rest : goal.returns-clause-leaves_the_rest
returns-clause-leaves_the_rest c =
    let s = c.args.self.now in
    let xs = c.args.clause.now in
    let p = cond-false (bad_clause 999999 xs) 0 (length (line_text xs)) (sym c.if-bad_clause.ensures.tells_bad_clause) in
    let n : c.put_line-line.result ≡ text_cost xs = c.put_line-line.ensures.counts_bytes ∙ sym p in
    let fit = leb-true (length (line_text c.args.clause.now)) (length s.bytes.now - s.used) (sym c.line_fits.ensures.fits_line ∙ c.if-not-line_fits.false) in
    let w = put_line s.used s.bytes.now c.put_line-line.new.bytes c.args.clause.now c.put_line-line.result s.within s.rendered s.granted (sym c.if-bad_clause.ensures.tells_bad_clause) (omega (arith, c.put_line-line.ensures.counts_bytes, fit)) c.put_line-line.ensures.keeps_length (c.put_line-line.ensures.writes_line) c.put_line-line.ensures.leaves_the_rest in
    ap (map pos) (w.rest ∙ ap (λ k. drop k (drop s.used s.bytes.now)) n) ∙ sym (drop-map pos (text_cost xs) (drop s.used s.bytes.now))
