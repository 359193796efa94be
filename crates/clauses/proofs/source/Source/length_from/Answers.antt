use Rattle.std.proofs.Common.{rules, length, ◌+◌, ◌<◌, ◌^◌, arith}
use Rattle.clauses.proofs.Walks.{few_passed, passed_first, passed_more}
use Rattle.clauses.specs.Rows.{flat}
use Rattle.clauses.proofs.source.Source.length_from.Goals as goal

pub loop-word-init : goal.loop-word-init
loop-word-init g c =
    let fits : c.args.from < 2 ^ 64 = search rules in
    (passed_first (g.Self.Source.rest c.args.self.now) (2 ^ 64) c.args.from fits, search rules)

pub overflow_add-length : goal.overflow_add-length
overflow_add-length g c =
    let fits : c.in-Some.next < 2 ^ 64 = search rules in
    omega (
      arith,
      few_passed (g.Self.Source.rest c.args.self.now) (2 ^ 64) (length (flat (g.Self.Source.rest c.args.self.now c.in-Some.next))) (c.loop-word.length + 1)
          (passed_more (g.Self.Source.rest c.args.self.now) (2 ^ 64) c.loop-word.length c.loop-word.place c.in-Some.next c.in-Some.word fits c.in-Some.ensures.reads_word c.loop-word.invariant.0),
    )

pub loop-word-preserved : goal.loop-word-preserved
loop-word-preserved g c =
    let fits : c.in-Some.next < 2 ^ 64 = search rules in
    (passed_more (g.Self.Source.rest c.args.self.now) (2 ^ 64) c.loop-word.length c.loop-word.place c.in-Some.next c.in-Some.word fits c.in-Some.ensures.reads_word c.loop-word.invariant.0, search rules)
