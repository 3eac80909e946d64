use Rattle.std.proofs.Common.{◌∙◌, sym, refl, arith}
use Rattle.std.proofs.lemmas.List.{length-set}
use Rattle.probe_api.specs.Inside.{question_of}
use Rattle.probe_api.proofs.Batching.{told_by, told_next, many_values}
use Rattle.probe_api.proofs.batch.wdl_between.Goals as goal

pub answer_between-requires-clause-before : goal.answer_between-requires-clause-before
answer_between-requires-clause-before c = rw c.question.ensures (told_by (question_of c.args.search) c.args.boards.now c.args.replies.now c.args.part.start _ _ (sym c.values_on.ensures.kept) c.requires.before)

pub returns-in_default-clause-each : goal.returns-in_default-clause-each
returns-in_default-clause-each c = told_by (question_of c.args.search) c.args.boards.now c.answer_between.new.replies c.args.part.end _ _ c.values_on.ensures.kept (rw c.question.ensures at c.answer_between.ensures.each)

pub loop-i-init : goal.loop-i-init
loop-i-init c = (refl, c.values_on.ensures.kept, λ i low b r. c.requires.before i (omega (arith, low)) b r)

pub loop-i-preserved : goal.loop-i-preserved
loop-i-preserved c = (
  length-set c.loop-i.replies _ _ ∙ c.loop-i.invariant.0,
  c.loop-i.invariant.1,
  told_next c.args.boards.now c.args.part.start c.args.part.end c.args.search c.args.set.now.tables c.in-Some.values.items c.requires.from c.requires.to c.in-Some.ensures.are c.loop-i.i c.index.result.now c.wdl_reply.result c.loop-i.replies
      (c.requires.lengths ∙ sym c.loop-i.invariant.0) (omega (arith, c.loop-i-test.true, c.len-i-end.ensures)) c.index.ensures c.wdl_reply.ensures c.loop-i.invariant.2,
)

pub returns-clause-each : goal.returns-clause-each
returns-clause-each c i low b r =
    let many = many_values c.args.boards.now c.args.part.start c.args.part.end c.args.search c.args.set.now.tables c.in-Some.values.items c.requires.from c.requires.to c.in-Some.ensures.are in
    c.loop-i.invariant.2 i (omega (arith, low, c.loop-i-test.false, c.len-i-end.ensures, many, c.requires.from)) b r
