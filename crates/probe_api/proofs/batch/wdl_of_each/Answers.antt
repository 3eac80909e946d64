use Rattle.std.proofs.Common.{◌∙◌, sym, arith}
use Rattle.probe_api.specs.Inside.{question_of}
use Rattle.probe_api.proofs.Batching.{told_by}
use Rattle.probe_api.proofs.batch.wdl_of_each.Goals as goal

pub wdl_between-requires-clause-before : goal.wdl_between-requires-clause-before
wdl_between-requires-clause-before c = told_by (question_of c.args.search) c.args.boards.now c.boards.replies c.boards.from _ _ (sym c.boards.invariant.1) c.boards.invariant.3

pub boards-preserved : goal.boards-preserved
boards-preserved c = (
  c.wdl_between.ensures.places ∙ c.boards.invariant.0,
  c.wdl_between.ensures.kept ∙ c.boards.invariant.1,
  omega (arith, c.min.ensures, c.boards-test.true),
  told_by (question_of c.args.search) c.args.boards.now c.wdl_between.new.replies _ _ _ c.boards.invariant.1 c.wdl_between.ensures.each,
)

pub returns-clause-each : goal.returns-clause-each
returns-clause-each c = record { each = λ i low b r. c.boards.invariant.3 i (omega (arith, low, c.boards-test.false)) b r }
