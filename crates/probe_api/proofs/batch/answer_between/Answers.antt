use Rattle.std.proofs.Common.{◌∙◌, subst, arith}
use Rattle.std.proofs.lemmas.List.{length-set}
use Rattle.judge_core.specs.Tables.{Holding}
use Rattle.probe_api.specs.Replies.{TellsBoard}
use Rattle.probe_api.proofs.Writing.{one_told}
use Rattle.probe_api.proofs.batch.answer_between.Goals as goal

pub loop-place-preserved : goal.loop-place-preserved
loop-place-preserved c =
    let told = c.answer_board-reply.result in (
      length-set c.loop-place.replies c.loop-place.place told ∙ c.loop-place.invariant.0,
      c.answer_board-reply.ensures.kept ∙ c.loop-place.invariant.1,
      one_told (TellsBoard c.args.question c.args.set.now.tables) c.args.boards.now c.loop-place.replies c.loop-place.place c.board_at-board.result.now told
          (omega (arith, c.loop-place-test.true, c.requires.to, c.requires.lengths, c.loop-place.invariant.0)) c.board_at-board.ensures
          (subst (λ (s : Holding). TellsBoard c.args.question s.tables c.board_at-board.result.now told) c.loop-place.invariant.1 c.answer_board-reply.ensures.is) c.loop-place.invariant.2,
    )

pub returns-clause-each : goal.returns-clause-each
returns-clause-each c i low b r = c.loop-place.invariant.2 i (omega (arith, low, c.loop-place-test.false, c.requires.from)) b r
