use Rattle.std.proofs.Common.{◌∙◌, sym}
use Rattle.judge_core.proofs.Quiet.{quiet_played, pawn_isnt_quiet, taking_isnt_quiet}
use Rattle.judge_core.proofs.moving.after_quiet_move.Goals.{else-not-moves_pawn-via-then-not-moves_pawn+else-lands_empty, else-not-moves_pawn-via-else-not-moves_pawn}
use Rattle.judge_core.proofs.moving.after_quiet_move.Goals as goal

pub returns-then-lands_empty : goal.returns-then-lands_empty
returns-then-lands_empty c = quiet_played _ _ _ (sym c.moves_pawn.ensures ∙ c.if-not-moves_pawn.true) (sym c.lands_empty.ensures ∙ c.if-lands_empty.true) (sym c.play_legal.ensures.computed)

pub returns-else-not-moves_pawn : goal.returns-else-not-moves_pawn
returns-else-not-moves_pawn c = elim c.else-not-moves_pawn.branch [
  | else-not-moves_pawn-via-then-not-moves_pawn+else-lands_empty w ↦ taking_isnt_quiet _ _ (sym w.lands_empty.ensures ∙ w.if-lands_empty.false)
  | else-not-moves_pawn-via-else-not-moves_pawn w ↦ pawn_isnt_quiet _ _ (sym c.moves_pawn.ensures ∙ w.if-not-moves_pawn.false)
]
