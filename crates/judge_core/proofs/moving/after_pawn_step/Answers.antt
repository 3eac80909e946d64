use Rattle.std.proofs.Common.{◌∙◌, sym}
use Rattle.judge_core.proofs.Quiet.{step_played, no_step}
use Rattle.judge_core.proofs.moving.after_pawn_step.Goals.{else-stays_on_file-via-then-stays_on_file+then-moves_pawn+else-lands_empty, else-stays_on_file-via-then-stays_on_file+else-moves_pawn, else-stays_on_file-via-else-stays_on_file}
use Rattle.judge_core.proofs.moving.after_pawn_step.Goals as goal

pub returns-then-lands_empty : goal.returns-then-lands_empty
returns-then-lands_empty c = step_played _ _ _ (c.stays_on_file.ensures.0 c.if-stays_on_file.true) (sym c.moves_pawn.ensures ∙ c.if-moves_pawn.true) (sym c.lands_empty.ensures ∙ c.if-lands_empty.true) (sym c.play_legal.ensures.computed)

pub returns-else-stays_on_file : goal.returns-else-stays_on_file
returns-else-stays_on_file c = elim c.else-stays_on_file.branch [
  | else-stays_on_file-via-then-stays_on_file+then-moves_pawn+else-lands_empty w ↦ no_step _ _ (λ f a b. (let x = sym w.lands_empty.ensures ∙ w.if-lands_empty.false in cc))
  | else-stays_on_file-via-then-stays_on_file+else-moves_pawn w ↦ no_step _ _ (λ f a b. (let x = sym w.moves_pawn.ensures ∙ w.if-moves_pawn.false in cc))
  | else-stays_on_file-via-else-stays_on_file w ↦ no_step _ _ (λ f a b. (let x = c.stays_on_file.ensures.1 f in let y = w.if-stays_on_file.false in cc))
]
