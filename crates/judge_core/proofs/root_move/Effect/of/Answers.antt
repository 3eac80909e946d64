use Rattle.std.proofs.Common.{◌∙◌, sym}
use Rattle.judge_core.proofs.Effects.{by_capture, by_quiet, by_pawn, by_passant}
use Rattle.judge_core.proofs.root_move.Effect.of.Goals as goal

pub returns-then-not-lands_empty : goal.returns-then-not-lands_empty
returns-then-not-lands_empty c = λ q legal. by_capture _ _ (sym c.lands_empty.ensures ∙ c.if-not-lands_empty.true)

pub returns-then-not-moves_pawn : goal.returns-then-not-moves_pawn
returns-then-not-moves_pawn c = λ q legal. by_quiet _ _ (sym c.lands_empty.ensures ∙ c.if-not-lands_empty.false) (sym c.moves_pawn.ensures ∙ c.if-not-moves_pawn.true)

pub returns-then-stays_on_file : goal.returns-then-stays_on_file
returns-then-stays_on_file c = λ q legal.
    by_pawn _ _ (sym c.lands_empty.ensures ∙ c.if-not-lands_empty.false) (sym c.moves_pawn.ensures ∙ c.if-not-moves_pawn.false) (c.stays_on_file.ensures.0 c.if-stays_on_file.true)

pub returns-else-stays_on_file : goal.returns-else-stays_on_file
returns-else-stays_on_file c = λ q legal.
    by_passant _ _ q legal (sym c.lands_empty.ensures ∙ c.if-not-lands_empty.false) (sym c.moves_pawn.ensures ∙ c.if-not-moves_pawn.false) (λ file. (let e = c.stays_on_file.ensures.1 file in let f = c.if-stays_on_file.false in cc))
