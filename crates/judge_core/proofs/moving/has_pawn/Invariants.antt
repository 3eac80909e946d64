use Rattle.judge_core.proofs.Quiet.{HasPawns}
use Rattle.judge_core.proofs.moving.has_pawn.Given as goal

abbrev pub invariant-loop : goal.invariant-loop
invariant-loop l = HasPawns l.position l.rest
