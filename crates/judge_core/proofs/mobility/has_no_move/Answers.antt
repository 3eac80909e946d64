use Rattle.std.proofs.Common.{◌∙◌, ap, not}
use Rattle.judge_core.proofs.Captures.{no_move}
use Rattle.judge_core.proofs.mobility.has_no_move.Goals as goal

pub returns : goal.returns
returns c = ap not c.has_legal_move.ensures.computed ∙ no_move c.args.position.now
