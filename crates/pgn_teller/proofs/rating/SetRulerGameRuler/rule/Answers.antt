use Rattle.std.proofs.Common.{[], refl}
use Rattle.timeline.proofs.EventLaws.{adds_none}
use Rattle.pgn_teller.proofs.ReportLaws.{rules_by}
use Rattle.pgn_teller.proofs.rating.SetRulerGameRuler.rule.Goals as goal

pub returns-in-Ok-clause-made : goal.returns-in-Ok-clause-made
returns-in-Ok-clause-made g c = ([], adds_none (g.S.System.outside c.args._system.now) _, (c.in-Ok.ensures.ruled, refl))

pub returns-in-Err-clause-made : goal.returns-in-Err-clause-made
returns-in-Err-clause-made g c = ([], adds_none (g.S.System.outside c.args._system.now) _, refl)

pub returns-in-Ok-clause-same : goal.returns-in-Ok-clause-same
returns-in-Ok-clause-same g c = rules_by _ _ _ _ c.in-Ok.ensures.delay c.in-Ok.ensures.tables

pub returns-in-Err-clause-same : goal.returns-in-Err-clause-same
returns-in-Err-clause-same g c = rules_by _ _ _ _ c.in-Err.ensures.delay c.in-Err.ensures.tables
