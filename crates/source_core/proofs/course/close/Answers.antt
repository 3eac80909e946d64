use Rattle.source_core.proofs.RunLaws.{closed_clashed, closed_missed, closed_waited}
use Rattle.source_core.proofs.course.close.Goals as goal

pub returns-in-GoesOn : goal.returns-in-GoesOn
returns-in-GoesOn g c = closed_waited _ _ _ _ _ _ _ _ _ c.saturating_sub.ensures c.send_last.ensures.spelling c.send_last.ensures.happened c.send_last.ensures.known c.in-GoesOn.is c.receive_all.ensures c.end_at.ensures

pub returns-in-Clashed : goal.returns-in-Clashed
returns-in-Clashed g c = closed_clashed _ _ _ _ _ _ _ _ c.saturating_sub.ensures c.send_last.ensures.spelling c.send_last.ensures.happened c.send_last.ensures.known c.in-Clashed.ensures

pub returns-in-PortLost : goal.returns-in-PortLost
returns-in-PortLost g c = closed_missed _ _ _ _ _ _ _ c.saturating_sub.ensures c.send_last.ensures.spelling c.send_last.ensures.happened c.send_last.ensures.known c.in-PortLost.ensures
