use Rattle.http_loop.proofs.server.Server.take_time.Goals as goal

pub returns-then-has_passed-clause-order : goal.returns-then-has_passed-clause-order
returns-then-has_passed-clause-order g c = λ h. c.count_all_anew.ensures.order h.queued
