use Rattle.std.proofs.Common.{refl, sym, ◌∙◌}
use Rattle.http_loop.proofs.TimeLaws.{from_same}
use Rattle.http_loop.proofs.TurnLaws.{late_gone, late_none}
use Rattle.http_loop.proofs.server.close_if_late.Goals as goal

pub returns-then-is_late-clause-late : goal.returns-then-is_late-clause-late
returns-then-is_late-clause-late g c = late_gone c.args.now c.args.exchange _ _ c.args.key (sym c.is_late.ensures ∙ c.if-is_late.true) c.close_one.ensures.gone

pub returns-else-is_late-clause-late : goal.returns-else-is_late-clause-late
returns-else-is_late-clause-late g c = late_none c.args.now c.args.exchange _ c.args.key (sym c.is_late.ensures ∙ c.if-is_late.false)

pub returns-else-is_late-clause-lingering : goal.returns-else-is_late-clause-lingering
returns-else-is_late-clause-lingering g c = from_same c.args.now (g.L.Listener.lingering c.args.listener.now) _ refl
