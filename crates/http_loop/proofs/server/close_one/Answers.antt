use Rattle.std.proofs.Common.{refl, sym, ◌∙◌}
use Rattle.http_loop.proofs.ServingLaws.{after_close}
use Rattle.http_loop.proofs.TimeLaws.{from_same}
use Rattle.http_loop.proofs.server.close_one.Goals as goal

pub returns-in-Some-clause-served : goal.returns-in-Some-clause-served
returns-in-Some-clause-served g c = λ config calls before h.
    after_close _ _ config calls before _ _ _ _ _ c.in-Some.peer (sym c.try_remove.ensures.value ∙ c.in-Some.is) c.try_remove.ensures.updates
    (rw (← c.into_ends-reader.ensures.reader, ← c.into_ends-reader.ensures.writer) c.close.ensures.streams) h

pub returns-in_default-clause-lingering : goal.returns-in_default-clause-lingering
returns-in_default-clause-lingering g c = from_same c.args.now (g.L.Listener.lingering c.args.listener.now) _ refl
