use Rattle.std.proofs.Common.{◌++◌, ◌∙◌, [], ap, arith, refl}
use Rattle.http_loop.specs.declared.server.Limits.{Limits}
use Rattle.http_loop.proofs.ServingLaws.{after_calls, on_then}
use Rattle.http_loop.proofs.TimeLaws.{from_then, still_in_time}
use Rattle.http_loop.proofs.TurnLaws.{moves_at, moves_then}
use Rattle.http_loop.proofs.server.Server.round.Goals as goal

pub returns-in_err-wait-clause-served : goal.returns-in_err-wait-clause-served
returns-in_err-wait-clause-served g c = ([], refl, λ calls before h. after_calls _ _ _ calls [] before _ _ (c.wait.ensures.served calls before h))

pub returns : goal.returns
returns g c =
    let config = c.wait.new.self.limits.config in
    let now = c.wait.new.self.now in
    let on = on_then _ _ g.S.Service.answers config _ _ _ _ _ _ _ _ _ (c.give_turns.ensures.served config) (c.give_next.ensures.served config) in
    let bound = ap (λ (l : Limits). l.connections) c.wait.ensures.few.same in
    record {
      served = (on.0, on.1, λ calls before h. c.sweep.ensures.served (calls ++ on.0) before (on.2 calls before (c.wait.ensures.served calls before h)));
      few = record {
        same = c.sweep.ensures.few.same ∙ c.wait.ensures.few.same;
        few = λ was.
            omega (arith, bound, c.sweep.ensures.few.few (omega (arith, bound, c.wait.ensures.few.few was, c.give_turns.ensures.fewer, c.give_next.ensures.fewer)));
      };
      order = λ h.
          let waited = c.wait.ensures.order h in
          c.sweep.ensures.order (record {
            queued = c.give_next.ensures.queued (c.give_turns.ensures.queued waited.queued);
            swept = waited.swept;
            in_time = still_in_time _ now _ _ waited.swept (from_then now _ _ _ c.give_turns.ensures.lingering c.give_next.ensures.lingering) waited.in_time;
          });
      swept = c.sweep.ensures.swept;
      turns = moves_at _ _ _ _ c.wait.ensures.queue (moves_then _ _ _ c.give_turns.ensures.behind c.give_next.ensures.up) c.sweep.ensures.queue;
    }
