use Rattle.std.proofs.Common.{◌≡◌, ◌-◌, List, Some, length, ap, subst, sym, ◌∙◌}
use Rattle.std.specs.Prelude.{option_copied, slice_get}
use Rattle.http_loop.specs.declared.memory.Coming.{Coming}
use Rattle.http_loop.proofs.MemoryLaws.{last_comes}
use Rattle.http_loop.proofs.memory.MemoryListenerListener.accept.Goals as goal

pub returns-clause-first : goal.returns-clause-first
returns-clause-first c =
    let last = sym c.last.ensures.value ∙ ap option_copied c.in-Some.is in
    let at = subst (λ (t : List Coming). slice_get t (length t - 1) ≡ Some c.in-Some.coming.now) c.deref.ensures.value last in
    last_comes _ _ _ c.pop.result _ _ c.pop.ensures.items c.pop.ensures.rest c.args.self.now.coming.ok.0 at c.in_ok-ends-in-Some.ensures
