use Rattle.std.proofs.Common.{◌≡◌, refl, sym, ap, ◌∙◌}
use Rattle.std.specs.Option.{option_copied_mut}
use Rattle.http_loop.proofs.ServingLaws.{at_with_value, same_all, same_with, with_value_updates}
use Rattle.http_loop.proofs.server.count_one_anew.Goals as goal

pub returns-in-Some-clause-same : goal.returns-in-Some-clause-same
returns-in-Some-clause-same g c =
    same_with _ c.args.key c.in-Some.peer.now _ (sym c.get_mut.ensures.value ∙ ap option_copied_mut c.in-Some.is)
    (record { reader = refl; writer = refl; connection = refl; goes_on = refl })

pub returns-in-Some-clause-anew : goal.returns-in-Some-clause-anew
returns-in-Some-clause-anew g c =
    at_with_value c.args.peers.now c.args.key c.in-Some.peer.now _ (λ peer. peer.since ≡ c.args.now)
    (sym c.get_mut.ensures.value ∙ ap option_copied_mut c.in-Some.is) refl

pub returns-in-Some-clause-others : goal.returns-in-Some-clause-others
returns-in-Some-clause-others g c =
    with_value_updates c.args.peers.now c.args.key c.in-Some.peer.now _ (sym c.get_mut.ensures.value ∙ ap option_copied_mut c.in-Some.is)

pub returns-in_default-clause-same : goal.returns-in_default-clause-same
returns-in_default-clause-same g c = same_all _
