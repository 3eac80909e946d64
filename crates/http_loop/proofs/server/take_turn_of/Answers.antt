use Rattle.std.proofs.Common.{◌≡◌, [], sym, ap, refl, ◌∙◌}
use Rattle.std.specs.Option.{option_copied_mut}
use Rattle.http_server.specs.Connection.{config_of, history}
use Rattle.http_server.specs.History.{Rests}
use Rattle.http_loop.specs.declared.peer.Fate.TheVariants.{Waits}
use Rattle.http_loop.proofs.ServingLaws.{after_calls, after_turn, at_with_value, count_set}
use Rattle.http_loop.proofs.server.take_turn_of.Goals as goal

pub returns-in-Some-clause-served : goal.returns-in-Some-clause-served
returns-in-Some-clause-served g c =
    let turn = c.take_turn.ensures in
    λ config. (
      turn.calls.0,
      turn.calls.2,
      λ calls before h.
          after_turn _ _ config calls turn.calls.0 before _ _ c.args.key c.in-Some.peer.now c.take_turn.new.self
          (sym c.get_mut.ensures.value ∙ ap option_copied_mut c.in-Some.is) turn.config turn.read turn.written turn.calls.1 h,
    )

pub returns-in-None-clause-served : goal.returns-in-None-clause-served
returns-in-None-clause-served g c = λ config. ([], refl, λ calls before h. after_calls _ _ config calls [] before _ _ h)

pub returns-in-Some-clause-same : goal.returns-in-Some-clause-same
returns-in-Some-clause-same g c = count_set _ c.args.key c.in-Some.peer.now c.take_turn.new.self (sym c.get_mut.ensures.value ∙ ap option_copied_mut c.in-Some.is)

pub returns-in-Some-clause-rests : goal.returns-in-Some-clause-rests
returns-in-Some-clause-rests g c =
    at_with_value c.args.peers.now c.args.key c.in-Some.peer.now c.take_turn.new.self (λ peer. c.take_turn.result ≡ Waits → Rests (config_of peer.connection) (history peer.connection))
    (sym c.get_mut.ensures.value ∙ ap option_copied_mut c.in-Some.is) c.take_turn.ensures.rests
