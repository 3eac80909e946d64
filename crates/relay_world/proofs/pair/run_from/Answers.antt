use Rattle.std.proofs.Common.{◌≡◌, ℕ, ◌+◌, ◌<◌, List, [], ◌∷◌, ◌++◌, length, take, get_or, refl, sym, ap, ◌∙◌, subst, arith}
use Rattle.std.proofs.lemmas.List.{take_more, take_all}
use Rattle.relay_world.specs.declared.event.Event.{Event}
use Rattle.relay_world.specs.Inside.Pairs.{PairIs}
use Rattle.relay_world.specs.Worlds.{Judged, World, first_world, happens, world_after_all}
use Rattle.relay_world.proofs.Schedules.{holds_after}
use Rattle.relay_world.proofs.Steps.{right_of}
use Rattle.relay_world.proofs.Stamped.{stamped_after}
use Rattle.relay_world.proofs.pair.run_from.Goals as goal

after_more : (game : Judged) (world : World) (events : List Event) (event : Event) → world_after_all game world (events ++ event ∷ []) ≡ happens game (world_after_all game world events) event
after_more game world [] event = refl
after_more game world (e ∷ events) event = after_more game (happens game world e) events event

-- the world after one more event of the list
next : (game : Judged) (world : World) (events : List Event) (i : ℕ) (event : Event) → i < length events → event ≡ get_or events i event → world_after_all game world (take (i + 1) events) ≡ happens game (world_after_all game world (take i events)) event
next game world events i event l is =
    ap (world_after_all game world) (take_more events i event l ∙ ap (λ (x : Event). take i events ++ x ∷ []) (sym is)) ∙ after_more game world (take i events) event

pub loop-event-preserved : goal.loop-event-preserved
loop-event-preserved c game a b setups h =
    let front : List Event = take c.loop-event.event-index c.args.events.now in
    let w : World = world_after_all game (first_world game) front in
    subst (λ (x : World). PairIs game a b c.in_ok-pair.pair x) (sym (next game (first_world game) c.args.events.now c.loop-event.event-index c.event-item.result (omega arith) c.event-item.is))
    (c.in_ok-pair.ensures game a b w (record { setups = setups; right = right_of game w (holds_after game front); stamped = stamped_after game front; is = c.loop-event.invariant game a b setups h }))

pub returns : goal.returns
returns c game a b setups h =
    subst (λ (x : List Event). PairIs game a b c.loop-event.pair (world_after_all game (first_world game) x)) (take_all c.loop-event.event-index c.args.events.now (omega arith)) (c.loop-event.invariant game a b setups h)
