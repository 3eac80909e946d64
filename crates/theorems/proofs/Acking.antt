-- What a host acknowledged is found there.
use Rattle.std.proofs.Common.{◌≡◌, ℕ, ◌≤◌, List, [], Option, Some, None, subst, append-nil, arith}
use Rattle.std.specs.Prelude.{IfSome, slice_get}
use Rattle.move_msg.specs.declared.arbiter_id.ArbiterId.{ArbiterId}
use Rattle.move_msg.specs.declared.arbiter_id.ArbiterId.TheVariants.{A, B}
use Rattle.move_msg.specs.declared.message.Message.{Message}
use Rattle.move_msg.specs.declared.message.Message.TheVariants.{Ack}
use Rattle.move_msg.specs.declared.stamp.Stamp.{Stamp}
use Rattle.arbiter_core.specs.Recording.{Recorded}
use Rattle.arbiter_server.specs.Folders.{Keepers}
use Rattle.relay_world.specs.declared.event.Event.{Event}
use Rattle.relay_world.specs.Headline.{IsFrontOf, kept_count}
use Rattle.relay_world.specs.Laws.{count_in, world_after}
use Rattle.theorems.specs.Nets.{IsOfWorld, SystemState, site_of}
use Rattle.relay_world.specs.Runs.{KeptIs}
use Rattle.relay_world.specs.Worlds.{Judged}
use Rattle.relay_world.proofs.Schedules.{acks}
use Rattle.theorems.specs.Interleavings.{AcksAreFound, HasMoves}
use Rattle.theorems.proofs.Joining.{hosts_are_worlds}

-- so many moves are found, of a record that is kept
pub has_moves : (game : Judged) (n : ℕ) (found : Option (List ℕ)) (kept : Option Recorded) → KeptIs game.stamp game.rules.delay found kept → IfSome kept (IsFrontOf game.rules game.moves) → n ≤ kept_count kept → HasMoves game n found
has_moves game n None None is front few = omega (arith, few)
has_moves game n None (Some kept) is front few = absurd is
has_moves game n (Some bytes) None is front few = absurd (cc)
has_moves game n (Some bytes) (Some kept) is front few = (kept, is, front, few)

in_world : (game : Judged) (net : SystemState) → IsOfWorld game net → (i : ℕ) (stamp : Stamp) (who : ArbiterId) (n : ℕ) → slice_get net.log i ≡ Some (Ack stamp who n) → HasMoves game n (site_of net who).kept
in_world game net w i stamp who n e = at who few
  where
    sent : slice_get (world_after game w.events).log i ≡ Some (Ack stamp who n)
    sent = subst (λ (log : List Message). slice_get log i ≡ Some (Ack stamp who n)) w.log e

    few : n ≤ count_in (world_after game w.events) who
    few = subst (λ (events : List Event). n ≤ count_in (world_after game events) who) (append-nil w.events) (acks game w.events [] i stamp who n sent)

    at : (who : ArbiterId) → n ≤ count_in (world_after game w.events) who → HasMoves game n (site_of net who).kept
    at A few = has_moves game n net.a.kept (world_after game w.events).a.kept w.a w.faithful.a few
    at B few = has_moves game n net.b.kept (world_after game w.events).b.kept w.b w.faithful.b few

pub acks_are_found : {K L : Type 0} (a : Keepers K) (b : Keepers L) → AcksAreFound a b
acks_are_found a b game steps net w i stamp who n e = let x = hosts_are_worlds a b game steps net w in in_world game net x.world i stamp who n e
