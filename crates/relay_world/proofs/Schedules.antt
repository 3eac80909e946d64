-- The laws over whole schedules.
use Rattle.std.proofs.Common.{◌≡◌, ℕ, ◌≤◌, List, [], ◌∷◌, ◌++◌, Some, refl}
use Rattle.std.specs.Prelude.{slice_get}
use Rattle.std.specs.List.{AllByRecursion}
use Rattle.board_core.specs.declared.moves.Move.{Move as Moves}
use Rattle.board_core.specs.declared.verdict.Verdict.{Verdict as Ruling}
use Rattle.move_msg.specs.declared.stamp.Stamp.{Stamp}
use Rattle.move_msg.specs.declared.arbiter_id.ArbiterId.{ArbiterId}
use Rattle.move_msg.specs.declared.arbiter_id.ArbiterId.TheVariants.{A, B}
use Rattle.move_msg.specs.declared.arbiter_id.Sender.{Sender}
use Rattle.move_msg.specs.declared.message.Message.TheVariants.{Move, Ack, Verdict}
use Rattle.judge_core.specs.Games.{IsFirst}
use Rattle.arbiter_core.specs.Recording.{Recorded}
use Rattle.relay_world.specs.declared.event.Event.{Event}
use Rattle.relay_world.specs.Worlds.{World, Judged, side_in, happens, first_world, world_after_all, worlds}
use Rattle.relay_world.specs.Headline.{IsRight, kept_count}
use Rattle.relay_world.proofs.Steps.{Grows, all_at, Holds, Goes, happens_goes, first_holds, run_goes, right_of}

pub after_append : (game : Judged) (world : World) (early late : List Event) → world_after_all game world (early ++ late) ≡ world_after_all game (world_after_all game world early) late
after_append game world [] late = refl
after_append game world (e ∷ early) late = after_append game (happens game world e) early late

pub worlds_right : (game : Judged) (world : World) (events : List Event) → Holds game world → AllByRecursion (IsRight game) (worlds game world events)
worlds_right game world [] h = (right_of game world h, tt)
worlds_right game world (e ∷ events) h = (right_of game world h, worlds_right game (happens game world e) events (happens_goes game world e h).holds)

pub first_is_right : (game : Judged) (events : List Event) → AllByRecursion (IsRight game) (worlds game (first_world game) events)
first_is_right game events = worlds_right game (first_world game) events (first_holds game)

pub holds_after : (game : Judged) (events : List Event) → Holds game (world_after_all game (first_world game) events)
holds_after game events = (run_goes game (first_world game) events (first_holds game)).holds

pub later : (game : Judged) (early late : List Event) → Goes game (world_after_all game (first_world game) early) (world_after_all game (first_world game) (early ++ late))
later game early late =
    rw (after_append game (first_world game) early late)
    (run_goes game (world_after_all game (first_world game) early) late (holds_after game early))

pub grows_at : (game : Judged) (early late : World) (who : ArbiterId) → Goes game early late → Grows (side_in early who).kept (side_in late who).kept
grows_at game early late A g = g.a
grows_at game early late B g = g.b

pub counts : (game : Judged) (early late : List Event) (who : ArbiterId) → kept_count (side_in (world_after_all game (first_world game) early) who).kept ≤ kept_count (side_in (world_after_all game (first_world game) (early ++ late)) who).kept
counts game early late who = (grows_at game _ _ who (later game early late)).count

ack_at : (game : Judged) (world : World) (i : ℕ) (stamp : Stamp) (who : ArbiterId) (n : ℕ) → Holds game world → slice_get world.log i ≡ Some (Ack stamp who n) → n ≤ kept_count (side_in world who).kept
ack_at game world i stamp A n h e = all_at _ world.log i _ h.log e
ack_at game world i stamp B n h e = all_at _ world.log i _ h.log e

pub acks : (game : Judged) (early late : List Event) (i : ℕ) (stamp : Stamp) (who : ArbiterId) (n : ℕ) → slice_get (world_after_all game (first_world game) early).log i ≡ Some (Ack stamp who n) → n ≤ kept_count (side_in (world_after_all game (first_world game) (early ++ late)) who).kept
acks game early late i stamp who n e =
    let g = later game early late in
    ack_at game _ i stamp who n g.holds (g.log i _ e)

pub verdicts : (game : Judged) (events : List Event) (i : ℕ) (stamp : Stamp) (who : ArbiterId) (ply : ℕ) (v : Ruling) → slice_get (world_after_all game (first_world game) events).log i ≡ Some (Verdict stamp who ply v) → IsFirst game.rules game.moves ply v
verdicts game events i stamp who ply v e = all_at _ _ i _ (holds_after game events).log e

pub stay : (game : Judged) (early late : List Event) (who : ArbiterId) (kept : Recorded) (v : Ruling) → (side_in (world_after_all game (first_world game) early) who).kept ≡ Some kept → kept.verdict ≡ Some v → (side_in (world_after_all game (first_world game) (early ++ late)) who).kept ≡ Some kept
stay game early late who kept v e s = (grows_at game _ _ who (later game early late)).verdict kept v e s

pub moves_are : (game : Judged) (events : List Event) (i : ℕ) (stamp : Stamp) (sender : Sender) (n : ℕ) (m : Moves) → slice_get (world_after_all game (first_world game) events).log i ≡ Some (Move stamp sender n m) → slice_get game.moves n ≡ Some m
moves_are game events i stamp sender n m e = all_at _ _ i _ (holds_after game events).log e
