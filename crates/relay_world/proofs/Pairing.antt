-- A step of one seat is a step of the world.
use Rattle.std.proofs.Common.{◌≡◌, ℕ, List, ◌++◌, Option, Some, None, sym, ap, ◌∙◌, subst}
use Rattle.std.specs.Prelude.{IfSome, true}
use Rattle.move_msg.specs.declared.stamp.Stamp.{Stamp}
use Rattle.move_msg.specs.declared.message.Message.{Message}
use Rattle.move_msg.specs.declared.arbiter_id.ArbiterId.TheVariants.{A, B}
use Rattle.board_core.specs.declared.moves.Move.{Move as Moves}
use Rattle.judge_core.specs.Games.{Rules}
use Rattle.arbiter_core.specs.Recording.{Recorded}
use Rattle.arbiter_core.specs.Memory.{Memory}
use Rattle.arbiter_core.specs.Opens.{IsWhole}
use Rattle.arbiter_core.specs.Setups.{SetupView}
use Rattle.relay_world.specs.Headline.{IsRecordOf}
use Rattle.relay_world.specs.Worlds.{Side, World, Judged, identity, with_side}
use Rattle.relay_world.specs.Inside.Seats.{PlaceView, Steps}
use Rattle.relay_world.specs.Inside.Pairs.{IsWorld}
use Rattle.arbiter_core.proofs.Reach.{reach_front, reach_within}
use Rattle.std.proofs.lemmas.List.{length-take-le, take_all}
use Rattle.std.proofs.Common.{length, take, drop, take-append-drop, arith}
use Rattle.arbiter_core.specs.Recording.{reaches}
use Rattle.judge_core.specs.Games.{verdict_after}

-- a record of the game is whole
pub whole_of : (r : Rules) (game : List Moves) (kept : Option Recorded) → IfSome kept (IsRecordOf r game) → IfSome kept (IsWhole r)
whole_of r game None h = tt
whole_of r game (Some kept) h =
    let k : ℕ = h.ply in
    let front : List Moves = take k game in
    let within = reach_within r game k h.reached in
    let size : length front ≡ k = length-take-le k game within in
    let reach : reaches r front k ≡ true = reach_front r front (drop k game) k (omega arith) (subst (λ (xs : List Moves). reaches r xs k ≡ true) (sym (take-append-drop k game)) h.reached) in
    record {
      game = front;
      reached = subst (λ n. reaches r front n ≡ true) (sym size) reach;
      is = h.is ∙ ap (λ (xs : List Moves). record { moves = xs; verdict = verdict_after r xs }) (sym (take_all (length front) front (omega arith)));
    }

module _ (game : Judged) (a b : SetupView) where
  -- the seat of A changes, and messages are sent
  pub turned_a : (stamp : Stamp) (p q p2 : PlaceView) (k l k2 : Memory) (log log2 outputs : List Message) (world : World) (late : Side × List Message) → IsWorld game a b stamp p k q l log world → Steps (identity game A) a p2 k2 outputs late → log2 ≡ log ++ outputs → IsWorld game a b stamp p2 k2 q l log2 (with_side world A late)
  turned_a stamp p q p2 k l k2 log log2 outputs world late h s e =
      record { stamp_is = h.stamp_is; a_stands = s.stands; b_stands = h.b_stands; log_is = e ∙ ap (λ (xs : List Message). xs ++ outputs) h.log_is ∙ ap (λ (xs : List Message). world.log ++ xs) s.sent }

  pub turned_b : (stamp : Stamp) (p q q2 : PlaceView) (k l l2 : Memory) (log log2 outputs : List Message) (world : World) (late : Side × List Message) → IsWorld game a b stamp p k q l log world → Steps (identity game B) b q2 l2 outputs late → log2 ≡ log ++ outputs → IsWorld game a b stamp p k q2 l2 log2 (with_side world B late)
  turned_b stamp p q q2 k l l2 log log2 outputs world late h s e =
      record { stamp_is = h.stamp_is; a_stands = h.a_stands; b_stands = s.stands; log_is = e ∙ ap (λ (xs : List Message). xs ++ outputs) h.log_is ∙ ap (λ (xs : List Message). world.log ++ xs) s.sent }
