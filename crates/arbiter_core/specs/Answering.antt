-- What a running arbiter answers to a message.
use Rattle.std.specs.Prelude.{ℕ, suc, ◌+◌, ◌-◌, cond, ◌||◌, nat_lt, nat_le, List, [], ◌∷◌, ◌++◌, take, drop, replicate, Option, Some, None, is_some, is_none, Result, Ok, Err, slice_set, slice_index_or}
use Rattle.board_core.specs.declared.moves.Move.{Move as Moves}
use Rattle.board_core.specs.declared.verdict.Verdict.{Verdict as Verdicts}
use Rattle.judge_core.specs.Games.{position_after_all, Rules}
use Rattle.move_msg.specs.declared.stamp.Stamp.{Stamp}
use Rattle.move_msg.specs.declared.arbiter_id.ArbiterId.{ArbiterId}
use Rattle.move_msg.specs.declared.arbiter_id.Sender.{Sender}
use Rattle.move_msg.specs.declared.arbiter_id.Sender.TheVariants.{Arbiter}
use Rattle.move_msg.specs.declared.message.Message.{Message}
use Rattle.move_msg.specs.declared.message.Message.TheVariants.{Move, Ack, Verdict, Fetch}
use Rattle.move_msg.specs.Numbers.{most_moves, most_wanted}
use Rattle.arbiter_core.specs.declared.fault.DeliverFault.{DeliverFault}
use Rattle.arbiter_core.specs.declared.fault.DeliverFault.TheVariants.{IllegalMove, TooFarAhead, TooLong}
use Rattle.arbiter_core.specs.Recording.{Recorded, ReorderBuffer, move_count, advance}

-- who an arbiter is in its messages: the stamp of its game, and which of the two it is
pub record Identity : Type 0 where
  pub stamp : Stamp
  pub who : ArbiterId

abbrev pub nothing_waits : ReorderBuffer
nothing_waits = replicate 31 None

-- a move that waits already stays
abbrev pub waits_too : ReorderBuffer → ℕ → Moves → ReorderBuffer
waits_too window place m = cond (is_some (slice_index_or window place None)) window (slice_set window place (Some m))

-- the moves that still wait once the count is higher by n
abbrev pub still_waits : ReorderBuffer → ℕ → ReorderBuffer
still_waits window n = take 31 (drop n window ++ nothing_waits)

-- the messages by which an arbiter reports its record
abbrev pub told_of : Identity → ℕ → Option Verdicts → List Message
told_of me count None = Ack me.stamp me.who count ∷ []
told_of me count (Some v) = Ack me.stamp me.who count ∷ Verdict me.stamp me.who count v ∷ []

abbrev pub told_now : Identity → Recorded → List Message
told_now me old = told_of me (move_count old) old.verdict

pub data Answer : Type 0 where
  -- nothing changes
  Refuses : (fault : DeliverFault) → Answer
  -- these messages go out and these moves wait; nothing is put
  Sends : (outputs : List Message) (window : ReorderBuffer) → Answer
  -- this record is put; if it lands, these messages go out and these moves wait
  Puts : (next : Recorded) (outputs : List Message) (window : ReorderBuffer) → Answer

-- the record to be put, and what goes with it
abbrev pub puts : Identity → Recorded → ReorderBuffer → Recorded → Answer
puts me old window next = Puts next (told_now me next) (cond (is_some next.verdict) nothing_waits (still_waits window (move_count next - move_count old)))

abbrev pub answer_to_move : Rules → Identity → Recorded → ReorderBuffer → ℕ → Moves → Answer
answer_to_move rules me old window number m =
    cond (nat_le most_moves number) (Refuses TooLong)
    (cond (is_some old.verdict || nat_lt number (move_count old)) (Sends (told_now me old) window)
    (cond (nat_le (move_count old + 32) number) (Refuses TooFarAhead)
    (cond (nat_lt (move_count old) number) (Sends (Ack me.stamp me.who (move_count old) ∷ []) (waits_too window (number - (move_count old + 1)) m))
    (cond (is_none (position_after_all rules.start (old.moves ++ m ∷ []))) (Refuses IllegalMove)
    (puts me old window (advance rules old.moves m window))))))

-- these moves as messages of this sender, the first with this number
abbrev pub sent_by : Stamp → Sender → ℕ → List Moves → List Message
sent_by stamp sender number [] = []
sent_by stamp sender number (m ∷ moves) = Move stamp sender number m ∷ sent_by stamp sender (suc number) moves

-- the recorded moves from this number on, so many at most
abbrev pub fetched : Identity → Recorded → ℕ → ℕ → List Message
fetched me old number wanted = sent_by me.stamp (Arbiter me.who) number (take wanted (drop number old.moves))

-- the request of a running arbiter that has no verdict and room for more moves
abbrev pub request_of : Identity → Recorded → Option Message
request_of me old = cond (is_some old.verdict || nat_le most_moves (move_count old)) None (Some (Fetch me.stamp me.who (move_count old) most_wanted))

-- what a running arbiter answers to a message
unfoldable pub answer_to : Rules → Identity → Recorded → ReorderBuffer → Message → Answer
answer_to rules me old window (Move stamp sender number m) = answer_to_move rules me old window number m
answer_to rules me old window (Ack stamp who count) = Sends [] window
answer_to rules me old window (Verdict stamp who ply verdict) = Sends [] window
answer_to rules me old window (Fetch stamp who number wanted) = Sends (fetched me old number wanted) window

-- the answer to a message, or the fault of bytes that are none
abbrev pub answer_heard : Rules → Identity → Recorded → ReorderBuffer → Result Message DeliverFault → Answer
answer_heard rules me old window (Ok message) = answer_to rules me old window message
answer_heard rules me old window (Err fault) = Refuses fault
