-- What an answer says is what is then recorded.
use Rattle.std.proofs.Common.{◌≡◌, ℕ, suc, ◌+◌, ◌-◌, Bool, true, false, cond, ◌||◌, List, [], ◌∷◌, ◌++◌, Option, Some, None, refl}
use Rattle.std.specs.Prelude.{Result, Ok, Err, is_some, is_none, nat_lt, nat_le}
use Rattle.std.specs.List.{AllByRecursion}
use Rattle.board_core.specs.declared.moves.Move.{Move as Moves}
use Rattle.board_core.specs.declared.verdict.Verdict.{Verdict as Verdicts}
use Rattle.judge_core.specs.Games.{position_after_all, Rules}
use Rattle.move_msg.specs.declared.stamp.Stamp.{Stamp}
use Rattle.move_msg.specs.declared.arbiter_id.Sender.{Sender}
use Rattle.move_msg.specs.declared.message.Message.{Message}
use Rattle.move_msg.specs.declared.message.Message.TheVariants.{Move, Ack, Verdict, Fetch}
use Rattle.move_msg.specs.Numbers.{most_moves}
use Rattle.arbiter_core.specs.declared.fault.DeliverFault.{DeliverFault}
use Rattle.arbiter_core.specs.declared.fault.DeliverFault.TheVariants.{Down, IllegalMove, TooFarAhead, TooLong}
use Rattle.arbiter_core.specs.Recording.{Recorded, ReorderBuffer, advance, move_count}
use Rattle.arbiter_core.specs.Answering.{Answer, Identity, Puts, Refuses, Sends, answer_heard, answer_to, answer_to_move, puts, sent_by, told_now, told_of, waits_too}
use Rattle.arbiter_core.proofs.Cases.{at_turn, in_window, not_long, not_old}

-- ---- messages

-- what a message says of a record is what is recorded, of the game with this stamp
abbrev pub Says : Stamp → Recorded → Message → Type 0
Says of r (Move stamp sender number m) = Unit {0}
Says of r (Ack stamp who n) = (stamp ≡ of) × (n ≡ move_count r)
Says of r (Verdict stamp who ply v) = (stamp ≡ of) × (r.verdict ≡ Some v) × (ply ≡ move_count r)
Says of r (Fetch stamp who number wanted) = Unit {0}

abbrev pub AllSay : Stamp → Recorded → List Message → Type 0
AllSay of r outputs = AllByRecursion (Says of r) outputs

told_says : (me : Identity) (r : Recorded) (o : Option Verdicts) → r.verdict ≡ o → AllSay me.stamp r (told_of me (move_count r) o)
told_says me r None e = ((refl, refl), tt)
told_says me r (Some v) e = ((refl, refl), ((refl, e, refl), tt))

sent_says : (of : Stamp) (r : Recorded) (stamp : Stamp) (sender : Sender) (number : ℕ) (ms : List Moves) → AllSay of r (sent_by stamp sender number ms)
sent_says of r stamp sender number [] = tt
sent_says of r stamp sender number (m ∷ ms) = (tt, sent_says of r stamp sender (suc number) ms)

-- what is answered tells what is then recorded
abbrev pub IsHonest : Stamp → Recorded → Answer → Type 0
IsHonest of old (Refuses fault) = Unit {0}
IsHonest of old (Sends outputs window) = AllSay of old outputs
IsHonest of old (Puts next outputs window) = AllSay of next outputs

by_test : (of : Stamp) (old : Recorded) (b : Bool) (x y : Answer) → (b ≡ true → IsHonest of old x) → (b ≡ false → IsHonest of old y) → IsHonest of old (cond b x y)
by_test of old true x y h k = h refl
by_test of old false x y h k = k refl

module _ (r : Rules) (me : Identity) (old : Recorded) (waiting : ReorderBuffer) where
  put_honest : (m : Moves) → IsHonest me.stamp old (puts me old waiting (advance r old.moves m waiting))
  put_honest m = let next : Recorded = advance r old.moves m waiting in told_says me next next.verdict refl

  acks : AllSay me.stamp old (Ack me.stamp me.who (move_count old) ∷ [])
  acks = ((refl, refl), tt)

  move_honest : (number : ℕ) (m : Moves) → IsHonest me.stamp old (answer_to_move r me old waiting number m)
  move_honest number m =
      by_test me.stamp old (nat_le most_moves number) (Refuses TooLong) (not_long r me old waiting number m) (λ _. tt) (λ _.
      by_test me.stamp old (is_some old.verdict || nat_lt number (move_count old)) (Sends (told_now me old) waiting) (not_old r me old waiting number m) (λ _. told_says me old old.verdict refl) (λ unruled.
      by_test me.stamp old (nat_le (move_count old + 32) number) (Refuses TooFarAhead) (in_window r me old waiting number m) (λ _. tt) (λ _.
      by_test me.stamp old (nat_lt (move_count old) number) (Sends (Ack me.stamp me.who (move_count old) ∷ []) (waits_too waiting (number - (move_count old + 1)) m)) (at_turn r me old waiting number m) (λ _. acks) (λ _.
      by_test me.stamp old (is_none (position_after_all r.start (old.moves ++ m ∷ []))) (Refuses IllegalMove) (puts me old waiting (advance r old.moves m waiting)) (λ _. tt)
      (λ _. put_honest m)))))

  message_honest : (message : Message) → IsHonest me.stamp old (answer_to r me old waiting message)
  unfolding answer_to
  message_honest (Move stamp sender number m) = move_honest number m
  message_honest (Ack stamp who count) = tt
  message_honest (Verdict stamp who ply verdict) = tt
  message_honest (Fetch stamp who number wanted) = sent_says me.stamp old _ _ number _

  heard_honest : (h : Result Message DeliverFault) → IsHonest me.stamp old (answer_heard r me old waiting h)
  heard_honest (Ok message) = message_honest message
  heard_honest (Err fault) = tt

  pub answer_honest : (down : Bool) (h : Result Message DeliverFault) → IsHonest me.stamp old (cond down (Refuses Down) (answer_heard r me old waiting h))
  answer_honest true h = tt
  answer_honest false h = heard_honest h
