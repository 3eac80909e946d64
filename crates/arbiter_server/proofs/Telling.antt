-- What an answer tells is what is then recorded.
use Rattle.std.proofs.Common.{◌≡◌, ℕ, zero, suc, ◌+◌, ◌-◌, ◌≤◌, Bool, true, false, cond, ◌||◌, List, [], ◌∷◌, ◌++◌, length, take, Option, Some, None, sym, refl, ap, ◌∙◌, arith, append_assoc}
use Rattle.std.specs.Prelude.{Result, Ok, Err, is_some, is_none, nat_lt, nat_le}
use Rattle.std.specs.List.{AllByRecursion}
use Rattle.std.specs.Option.{some_prefix}
use Rattle.std.proofs.lemmas.List.{append-nil}
use Rattle.board_core.specs.declared.moves.Move.{Move as Moves}
use Rattle.board_core.specs.declared.verdict.Verdict.{Verdict as Verdicts}
use Rattle.judge_core.specs.Games.{position_after_all, Rules}
use Rattle.move_msg.specs.declared.stamp.Stamp.{Stamp}
use Rattle.move_msg.specs.declared.arbiter_id.Sender.{Sender}
use Rattle.move_msg.specs.declared.message.Message.{Message}
use Rattle.move_msg.specs.declared.message.Message.TheVariants.{Move, Ack, Verdict, Fetch}
use Rattle.move_msg.specs.Numbers.{most_moves}
use Rattle.arbiter_core.specs.declared.fault.DeliverFault.{DeliverFault}
use Rattle.arbiter_core.specs.declared.fault.DeliverFault.TheVariants.{Down, IllegalMove, TooFarAhead, TooLong}
use Rattle.arbiter_core.specs.Recording.{Recorded, ReorderBuffer, advance, last_ply, move_count}
use Rattle.arbiter_core.specs.Answering.{Answer, Identity, Puts, Refuses, Sends, answer_heard, answer_to, answer_to_move, puts, sent_by, told_now, told_of, waits_too}
use Rattle.arbiter_core.proofs.Cases.{at_turn, in_window, not_long, not_old}
use Rattle.arbiter_server.specs.Lives.{GoesOn}

-- ---- records that go on

pub still_on : (r : Recorded) → GoesOn r r
still_on r = record { more = []; moves = sym (append-nil r.moves); ended = λ v e. refl }

pub on_and_on : (a b c : Recorded) → GoesOn a b → GoesOn b c → GoesOn a c
on_and_on a b c p q = record {
  more = p.more ++ q.more;
  moves = q.moves ∙ ap (λ (ms : List Moves). ms ++ q.more) p.moves ∙ append_assoc a.moves p.more q.more;
  ended = λ v e. let same : b ≡ a = p.ended v e in q.ended v (ap (λ (x : Recorded). x.verdict) same ∙ e) ∙ same;
}

-- ---- messages

-- what a message tells is what is recorded
abbrev pub Tells : Recorded → Message → Type 0
Tells r (Move stamp sender number m) = Unit {0}
Tells r (Ack stamp who n) = n ≡ move_count r
Tells r (Verdict stamp who ply v) = (r.verdict ≡ Some v) × (ply ≡ move_count r)
Tells r (Fetch stamp who number wanted) = Unit {0}

abbrev pub AllTell : Recorded → List Message → Type 0
AllTell r outputs = AllByRecursion (Tells r) outputs

told_tells : (me : Identity) (r : Recorded) (o : Option Verdicts) → r.verdict ≡ o → AllTell r (told_of me (move_count r) o)
told_tells me r None e = (refl, tt)
told_tells me r (Some v) e = (refl, ((e, refl), tt))

sent_tells : (r : Recorded) (stamp : Stamp) (sender : Sender) (number : ℕ) (ms : List Moves) → AllTell r (sent_by stamp sender number ms)
sent_tells r stamp sender number [] = tt
sent_tells r stamp sender number (m ∷ ms) = (tt, sent_tells r stamp sender (suc number) ms)

-- the front of a list that is at least as long as its first part
take_on : {A : Type 0} (front rest : List A) (k : ℕ) → length front ≤ length (take k (front ++ rest)) → (more : List A) × (take k (front ++ rest) ≡ front ++ more)
take_on [] rest k h = (take k rest, refl)
take_on (x ∷ xs) rest zero h = absurd (omega arith)
take_on (x ∷ xs) rest (suc k) h = let m = take_on xs rest k (omega arith) in (m.0, ap (λ l. x ∷ l) m.1)

-- what is answered tells what is then recorded, and a record that is put goes on from the one before if it is no shorter
abbrev pub IsHonest : Recorded → Answer → Type 0
IsHonest old (Refuses fault) = Unit {0}
IsHonest old (Sends outputs window) = AllTell old outputs
IsHonest old (Puts next outputs window) = AllTell next outputs × (move_count old ≤ move_count next → GoesOn old next)

by_test : (old : Recorded) (b : Bool) (x y : Answer) → (b ≡ true → IsHonest old x) → (b ≡ false → IsHonest old y) → IsHonest old (cond b x y)
by_test old true x y h k = h refl
by_test old false x y h k = k refl

none_if : {A : Type 0} (o : Option A) → is_some o ≡ false → o ≡ None
none_if None h = refl
none_if (Some x) h = absurd cc

first_false : (a b : Bool) → (a || b) ≡ false → a ≡ false
first_false true b h = h
first_false false b h = refl

module _ (r : Rules) (me : Identity) (old : Recorded) (waiting : ReorderBuffer) where
  put_honest : (m : Moves) → old.verdict ≡ None → IsHonest old (puts me old waiting (advance r old.moves m waiting))
  put_honest m none =
      let next : Recorded = advance r old.moves m waiting in (
        told_tells me next next.verdict refl,
        λ longer.
            let t = take_on old.moves (m ∷ some_prefix waiting) (last_ply r (old.moves ++ m ∷ some_prefix waiting)) longer in
            record { more = t.0; moves = t.1; ended = λ v e. absurd (let x : None ≡ Some v = sym none ∙ e in cc) },
      )

  acks : AllTell old (Ack me.stamp me.who (move_count old) ∷ [])
  acks = (refl, tt)

  move_honest : (number : ℕ) (m : Moves) → IsHonest old (answer_to_move r me old waiting number m)
  move_honest number m =
      by_test old (nat_le most_moves number) (Refuses TooLong) (not_long r me old waiting number m) (λ _. tt) (λ _.
      by_test old (is_some old.verdict || nat_lt number (move_count old)) (Sends (told_now me old) waiting) (not_old r me old waiting number m) (λ _. told_tells me old old.verdict refl) (λ unruled.
      by_test old (nat_le (move_count old + 32) number) (Refuses TooFarAhead) (in_window r me old waiting number m) (λ _. tt) (λ _.
      by_test old (nat_lt (move_count old) number) (Sends (Ack me.stamp me.who (move_count old) ∷ []) (waits_too waiting (number - (move_count old + 1)) m)) (at_turn r me old waiting number m) (λ _. acks) (λ _.
      by_test old (is_none (position_after_all r.start (old.moves ++ m ∷ []))) (Refuses IllegalMove) (puts me old waiting (advance r old.moves m waiting)) (λ _. tt)
      (λ _. put_honest m (none_if old.verdict (first_false (is_some old.verdict) (nat_lt number (move_count old)) unruled)))))))

  message_honest : (message : Message) → IsHonest old (answer_to r me old waiting message)
  unfolding answer_to
  message_honest (Move stamp sender number m) = move_honest number m
  message_honest (Ack stamp who count) = tt
  message_honest (Verdict stamp who ply verdict) = tt
  message_honest (Fetch stamp who number wanted) = sent_tells old _ _ number _

  heard_honest : (h : Result Message DeliverFault) → IsHonest old (answer_heard r me old waiting h)
  heard_honest (Ok message) = message_honest message
  heard_honest (Err fault) = tt

  pub answer_honest : (down : Bool) (h : Result Message DeliverFault) → IsHonest old (cond down (Refuses Down) (answer_heard r me old waiting h))
  answer_honest true h = tt
  answer_honest false h = heard_honest h
