-- What a message says, and the answer to it.
use Rattle.std.proofs.Common.{◌≡◌, ℕ, ◌<◌, true, false, List, [], ◌∷◌, ◌++◌, length, suc, Some, None, Result, Ok, Err, inl, inr, refl, sym, ap, ◌∙◌, subst}
use Rattle.std.specs.Prelude.{is_some, is_none}
use Rattle.std.proofs.lemmas.Bool.{cond-true, cond-false}
use Rattle.board_core.specs.declared.parts.Parts.{Parts}
use Rattle.board_core.specs.declared.moves.Move.{Move as Moves}
use Rattle.judge_core.specs.Games.{position_after_all}
use Rattle.move_msg.specs.declared.stamp.Stamp.{Stamp}
use Rattle.move_msg.specs.declared.arbiter_id.ArbiterId.{ArbiterId}
use Rattle.move_msg.specs.declared.arbiter_id.Sender.{Sender}
use Rattle.board_core.specs.declared.verdict.Verdict.{Verdict as Verdicts}
use Rattle.move_msg.specs.declared.message.Message.{Message}
use Rattle.move_msg.specs.declared.message.Message.TheVariants.{Move, Ack, Verdict, Fetch}
use Rattle.move_msg.specs.declared.message.MessageFault.{MessageFault}
use Rattle.std.specs.Str.{bytes_eq}
use Rattle.move_msg.specs.Messages.{stamp_in}
use Rattle.move_msg.specs.Heard.{heard_in}
use Rattle.move_msg.specs.Numbers.{most_moves}
use Rattle.arbiter_core.specs.Keeping.{KeeperFacts}
use Rattle.arbiter_core.specs.declared.fault.DeliverFault.{DeliverFault}
use Rattle.arbiter_core.specs.declared.fault.DeliverFault.TheVariants.{Stranger, IllegalMove, Down, OutOfMemory}
use Rattle.arbiter_core.specs.Recording.{ReorderBuffer, move_count, advance}
use Rattle.arbiter_core.specs.Answering.{Answer, Refuses, Sends, fetched, sent_by, puts, answer_to, answer_to_move, answer_heard}
use Rattle.arbiter_core.specs.Setups.{rules_at}
use Rattle.arbiter_core.specs.Views.{View}
use Rattle.arbiter_core.specs.Delivers.{ReturnsAnswer, Moment, in_game, answer_at, answer_of, moment, with_window, Told as Outcome}
use Rattle.arbiter_core.proofs.Cases.{case_turn}

-- ---- whose message it is

pub is_own : (stamp : Stamp) (m : Message) → bytes_eq (stamp_in m) stamp ≡ true → Ok m ≡ in_game stamp (Ok m)
is_own stamp m is = sym (cond-true (bytes_eq (stamp_in m) stamp) (Ok m) (Err Stranger) is)

pub is_other : (stamp : Stamp) (m : Message) → bytes_eq (stamp_in m) stamp ≡ false → Err Stranger ≡ in_game stamp (Ok m)
is_other stamp m is = sym (cond-false (bytes_eq (stamp_in m) stamp) (Ok m) (Err Stranger) is)

-- ---- the answer to it

heard_is : (old : View) (heard : Result Message DeliverFault) → old.is_down ≡ false → answer_of old heard ≡ answer_heard (rules_at old.setup) old.me old.kept old.window heard
heard_is old heard up = cond-false old.is_down (Refuses Down) (answer_heard (rules_at old.setup) old.me old.kept old.window heard) up

pub hears_down : (old : View) (heard : Result Message DeliverFault) → old.is_down ≡ true → answer_of old heard ≡ Refuses Down
hears_down old heard down = cond-true old.is_down (Refuses Down) (answer_heard (rules_at old.setup) old.me old.kept old.window heard) down

pub hears_move : (old : View) (stamp : Stamp) (sender : Sender) (number : ℕ) (m : Moves) → old.is_down ≡ false → answer_of old (Ok (Move stamp sender number m)) ≡ answer_to_move (rules_at old.setup) old.me old.kept old.window number m
unfolding answer_to
hears_move old stamp sender number m up = heard_is old (Ok (Move stamp sender number m)) up

pub hears_ack : (old : View) (stamp : Stamp) (who : ArbiterId) (count : ℕ) → old.is_down ≡ false → answer_of old (Ok (Ack stamp who count)) ≡ Sends [] old.window
unfolding answer_to
hears_ack old stamp who count up = heard_is old (Ok (Ack stamp who count)) up

pub hears_verdict : (old : View) (stamp : Stamp) (who : ArbiterId) (ply : ℕ) (v : Verdicts) → old.is_down ≡ false → answer_of old (Ok (Verdict stamp who ply v)) ≡ Sends [] old.window
unfolding answer_to
hears_verdict old stamp who ply v up = heard_is old (Ok (Verdict stamp who ply v)) up

pub hears_fetch : (old : View) (stamp : Stamp) (who : ArbiterId) (number wanted : ℕ) → old.is_down ≡ false → answer_of old (Ok (Fetch stamp who number wanted)) ≡ Sends (fetched old.me old.kept number wanted) old.window
unfolding answer_to
hears_fetch old stamp who number wanted up = heard_is old (Ok (Fetch stamp who number wanted)) up

pub hears_fault : (old : View) (fault : DeliverFault) → old.is_down ≡ false → answer_of old (Err fault) ≡ Refuses fault
hears_fault old fault up = heard_is old (Err fault) up

-- the answer to the move whose turn it is
pub turn_is : (v : View) (q : Parts) (number : ℕ) (m : Moves) → number < most_moves → is_some v.kept.verdict ≡ false → number ≡ move_count v.kept → position_after_all v.setup.start (v.kept.moves ++ m ∷ []) ≡ Some q → answer_to_move (rules_at v.setup) v.me v.kept v.window number m ≡ puts v.me v.kept v.window (advance (rules_at v.setup) v.kept.moves m v.window)
turn_is v q number m short going turn after =
    case_turn (rules_at v.setup) v.me v.kept v.window number m short going turn ∙ cond-false (is_none (position_after_all v.setup.start (v.kept.moves ++ m ∷ []))) (Refuses IllegalMove) (puts v.me v.kept v.window (advance (rules_at v.setup) v.kept.moves m v.window)) (ap is_none after)

pub illegal_is : (v : View) (number : ℕ) (m : Moves) → number < most_moves → is_some v.kept.verdict ≡ false → number ≡ move_count v.kept → position_after_all v.setup.start (v.kept.moves ++ m ∷ []) ≡ None → answer_to_move (rules_at v.setup) v.me v.kept v.window number m ≡ Refuses IllegalMove
illegal_is v number m short going turn after =
    case_turn (rules_at v.setup) v.me v.kept v.window number m short going turn ∙ cond-true (is_none (position_after_all v.setup.start (v.kept.moves ++ m ∷ []))) (Refuses IllegalMove) (puts v.me v.kept v.window (advance (rules_at v.setup) v.kept.moves m v.window)) (ap is_none after)

-- ---- what holds of an answer holds of an equal one

pub answers_as : {K : Type 0} (facts : KeeperFacts K) (old after : Moment K) (told : Outcome) (a b : Answer) → a ≡ b → ReturnsAnswer facts old b told after → ReturnsAnswer facts old a told after
answers_as facts old after told a b e h = subst (λ (x : Answer). ReturnsAnswer facts old x told after) (sym e) h

-- ---- answers without a put

module _ {K : Type 0} (facts : KeeperFacts K) (old : View) (keeper : K) where
  pub refuses : (a : Answer) (fault : DeliverFault) → a ≡ Refuses fault → ReturnsAnswer facts (moment old keeper) a (Err fault) (moment old keeper)
  refuses a fault e = answers_as facts _ _ _ a (Refuses fault) e (record { answered = record { answer = refl; arbiter = refl; keeper = refl }; put = tt })

  pub sends : (a : Answer) (outputs : List Message) (window : ReorderBuffer) (told : List Message) (new : View) → a ≡ Sends outputs window → told ≡ outputs → new ≡ with_window old window → ReturnsAnswer facts (moment old keeper) a (Ok told) (moment new keeper)
  sends a outputs window told new e is same = answers_as facts _ _ _ a (Sends outputs window) e (record { answered = inl (record { answer = ap Ok is; arbiter = same; keeper = refl }); put = tt })

  pub wants_memory : (a : Answer) (outputs : List Message) (window : ReorderBuffer) → a ≡ Sends outputs window → 4 < length outputs → ReturnsAnswer facts (moment old keeper) a (Err OutOfMemory) (moment old keeper)
  wants_memory a outputs window e many = answers_as facts _ _ _ a (Sends outputs window) e (record { answered = inr (many, record { answer = refl; arbiter = refl; keeper = refl }); put = tt })

module _ (v : View) (message : Message) where
  abbrev pub answered : Answer
  answered = answer_to (rules_at v.setup) v.me v.kept v.window message

  pub to_move : (stamp : Stamp) (sender : Sender) (number : ℕ) (m : Moves) → message ≡ Move stamp sender number m → answered ≡ answer_to_move (rules_at v.setup) v.me v.kept v.window number m
  unfolding answer_to
  to_move stamp sender number m e = ap (λ (x : Message). answer_to (rules_at v.setup) v.me v.kept v.window x) e

  pub to_ack : (stamp : Stamp) (who : ArbiterId) (count : ℕ) → message ≡ Ack stamp who count → answered ≡ Sends [] v.window
  unfolding answer_to
  to_ack stamp who count e = ap (λ (x : Message). answer_to (rules_at v.setup) v.me v.kept v.window x) e

  pub to_verdict : (stamp : Stamp) (who : ArbiterId) (ply : ℕ) (t : Verdicts) → message ≡ Verdict stamp who ply t → answered ≡ Sends [] v.window
  unfolding answer_to
  to_verdict stamp who ply t e = ap (λ (x : Message). answer_to (rules_at v.setup) v.me v.kept v.window x) e

  pub to_fetch : (stamp : Stamp) (who : ArbiterId) (number wanted : ℕ) → message ≡ Fetch stamp who number wanted → answered ≡ Sends (fetched v.me v.kept number wanted) v.window
  unfolding answer_to
  to_fetch stamp who number wanted e = ap (λ (x : Message). answer_to (rules_at v.setup) v.me v.kept v.window x) e

  pub to_heard : (heard : Result Message DeliverFault) → v.is_down ≡ false → Ok message ≡ heard → answer_of v heard ≡ answered
  to_heard heard up e = ap (answer_of v) (sym e) ∙ heard_is v (Ok message) up

pub to_fault : (v : View) (fault : DeliverFault) (heard : Result Message DeliverFault) → v.is_down ≡ false → Err fault ≡ heard → answer_of v heard ≡ Refuses fault
to_fault v fault heard up e = ap (answer_of v) (sym e) ∙ heard_is v (Err fault) up

-- the answer to bytes is the one to what they say
pub by_bytes : (v : View) (bytes : List ℕ) (said : Result Message MessageFault) → heard_in bytes ≡ said → answer_at v bytes ≡ answer_of v (in_game v.me.stamp said)
by_bytes v bytes said e = ap (λ (h : Result Message MessageFault). answer_of v (in_game v.me.stamp h)) e

pub length_sent : (stamp : Stamp) (sender : Sender) (number : ℕ) (moves : List Moves) → length (sent_by stamp sender number moves) ≡ length moves
length_sent stamp sender number [] = refl
length_sent stamp sender number (m ∷ moves) = ap suc (length_sent stamp sender (suc number) moves)
