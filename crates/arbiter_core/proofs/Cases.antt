-- The cases of an answer to a move.
use Rattle.std.proofs.Common.{◌≡◌, ℕ, ◌+◌, ◌-◌, ◌<◌, ◌≤◌, true, false, cond, ◌||◌, [], ◌∷◌, ◌++◌, ◌∙◌, arith}
use Rattle.std.specs.Prelude.{is_some, is_none, nat_lt, nat_le}
use Rattle.std.proofs.lemmas.Bool.{cond-true, cond-false, le-leb, lt-leb, lt-ltb, le-ltb, or_from}
use Rattle.board_core.specs.declared.moves.Move.{Move as Moves}
use Rattle.judge_core.specs.Games.{position_after_all, Rules}
use Rattle.move_msg.specs.declared.message.Message.TheVariants.{Ack}
use Rattle.move_msg.specs.Numbers.{most_moves}
use Rattle.arbiter_core.specs.Recording.{Recorded, ReorderBuffer, move_count, advance}
use Rattle.arbiter_core.specs.Answering.{Identity, waits_too, told_now, Answer, Refuses, Sends, puts, answer_to_move}
use Rattle.arbiter_core.specs.declared.fault.DeliverFault.TheVariants.{IllegalMove, TooFarAhead, TooLong}

module _ (r : Rules) (me : Identity) (old : Recorded) (window : ReorderBuffer) (number : ℕ) (m : Moves) where
  abbrev pub at_turn : Answer
  at_turn = cond (is_none (position_after_all r.start (old.moves ++ m ∷ []))) (Refuses IllegalMove) (puts me old window (advance r old.moves m window))

  abbrev pub in_window : Answer
  in_window = cond (nat_lt (move_count old) number) (Sends (Ack me.stamp me.who (move_count old) ∷ []) (waits_too window (number - (move_count old + 1)) m)) at_turn

  abbrev pub not_old : Answer
  not_old = cond (nat_le (move_count old + 32) number) (Refuses TooFarAhead) in_window

  abbrev pub not_long : Answer
  not_long = cond (is_some old.verdict || nat_lt number (move_count old)) (Sends (told_now me old) window) not_old

  pub case_long : most_moves ≤ number → answer_to_move r me old window number m ≡ Refuses TooLong
  case_long h = cond-true (nat_le most_moves number) (Refuses TooLong) not_long (le-leb _ _ h)

  pub case_told : number < most_moves → (is_some old.verdict || nat_lt number (move_count old)) ≡ true → answer_to_move r me old window number m ≡ Sends (told_now me old) window
  case_told h t = cond-false (nat_le most_moves number) (Refuses TooLong) not_long (lt-leb _ _ h) ∙ cond-true (is_some old.verdict || nat_lt number (move_count old)) (Sends (told_now me old) window) not_old t

  later : number < most_moves → is_some old.verdict ≡ false → move_count old ≤ number → answer_to_move r me old window number m ≡ not_old
  later h v l = cond-false (nat_le most_moves number) (Refuses TooLong) not_long (lt-leb _ _ h) ∙ cond-false (is_some old.verdict || nat_lt number (move_count old)) (Sends (told_now me old) window) not_old (or_from _ _ v (le-ltb _ _ l))

  pub case_far : number < most_moves → is_some old.verdict ≡ false → move_count old + 32 ≤ number → answer_to_move r me old window number m ≡ Refuses TooFarAhead
  case_far h v l = later h v (omega arith) ∙ cond-true (nat_le (move_count old + 32) number) (Refuses TooFarAhead) in_window (le-leb _ _ l)

  pub case_waits : number < most_moves → is_some old.verdict ≡ false → move_count old < number → number < move_count old + 32 → answer_to_move r me old window number m ≡ Sends (Ack me.stamp me.who (move_count old) ∷ []) (waits_too window (number - (move_count old + 1)) m)
  case_waits h v l u =
      later h v (omega arith) ∙ cond-false (nat_le (move_count old + 32) number) (Refuses TooFarAhead) in_window (lt-leb _ _ u)
      ∙ cond-true (nat_lt (move_count old) number) (Sends (Ack me.stamp me.who (move_count old) ∷ []) (waits_too window (number - (move_count old + 1)) m)) at_turn (lt-ltb _ _ l)

  pub case_turn : number < most_moves → is_some old.verdict ≡ false → number ≡ move_count old → answer_to_move r me old window number m ≡ at_turn
  case_turn h v e =
      later h v (omega arith) ∙ cond-false (nat_le (move_count old + 32) number) (Refuses TooFarAhead) in_window (lt-leb _ _ (omega arith))
      ∙ cond-false (nat_lt (move_count old) number) (Sends (Ack me.stamp me.who (move_count old) ∷ []) (waits_too window (number - (move_count old + 1)) m)) at_turn (le-ltb _ _ (omega arith))
