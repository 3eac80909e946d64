-- What is answered to a move, by its number.
use Rattle.std.proofs.Common.{◌≡◌, ℕ, ◌<◌, ◌≤◌, ◌+◌, ◌-◌, Bool, true, false, ◌||◌, List, [], ◌∷◌, ◌++◌, length, None, Ok, Err, refl, sym, ap, ◌∙◌, subst, arith}
use Rattle.std.specs.Prelude.{is_some, nat_lt}
use Rattle.std.proofs.lemmas.Bool.{lt-ltb}
use Rattle.board_core.specs.declared.moves.Move.{Move as Moves}
use Rattle.judge_core.specs.Games.{position_after_all}
use Rattle.move_msg.specs.declared.message.Message.{Message}
use Rattle.move_msg.specs.declared.message.Message.TheVariants.{Ack}
use Rattle.move_msg.specs.Numbers.{most_moves}
use Rattle.move_msg.specs.declared.record_bytes.Record.{Record}
use Rattle.arbiter_core.specs.declared.fault.DeliverFault.TheVariants.{IllegalMove, TooFarAhead, TooLong}
use Rattle.arbiter_core.specs.Keeping.{KeeperFacts}
use Rattle.arbiter_core.specs.Recording.{move_count}
use Rattle.arbiter_core.specs.Answering.{told_now, waits_too}
use Rattle.arbiter_core.specs.Views.{View}
use Rattle.arbiter_core.specs.Delivers.{ReturnsAnswer, answer_to_numbered, moment, with_window}
use Rattle.arbiter_core.proofs.Cases.{case_far, case_long, case_told, case_waits}
use Rattle.arbiter_core.proofs.Hearing.{illegal_is, refuses, sends}

module _ {K : Type 0} (facts : KeeperFacts K) (old : View) (keeper : K) (number : ℕ) (m : Moves) where
  -- a number of 4096 or more
  pub too_long : most_moves ≤ number → ReturnsAnswer facts (moment old keeper) (answer_to_numbered old number m) (Err TooLong) (moment old keeper)
  too_long long = refuses facts old keeper _ TooLong (case_long _ _ _ _ _ _ long)

  -- one below the count, or any where there is a verdict
  pub told : (outputs : List Message) → number < most_moves → (is_some old.kept.verdict || nat_lt number (move_count old.kept)) ≡ true → outputs ≡ told_now old.me old.kept → ReturnsAnswer facts (moment old keeper) (answer_to_numbered old number m) (Ok outputs) (moment old keeper)
  told outputs short late is = sends facts old keeper _ (told_now old.me old.kept) old.window outputs old (case_told _ _ _ _ _ _ short late) is refl

  -- one past the window
  pub too_far : number < most_moves → is_some old.kept.verdict ≡ false → move_count old.kept + 32 ≤ number → ReturnsAnswer facts (moment old keeper) (answer_to_numbered old number m) (Err TooFarAhead) (moment old keeper)
  too_far short going far = refuses facts old keeper _ TooFarAhead (case_far _ _ _ _ _ _ short going far)

  -- one that waits
  pub waits : (outputs : List Message) (new : View) → number < most_moves → is_some old.kept.verdict ≡ false → move_count old.kept < number → number < move_count old.kept + 32 → outputs ≡ Ack old.me.stamp old.me.who (move_count old.kept) ∷ [] → new ≡ with_window old (waits_too old.window (number - (move_count old.kept + 1)) m) → ReturnsAnswer facts (moment old keeper) (answer_to_numbered old number m) (Ok outputs) (moment new keeper)
  waits outputs new short going above near is same = sends facts old keeper _ _ _ outputs new (case_waits _ _ _ _ _ _ short going above near) is same

  -- the one whose turn it is, where the move isn't legal
  pub illegal : number < most_moves → is_some old.kept.verdict ≡ false → number ≡ move_count old.kept → position_after_all old.setup.start (old.kept.moves ++ m ∷ []) ≡ None → ReturnsAnswer facts (moment old keeper) (answer_to_numbered old number m) (Err IllegalMove) (moment old keeper)
  illegal short going turn none = refuses facts old keeper _ IllegalMove (illegal_is old number m short going turn none)

or_true : (a b : Bool) → b ≡ true → (a || b) ≡ true
or_true true b h = refl
or_true false b h = h

-- ---- what is read off the record that an arbiter lends itself

module _ {lent own : Record} (same : lent ≡ own) where
  pub some_in : (ruled : Bool) → ruled ≡ is_some lent.verdict → ruled ≡ is_some own.verdict
  some_in ruled is = is ∙ ap (λ (r : Record). is_some r.verdict) same

  pub count_in : (count : ℕ) → count ≡ length lent.moves → count ≡ length own.moves
  count_in count is = is ∙ ap (λ (r : Record). length r.moves) same

-- ---- what is read off the fields of an arbiter holds of its view

module _ {inside now : View} (same : inside ≡ now) where
  pub goes_on : (ruled : Bool) → ruled ≡ is_some inside.kept.verdict → ruled ≡ false → is_some now.kept.verdict ≡ false
  goes_on ruled is not = ap (λ (v : View). is_some v.kept.verdict) (sym same) ∙ sym is ∙ not

  pub counts : (number count : ℕ) → number ≡ count → count ≡ move_count inside.kept → number ≡ move_count now.kept
  counts number count is of = is ∙ of ∙ ap (λ (v : View). move_count v.kept) same

  -- a number that is neither below the count nor above it
  pub is_turn : (number low high count : ℕ) → low ≡ count → high ≡ count → count ≡ move_count inside.kept → low ≤ number → number ≤ high → number ≡ move_count now.kept
  is_turn number low high count l h of from to =
      let at : number ≡ count = omega arith in
      counts number count at of

  -- a verdict is recorded, or the number is below the count
  pub ruled : (some : Bool) (number : ℕ) → some ≡ is_some inside.kept.verdict → some ≡ true → (is_some now.kept.verdict || nat_lt number (move_count now.kept)) ≡ true
  ruled some number is there = ap (λ (b : Bool). b || nat_lt number (move_count now.kept)) (ap (λ (v : View). is_some v.kept.verdict) (sym same) ∙ sym is ∙ there)

  pub below : (number low count : ℕ) → low ≡ count → count ≡ move_count inside.kept → number < low → (is_some now.kept.verdict || nat_lt number (move_count now.kept)) ≡ true
  below number low count is of lt = or_true _ _ (subst (λ (n : ℕ). nat_lt number n ≡ true) (counts low count is of) (lt-ltb number low lt))

  -- what is told of the fields
  pub tells : (outputs : List Message) → outputs ≡ told_now inside.me inside.kept → outputs ≡ told_now now.me now.kept
  tells outputs is = is ∙ ap (λ (v : View). told_now v.me v.kept) same

  -- an answer to the arbiter that the fields are
  pub of_fields : {K : Type 0} (facts : KeeperFacts K) (keeper : K) (number : ℕ) (m : Moves) (outputs : List Message) (new : View) → ReturnsAnswer facts (moment inside keeper) (answer_to_numbered inside number m) (Ok outputs) (moment new keeper) → ReturnsAnswer facts (moment now keeper) (answer_to_numbered now number m) (Ok outputs) (moment new keeper)
  of_fields facts keeper number m outputs new h = subst (λ (v : View). ReturnsAnswer facts (moment v keeper) (answer_to_numbered v number m) (Ok outputs) (moment new keeper)) same h
