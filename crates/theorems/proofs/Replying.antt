-- What an arbiter answers to a move of a game whose moves are legal: it reports what it keeps then.
use Rattle.std.proofs.Common.{◌≡◌, ◌∙◌, ℕ, ◌+◌, ◌-◌, ◌<◌, ◌≤◌, true, false, cond, ◌||◌, List, [], ◌∷◌, ◌++◌, length, take, drop, take-append-drop, min, Option, Some, None, suc, inl, inr, refl, sym, ap, subst, arith, ⊎_elim}
use Rattle.std.specs.Prelude.{IsSome, is_none, is_some, nat_le, nat_lt, slice_get}
use Rattle.std.proofs.lemmas.Bool.{cases_lt, cond_both, leb-true, ltb-false, or_parts}
use Rattle.std.proofs.lemmas.List.{take_more}
use Rattle.std.proofs.lemmas.Option.{get_or_from_slice_get}
use Rattle.board_core.specs.declared.moves.Move.{Move as Word}
use Rattle.board_core.specs.declared.parts.Parts.{Parts}
use Rattle.board_core.specs.declared.verdict.Verdict.{Verdict as Ruling}
use Rattle.judge_core.specs.Games.{IsFirst, Rules, position_after_all, verdict_after}
use Rattle.judge_core.proofs.InWords.{stays_illegal}
use Rattle.move_msg.specs.Numbers.{most_moves}
use Rattle.move_msg.specs.declared.message.Message.{Message}
use Rattle.move_msg.specs.declared.message.Message.TheVariants.{Ack, Verdict}
use Rattle.move_msg.specs.declared.arbiter_id.ArbiterId.{ArbiterId}
use Rattle.arbiter_core.specs.declared.fault.DeliverFault.TheVariants.{IllegalMove, TooFarAhead, TooLong}
use Rattle.arbiter_core.specs.Recording.{Recorded, ReorderBuffer, advance, last_ply, move_count, reaches, record_at}
use Rattle.arbiter_core.specs.Answering.{Answer, Identity, Puts, Refuses, Sends, answer_to_move, puts, told_now, told_of, waits_too}
use Rattle.arbiter_core.proofs.Reach.{last_bound, last_reached, none_from, reach_within, step_to, unruled_below}
use Rattle.relay_world.specs.Headline.{IsRecordOf}
use Rattle.relay_world.specs.Worlds.{Judged, identity}
use Rattle.relay_world.proofs.Steps.{count_at, first_from}
use Rattle.relay_world.proofs.Whole.{at_last}
use Rattle.theorems.specs.Progress.{AreLegal, HasNoVerdict, HasTold, IsAmong}

-- it isn't refused, and what goes out is the report of the record that is kept then
abbrev pub Reports : Identity → Recorded → Answer → Type 0
Reports me old (Refuses fault) = ⊥
Reports me old (Sends outputs later) = outputs ≡ told_now me old
Reports me old (Puts next outputs later) = outputs ≡ told_now me next

pub not_none : (o : Option Parts) → IsSome o → o ≡ None → ⊥
not_none None h e = cc
not_none (Some p) h e = cc

some_of : (o : Option Parts) → (o ≡ None → ⊥) → IsSome o
some_of None h = absurd (h refl)
some_of (Some p) h = refl

two : (o : Option Ruling) (v : Ruling) → o ≡ None → o ≡ Some v → ⊥
two o v e f = cc

no_verdict : (o : Option Ruling) → is_some o ≡ false → o ≡ None
no_verdict None e = refl
no_verdict (Some v) e = cc

module _ (game : Judged) (legal : AreLegal game) (short : length game.moves ≤ 4096) (who : ArbiterId) where
  abbrev r : Rules
  r = game.rules

  abbrev last : ℕ
  last = last_ply r game.moves

  front_legal : (k : ℕ) → IsSome (position_after_all r.start (take k game.moves))
  front_legal k =
      some_of (position_after_all r.start (take k game.moves))
      (λ e. not_none (position_after_all r.start game.moves) legal
      (ap (position_after_all r.start) (sym (take-append-drop k game.moves)) ∙ stays_illegal r.start (take k game.moves) (drop k game.moves) e))

  -- the game goes on to its verdict or its end
  to_end : verdict_after r (take last game.moves) ≡ None → last < length game.moves → ⊥
  to_end none lt =
      let further : reaches r game.moves (suc last) ≡ true = step_to r game.moves last (record { before = last_reached r game.moves; unruled = none; within = lt; legal = front_legal (suc last) }) in
      let most = last_bound r game.moves (suc last) further in
      absurd (omega arith)

  -- ---- an answer

  module _ (old : Recorded) (window : ReorderBuffer) (n : ℕ) (m : Word) (held : IsRecordOf r game.moves old) (there : slice_get game.moves n ≡ Some m) (within : n < length game.moves) (low : min n last ≤ move_count old) where
    abbrev me : Identity
    me = identity game who

    -- its turn has come, where it isn't over
    in_turn : old.verdict ≡ None → move_count old ≤ n → n ≡ move_count old
    in_turn none le = ⊎_elim (λ (lt : move_count old < last). omega (arith, le, low, lt)) (λ (ge : last ≤ move_count old). absurd (over ge)) (cases_lt (move_count old) last)
      where
        over : last ≤ move_count old → ⊥
        over ge =
            let is : old ≡ record_at r game.moves last = at_last r game.moves old held ge in
            let ruled : verdict_after r (take last game.moves) ≡ None = sym (ap (λ (x : Recorded). x.verdict) is) ∙ none in
            to_end ruled (omega (arith, ge, le, within))

    next_legal : n ≡ move_count old → position_after_all r.start (old.moves ++ m ∷ []) ≡ None → ⊥
    next_legal is e = not_none (position_after_all r.start (take (n + 1) game.moves)) (front_legal (n + 1)) (ap (position_after_all r.start) one ∙ e)
      where
        moves : old.moves ≡ take n game.moves
        moves = ap (λ (x : Recorded). x.moves) held.is ∙ ap (λ k. take k game.moves) (sym (is ∙ count_at r game.moves old held))

        one : take (n + 1) game.moves ≡ old.moves ++ m ∷ []
        one =
            take_more game.moves n m within ∙ ap (λ (w : Word). take n game.moves ++ w ∷ []) (get_or_from_slice_get game.moves n m m there)
            ∙ ap (λ (xs : List Word). xs ++ m ∷ []) (sym moves)

    pub reports : Reports me old (answer_to_move r me old window n m)
    reports =
        let k : ℕ = move_count old in
        let a5 : Answer = puts me old window (advance r old.moves m window) in
        let a4 : Answer = cond (is_none (position_after_all r.start (old.moves ++ m ∷ []))) (Refuses IllegalMove) a5 in
        let a3 : Answer = cond (nat_lt k n) (Sends (Ack me.stamp me.who k ∷ []) (waits_too window (n - (k + 1)) m)) a4 in
        let a2 : Answer = cond (nat_le (k + 32) n) (Refuses TooFarAhead) a3 in
        let a1 : Answer = cond (is_some old.verdict || nat_lt n k) (Sends (told_now me old) window) a2 in
        cond_both (nat_le most_moves n) (Refuses TooLong) a1 (Reports me old) (λ long. let x = leb-true _ _ long in absurd (omega (arith, x, within, short))) (λ _.
        cond_both (is_some old.verdict || nat_lt n k) (Sends (told_now me old) window) a2 (Reports me old) (λ _. refl) (λ no.
        let parts : (is_some old.verdict ≡ false) × (nat_lt n k ≡ false) = or_parts _ _ no in
        let none : old.verdict ≡ None = no_verdict old.verdict parts.0 in
        let is : n ≡ move_count old = in_turn none (ltb-false _ _ parts.1) in
        cond_both (nat_le (k + 32) n) (Refuses TooFarAhead) a3 (Reports me old) (λ far. let x = leb-true _ _ far in absurd (omega (arith, x, is))) (λ _.
        cond_both (nat_lt k n) (Sends (Ack me.stamp me.who k ∷ []) (waits_too window (n - (k + 1)) m)) a4 (Reports me old) (λ _. ap (told_of me k) (sym none)) (λ _.
        cond_both (is_none (position_after_all r.start (old.moves ++ m ∷ []))) (Refuses IllegalMove) a5 (Reports me old) (λ e. next_legal is (none_from (position_after_all r.start (old.moves ++ m ∷ [])) e)) (λ _. refl)))))

  -- ---- a report of the whole game

  no_other : (one : Recorded) → IsRecordOf r game.moves one → last ≤ move_count one → one.verdict ≡ None → HasNoVerdict game × (move_count one ≡ length game.moves)
  no_other one held ge none = (unruled, omega (arith, size, reach_within r game.moves last (last_reached r game.moves), ends))
    where
      is : one ≡ record_at r game.moves last
      is = at_last r game.moves one held ge

      at_end : verdict_after r (take last game.moves) ≡ None
      at_end = sym (ap (λ (x : Recorded). x.verdict) is) ∙ none

      ends : length game.moves ≤ last
      ends = ⊎_elim (λ (lt : last < length game.moves). absurd (to_end at_end lt)) (λ (le : length game.moves ≤ last). le) (cases_lt last (length game.moves))

      size : move_count one ≡ last
      size =
          let c = count_at r game.moves one held in
          let up = last_bound r game.moves held.ply held.reached in
          omega (arith, c, ge, up)

      unruled : (ply : ℕ) (v : Ruling) → IsFirst r game.moves ply v → ⊥
      unruled ply v f =
          ⊎_elim (λ (lt : ply < last). two (verdict_after r (take ply game.moves)) v (unruled_below r game.moves ply last lt (last_reached r game.moves)) f.ruled)
          (λ (ge : last ≤ ply). let within = f.within in let same : last ≡ ply = omega (arith, ge, ends, within) in two (verdict_after r (take ply game.moves)) v (subst (λ k. verdict_after r (take k game.moves) ≡ None) same at_end) f.ruled)
          (cases_lt ply last)

  told_by : (one : Recorded) → IsRecordOf r game.moves one → last ≤ move_count one → (o : Option Ruling) → one.verdict ≡ o → HasTold game who (told_of (identity game who) (move_count one) o)
  told_by one held ge (Some v) e = inl (move_count one, (v, first_from r game.moves one v held e, (1, refl)))
  told_by one held ge None e =
      let none = no_other one held ge e in
      inr (none.0, (0, ap (λ k. Some (Ack game.stamp who k)) none.1))

  pub tells_all : (one : Recorded) → IsRecordOf r game.moves one → last ≤ move_count one → HasTold game who (told_now (identity game who) one)
  tells_all one held ge = told_by one held ge one.verdict refl

-- ---- what was told stays

pub among_later : (early late : List Message) (m : Message) → IsAmong late m → IsAmong (early ++ late) m
among_later [] late m h = h
among_later (x ∷ early) late m h = let k = among_later early late m h in (suc k.0, k.1)

pub told_later : (game : Judged) (who : ArbiterId) (early late : List Message) → ((m : Message) → IsAmong early m → IsAmong late m) → HasTold game who early → HasTold game who late
told_later game who early late on (inl (ply, (v, first, among))) = inl (ply, (v, first, on (Verdict game.stamp who ply v) among))
told_later game who early late on (inr (none, among)) = inr (none, on (Ack game.stamp who (length game.moves)) among)
