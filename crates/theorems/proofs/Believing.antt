-- The first verdict of a game is one that the board shows, where all of its moves are legal.
use Rattle.std.proofs.Common.{◌≡◌, ◌∙◌, ◌+◌, ◌<◌, ℕ, Bool, true, false, cond, List, [], ◌∷◌, ◌++◌, length, take, drop, take-append-drop, get_or, Option, Some, None, refl, sym, ap, subst, arith}
use Rattle.std.specs.Prelude.{IfSome, Ok, Err, nat_le, option_and_then}
use Rattle.std.proofs.lemmas.Bool.{cond_both}
use Rattle.std.proofs.lemmas.List.{take_all, take_more}
use Rattle.board_core.specs.declared.moves.Move.{Move}
use Rattle.board_core.specs.declared.parts.Parts.{Parts}
use Rattle.board_core.specs.declared.piece.Side.{Side}
use Rattle.board_core.specs.declared.piece.Side.TheVariants.{White, Black}
use Rattle.board_core.specs.declared.verdict.Verdict.{Verdict}
use Rattle.board_core.specs.declared.verdict.Verdict.TheVariants.{WhiteMates, BlackMates, Stalemate, TableDraw, TableWhite, TableBlack, Stopped}
use Rattle.board_core.specs.Side.{other}
use Rattle.board_core.specs.Computed.{is_in_check}
use Rattle.board_core.specs.ComputedMoves.{legal_moves, position_after}
use Rattle.board_core.specs.Ends.{HasNoMove, IsCheckmate, has_no_move}
use Rattle.board_core.proofs.Computed.{Decides-in_check}
use Rattle.board_core.proofs.ComputedLists.{HasLegal-moves}
use Rattle.board_core.proofs.ComputedMoves.{position_legal}
use Rattle.judge_core.specs.declared.fault.ValueFault.TheVariants.{NotCovered, Damaged}
use Rattle.judge_core.specs.declared.wdl.Wdl.TheVariants.{Loss, BlessedLoss, Draw, CursedWin, Win}
use Rattle.judge_core.specs.Distances.{Reach, dtz_of, plies}
use Rattle.judge_core.specs.Games.{IsFirst, judged_after, position_after_all}
use Rattle.judge_core.specs.Probing.{wdl_of}
use Rattle.judge_core.specs.Ruling.{end_of, is_out_of_scope, mate_of, ruling, ruling_at, ruling_by, won_by}
use Rattle.judge_core.specs.Tables.{Tables}
use Rattle.judge_core.specs.Values.{Reading}
use Rattle.judge_core.proofs.InWords.{in_words, stays_illegal}
use Rattle.judge_core.proofs.Plies.{goes_on}
use Rattle.relay_world.specs.Worlds.{Judged}
use Rattle.source_core.specs.declared.report.Ruling.{Ruling}
use Rattle.source_core.specs.Boards.{IsBelieved, IsMate, IsShown}
use Rattle.theorems.proofs.Replying.{not_none}

-- ---- tables tell of no mate

abbrev NoMate : Option Verdict → Type 0
NoMate o = IfSome o (λ v. IsMate v → ⊥)

won_is_none : (winner : Side) → NoMate (Some (won_by winner))
won_is_none White = λ h. h
won_is_none Black = λ h. h

reached_is_none : (p : Parts) (winner : Side) (reach : Reach) → NoMate (ruling_at p winner reach)
reached_is_none p winner (Err (Damaged key)) = λ h. h
reached_is_none p winner (Err (NotCovered key)) = tt
reached_is_none p winner (Ok d) = cond_both (nat_le (p.halfmove + plies d) 99) (Some (won_by winner)) None NoMate (λ _. won_is_none winner) (λ _. tt)

told_is_none : (p : Parts) (value : Reading) (reach : Reach) → NoMate (ruling_by p value reach)
told_is_none p (Err (Damaged key)) reach = λ h. h
told_is_none p (Err (NotCovered key)) reach = tt
told_is_none p (Ok Loss) reach = reached_is_none p (other p.side) reach
told_is_none p (Ok BlessedLoss) reach = tt
told_is_none p (Ok Draw) reach = λ h. h
told_is_none p (Ok CursedWin) reach = tt
told_is_none p (Ok Win) reach = reached_is_none p p.side reach

not_told : (o : Option Verdict) (v : Verdict) → NoMate o → o ≡ Some v → IsMate v → ⊥
not_told o v none e = let no : NoMate (Some v) = subst NoMate e none in no

-- ---- a mate is one on the board

record EndsHere (p : Parts) (v : Verdict) : Type 0 where
  over : has_no_move (legal_moves p) ≡ true
  is : end_of p ≡ v

some_one : {X : Type 0} (x y : X) → Some x ≡ Some y → x ≡ y
some_one x y e = cc

ends_here : (tables : Tables) (p : Parts) (v : Verdict) → ruling tables p ≡ Some v → IsMate v → EndsHere p v
unfolding ruling
ends_here tables p v e mate = by_moves (has_no_move (legal_moves p)) refl e
  where
    by_scope : (out : Bool) → cond out None (ruling_by p (wdl_of tables p) (dtz_of tables p)) ≡ Some v → EndsHere p v
    by_scope true r = cc
    by_scope false r = absurd (not_told (ruling_by p (wdl_of tables p) (dtz_of tables p)) v (told_is_none p (wdl_of tables p) (dtz_of tables p)) r mate)

    by_moves : (over : Bool) → has_no_move (legal_moves p) ≡ over → cond over (Some (end_of p)) (cond (is_out_of_scope p) None (ruling_by p (wdl_of tables p) (dtz_of tables p))) ≡ Some v → EndsHere p v
    by_moves true over r = record { over = over; is = some_one (end_of p) v r }
    by_moves false over r = by_scope (is_out_of_scope p) r

none_left : (moves : List Move) → has_no_move moves ≡ true → moves ≡ []
none_left [] e = refl
none_left (m ∷ moves) e = cc

no_move : (p : Parts) → has_no_move (legal_moves p) ≡ true → HasNoMove p
no_move p over m legal =
    let c = (HasLegal-moves p).complete m legal in
    let none = none_left (legal_moves p) over in
    let lt = rw none at c.1 in
    absurd (omega arith)

shown : (p : Parts) (v : Verdict) → has_no_move (legal_moves p) ≡ true → end_of p ≡ v → IsShown p v
shown p v over e = subst (IsShown p) e (by_check (is_in_check p.men p.side) refl)
  where
    mated : (side : Side) → p.side ≡ side → IsCheckmate p → IsShown p (mate_of side)
    mated White is h = (h, is)
    mated Black is h = (h, is)

    by_check : (check : Bool) → is_in_check p.men p.side ≡ check → IsShown p (cond check (mate_of p.side) Stalemate)
    by_check true c = mated p.side refl (no_move p over, (Decides-in_check p.men p.side).0 c)
    by_check false c = (no_move p over, λ check. let yes : is_in_check p.men p.side ≡ true = (Decides-in_check p.men p.side).1 check in cc)

-- ---- the first verdict of a game

next_of : (moves : List Move) (k : ℕ) → k < length moves → (m : Move) × (take (k + 1) moves ≡ take k moves ++ m ∷ [])
next_of [] k l = absurd (omega arith)
next_of (m ∷ moves) k l = (get_or (m ∷ moves) k m, take_more (m ∷ moves) k m l)

module _ (game : Judged) (p : Parts) (there : position_after_all game.rules.start game.moves ≡ Some p) (r : Ruling) (first : IsFirst game.rules game.moves r.ply r.verdict) where
  rules_there : (q : Parts) → position_after_all game.rules.start (take r.ply game.moves) ≡ Some q → ruling game.rules.tables q ≡ Some r.verdict
  unfolding judged_after
  rules_there q e = sym (ap (option_and_then (ruling game.rules.tables)) e) ∙ (in_words game.rules game.moves r.ply r.verdict first.within first.ruled).ruling

  at_end : r.ply ≡ length game.moves → IsShown p r.verdict
  at_end e = by_verdict r.verdict refl
    where
      whole : position_after_all game.rules.start (take r.ply game.moves) ≡ Some p
      whole = ap (position_after_all game.rules.start) (take_all r.ply game.moves (omega (arith, e))) ∙ there

      ruled : (v : Verdict) → r.verdict ≡ v → ruling game.rules.tables p ≡ Some v
      ruled v is = rules_there p whole ∙ ap Some is

      mated : (v : Verdict) → r.verdict ≡ v → IsMate v → IsShown p v
      mated v is mate = let h = ends_here game.rules.tables p v (ruled v is) mate in shown p v h.over h.is

      by_verdict : (v : Verdict) → r.verdict ≡ v → IsShown p v
      by_verdict WhiteMates is = mated WhiteMates is tt
      by_verdict BlackMates is = mated BlackMates is tt
      by_verdict Stalemate is = mated Stalemate is tt
      by_verdict TableDraw is = tt
      by_verdict TableWhite is = tt
      by_verdict TableBlack is = tt
      by_verdict Stopped is = tt

  -- a legal move follows, so that it is no mate
  no_earlier : r.ply < length game.moves → IsMate r.verdict → ⊥
  no_earlier lt mate = by_position (position_after_all game.rules.start (take r.ply game.moves)) refl
    where
      next : (m : Move) × (take (r.ply + 1) game.moves ≡ take r.ply game.moves ++ m ∷ [])
      next = next_of game.moves r.ply lt

      front : (o : Option Parts) → position_after_all game.rules.start (take (r.ply + 1) game.moves) ≡ o → (q : Parts) × (position_after_all game.rules.start (take (r.ply + 1) game.moves) ≡ Some q)
      front (Some q) e = (q, e)
      front None e =
          let none : position_after_all game.rules.start game.moves ≡ None =
          ap (position_after_all game.rules.start) (sym (take-append-drop (r.ply + 1) game.moves)) ∙ stays_illegal game.rules.start (take (r.ply + 1) game.moves) (drop (r.ply + 1) game.moves) e in
          let some : position_after_all game.rules.start game.moves ≡ Some p = there in
          absurd (cc)

      after : (q : Parts) × (option_and_then (λ x. position_after x next.0) (position_after_all game.rules.start (take r.ply game.moves)) ≡ Some q)
      after =
          let f = front (position_after_all game.rules.start (take (r.ply + 1) game.moves)) refl in
          (f.0, sym (goes_on game.rules.start (take r.ply game.moves) next.0) ∙ sym (ap (position_after_all game.rules.start) next.1) ∙ f.1)

      by_position : (o : Option Parts) → position_after_all game.rules.start (take r.ply game.moves) ≡ o → ⊥
      by_position None e = not_none (position_after_all game.rules.start (take r.ply game.moves)) first.legal e
      by_position (Some q) e =
          let h = ends_here game.rules.tables q r.verdict (rules_there q e) mate in
          let to : position_after q next.0 ≡ Some after.0 = sym (ap (option_and_then (λ x. position_after x next.0)) e) ∙ after.1 in
          no_move q h.over next.0 (after.0, position_legal q next.0 after.0 to)

  pub believed : IsBelieved (length game.moves) p r
  believed = (no_earlier, at_end)
