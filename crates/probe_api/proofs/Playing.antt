-- A game that is told one move more.
use Rattle.std.proofs.Common.{◌≡◌, ◌∙◌, sym, ap, subst, refl, ◌+◌, ◌<◌, false, List, [], ◌∷◌, ◌++◌, length, take, Option, Some, None, IsSome, IfSome, is_some, pos, arith}
use mathlib.Core.Bool.{true≢false}
use Rattle.std.proofs.lemmas.List.{take_all, take-append-le, length-append}
use borrow.Author.Count.{below_more}
use Rattle.board_core.specs.declared.moves.Move.{Move}
use Rattle.board_core.specs.declared.parts.Parts.{Parts}
use Rattle.board_core.specs.declared.verdict.Verdict.{Verdict}
use Rattle.board_core.specs.ComputedMoves.{position_after}
use Rattle.judge_core.specs.Games.{Rules, position_after_all, verdict_after, IsUnruled, IsGoing, IsOutcome}
use Rattle.judge_core.specs.Standings.{Reached, IsAt}
use Rattle.judge_core.specs.Tables.{Tables}
use Rattle.probe_api.specs.Plays.{Play, IsPlayed, TellsMove, outcome_at}
use Rattle.probe_api.specs.Replies.{told, verdict_number}
use Rattle.probe_api.specs.declared.reply.Reply.{Reply}

module _ (r : Rules) (moves : List Move) (s : Reached) (at : IsAt r moves s) (before : IsUnruled r moves (length moves)) where
  all : take (length moves) moves ≡ moves
  all = take_all (length moves) moves (omega arith)

  there : IsSome (position_after_all r.start moves)
  there = let e = at.position in rw e refl

  -- what its moves come to is the verdict at its last ply, since none comes before
  pub at_end : (v : Option Verdict) → v ≡ verdict_after r moves → IsOutcome r moves (outcome_at moves v)
  at_end (Some v) is = record {
    within = omega arith;
    legal = subst (λ (ms : List Move). IsSome (position_after_all r.start ms)) (sym all) there;
    ruled = ap (verdict_after r) all ∙ sym is;
    unruled = before;
  }
  at_end None is = record {
    legal = there;
    unruled = below_more (λ j. verdict_after r (take j moves) ≡ None) (length moves) before (ap (verdict_after r) all ∙ sym is);
  }

-- no ply before the one after a further move has a verdict
pub none_before : (r : Rules) (moves : List Move) (m : Move) → IsGoing r moves → IsUnruled r (moves ++ m ∷ []) (length (moves ++ m ∷ []))
none_before r moves m going j low =
    let within : j < length moves + 1 = subst (λ n. j < n) (length-append moves (m ∷ [])) low in
    ap (verdict_after r) (take-append-le j moves (m ∷ []) (omega (arith, within))) ∙ going.unruled j within

none_of : {A : Type 0} (o : Option A) → is_some o ≡ false → o ≡ None
none_of None is = refl
none_of (Some x) is = absurd (true≢false is)

-- a game without a verdict that took a legal move is told so
pub told_on : (tables : Tables) (m : Move) (old new : Play) (reply : Reply) (q : Parts) (s : Reached) → is_some old.verdict ≡ false → position_after old.standing.position m ≡ Some q
    → ((rules : Rules) (moves : List Move) (n : Move) → rules.tables ≡ tables → IsAt rules moves old.standing → position_after old.standing.position n ≡ Some q → IsAt rules (moves ++ n ∷ []) s)
    → ((rules : Rules) (moves : List Move) → rules.delay ≡ old.delay → IsAt rules moves s → IsUnruled rules moves (length moves) → IsPlayed rules moves new)
    → reply ≡ told (pos (verdict_number new.verdict)) → TellsMove tables m old reply new
told_on tables m old new reply q s goes may at made is = let answered : reply.status ≡ 0 = ap (λ (r : Reply). r.status) is in record {
  played = λ _ rules moves same was. made rules (moves ++ m ∷ []) was.delay (at rules moves m same was.at may)
      (none_before rules moves m (subst (λ v. IsOutcome rules moves (outcome_at moves v)) (none_of old.verdict goes) was.outcome));
  verdict = λ _. is;
  over = λ some. absurd (true≢false (sym some ∙ goes));
  illegal = λ _ e. absurd (subst (λ o. IfSome o (λ _. ⊥)) (sym e ∙ may) tt);
  legal = λ p _ e no. absurd (no answered);
  kept = λ no. absurd (no answered);
}
