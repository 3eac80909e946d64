-- What comes of a game depends on the tables by the rulings of its plies alone.
use Rattle.std.proofs.Common.{◌≡◌, ◌∙◌, sym, ap, refl, ℕ, zero, suc, ◌+◌, ◌-◌, ◌≤◌, nat_le, ◌&&◌, ◌||◌, cond, List, length, take, Option, Some, None, arith}
use Rattle.std.specs.Prelude.{option_and_then}
use Rattle.std.proofs.lemmas.List.{take_all, take-take, length-take-le}
use Rattle.board_core.specs.declared.parts.Parts.{Parts}
use Rattle.board_core.specs.declared.moves.Move.{Move}
use Rattle.board_core.specs.declared.verdict.Verdict.{Verdict}
use Rattle.judge_core.specs.declared.game.GameOutcome.{GameOutcome}
use Rattle.judge_core.specs.declared.game.GameOutcome.TheVariants.{Ruled, Illegal, Going}
use Rattle.judge_core.specs.Tables.{Tables}
use Rattle.judge_core.specs.Ruling.{ruling}
use Rattle.judge_core.specs.Games.{Rules, position_after_all, judged_after, is_end, has_stood, verdict_by, verdict_after, plies_to, IsUnruled, IsOutcome}
use Rattle.judge_core.specs.Standings.{Reached, IsAt}
use Rattle.judge_core.specs.MoreTables.{RulesTheSame, GamesDependOnRulings}

module _ (rules : Rules) (more : Tables) (moves : List Move) (last : ℕ) (within : last ≤ length moves) (same : RulesTheSame rules more moves last) where
  abbrev others : Rules
  others = record rules { tables = more }

  judged : (ply : ℕ) → ply ≤ last → judged_after more rules.start (take ply moves) ≡ judged_after rules.tables rules.start (take ply moves)
  unfolding judged_after
  judged ply le = by_position (position_after_all rules.start (take ply moves)) (λ p e. same ply p le e)
    where
      by_position : (o : Option Parts) → ((p : Parts) → o ≡ Some p → ruling more p ≡ ruling rules.tables p) → option_and_then (ruling more) o ≡ option_and_then (ruling rules.tables) o
      by_position None h = refl
      by_position (Some p) h = h p refl

  module _ (ply : ℕ) (le : ply ≤ last) where
    earlier : (n : ℕ) → take (length (take ply moves) - n) (take ply moves) ≡ take (ply - n) moves
    earlier n = (let size : length (take ply moves) ≡ ply = length-take-le ply moves (omega arith) in ap (λ k. take (k - n) (take ply moves)) size ∙ take-take (ply - n) ply moves (omega arith))

    stood : (v : Verdict) (n : ℕ) → has_stood others (take ply moves) v n ≡ has_stood rules (take ply moves) v n
    unfolding has_stood
    stood v zero = refl
    stood v (suc n) =
        let e : judged_after more rules.start (take (length (take ply moves) - suc n) (take ply moves)) ≡ judged_after rules.tables rules.start (take (length (take ply moves) - suc n) (take ply moves)) =
        ap (judged_after more rules.start) (earlier (suc n)) ∙ judged (ply - suc n) (omega (arith, le)) ∙ ap (judged_after rules.tables rules.start) (sym (earlier (suc n))) in
        rw (stood v n, e) refl

    verdict : verdict_after others (take ply moves) ≡ verdict_after rules (take ply moves)
    unfolding verdict_after
    verdict = ap (verdict_by others (take ply moves)) (judged ply le) ∙ by_ruling (judged_after rules.tables rules.start (take ply moves))
      where
        by_ruling : (o : Option Verdict) → verdict_by others (take ply moves) o ≡ verdict_by rules (take ply moves) o
        by_ruling None = refl
        by_ruling (Some v) = ap (λ b. cond (is_end v || (nat_le rules.delay (length (take ply moves)) && b)) (Some v) None) (stood v rules.delay)

  unruled : (k : ℕ) → k ≤ last + 1 → IsUnruled rules moves k → IsUnruled others moves k
  unruled k le h j lt = verdict j (omega (arith, le, lt)) ∙ h j lt

outcome_same : (rules : Rules) (more : Tables) (moves : List Move) (outcome : GameOutcome) → RulesTheSame rules more moves (plies_to moves outcome) → IsOutcome rules moves outcome → IsOutcome (record rules { tables = more }) moves outcome
outcome_same rules more moves (Ruled ply v) same h = record {
  within = h.within;
  legal = h.legal;
  ruled = verdict rules more moves ply h.within same ply (omega arith) ∙ h.ruled;
  unruled = unruled rules more moves ply h.within same ply (omega arith) h.unruled;
}
outcome_same rules more moves (Illegal place) same h = record {
  within = h.within;
  legal = h.legal;
  illegal = h.illegal;
  unruled = (let lt = h.within in unruled rules more moves place (omega (arith, lt)) same (place + 1) (omega arith) h.unruled);
}
outcome_same rules more moves Going same h = record {
  legal = h.legal;
  unruled = unruled rules more moves (length moves) (omega arith) same (length moves + 1) (omega arith) h.unruled;
}

module _ (rules : Rules) (more : Tables) (moves : List Move) (s : Reached) (same : RulesTheSame rules more moves (length moves)) (h : IsAt rules moves s) where
  whole : take (length moves) moves ≡ moves
  whole = take_all (length moves) moves (omega arith)

  standing_same : IsAt (record rules { tables = more }) moves s
  standing_same = record {
    position = h.position;
    judged = h.judged ∙ sym (same (length moves) s.position (omega arith) (ap (position_after_all rules.start) whole ∙ h.position));
    stood = λ v n e le. ap (λ b. nat_le n (length moves) && b) (held v n) ∙ h.stood v n e le;
  }
    where
      held : (v : Verdict) (n : ℕ) → has_stood (record rules { tables = more }) moves v n ≡ has_stood rules moves v n
      held v n =
          ap (λ ms. has_stood (record rules { tables = more }) ms v n) (sym whole)
          ∙ stood rules more moves (length moves) (omega arith) same (length moves) (omega arith) v n
          ∙ ap (λ ms. has_stood rules ms v n) whole

pub depend_on_rulings : GamesDependOnRulings
depend_on_rulings rules more moves = (outcome_same rules more moves, standing_same rules more moves)
