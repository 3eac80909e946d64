use Rattle.std.proofs.Common.{◌≡◌, ◌∙◌, sym, ap, ◌+◌, refl, arith}
use Rattle.board_core.specs.ComputedMoves.{count_of_men}
use Rattle.judge_core.specs.Values.{opposite_reading}
use Rattle.judge_core.specs.Probing.{is_forced}
use Rattle.judge_core.specs.Inside.Determined.{extreme, extreme_value, extreme_searched}
use Rattle.judge_core.specs.Tables.{Holding}
use Rattle.judge_core.specs.Inside.Found.{found_by_captures}
use Rattle.board_core.specs.ComputedMoves.{legal_captures}
use Rattle.judge_core.proofs.Captures.{is_captured, falls}
use Rattle.judge_core.proofs.Readings.{walk-begins, walk-goes_on, walk-passes, walk-ends, next_legal, next_illegal, fewer_left, with_own_where}
use Rattle.judge_core.proofs.Rule.{where_bare, where_searched}
use Rattle.judge_core.proofs.set.Set.+extreme.Goals.{captures_in_extreme-in-Some-play, captures_in_extreme-in_default-play}
use Rattle.judge_core.proofs.set.Set.+extreme.Goals as goal

pub wdl_extreme-returns-then-is_bare-clause-is : goal.wdl_extreme-returns-then-is_bare-clause-is
wdl_extreme-returns-then-is_bare-clause-is t c = where_bare (extreme c.args.self.now.tables c.args.odd_wins) _ c.is_bare.ensures.position (c.is_bare.ensures.bare c.if-is_bare.true)

pub wdl_extreme-returns-clause-is : goal.wdl_extreme-returns-clause-is
wdl_extreme-returns-clause-is t c =
    c.worth_in.ensures
    ∙ where_searched (extreme c.args.self.now.tables c.args.odd_wins) c.args.position.now c.extreme_search-searched.result c.is_bare.ensures.position (c.is_bare.ensures.more c.if-is_bare.false) (c.extreme_search-searched.ensures.is ∙ ap (extreme_searched c.args.self.now.tables c.args.odd_wins) c.of.ensures)

pub captures_in_extreme-captures-init : goal.captures_in_extreme-captures-init
captures_in_extreme-captures-init t c = (walk-begins _ _ _ c.new-found.ensures, refl)

pub captures_in_extreme-captures-preserved : goal.captures_in_extreme-captures-preserved
captures_in_extreme-captures-preserved t c =
    let p = c.position-position.ensures.is in
    let next = rw p at c.in-Some.ensures.next in
    let tables = c.captures-2.invariant.1 in
    elim c.match-play.branch [
      | captures_in_extreme-in-Some-play w ↦ (
        let e = rw p at (sym c.play.ensures.computed ∙ w.in-Some-play.is) in
            let after = w.wdl_extreme-reading.ensures.is ∙ ap (λ (h : Holding). extreme_value h.tables c.args.odd_wins w.in-Some-play.after) tables in
            walk-goes_on _ _ _ _ _ _ _ _ _ c.captures-2.invariant.0 (next_legal _ _ _ _ next e) e (w.turned.ensures ∙ ap opposite_reading after) (rw p at w.lands_empty.ensures) (w.found-is ∙ w.with-found.ensures),
        w.self-is ∙ w.wdl_extreme-reading.ensures.unchanged ∙ tables,
      )
      | captures_in_extreme-in_default-play w ↦ (
        rw w.found-is (walk-passes _ _ _ _ _ c.captures-2.invariant.0 (next_illegal _ _ _ next (rw p at (sym c.play.ensures.computed ∙ w.in_default-play.is)))),
        w.self-is ∙ tables,
      )
    ]

pub captures_in_extreme-captures-smaller : goal.captures_in_extreme-captures-smaller
captures_in_extreme-captures-smaller t c = fewer_left _ _ c.in-Some.ensures.later c.in-Some.ensures.below

pub captures_in_extreme-wdl_extreme-reading-requires : goal.captures_in_extreme-wdl_extreme-reading-requires
captures_in_extreme-wdl_extreme-reading-requires t c =
    let p = c.position-position.ensures.is in
    let e = rw p at (sym c.play.ensures.computed ∙ c.in-Some-play.is) in
    let m = is_captured _ _ _ _ (next_legal _ _ _ _ (rw p at c.in-Some.ensures.next) e) in
    let less : count_of_men c.in-Some-play.after + 1 ≡ count_of_men c.args.probe.now = falls _ _ _ c.position-position.ensures.position m e in
    (omega (arith, c.decreases), tt)

pub captures_in_extreme-returns-clause-is : goal.captures_in_extreme-returns-clause-is
captures_in_extreme-returns-clause-is t c = walk-ends _ _ _ _ c.captures-2.invariant.0 (rw c.position-position.ensures.is at c.in_default.ensures.none)

pub extreme_search-returns-clause-is : goal.extreme_search-returns-clause-is
extreme_search-returns-clause-is t c =
    let found = c.captures_in_extreme-found.ensures.is ∙ ap (λ (h : Holding). found_by_captures (extreme_value h.tables c.args.odd_wins) c.args.probe.now (legal_captures c.args.probe.now)) c.extreme-own.ensures.unchanged in
    with_own_where (extreme c.args.self.now.tables c.args.odd_wins) _ c.args.probe.now _ _ _ _ found c.extreme-own.ensures.is (c.is_forced.ensures ∙ ap is_forced c.position.ensures.is) c.close.ensures
