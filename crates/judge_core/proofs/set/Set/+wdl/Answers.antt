use Rattle.std.proofs.Common.{◌≡◌, ◌∙◌, sym, ap, ◌+◌, refl, arith}
use Rattle.board_core.specs.ComputedMoves.{count_of_men}
use Rattle.judge_core.specs.Values.{opposite_reading}
use Rattle.judge_core.specs.Probing.{is_forced, searched_by, wdl_of}
use Rattle.judge_core.specs.Tables.{Holding}
use Rattle.judge_core.proofs.Captures.{is_captured, falls}
use Rattle.judge_core.proofs.Readings.{walk-begins, walk-goes_on, walk-passes, walk-ends, next_legal, next_illegal, fewer_left, no_captures, with_own}
use Rattle.judge_core.proofs.Rule.{bare, searched}
use Rattle.judge_core.proofs.set.Set.+wdl.Goals.{search_captures-in-Some-play, search_captures-in_default-play}
use Rattle.judge_core.proofs.set.Set.+wdl.Goals as goal

pub wdl_of-returns-then-is_bare-clause-is : goal.wdl_of-returns-then-is_bare-clause-is
wdl_of-returns-then-is_bare-clause-is t c = bare _ _ c.is_bare.ensures.position (c.is_bare.ensures.bare c.if-is_bare.true)

pub wdl_of-returns-clause-is : goal.wdl_of-returns-clause-is
wdl_of-returns-clause-is t c =
    c.worth_in.ensures
    ∙ searched c.args.self.now.tables c.args.position.now c.capture_search-searched.result c.is_bare.ensures.position (c.is_bare.ensures.more c.if-is_bare.false) (c.capture_search-searched.ensures.is ∙ ap (searched_by c.args.self.now.tables (wdl_of c.args.self.now.tables)) c.of.ensures)

pub search_captures-captures-init : goal.search_captures-captures-init
search_captures-captures-init t c = (walk-begins _ _ _ c.new-found.ensures, refl)

pub search_captures-captures-preserved : goal.search_captures-captures-preserved
search_captures-captures-preserved t c =
    let p = c.position-position.ensures.is in
    let next = rw p at c.in-Some.ensures.next in
    let tables = c.captures-2.invariant.1 in
    elim c.match-play.branch [
      | search_captures-in-Some-play w ↦ (
        let e = rw p at (sym c.play.ensures.computed ∙ w.in-Some-play.is) in
            let after = w.wdl_of-reading.ensures.is ∙ ap (λ (h : Holding). wdl_of h.tables w.in-Some-play.after) tables in
            walk-goes_on _ _ _ _ _ _ _ _ _ c.captures-2.invariant.0 (next_legal _ _ _ _ next e) e (w.turned.ensures ∙ ap opposite_reading after) (rw p at w.lands_empty.ensures) (w.found-is ∙ w.with-found.ensures),
        w.self-is ∙ w.wdl_of-reading.ensures.unchanged ∙ tables,
      )
      | search_captures-in_default-play w ↦ (
        rw w.found-is (walk-passes _ _ _ _ _ c.captures-2.invariant.0 (next_illegal _ _ _ next (rw p at (sym c.play.ensures.computed ∙ w.in_default-play.is)))),
        w.self-is ∙ tables,
      )
    ]

pub search_captures-captures-smaller : goal.search_captures-captures-smaller
search_captures-captures-smaller t c = fewer_left _ _ c.in-Some.ensures.later c.in-Some.ensures.below

pub search_captures-wdl_of-reading-requires : goal.search_captures-wdl_of-reading-requires
search_captures-wdl_of-reading-requires t c =
    let p = c.position-position.ensures.is in
    let e = rw p at (sym c.play.ensures.computed ∙ c.in-Some-play.is) in
    let m = is_captured _ _ _ _ (next_legal _ _ _ _ (rw p at c.in-Some.ensures.next) e) in
    let less : count_of_men c.in-Some-play.after + 1 ≡ count_of_men c.args.probe.now = falls _ _ _ c.position-position.ensures.position m e in
    (omega (arith, c.decreases), tt)

pub search_captures-returns-clause-is : goal.search_captures-returns-clause-is
search_captures-returns-clause-is t c = walk-ends _ _ _ _ c.captures-2.invariant.0 (rw c.position-position.ensures.is at c.in_default.ensures.none)

pub found_in_captures-returns-else-may_capture-clause-is : goal.found_in_captures-returns-else-may_capture-clause-is
found_in_captures-returns-else-may_capture-clause-is t c = no_captures _ _ _ c.new.ensures (rw c.position.ensures.is at (c.may_capture.ensures c.if-may_capture.false))

pub capture_search_by-returns-clause-is : goal.capture_search_by-returns-clause-is
capture_search_by-returns-clause-is t c =
    with_own c.args.self.now.tables _ c.args.probe.now _ _ _ _ c.found_in_captures-found.ensures.is c.requires.own (c.is_forced.ensures ∙ ap is_forced c.position.ensures.is) c.close.ensures
