use Rattle.std.proofs.Common.{◌≡◌, ◌∙◌, sym, ap, ◌+◌, refl, arith}
use Rattle.board_core.specs.ComputedMoves.{count_of_men}
use Rattle.judge_core.specs.Values.{opposite_reading}
use Rattle.judge_core.specs.Known.{known_of}
use Rattle.judge_core.specs.Probing.{searched_by, worth_in}
use Rattle.judge_core.specs.Tables.{Holding}
use Rattle.judge_core.proofs.Captures.{is_captured, falls}
use Rattle.judge_core.proofs.KnownValue.{known_bare, known_won, known_unwon, unwon-begins, unwon-passes, unwon-goes_on, unwon-won, unwon-ends, unwon_without}
use Rattle.judge_core.proofs.Readings.{next_legal, next_illegal, fewer_left}
use Rattle.judge_core.proofs.set.Set.+known.Goals.{try_captures-in-Some-play+else-is_win, try_captures-in_default-play}
use Rattle.judge_core.proofs.set.Set.+known.Goals as goal

pub known_of-returns-then-is_bare-clause-is : goal.known_of-returns-then-is_bare-clause-is
known_of-returns-then-is_bare-clause-is t c = known_bare _ _ c.is_bare.ensures.position (c.is_bare.ensures.bare c.if-is_bare.true)

pub try_captures-captures-init : goal.try_captures-captures-init
try_captures-captures-init t c = (unwon-begins _ _ _ c.new-found.ensures, refl)

pub try_captures-captures-preserved : goal.try_captures-captures-preserved
try_captures-captures-preserved t c =
    let tables = c.captures-2.invariant.1 in
    elim c.match-play.branch [
      | try_captures-in-Some-play+else-is_win w ↦ (
        let e = sym c.play.ensures.computed ∙ w.in-Some-play.is in
            let after = w.known_of.ensures.is ∙ ap (λ (h : Holding). known_of h.tables w.in-Some-play.after) tables in
            unwon-goes_on _ _ _ _ _ _ c.captures-2.invariant.0 _ _ (next_legal _ _ _ _ c.in-Some.ensures.next e) e (w.turned-reading.ensures ∙ ap opposite_reading after) _ (sym w.is_win.ensures ∙ w.if-is_win.false) w.lands_empty.ensures (w.found-is ∙ w.with-found.ensures),
        w.self-is ∙ w.known_of.ensures.unchanged ∙ tables,
      )
      | try_captures-in_default-play w ↦ (
        unwon-passes _ _ _ _ _ _ c.captures-2.invariant.0 (next_illegal _ _ _ c.in-Some.ensures.next (sym c.play.ensures.computed ∙ w.in_default-play.is)) w.found-is,
        w.self-is ∙ tables,
      )
    ]

pub try_captures-captures-smaller : goal.try_captures-captures-smaller
try_captures-captures-smaller t c = fewer_left _ _ c.in-Some.ensures.later c.in-Some.ensures.below

pub try_captures-known_of-requires : goal.try_captures-known_of-requires
try_captures-known_of-requires t c =
    let e = sym c.play.ensures.computed ∙ c.in-Some-play.is in
    let m = is_captured _ _ _ _ (next_legal _ _ _ _ c.in-Some.ensures.next e) in
    let less : count_of_men c.in-Some-play.after + 1 ≡ count_of_men c.args.position.now = falls _ _ _ c.requires.position m e in
    (omega (arith, c.decreases), tt)

pub try_captures-returns-clause-is : goal.try_captures-returns-clause-is
try_captures-returns-clause-is t c = unwon-ends _ _ _ _ _ c.captures-2.invariant.0 c.in_default.ensures.none refl

pub found_or_won-returns-else-may_capture-clause-is : goal.found_or_won-returns-else-may_capture-clause-is
found_or_won-returns-else-may_capture-clause-is t c = unwon_without _ _ _ _ c.new.ensures (c.may_capture.ensures c.if-may_capture.false) refl

pub found_or_won-try_captures-requires : goal.found_or_won-try_captures-requires
found_or_won-try_captures-requires t c = (omega (arith, c.decreases), c.requires.position)

pub known_of-found_or_won-requires : goal.known_of-found_or_won-requires
known_of-found_or_won-requires t c = (omega (arith, c.decreases), c.is_bare.ensures.position)

pub known_of-close_by_table-requires : goal.known_of-close_by_table-requires
known_of-close_by_table-requires t c =
    rw c.found_or_won.ensures.unchanged
    (known_unwon c.args.self.now.tables c.args.position.now c.in-Some.found c.is_bare.ensures.position (c.is_bare.ensures.more c.if-is_bare.false) (sym c.in-Some.is ∙ c.found_or_won.ensures.is)).0

pub known_of-returns-in-Some-clause-is : goal.known_of-returns-in-Some-clause-is
known_of-returns-in-Some-clause-is t c =
    c.close_by_table.ensures.is
    ∙ ap (λ (h : Holding). worth_in (searched_by h.tables (known_of h.tables) c.args.position.now)) c.found_or_won.ensures.unchanged
    ∙ (known_unwon c.args.self.now.tables c.args.position.now c.in-Some.found c.is_bare.ensures.position (c.is_bare.ensures.more c.if-is_bare.false) (sym c.in-Some.is ∙ c.found_or_won.ensures.is)).1

pub known_of-returns-in-None-clause-is : goal.known_of-returns-in-None-clause-is
known_of-returns-in-None-clause-is t c =
    known_won c.args.self.now.tables c.args.position.now c.is_bare.ensures.position (c.is_bare.ensures.more c.if-is_bare.false) (sym c.in-None.is ∙ c.found_or_won.ensures.is)

pub try_captures-returns-then-is_win-clause-is : goal.try_captures-returns-then-is_win-clause-is
try_captures-returns-then-is_win-clause-is t c =
    let e = sym c.play.ensures.computed ∙ c.in-Some-play.is in
    let after = c.known_of.ensures.is ∙ ap (λ (h : Holding). known_of h.tables c.in-Some-play.after) c.captures-2.invariant.1 in
    unwon-won _ _ _ c.captures-2.found _ _ c.captures-2.invariant.0 _ _ (next_legal _ _ _ _ c.in-Some.ensures.next e) e (c.turned-reading.ensures ∙ ap opposite_reading after) (sym c.is_win.ensures ∙ c.if-is_win.true) _ refl

pub try_captures-returns-then-is_win-clause-unchanged : goal.try_captures-returns-then-is_win-clause-unchanged
try_captures-returns-then-is_win-clause-unchanged t c = c.known_of.ensures.unchanged ∙ c.captures-2.invariant.1
