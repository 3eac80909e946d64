use Rattle.std.proofs.Common.{◌∙◌, sym, ap, subst, ℕ, Some, Ok}
use Rattle.std.proofs.lemmas.List.{take_all}
use Rattle.std.proofs.lemmas.Result.{on_err_weaker}
use Rattle.judge_core.specs.Answers.{IsLeftOpen}
use Rattle.table_file.specs.declared.kind.TableKind.TheVariants.{Dtz}
use Rattle.table_file.specs.Distances.{stores}
use Rattle.judge_core.specs.LookUp.{placed_of}
use Rattle.judge_core.specs.Probing.{searched_by, wdl_of}
use Rattle.judge_core.specs.Tables.{Holding, table_at}
use Rattle.board_core.specs.declared.parts.Parts.{Parts}
use Rattle.board_core.specs.Moves.{IsLegal}
use Rattle.judge_core.specs.Distances.{is_quiet, pawns_reach, move_counts, by_quiet_moves, by_own_table, dtz_from_search, unless_reached}
use Rattle.judge_core.specs.Inside.Determined.{distance_in_both, or_agreed_distance, reach_beyond}
use Rattle.judge_core.specs.Inside.Counts.{no_counts, with_count}
use Rattle.judge_core.proofs.Asking.{at_item, with_all, walk-passed, walk-added}
use Rattle.judge_core.proofs.Counting.{counts_result-is, within-count}
use Rattle.judge_core.proofs.Reaching.{if_same, mate_counts, other_counts, bare_own, missing_own, stored_own, quiet_own, reached_by, reached_is, lost_is, bare_by, many_by_rules, if_told, once, never}
use Rattle.judge_core.proofs.set.Set.+dtz.Goals.{by_moves-then-is_won+in_ok-found+in-Ok+else-reached, by_moves-else-is_won, by_quiet_moves-in-Some+in_ok-count, by_quiet_moves-in_default, move_counts-else-won-via-then-won+else-is_checkmate, move_counts-else-won-via-else-won}
use Rattle.judge_core.proofs.set.Set.+dtz.Goals as goal

pub move_counts-returns-then-is_checkmate-clause-is : goal.move_counts-returns-then-is_checkmate-clause-is
move_counts-returns-then-is_checkmate-clause-is t c = mate_counts c.args.outcome (reach_beyond c.args.beyond c.args.self.now.tables) c.args.after.now (sym c.is_won-won.ensures ∙ c.if-won.true) (sym c.is_checkmate.ensures.computed ∙ c.if-is_checkmate.true)

pub move_counts-returns-clause-is : goal.move_counts-returns-clause-is
move_counts-returns-clause-is t c = elim c.else-won.branch [
  | move_counts-else-won-via-then-won+else-is_checkmate w ↦
      other_counts c.args.outcome (reach_beyond c.args.beyond c.args.self.now.tables) c.args.after.now c.is_won-won.result c.in_ok-reach.reach c.distance_before.result c.is_won-won.ensures (λ won. sym w.is_checkmate.ensures.computed ∙ w.if-is_checkmate.false) c.in_ok-reach.ensures.is c.distance_before.ensures
  | move_counts-else-won-via-else-won w ↦
      other_counts c.args.outcome (reach_beyond c.args.beyond c.args.self.now.tables) c.args.after.now c.is_won-won.result c.in_ok-reach.reach c.distance_before.result c.is_won-won.ensures (λ won. (let e = sym won ∙ w.if-won.false in cc)) c.in_ok-reach.ensures.is c.distance_before.ensures
]

pub by_quiet_moves-after_quiet_move-requires : goal.by_quiet_moves-after_quiet_move-requires
by_quiet_moves-after_quiet_move-requires t c = at_item (IsLegal c.args.position.now) c.in_ok-moves.moves.items c.deref-m-items.result.now c.loop-m.m-index c.m-item.result c.in_ok-moves.ensures.legal.sound c.deref-m-items.ensures.value c.loop-m-test.true c.m-item.is

pub by_quiet_moves-loop-m-preserved : goal.by_quiet_moves-loop-m-preserved
by_quiet_moves-loop-m-preserved t c =
    let p = c.args.position.now in
    let xs = c.deref-m-items.result.now in
    let start = no_counts c.args.outcome in
    let reach = reach_beyond c.args.beyond c.args.self.now.tables in
    elim c.match-after_quiet_move.branch [
      | by_quiet_moves-in-Some+in_ok-count w ↦ (
        walk-added with_count start (move_counts c.args.outcome reach) (is_quiet p) p xs c.loop-m.m-index c.m-item.result c.loop-m.counts _ c.loop-m-test.true c.m-item.is c.loop-m.invariant.0
            w.in-Some.after _ (sym c.after_quiet_move.ensures ∙ w.in-Some.is) (w.in_ok-count.ensures.is ∙ ap (λ (h : Holding). move_counts c.args.outcome (reach_beyond c.args.beyond h.tables) w.in-Some.after) c.loop-m.invariant.2) (w.counts-is ∙ w.with-counts.ensures),
        within-count _ c.loop-m.counts _ w.in_ok-count.count c.loop-m.invariant.1 w.in_ok-count.ensures.within (w.counts-is ∙ w.with-counts.ensures),
        w.self-is ∙ w.in_ok-count.ensures.unchanged ∙ c.loop-m.invariant.2,
      )
      | by_quiet_moves-in_default w ↦ (
        walk-passed with_count start (move_counts c.args.outcome reach) (is_quiet p) p xs c.loop-m.m-index c.m-item.result c.loop-m.counts _ c.loop-m-test.true c.m-item.is c.loop-m.invariant.0
            (sym c.after_quiet_move.ensures ∙ w.in_default.is) w.counts-is,
        rw w.counts-is c.loop-m.invariant.1,
        w.self-is ∙ c.loop-m.invariant.2,
      )
    ]

pub by_quiet_moves-returns-clause-is : goal.by_quiet_moves-returns-clause-is
by_quiet_moves-returns-clause-is t c =
    let reach = reach_beyond c.args.beyond c.args.self.now.tables in
    let all = c.loop-m.invariant.0 ∙ ap (with_all with_count (no_counts c.args.outcome) (move_counts c.args.outcome reach) (is_quiet c.args.position.now) c.args.position.now) (take_all _ _ c.loop-m-test.false) in
    counts_result-is c.args.material c.args.outcome reach c.args.position.now c.loop-m.counts _ c.result.result (c.deref-m-items.ensures.value ∙ c.in_ok-moves.ensures.computed) all c.result.ensures

pub by_own_table-returns-in_default-clause-is : goal.by_own_table-returns-in_default-clause-is
by_own_table-returns-in_default-clause-is t c = bare_own c.args.self.now.tables _ c.args.probe.now c.args.outcome (rw c.in_default.is at c.placed.ensures)

pub by_own_table-returns-in_default-part-clause-is : goal.by_own_table-returns-in_default-part-clause-is
by_own_table-returns-in_default-part-clause-is t c =
    let there = ap (λ (h : Holding). table_at h.tables Dtz c.material-material.result) (sym c.self.view_is) ∙ ap (table_at c.self.inside.table_slots.tables Dtz) c.material-material.ensures in
    let same = sym c.material-material.ensures in
    let at = rw c.in-Some.is at c.placed.ensures in
    let found = at.found ∙ ap (λ (key : ℕ). Some key) same in
    missing_own c.args.self.now.tables _ c.args.probe.now c.args.outcome c.material-material.result found (there ∙ c.in_default-part.ensures.none)

pub by_own_table-returns-then-stores-clause-is : goal.by_own_table-returns-then-stores-clause-is
by_own_table-returns-then-stores-clause-is t c =
    let there = ap (λ (h : Holding). table_at h.tables Dtz c.material-material.result) (sym c.self.view_is) ∙ ap (table_at c.self.inside.table_slots.tables Dtz) c.material-material.ensures in
    let same = sym c.material-material.ensures in
    let at = rw c.in-Some.is at c.placed.ensures in
    let found = at.found ∙ ap (λ (key : ℕ). Some key) same in
    let placed = at.is ∙ ap (λ (key : ℕ). placed_of key c.args.probe.now) same in
    stored_own c.args.self.now.tables _ c.args.probe.now c.args.outcome c.material-material.result found
    c.in-Some-part.part.table c.in-Some.placed c.stores.result (there ∙ c.in-Some-part.ensures.found.on) placed (c.stores.ensures ∙ ap stores c.in-Some-part.ensures.found.is)
    c.distance-number.result c.stored.result c.if-stores.true c.distance-number.ensures.is c.stored.ensures.is

pub by_own_table-returns-clause-is : goal.by_own_table-returns-clause-is
by_own_table-returns-clause-is t c =
    let reach = reach_beyond c.args.beyond c.args.self.now.tables in
    let there = ap (λ (h : Holding). table_at h.tables Dtz c.material-material.result) (sym c.self.view_is) ∙ ap (table_at c.self.inside.table_slots.tables Dtz) c.material-material.ensures in
    let same = sym c.material-material.ensures in
    let at = rw c.in-Some.is at c.placed.ensures in
    let found = at.found ∙ ap (λ (key : ℕ). Some key) same in
    let placed = at.is ∙ ap (λ (key : ℕ). placed_of key c.args.probe.now) same in
    let e = quiet_own c.args.self.now.tables reach c.args.probe.now c.args.outcome c.material-material.result found
    c.in-Some-part.part.table c.in-Some.placed c.stores.result (there ∙ c.in-Some-part.ensures.found.on) placed (c.stores.ensures ∙ ap stores c.in-Some-part.ensures.found.is) c.if-stores.false in
    if_same c.by_quiet_moves.result _ _ (ap (by_quiet_moves c.material-material.result c.args.outcome reach) c.position.ensures.is ∙ e) c.by_quiet_moves.ensures.is

pub by_moves-returns-then-reached-clause-is : goal.by_moves-returns-then-reached-clause-is
by_moves-returns-then-reached-clause-is t c =
    let reach = reach_beyond c.args.beyond c.args.self.now.tables in
    let own = by_own_table c.args.self.now.tables reach c.args.probe.now c.args.outcome in
    let reached = c.in_ok-found.ensures.is ∙ ap (λ (p : Parts). pawns_reach c.args.self.now.tables p c.args.value) c.position.ensures.is in
    reached_by c.args.outcome own c.in-Ok.reached c.zeroing.result c.towards.result c.if-reached.true c.zeroing.ensures.is c.towards.ensures.is
    ∙ ap (λ found. unless_reached found c.args.outcome own) (sym c.in-Ok.is)
    ∙ reached_is c.args.self.now.tables reach c.args.probe.now c.args.outcome c.args.value c.in_ok-found.found (sym c.is_won.ensures ∙ c.if-is_won.true) reached

pub by_moves-returns-in-Err-clause-is : goal.by_moves-returns-in-Err-clause-is
by_moves-returns-in-Err-clause-is t c =
    let reach = reach_beyond c.args.beyond c.args.self.now.tables in
    let own = by_own_table c.args.self.now.tables reach c.args.probe.now c.args.outcome in
    let reached = c.in_ok-found.ensures.is ∙ ap (λ (p : Parts). pawns_reach c.args.self.now.tables p c.args.value) c.position.ensures.is in
    ap (λ found. unless_reached found c.args.outcome own) (sym c.in-Err.is) ∙ reached_is c.args.self.now.tables reach c.args.probe.now c.args.outcome c.args.value c.in_ok-found.found (sym c.is_won.ensures ∙ c.if-is_won.true) reached

pub by_moves-returns-clause-is : goal.by_moves-returns-clause-is
by_moves-returns-clause-is t c =
    let reach = reach_beyond c.args.beyond c.args.self.now.tables in
    let own = by_own_table c.args.self.now.tables reach c.args.probe.now c.args.outcome in
    elim c.if-is_won.branch [
      | by_moves-then-is_won+in_ok-found+in-Ok+else-reached w ↦
          if_same c.by_own_table.result _ _
          (ap (λ (h : Holding). by_own_table h.tables (reach_beyond c.args.beyond h.tables) c.args.probe.now c.args.outcome) (w.self-is ∙ w.pawns_reach.ensures.unchanged)
          ∙ ap (λ b. unless_reached (Ok b) c.args.outcome own) (sym w.if-reached.false)
          ∙ ap (λ found. unless_reached found c.args.outcome own) (sym w.in-Ok.is)
          ∙ reached_is c.args.self.now.tables reach c.args.probe.now c.args.outcome c.args.value w.in_ok-found.found (sym c.is_won.ensures ∙ w.if-is_won.true)
          (w.in_ok-found.ensures.is ∙ ap (λ (p : Parts). pawns_reach c.args.self.now.tables p c.args.value) w.position.ensures.is))
          c.by_own_table.ensures.is
      | by_moves-else-is_won w ↦
          if_same c.by_own_table.result _ _
          (ap (λ (h : Holding). by_own_table h.tables (reach_beyond c.args.beyond h.tables) c.args.probe.now c.args.outcome) w.self-is
          ∙ lost_is c.args.self.now.tables reach c.args.probe.now c.args.outcome c.args.value (sym c.is_won.ensures ∙ w.if-is_won.false))
          c.by_own_table.ensures.is
    ]

pub dtz_from-returns-then-is_bare-clause-is : goal.dtz_from-returns-then-is_bare-clause-is
dtz_from-returns-then-is_bare-clause-is t c = bare_by c.args.self.now.tables (reach_beyond c.args.beyond c.args.self.now.tables) c.args.position.now (c.is_bare.ensures.bare c.if-is_bare.true)

pub dtz_from-returns-clause-is : goal.dtz_from-returns-clause-is
dtz_from-returns-clause-is t c =
    let tables = c.args.self.now.tables in
    let is = c.capture_search-searched.ensures.is ∙ ap (searched_by tables (wdl_of tables)) c.of-probe.ensures in
    if_same c.dtz_from_search.result _ _
    (ap (λ (h : Holding). dtz_from_search h.tables (reach_beyond c.args.beyond h.tables) c.of-probe.result c.capture_search-searched.result) c.capture_search-searched.ensures.unchanged
    ∙ ap (λ (p : Parts). dtz_from_search tables (reach_beyond c.args.beyond tables) p c.capture_search-searched.result) c.of-probe.ensures
    ∙ many_by_rules tables (reach_beyond c.args.beyond tables) c.args.position.now c.capture_search-searched.result (c.is_bare.ensures.more c.if-is_bare.false) is)
    c.dtz_from_search.ensures.is

pub dtz_from-returns-clause-memory : goal.dtz_from-returns-clause-memory
dtz_from-returns-clause-memory t c =
    let tables = c.args.self.now.tables in
    let is = c.capture_search-searched.ensures.is ∙ ap (searched_by tables (wdl_of tables)) c.of-probe.ensures in
    on_err_weaker c.dtz_from_search.result (λ left. (c.is_bare.ensures.more c.if-is_bare.false, subst IsLeftOpen is left)) c.dtz_from_search.ensures.memory

pub told_after-returns-clause-is : goal.told_after-returns-clause-is
told_after-returns-clause-is t c =
    let tables = c.args.self.now.tables in
    if_told c.or_agreed_distance.result tables c.args.after.now c.in_ok-own.own c.in_ok-own.ensures.is
    (if_same c.or_agreed_distance.result _ _ (ap (λ (h : Holding). or_agreed_distance c.in_ok-own.own (distance_in_both h.tables c.args.after.now)) c.dtz_from.ensures.unchanged) c.or_agreed_distance.ensures.is)

pub dtz_after-returns-in-Unvisited-clause-is : goal.dtz_after-returns-in-Unvisited-clause-is
dtz_after-returns-in-Unvisited-clause-is t c = rw c.in-Unvisited.is (never c.args.self.now.tables c.args.after.now)

pub dtz_after-returns-in-Visited-clause-is : goal.dtz_after-returns-in-Visited-clause-is
dtz_after-returns-in-Visited-clause-is t c = rw c.in-Visited.is (if_same c.dtz_from.result _ _ (once c.args.self.now.tables c.args.after.now) c.dtz_from.ensures.is)

pub dtz_after-returns-in-Told-clause-is : goal.dtz_after-returns-in-Told-clause-is
dtz_after-returns-in-Told-clause-is t c = rw c.in-Told.is c.told_after.ensures.is
