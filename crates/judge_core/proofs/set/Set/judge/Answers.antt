use Rattle.std.proofs.Common.{rules, ◌≡◌, ◌∙◌, sym, subst, refl, ap, Ok, Some, inl, inr}
use Rattle.board_core.specs.declared.parts.Parts.{Parts}
use Rattle.board_core.specs.Side.{other}
use Rattle.judge_core.specs.declared.wdl.Wdl.TheVariants.{Draw, Win, Loss}
use Rattle.board_core.specs.declared.verdict.Verdict.TheVariants.{TableDraw}
use Rattle.judge_core.specs.Tables.{Holding}
use Rattle.judge_core.specs.Answers.{IsDecisive, IsLeftOpen}
use Rattle.judge_core.specs.Probing.{searched_by, wdl_of}
use Rattle.judge_core.specs.Distances.{dtz_from_search, dtz_to, dtz_of}
use Rattle.judge_core.proofs.Rule.{bare, searched, always_err}
use Rattle.judge_core.proofs.Plies.{ruled_by, by_win, by_loss, reached}
use Rattle.judge_core.proofs.set.Set.judge.Goals.{in-Ok-Win, in-Ok-Loss}
use Rattle.judge_core.proofs.set.Set.judge.Goals as goal

pub returns-then-is_bare-clause-value : goal.returns-then-is_bare-clause-value
returns-then-is_bare-clause-value c =
    ruled_by c.args.self.now.tables c.args.position.now (Ok Draw) (Some TableDraw)
    (sym c.has_no_move.ensures ∙ c.if-has_no_move.false) (sym c.is_out_of_scope.ensures.is ∙ c.if-is_out_of_scope.false)
    (bare _ _ c.is_out_of_scope.ensures.position (c.is_bare.ensures.bare c.if-is_bare.true)) refl

pub returns-in_default-clause-value : goal.returns-in_default-clause-value
returns-in_default-clause-value c =
    let tables = c.args.self.now.tables in
    let is = c.capture_search-searched.ensures.is ∙ ap (searched_by tables (wdl_of tables)) c.of-probe.ensures in
    ruled_by tables c.args.position.now c.worth_in-reading.result c.by_value.result
    (sym c.has_no_move.ensures ∙ c.if-has_no_move.false) (sym c.is_out_of_scope.ensures.is ∙ c.if-is_out_of_scope.false)
    (c.worth_in-reading.ensures ∙ searched tables c.args.position.now c.capture_search-searched.result c.is_out_of_scope.ensures.position (c.is_bare.ensures.more c.if-is_bare.false) is)
    (c.by_value.ensures c.args.position.now (dtz_of tables c.args.position.now))

pub returns-clause-value : goal.returns-clause-value
returns-clause-value c =
    let tables = c.args.self.now.tables in
    let many = c.is_bare.ensures.more c.if-is_bare.false in
    let is = c.capture_search-searched.ensures.is ∙ ap (searched_by tables (wdl_of tables)) c.of-probe.ensures in
    let scope = sym c.is_out_of_scope.ensures.is ∙ c.if-is_out_of_scope.false in
    let moves = sym c.has_no_move.ensures ∙ c.if-has_no_move.false in
    let value = c.worth_in-reading.ensures ∙ searched tables c.args.position.now c.capture_search-searched.result c.is_out_of_scope.ensures.position many is in
    let reach =
    c.in_ok-reach.ensures.is
    ∙ ap (λ (h : Holding). dtz_from_search h.tables (dtz_to h.tables 1) c.of-probe.result c.capture_search-searched.result) c.capture_search-searched.ensures.unchanged
    ∙ ap (λ (p : Parts). dtz_from_search tables (dtz_to tables 1) p c.capture_search-searched.result) c.of-probe.ensures
    ∙ reached tables c.args.position.now c.capture_search-searched.result many is in
    elim c.match-reading-2.branch [
      | in-Ok-Win w ↦ (
          let won : c.worth_in-reading.result ≡ Ok Win = search rules in
          by_win tables c.args.position.now c.worth_in-reading.result c.match-reading-2.winner c.in_ok-reach.reach c.by_distance.result moves scope value won (w.winner-is ∙ w.side-winner.ensures) reach c.by_distance.ensures)
      | in-Ok-Loss w ↦ (
          let lost : c.worth_in-reading.result ≡ Ok Loss = search rules in
          by_loss tables c.args.position.now c.worth_in-reading.result c.match-reading-2.winner c.in_ok-reach.reach c.by_distance.result moves scope value lost (w.winner-is ∙ w.other-winner.ensures ∙ ap other w.side.ensures) reach c.by_distance.ensures)
    ]

pub returns-in_err-reach-clause-memory : goal.returns-in_err-reach-clause-memory
returns-in_err-reach-clause-memory c =
    let tables = c.args.self.now.tables in
    let many = c.is_bare.ensures.more c.if-is_bare.false in
    let is = c.capture_search-searched.ensures.is ∙ ap (searched_by tables (wdl_of tables)) c.of-probe.ensures in
    let value = c.worth_in-reading.ensures ∙ searched tables c.args.position.now c.capture_search-searched.result c.is_out_of_scope.ensures.position many is in
    let decisive : IsDecisive (wdl_of c.args.self.now.tables c.args.position.now) = elim c.match-reading-2.branch [
      | in-Ok-Win w ↦ (let won : c.worth_in-reading.result ≡ Ok Win = search rules in inl (sym value ∙ won))
      | in-Ok-Loss w ↦ (let lost : c.worth_in-reading.result ≡ Ok Loss = search rules in inr (sym value ∙ lost))
    ] in
    always_err c.from_residual.result
    (sym c.has_no_move.ensures ∙ c.if-has_no_move.false, sym c.is_out_of_scope.ensures.is ∙ c.if-is_out_of_scope.false, decisive, (many, subst IsLeftOpen is c.in_err-reach.ensures.memory))
