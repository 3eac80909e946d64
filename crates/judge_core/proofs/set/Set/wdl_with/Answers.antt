use Rattle.std.proofs.Common.{◌∙◌, sym, ap, refl}
use Rattle.judge_core.specs.Answers.{wdl_answer}
use Rattle.judge_core.specs.Probing.{wdl_of, searched_by}
use Rattle.judge_core.proofs.Looking.{answered}
use Rattle.judge_core.proofs.Rule.{bare, searched}
use Rattle.judge_core.proofs.set.Set.wdl_with.Goals as goal

pub returns-then-is_bare-clause-is : goal.returns-then-is_bare-clause-is
returns-then-is_bare-clause-is c =
    let p = c.position-position.ensures.is in
    rw p at
    (answered c.args.self.now.tables c.position-position.result.now c.is_out_of_scope.result _ _ c.is_out_of_scope.ensures.is c.if-is_out_of_scope.false (bare _ _ c.is_bare.ensures.position (c.is_bare.ensures.bare c.if-is_bare.true)) refl)

pub returns-clause-is : goal.returns-clause-is
returns-clause-is c =
    let p = c.position-position.ensures.is in
    let reading =
    c.worth_in.ensures
    ∙ searched c.args.self.now.tables c.position-position.result.now c.capture_search_by-searched.result c.is_bare.ensures.position (c.is_bare.ensures.more c.if-is_bare.false) (c.capture_search_by-searched.ensures.is ∙ ap (searched_by c.args.self.now.tables (wdl_of c.args.self.now.tables)) (sym p)) in
    answered c.args.self.now.tables c.position-position.result.now c.is_out_of_scope.result _ _ c.is_out_of_scope.ensures.is c.if-is_out_of_scope.false reading c.told.ensures ∙ ap (wdl_answer c.args.self.now.tables) p
