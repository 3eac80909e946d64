use Rattle.std.proofs.Common.{◌∙◌, sym, ap, refl}
use Rattle.judge_core.specs.Known.{known_of, known_answer}
use Rattle.judge_core.specs.Probing.{worth_in}
use Rattle.judge_core.specs.Tables.{table_value}
use Rattle.judge_core.proofs.KnownValue.{known_answered, known_bare, known_unwon, known_won}
use Rattle.judge_core.proofs.Readings.{with_own}
use Rattle.judge_core.proofs.set.Set.known_with.Goals as goal

pub returns-then-is_bare-clause-is : goal.returns-then-is_bare-clause-is
returns-then-is_bare-clause-is c =
    let p = c.position-position.ensures.is in
    rw p at
    (known_answered c.args.self.now.tables c.position-position.result.now c.is_out_of_scope.result _ _ c.is_out_of_scope.ensures.is c.if-is_out_of_scope.false (known_bare _ _ c.is_bare.ensures.position (c.is_bare.ensures.bare c.if-is_bare.true)) refl)

pub returns-in-None-clause-is : goal.returns-in-None-clause-is
returns-in-None-clause-is c =
    let p = c.position-position.ensures.is in
    rw p at
    (known_answered c.args.self.now.tables c.position-position.result.now c.is_out_of_scope.result _ _ c.is_out_of_scope.ensures.is c.if-is_out_of_scope.false
    (known_won _ _ c.is_bare.ensures.position (c.is_bare.ensures.more c.if-is_bare.false) (sym c.in-None.is ∙ c.found_or_won.ensures.is)) refl)

pub returns-in-Some-clause-is : goal.returns-in-Some-clause-is
returns-in-Some-clause-is c =
    let p = c.position-position.ensures.is in
    let tables = c.args.self.now.tables in
    let q = c.position-position.result.now in
    let there = known_unwon tables q c.in-Some.found c.is_bare.ensures.position (c.is_bare.ensures.more c.if-is_bare.false) (sym c.in-Some.is ∙ c.found_or_won.ensures.is) in
    let own = c.requires.own ∙ ap (table_value tables) (sym p) in
    let reading = c.worth_in.ensures ∙ ap worth_in (with_own tables (known_of tables) q _ _ _ _ there.0 own c.is_forced.ensures c.close.ensures) ∙ there.1 in
    known_answered tables q c.is_out_of_scope.result _ _ c.is_out_of_scope.ensures.is c.if-is_out_of_scope.false reading c.told.ensures ∙ ap (known_answer tables) p
