use Rattle.std.proofs.Common.{◌≡◌, ◌∙◌, [], ap}
use Rattle.std.specs.Prelude.{Result, Ok, Err, IfErr, IfOk}
use Rattle.std.proofs.lemmas.Result.{IfOk-weaker}
use Rattle.clap.specs.Kinds.{FailsBy, HasKind, Kinds}
use Rattle.clap.specs.Words.{found_of, first_of}
use Rattle.clap.specs.declared.error.Error.{Error}
use Rattle.clap.proofs.WalkLemmas.{both, first_value-rows}
use Rattle.command_line.specs.Rules.{argument_value, words_fault}
use Rattle.command_line.proofs.commands.matches_at.Goals as goal

taken_by : {T : Type 0} (kinds : Kinds) (r : Result T Error) → FailsBy kinds r → IfOk r (λ m. kinds ≡ [])
taken_by kinds (Ok m) h = h
taken_by kinds (Err e) h = tt

refused_by : {T : Type 0} (kinds : Kinds) (r : Result T Error) → FailsBy kinds r → IfErr r (HasKind kinds)
refused_by kinds (Ok m) h = tt
refused_by kinds (Err e) h = h

pub returns-clause-taken : goal.returns-clause-taken
unfolding words_fault
returns-clause-taken c = taken_by _ c.try_get_matches_from.result (c.try_get_matches_from.ensures.kinds c.requires)

pub returns-clause-values : goal.returns-clause-values
unfolding argument_value
returns-clause-values c =
    IfOk-weaker c.try_get_matches_from.result _ _ (λ m h. λ id. first_value-rows (found_of m) id ∙ ap (first_of id) (h (both _ _ c.requires).0).0) c.try_get_matches_from.ensures.matches

pub returns-clause-refused : goal.returns-clause-refused
unfolding words_fault
returns-clause-refused c = refused_by _ c.try_get_matches_from.result (c.try_get_matches_from.ensures.kinds c.requires)
