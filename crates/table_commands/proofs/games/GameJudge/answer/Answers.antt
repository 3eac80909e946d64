use Rattle.std.proofs.Common.{refl, subst}
use Rattle.std.specs.Prelude.{Result, Ok, Err, OnErr}
use Rattle.fen_text.specs.Fen.{IsFirstFenFault, SpellsPosition}
use Rattle.table_commands.specs.Games.{NoStart}
use Rattle.table_commands.proofs.games.GameJudge.answer.Goals as goal

on_error : {A E P : Type 0} (r : Result A E) → P → OnErr r P
on_error (Ok a) p = tt
on_error (Err e) p = p

pub returns-in-Err-clause-told : goal.returns-in-Err-clause-told
returns-in-Err-clause-told c = NoStart c.in-Err.fault (subst (λ t. IsFirstFenFault t c.in-Err.fault) c.start_in.ensures c.in-Err.ensures.err) refl

pub returns-in-Ok-clause-memory : goal.returns-in-Ok-clause-memory
returns-in-Ok-clause-memory c = on_error c.answer_from.result (c.in-Ok.start, subst (λ t. SpellsPosition t c.in-Ok.start) c.start_in.ensures c.in-Ok.ensures.ok, c.in-Ok.ensures.position)
