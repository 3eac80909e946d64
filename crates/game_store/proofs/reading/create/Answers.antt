use Rattle.std.proofs.Common.{◌≡◌, subst}
use Rattle.sqlite.specs.Held.{state}
use Rattle.sqlite.specs.State.{State, Survives, CommitsBy}
use Rattle.sqlite.proofs.StateLemmas.{survives_weaker}
use Rattle.sqlite_catalog.specs.Listing.{IsSound}
use Rattle.game_store.specs.Rows.{create_text, game_schema, no_schema}
use Rattle.std.proofs.Common.{[]}
use Rattle.game_store.proofs.ReadLemmas.{creates, creates_nothing}
use Rattle.game_store.proofs.reading.create.Goals as goal

leaves : (old new : State) → Survives old new (CommitsBy create_text [] old) → old.now.schema ≡ no_schema → Survives old new (λ db. IsSound game_schema db × (db 0 ≡ []))
leaves old new survives has = survives_weaker old new _ _ (λ clean db h. creates_nothing old db has h) survives

pub returns-in-Err-clause-survives : goal.returns-in-Err-clause-survives
returns-in-Err-clause-survives g c = leaves (state g.S.Store c.args.conn.now) (state g.S.Store c.run_create.new.conn) c.run_create.ensures.survives

pub returns-in-Ok-clause-survives : goal.returns-in-Ok-clause-survives
returns-in-Ok-clause-survives g c = leaves (state g.S.Store c.args.conn.now) (state g.S.Store c.run_create.new.conn) c.run_create.ensures.survives

pub returns-in-Ok-2-clause-survives : goal.returns-in-Ok-2-clause-survives
returns-in-Ok-2-clause-survives g c = leaves (state g.S.Store c.args.conn.now) (state g.S.Store c.run_create.new.conn) c.run_create.ensures.survives

pub returns-in-Ok-clause-made : goal.returns-in-Ok-clause-made
returns-in-Ok-clause-made g c clean has =
    let new = state g.S.Store c.run_create.new.conn in
    let it = creates (state g.S.Store c.args.conn.now) new c.in-Ok.field-0 has (c.in-Ok.ensures.runs clean) in
    record {
      was_open = it.0.shown.was_open;
      is_open = it.0.shown.is_open;
      schema = it.1;
      sound = subst (λ s. IsSound s new.now.trees) it.1 it.0.sound;
      empty = it.2;
      done = λ outside. rw outside at it.0.shown.committed_is;
    }
