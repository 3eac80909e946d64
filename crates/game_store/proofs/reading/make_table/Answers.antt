use Rattle.std.proofs.Common.{◌≡◌, inl, refl, sym, ◌∙◌, subst, IsTrue}
use Rattle.sqlite.specs.Effect.{Database}
use Rattle.sqlite.specs.Held.{state}
use Rattle.sqlite.proofs.StateLemmas.{survives_weaker}
use Rattle.sqlite_catalog.specs.Listing.{IsSound}
use Rattle.game_store.specs.Rows.{game_schema, no_schema}
use Rattle.game_store.proofs.ShelfLemmas.{keeps_none}
use Rattle.game_store.proofs.reading.make_table.Goals as goal

pub returns-in-Games-clause-ready : goal.returns-in-Games-clause-ready
returns-in-Games-clause-ready g c clean is_open =
    let s = state g.S.Store c.args.conn.now in
    let schema : s.now.schema ≡ game_schema = sym c.schema.ensures.value ∙ c.in-Games.ensures.games.0 refl in
    record {
      sound = subst (λ d. IsSound d s.now.trees) schema (c.schema.ensures.live is_open).0;
      done = sym (c.if-not-is_autocommit.ensures.settled refl is_open);
      from = inl refl;
    }

pub returns-in-Nothing-clause-survives : goal.returns-in-Nothing-clause-survives
returns-in-Nothing-clause-survives g c =
    let old = state g.S.Store c.args.conn.now in
    let schema : old.now.schema ≡ no_schema = sym c.schema.ensures.value ∙ c.in-Nothing.ensures.nothing.0 refl in
    let none : IsTrue old.is_open → IsSound no_schema old.committed.trees = λ is_open.
    subst (λ (d : Database). IsSound no_schema d.trees) (c.if-not-is_autocommit.ensures.settled refl is_open) (subst (λ d. IsSound d old.now.trees) schema (c.schema.ensures.live is_open).0) in
    survives_weaker old (state g.S.Store c.create.new.conn) _ _ (λ clean db made is_open. keeps_none old.committed.trees db (none is_open) made.0 made.1) (c.create.ensures.survives schema)
