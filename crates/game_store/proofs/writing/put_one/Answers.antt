use Rattle.std.proofs.Common.{IsTrue, Result, Ok, Err, ℕ, OnOk, ◌≡◌, subst, false}
use Rattle.sqlite.specs.declared.error.Error.{Error}
use Rattle.sqlite.specs.Held.{state}
use Rattle.sqlite.specs.State.{State, ExecutesInside}
use Rattle.sqlite.proofs.InsideLemmas.{inside_keeps}
use Rattle.sqlite_catalog.specs.Listing.{IsSound}
use Rattle.system_io.specs.declared.record_store.Entry.{Entry}
use Rattle.game_store.specs.Rows.{game_schema, put_parameters, put_text}
use Rattle.game_store.specs.Batches.{PutsRow}
use Rattle.game_store.proofs.RowLemmas.{puts}
use Rattle.game_store.proofs.writing.put_one.Goals as goal

pub returns-clause-kept : goal.returns-clause-kept
returns-clause-kept g c clean inside =
    inside_keeps (state g.S.Store c.args.tx.now.conn.now) (state g.S.Store c.run_put.new.tx.conn.now) 0 false _ _ c.run_put.result (c.run_put.ensures.runs clean inside)

put : (old new : State) (number : ℕ) (e : Entry) (r : Result ℕ Error) → old.now.schema ≡ game_schema → ExecutesInside 0 put_text (put_parameters number e) old new r → OnOk r (PutsRow number e old new)
put old new number e (Err fault) has h = tt
put old new number e (Ok n) has h =
    let did = puts old new number e n has h.0 in
    record { schema = did.0; sound = subst (λ s. IsSound s new.now.trees) did.0 did.1; put = did.2 }

pub returns-clause-puts : goal.returns-clause-puts
returns-clause-puts g c clean inside has = put (state g.S.Store c.args.tx.now.conn.now) (state g.S.Store c.run_put.new.tx.conn.now) c.args.number c.args.entry.now c.run_put.result has (c.run_put.ensures.runs clean inside)

on : (old new : State) (number : ℕ) (e : Entry) (r : Result ℕ Error) → ExecutesInside 0 put_text (put_parameters number e) old new r → OnOk r (IsTrue new.in_transaction)
on old new number e (Err fault) h = tt
on old new number e (Ok n) h = h.1.mode

pub returns-clause-goes_on : goal.returns-clause-goes_on
returns-clause-goes_on g c clean inside = on (state g.S.Store c.args.tx.now.conn.now) (state g.S.Store c.run_put.new.tx.conn.now) c.args.number c.args.entry.now c.run_put.result (c.run_put.ensures.runs clean inside)
