use Rattle.std.proofs.Common.{◌≡◌, OnOk, Ok, Err, Result, sym, subst, arith, rules}
use Rattle.sqlite.specs.Tree.{Trees}
use Rattle.sqlite.specs.Effect.{Database}
use Rattle.sqlite.specs.State.{HasCleanDisk, Survives}
use Rattle.sqlite.specs.Held.{state}
use Rattle.sqlite.proofs.StateLemmas.{survives_then}
use Rattle.sqlite.proofs.Callers.{survives_begin}
use Rattle.game_store.specs.Slots.{number_at}
use Rattle.game_store.specs.Batches.{Becomes, HasRows}
use Rattle.game_store.proofs.writing.put.Goals as goal

onward : {A E P Q : Type 0} (r : Result A E) → (P → Q) → OnOk r P → OnOk r Q
onward (Ok a) f h = f h
onward (Err e) f h = tt

pub returns-clause-all : goal.returns-clause-all
returns-clause-all g c clean has =
    let numbers = number_at c.args.memory.now in
    let entries = c.args.entries.now in
    let old = c.args.conn.now in
    let mid = c.put_each.new.tx.conn.now in
    let begun = c.transaction-tx.ensures.begun in
    let end = c.commit.new.self.0 in
    let same : end ≡ c.conn-2-1.given.0 = search rules in
    let late : HasCleanDisk (state g.S.Store end) = search rules in
    let early : HasCleanDisk (state g.S.Store mid) = omega (arith, c.commit.ensures.survives.clean) in
    let ran = c.in_ok-put_each.ensures.becomes early (rw begun) (subst (λ h. HasRows numbers (state g.S.Store h).now) (sym begun) has) in
    let all : Becomes numbers entries (state g.S.Store old).now (state g.S.Store mid).now = subst (λ h. Becomes numbers entries (state g.S.Store h).now (state g.S.Store mid).now) begun ran in
    subst (λ h. OnOk c.commit.result (Becomes numbers entries (state g.S.Store old).now (state g.S.Store h).committed)) same
    (onward c.commit.result (λ done. subst (Becomes numbers entries (state g.S.Store old).now) (sym done.1.committed_is) all) (c.commit.ensures.ok late))

pub returns-clause-crash : goal.returns-clause-crash
returns-clause-crash g c =
    let numbers = number_at c.args.memory.now in
    let entries = c.args.entries.now in
    let old = c.args.conn.now in
    let mid = c.put_each.new.tx.conn.now in
    let begun = c.transaction-tx.ensures.begun in
    let end = c.commit.new.self.0 in
    let same : end ≡ c.conn-2-1.given.0 = search rules in
    let P = λ (trees : Trees). HasRows numbers (state g.S.Store old).now → (db : Database) × Becomes numbers entries (state g.S.Store old).now db × (trees ≡ db.trees) in
    let made = λ (early : HasCleanDisk (state g.S.Store mid)) (has : HasRows numbers (state g.S.Store old).now).
    let ran = c.in_ok-put_each.ensures.becomes early (rw begun) (subst (λ h. HasRows numbers (state g.S.Store h).now) (sym begun) has) in
    let all : Becomes numbers entries (state g.S.Store old).now (state g.S.Store mid).now = subst (λ h. Becomes numbers entries (state g.S.Store h).now (state g.S.Store mid).now) begun ran in all in
    let inside = survives_begin g.S.Store old (state g.S.Store mid) _ (subst (λ h. Survives (state g.S.Store h) (state g.S.Store mid) (λ _. ⊥)) begun c.put_each.ensures.survives) in
    let whole = survives_then (state g.S.Store old) (state g.S.Store mid) (state g.S.Store end) _ _ P (λ _ db none. absurd none)
    (λ clean db is has. (_, made (omega (arith, c.commit.ensures.survives.clean)) has, is)) inside c.commit.ensures.survives in
    subst (λ h. Survives (state g.S.Store old) (state g.S.Store h) P) same whole
