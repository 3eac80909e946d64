use Rattle.std.proofs.Common.{◌≡◌, ◌⊎◌, inl, sym, refl, arith, subst, List, ℕ}
use Rattle.sqlite.specs.Held.{state}
use Rattle.sqlite.specs.State.{HasCleanDisk, Survives}
use Rattle.sqlite.specs.Tree.{Trees}
use Rattle.system_io.specs.Records.{with_all}
use Rattle.game_store.specs.Rows.{games_in}
use Rattle.game_store.specs.Slots.{number_at}
use Rattle.game_store.specs.Shelves.{HoldsGames, IsOpen, Mirrors, Shelf, committed, database}
use Rattle.game_store.proofs.StoreLemmas.{leaves_own, mirrors_batch, mirrors_more, put_crash, put_done, put_stops}
use Rattle.game_store.proofs.store.Store.put_batch.Goals as goal

pub invariant_of-self : goal.invariant_of-self
invariant_of-self g c = record {
  outside = c.self.invariant.outside;
  mirrors = λ clean is_open. mirrors_more c.self.inside.memory c.add_all.new.self (state g.S.Store c.self.inside.conn).committed c.add_all.ensures.numbers c.add_all.ensures.same
      (c.self.invariant.mirrors clean is_open);
}

pub returns-in-Err-clause-lasts : goal.returns-in-Err-clause-lasts
returns-in-Err-clause-lasts g c clean is_open =
    let s = state g.S.Store c.self.inside.conn in
    let law : (db : Trees) → s.may_leave db → db ≡ s.committed.trees = λ d. g.met.S.Store.settled c.self.inside.conn.store d is_open in
    leaves_own (number_at c.self.inside.memory) s law (c.self.invariant.mirrors clean is_open).has

pub returns-in-Err-clause-stops : goal.returns-in-Err-clause-stops
returns-in-Err-clause-stops g c clean =
    let s = state g.S.Store c.self.inside.conn in
    subst (λ (v : Shelf _). IsOpen g.S.Store v → (db : Trees) → s.may_leave db → HoldsGames db (committed g.S.Store v) ⊎ HoldsGames db (with_all (committed g.S.Store v) c.args.entries.items)) c.self.view_is
    (λ is_open db may.
    let law : (db : Trees) → s.may_leave db → db ≡ s.committed.trees = λ d. g.met.S.Store.settled c.self.inside.conn.store d is_open in
    inl (leaves_own (number_at c.self.inside.memory) s law (c.self.invariant.mirrors clean is_open).has db may))

pub invariant_of-self-in-Ok-put : goal.invariant_of-self-in-Ok-put
invariant_of-self-in-Ok-put g c =
    let old = state g.S.Store c.self.inside.conn in
    record {
      outside = c.put.ensures.outside;
      mirrors = λ clean is_open.
          let early : HasCleanDisk old = omega (arith, c.put.ensures.crash.clean) in
          let was_open = c.put.ensures.was_open clean is_open in
          let m = c.self.invariant.mirrors early was_open in
          mirrors_batch c.self.inside.memory c.add_all.new.self c.keep_all.new.self c.args.entries.items old.committed (state g.S.Store c.put.new.conn).committed m c.add_all.ensures.same
          c.keep_all.ensures.numbers c.keep_all.ensures.kept
          (put_done old c.self.inside.memory c.add_all.new.self c.args.entries.items c.deref-2.result.now c.deref-2.ensures.value c.add_all.ensures.numbers (state g.S.Store c.put.new.conn).committed m
          (c.if-prove.ensures.settled refl was_open) (c.in-Ok-put.ensures.all clean));
    }

pub invariant_of-self-in-Err-put : goal.invariant_of-self-in-Err-put
invariant_of-self-in-Err-put g c =
    let old = state g.S.Store c.self.inside.conn in
    record {
      outside = c.put.ensures.outside;
      mirrors = λ clean is_open.
          let early : HasCleanDisk old = omega (arith, c.put.ensures.crash.clean) in
          let m = c.self.invariant.mirrors early (c.put.ensures.was_open clean is_open) in
          subst (Mirrors c.add_all.new.self) (sym (c.in-Err-put.ensures.none clean is_open)) (mirrors_more c.self.inside.memory c.add_all.new.self old.committed c.add_all.ensures.numbers c.add_all.ensures.same m);
    }

pub returns-in-Ok-put-clause-all : goal.returns-in-Ok-put-clause-all
returns-in-Ok-put-clause-all g c clean =
    let old = state g.S.Store c.self.inside.conn in
    let new = state g.S.Store c.put.new.conn in
    let early : HasCleanDisk old = omega (arith, c.put.ensures.crash.clean) in
    let was_open = c.put.ensures.was_open clean (c.in-Ok-put.ensures.open clean) in
    subst (λ (v : Shelf _). (stamp : List ℕ) → games_in (new.committed.trees 0) stamp ≡ with_all (committed g.S.Store v) c.args.entries.items stamp) c.self.view_is
    (put_done old c.self.inside.memory c.add_all.new.self c.args.entries.items c.deref-2.result.now c.deref-2.ensures.value c.add_all.ensures.numbers new.committed
    (c.self.invariant.mirrors early was_open) (c.if-prove.ensures.settled refl was_open) (c.in-Ok-put.ensures.all clean)).games

pub returns-in-Ok-put-clause-crash : goal.returns-in-Ok-put-clause-crash
returns-in-Ok-put-clause-crash g c =
    let old = state g.S.Store c.self.inside.conn in
    let new = state g.S.Store c.put.new.conn in
    subst (λ (v : Shelf _). Survives (database g.S.Store v) new (λ db. IsOpen g.S.Store v → HoldsGames db (with_all (committed g.S.Store v) c.args.entries.items))) c.self.view_is
    (put_crash old c.self.inside.memory c.add_all.new.self c.args.entries.items c.deref-2.result.now c.deref-2.ensures.value c.add_all.ensures.numbers new c.self.invariant.mirrors
    (c.if-prove.ensures.settled refl) c.put.ensures.crash)

pub returns-in-Ok-put-clause-stops : goal.returns-in-Ok-put-clause-stops
returns-in-Ok-put-clause-stops g c clean =
    let old = state g.S.Store c.self.inside.conn in
    let new = state g.S.Store c.put.new.conn in
    subst (λ (v : Shelf _). IsOpen g.S.Store v → (db : Trees) → new.may_leave db → HoldsGames db (committed g.S.Store v) ⊎ HoldsGames db (with_all (committed g.S.Store v) c.args.entries.items)) c.self.view_is
    (λ is_open.
    let law : (db : Trees) → old.may_leave db → db ≡ old.committed.trees = λ d. g.met.S.Store.settled c.self.inside.conn.store d is_open in
    put_stops old c.self.inside.memory c.add_all.new.self c.args.entries.items c.deref-2.result.now c.deref-2.ensures.value c.add_all.ensures.numbers new c.self.invariant.mirrors
    (c.if-prove.ensures.settled refl) c.put.ensures.crash clean is_open law)

pub returns-in-Err-put-clause-crash : goal.returns-in-Err-put-clause-crash
returns-in-Err-put-clause-crash g c =
    let old = state g.S.Store c.self.inside.conn in
    let new = state g.S.Store c.put.new.conn in
    subst (λ (v : Shelf _). Survives (database g.S.Store v) new (λ db. IsOpen g.S.Store v → HoldsGames db (with_all (committed g.S.Store v) c.args.entries.items))) c.self.view_is
    (put_crash old c.self.inside.memory c.add_all.new.self c.args.entries.items c.deref-2.result.now c.deref-2.ensures.value c.add_all.ensures.numbers new c.self.invariant.mirrors
    (c.if-prove.ensures.settled refl) c.put.ensures.crash)

pub returns-in-Err-put-clause-stops : goal.returns-in-Err-put-clause-stops
returns-in-Err-put-clause-stops g c clean =
    let old = state g.S.Store c.self.inside.conn in
    let new = state g.S.Store c.put.new.conn in
    subst (λ (v : Shelf _). IsOpen g.S.Store v → (db : Trees) → new.may_leave db → HoldsGames db (committed g.S.Store v) ⊎ HoldsGames db (with_all (committed g.S.Store v) c.args.entries.items)) c.self.view_is
    (λ is_open.
    let law : (db : Trees) → old.may_leave db → db ≡ old.committed.trees = λ d. g.met.S.Store.settled c.self.inside.conn.store d is_open in
    put_stops old c.self.inside.memory c.add_all.new.self c.args.entries.items c.deref-2.result.now c.deref-2.ensures.value c.add_all.ensures.numbers new c.self.invariant.mirrors
    (c.if-prove.ensures.settled refl) c.put.ensures.crash clean is_open law)

pub returns-in-Ok-put-clause-lasts : goal.returns-in-Ok-put-clause-lasts
returns-in-Ok-put-clause-lasts g c clean is_open =
    leaves_own (number_at c.keep_all.new.self) (state g.S.Store c.put.new.conn) (c.put.ensures.lasts is_open) ((invariant_of-self-in-Ok-put g c).mirrors clean is_open).has

pub returns-in-Err-put-clause-lasts : goal.returns-in-Err-put-clause-lasts
returns-in-Err-put-clause-lasts g c clean is_open =
    leaves_own (number_at c.add_all.new.self) (state g.S.Store c.put.new.conn) (c.put.ensures.lasts is_open) ((invariant_of-self-in-Err-put g c).mirrors clean is_open).has

pub returns-in-Ok-put-clause-has : goal.returns-in-Ok-put-clause-has
returns-in-Ok-put-clause-has g c = λ clean is_open. ((invariant_of-self-in-Ok-put g c).mirrors clean is_open).games
