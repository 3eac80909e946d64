-- Kept blocks stay right.
use Rattle.std.proofs.Common.{◌≡◌, ℕ, true, List, Some, Result, Ok, Err, sym, ap, subst, ◌∙◌, inl, inr, arith}
use Rattle.std.proofs.lemmas.Grind.{common_steps}
use Rattle.std.specs.Prelude.{OnOk, OnErr, Contains, option_map}
use Rattle.std.specs.Map.{lookup}
use Rattle.lru.specs.LruCache.{LruCache, lru_cache, put_entries}
use Rattle.lru.proofs.CallerLemmas.{Contains-lookup, Contains-put_entries}
use Rattle.table_file.specs.Tables.{PartAt}
use Rattle.table_file.specs.Expansion.{part_block_values}
use Rattle.judge_core.specs.declared.blocks.BlockKey.{BlockKey}
use Rattle.judge_core.specs.contracts.blocks.BlockKeyPartialEq.TheImpl as same_keys
use Rattle.judge_core.specs.Tables.{Tables}
use Rattle.judge_core.specs.Blocks.{AreBlockValues, keyed_part}

-- the keys' own test tells them apart
pub same_key : (a b : BlockKey) → (same_keys.eq-value).it a b ≡ true → a ≡ b
same_key a b e = grind (arith, common_steps, e)

-- all of these are right
abbrev pub AllRight : {V : Type 0} → Tables → List (BlockKey × V) → (V → List ℕ) → Type 0
AllRight tables entries items = (kept : _) → Contains entries kept → AreBlockValues tables kept.0 (items kept.1)

module _ {V : Type 0} (items : V → List ℕ) (tables : Tables) where
  pub right_found : (entries : List (BlockKey × V)) (key : BlockKey) (v : V) → AllRight tables entries items → Some v ≡ lookup ((same_keys.eq-value).it key) entries → AreBlockValues tables key (items v)
  right_found entries key v all e =
      let f = Contains-lookup ((same_keys.eq-value).it key) entries v (sym e) in
      subst (λ (k : BlockKey). AreBlockValues tables k (items v)) (sym (same_key key f.0 f.2)) (all (f.0, v) f.1)

  right_put : (c : LruCache BlockKey V) (key : BlockKey) (v : V) → AreBlockValues tables key (items v) → AllRight tables c.entries items → AllRight tables (put_entries (same_keys.eq-value).it c key v) items
  right_put c key v right all kept d = elim (Contains-put_entries (same_keys.eq-value).it c key v kept d) [
    | inl old ↦ all kept old
    | inr put ↦ rw (put.0) (elim put.1 [
      | inl same ↦ rw same right
      | inr was ↦ rw (← same_key key kept.0 was.2) right
    ])
  ]

  pub right_kept : {A E : Type 0} (r : Result A E) (old new : LruCache BlockKey V) (key : BlockKey) (v : V) → AreBlockValues tables key (items v) → AllRight tables old.entries items → OnOk r (new ≡ lru_cache (put_entries (same_keys.eq-value).it old key v) old.cap) → OnErr r (new ≡ old) → AllRight tables new.entries items
  right_kept (Ok a) old new key v right all ok err = rw ok (right_put old key v right all)
  right_kept (Err e) old new key v right all ok err = rw err all

  pub cap_kept : {A E : Type 0} (r : Result A E) (old new : LruCache BlockKey V) (key : BlockKey) (v : V) → OnOk r (new ≡ lru_cache (put_entries (same_keys.eq-value).it old key v) old.cap) → OnErr r (new ≡ old) → new.cap ≡ old.cap
  cap_kept (Ok a) old new key v ok err = ap (λ (c : LruCache BlockKey V). c.cap) ok
  cap_kept (Err e) old new key v ok err = ap (λ (c : LruCache BlockKey V). c.cap) err

-- the values of a key's block, if these are they
pub right_values : (tables : Tables) (key : BlockKey) (part : PartAt) (values : List ℕ) → keyed_part tables key ≡ Some part → AreBlockValues tables key values → values ≡ part_block_values part key.block
right_values tables key part values at right =
    let e : Some (part_block_values part key.block) ≡ Some values = sym (ap (option_map (λ (x : PartAt). part_block_values x key.block)) at) ∙ right in
    cc
