-- Tables in their slots.
use Rattle.std.proofs.Common.{◌≡◌, ◌∙◌, sym, ap, subst, refl, ℕ, zero, suc, ◌+◌, ◌<◌, ◌≤◌, length, List, [], ◌∷◌, ◌++◌, Option, Some, None, inl, inr, arith, set, get_or, replicate, is_some, IsSome, true, fold, map, max, take}
use Rattle.std.proofs.lemmas.Bool.{cases_eq}
use Rattle.std.proofs.lemmas.List.{get_or_read, get_or-set_same, get_or-set_other, get_or-map, map-set, map-append, length-map, set-set, take_more, take_all}
use Rattle.std.proofs.Math.Seq.{map-set_same}
use Rattle.std.proofs.Math.ListN.{length-set, length-replicate}
use Rattle.table_file.specs.declared.kind.TableKind.{TableKind}
use Rattle.table_file.specs.declared.kind.TableKind.TheVariants.{Wdl, Dtz}
use Rattle.table_file.specs.Tables.{Contents}
use Rattle.judge_core.specs.Tables.{Tables, Holding, AreFiled, slot, men_of_slot, largest_of}
use Rattle.judge_core.specs.declared.table_slots.TableSlots.TheInside.{Inside}
use Rattle.judge_core.specs.Inside.Kept.{IsSoundSet, table_in, tables_in}
use Rattle.judge_core.specs.declared.table_slot.TableSlot.{TableSlot}
use Rattle.judge_core.specs.declared.table_slot.TableSlot.TheVariants.{Empty, Own}

-- what is read from a slot
pub held : (slots : List TableSlot) (k : ℕ) (s : TableSlot) (o : Option Contents) → k < length slots → s ≡ get_or slots k s → table_in s ≡ o → o ≡ get_or (tables_in slots) k None
held slots k s o lt e is = sym is ∙ ap table_in (get_or_read slots k s lt e Empty) ∙ sym (get_or-map table_in slots k Empty None lt)

-- a slot that isn't empty has a table
pub filled : (slots : List TableSlot) (k : ℕ) (s : TableSlot) → k < length slots → s ≡ get_or slots k s → is_some (table_in s) ≡ true → IsSome (get_or (tables_in slots) k None)
filled slots k s lt e some = ap is_some (sym (held slots k s (table_in s) lt e refl)) ∙ some

-- ---- new slots

none_at : (n k : ℕ) → get_or {A = Option Contents} (replicate n None) k None ≡ None
none_at zero k = refl
none_at (suc n) zero = refl
none_at (suc n) (suc k) = none_at n k

pub none_filed : (n : ℕ) → AreFiled (replicate n None)
none_filed n kind key t lt e = absurd (let k = none_at n (slot kind key) in cc)

-- ---- one table more

-- slots are one to one
one_slot : (a b : TableKind) (j k : ℕ) → j < 145 → k < 145 → slot a j ≡ slot b k → (a ≡ b) × (j ≡ k)
one_slot Wdl Wdl j k lj lk e = (refl, e)
one_slot Wdl Dtz j k lj lk e = absurd (omega arith)
one_slot Dtz Wdl j k lj lk e = absurd (omega arith)
one_slot Dtz Dtz j k lj lk e = (refl, omega arith)

pub still_filed : (tables : Tables) (t : Contents) → AreFiled tables → slot t.kind t.material < length tables → t.material < 145 → AreFiled (set tables (slot t.kind t.material) (Some t))
still_filed tables t filed lt below kind key u key_below e = elim (cases_eq (slot kind key) (slot t.kind t.material)) [
  | inl same ↦ (
      let q : Some u ≡ Some t = sym e ∙ ap (λ n. get_or (set tables (slot t.kind t.material) (Some t)) n None) same ∙ get_or-set_same tables (slot t.kind t.material) (Some t) None lt in
      let r : u ≡ t = cc in
      let s = one_slot kind t.kind key t.material key_below below same in
      (ap (λ (x : Contents). x.kind) r ∙ sym s.0, ap (λ (x : Contents). x.material) r ∙ sym s.1))
  | inr other ↦ filed kind key u key_below (sym (get_or-set_other tables (slot t.kind t.material) (slot kind key) (Some t) None other) ∙ e)
]

-- ---- the whole of what slots keep

pub new_kept : (a : Inside) (n : ℕ) → n ≡ 290 → tables_in a.tables.items ≡ replicate n None → 1 ≤ a.cache → a.cache ≤ 4096 → IsSoundSet a
new_kept a n full e some most = record {
  slots = sym (length-map a.tables.items table_in) ∙ ap length e ∙ length-replicate {A = Option Contents} n None ∙ full;
  filed = (let P : Tables → Type 0 = AreFiled in subst P (sym e) (none_filed n));
  some = some;
  most = most;
}

-- b's slots are a's with this table in its slot
pub more_kept : (a b : Inside) (t : Contents) (k : ℕ) → IsSoundSet a → k ≡ slot t.kind t.material → k < 290 → t.material < 145 → b.tables.items ≡ set a.tables.items k (Own t) → b.cache ≡ a.cache → IsSoundSet b
more_kept a b t k kept is lt below e g = record {
  slots = ap length e ∙ length-set a.tables.items k (Own t) ∙ kept.slots;
  filed = (
      let P : Tables → Type 0 = AreFiled in
      let in_range : slot t.kind t.material < length (tables_in a.tables.items) = omega (arith, kept.slots, is, lt, length-map a.tables.items table_in) in
      let tables = ap tables_in e ∙ map-set table_in a.tables.items k (Own t) ∙ ap (λ n. set (tables_in a.tables.items) n (Some t)) is in
      subst P (sym tables) (still_filed (tables_in a.tables.items) t kept.filed in_range below));
  some = (let s = kept.some in omega arith);
  most = (let s = kept.most in omega arith);
}

-- ---- slots that are shared

-- a slot is emptied, and filled with its table again
pub shared_same : (slots : List TableSlot) (k : ℕ) (between kept : TableSlot) → table_in kept ≡ table_in (get_or slots k Empty) → tables_in (set (set slots k between) k kept) ≡ tables_in slots
shared_same slots k between kept same = ap tables_in (set-set slots k between kept) ∙ map-set_same table_in slots k kept Empty same

pub still_kept : (a b : Inside) (k : ℕ) (between kept : TableSlot) → IsSoundSet a → b.tables.items ≡ set (set a.tables.items k between) k kept → table_in kept ≡ table_in (get_or a.tables.items k Empty) → b.cache ≡ a.cache → IsSoundSet b
still_kept a b k between kept whole e same g = record {
  slots = ap length e ∙ length-set (set a.tables.items k between) k kept ∙ length-set a.tables.items k between ∙ whole.slots;
  filed = (let P : Tables → Type 0 = AreFiled in subst P (sym (ap tables_in e ∙ shared_same a.tables.items k between kept same)) whole.filed);
  some = (let s = whole.some in omega arith);
  most = (let s = whole.most in omega arith);
}

-- new slots have these tables
module _ (tables : Tables) (slots : List TableSlot) (n : ℕ) (so_far : tables_in slots ≡ take n tables) where
  pub shared_more : (slots' : List TableSlot) (s : TableSlot) → n < length tables → slots' ≡ slots ++ s ∷ [] → table_in s ≡ get_or tables n None → tables_in slots' ≡ take (n + 1) tables
  shared_more slots' s lt e is =
      ap tables_in e
      ∙ map-append table_in slots (s ∷ [])
      ∙ ap (λ (xs : Tables). xs ++ table_in s ∷ []) so_far
      ∙ ap (λ (o : Option Contents). take n tables ++ o ∷ []) is
      ∙ sym (take_more tables n None lt)

  pub shared_all : length tables ≤ n → tables_in slots ≡ tables
  shared_all end = so_far ∙ take_all n tables end

pub shared_kept : (a b : Inside) → IsSoundSet a → tables_in b.tables.items ≡ tables_in a.tables.items → 1 ≤ b.cache → b.cache ≤ 4096 → IsSoundSet b
shared_kept a b kept e some most = record {
  slots = sym (length-map b.tables.items table_in) ∙ ap length e ∙ length-map a.tables.items table_in ∙ kept.slots;
  filed = (let P : Tables → Type 0 = AreFiled in subst P (sym e) kept.filed);
  some = some;
  most = most;
}

-- there are 290
pub slot_count : (a : Inside) (h : Holding) → IsSoundSet a → record { tables = tables_in a.tables.items; cache = a.cache } ≡ h → length h.tables ≡ 290
slot_count a h kept e = sym (ap (λ (x : Holding). length x.tables) e) ∙ length-map a.tables.items table_in ∙ kept.slots

pub at_slot : (a b : TableKind) (j k n : ℕ) → n ≡ slot a j → a ≡ b → j ≡ k → n ≡ slot b k
at_slot a b j k n e f g = e ∙ ap (λ (x : TableKind). slot x j) f ∙ ap (slot b) g

-- ---- men

pub largest-is : (tables : Tables) (slots : List TableSlot) (n : ℕ) (largest : ℕ) → tables_in slots ≡ tables → take n slots ≡ slots → largest ≡ fold max 0 (map men_of_slot (tables_in (take n slots))) → largest ≡ largest_of tables
unfolding largest_of
largest-is tables slots n largest e all is = is ∙ ap (λ (xs : Tables). fold max 0 (map men_of_slot xs)) (ap tables_in all ∙ e)
