-- A law of disks in memory.
use Rattle.std.specs.Prelude.{◌≡◌, ◌≤◌, ◌<◌, ℕ, List, [], ◌∷◌, length, IsPermutation}
use Rattle.std.proofs.Common.{◌∙◌, inl, inr, ⊎_elim, sym, subst, arith}
use Rattle.std.proofs.lemmas.List.Sorted.{IsPermutation-refl}
use Rattle.system_fakes.specs.declared.memory_disk.MemoryDisk.{MemoryDisk}
use Rattle.system_io.specs.Disks.{HoldsOne, most_bytes}
use Rattle.system_fakes.specs.MemoryDisks.{HasMode, HasRegular, IsFoundAt, IsIrregularAt, IsNowhere, IsRegular, disk_of}

-- one thing is found at a path
found_once : {A B : Type 0} (path : A → List ℕ) (holds : A → B) (rows : List A) (at : List ℕ) (u v : B) → IsFoundAt path holds rows at u → IsFoundAt path holds rows at v → u ≡ v
found_once path holds [] at u v p q = absurd p
found_once path holds (row ∷ rows) at u v (inl p) (inl q) = p.1 ∙ sym q.1
found_once path holds (row ∷ rows) at u v (inl p) (inr q) = absurd (q.0 p.0)
found_once path holds (row ∷ rows) at u v (inr p) (inl q) = absurd (p.0 q.0)
found_once path holds (row ∷ rows) at u v (inr p) (inr q) = found_once path holds rows at u v p.1 q.1

-- and where it is, there is something
found_there : {A B : Type 0} (path : A → List ℕ) (holds : A → B) (rows : List A) (at : List ℕ) (u : B) → IsFoundAt path holds rows at u → IsNowhere path rows at → ⊥
found_there path holds [] at u p q = p
found_there path holds (row ∷ rows) at u (inl p) q = q.0 p.0
found_there path holds (row ∷ rows) at u (inr p) q = found_there path holds rows at u p.1 q.1

-- and there is one mode
one_mode : (d : MemoryDisk) (at : List ℕ) (a b : ℕ) → HasMode d at a → HasMode d at b → a ≡ b
one_mode d at a b (inl p) (inl q) = found_once _ _ d.modes.now at a b p q
one_mode d at a b (inl p) (inr q) = absurd (found_there _ _ d.modes.now at a p q.0)
one_mode d at a b (inr p) (inl q) = absurd (found_there _ _ d.modes.now at b q p.0)
one_mode d at a b (inr p) (inr q) = p.1 ∙ sym q.1

-- and it is of one kind
one_kind : (d : MemoryDisk) (at : List ℕ) (mode : ℕ) → HasRegular d at mode → IsIrregularAt d at → ⊥
one_kind d at mode p q = q.2 (subst IsRegular (one_mode d at mode q.0 p.0 q.1) p.1)

too_long : (a b : List ℕ) → a ≡ b → length a ≤ most_bytes → most_bytes < length b → ⊥
too_long a b same short long =
    let short' : length b ≤ most_bytes = subst (λ (l : List ℕ). length l ≤ most_bytes) same short in
    absurd (omega arith)

pub holds_one : (d : MemoryDisk) → HoldsOne (disk_of d)
holds_one d = record {
  names = λ at a b p q. subst (IsPermutation a) (found_once _ _ d.folders.now at a b p.0 q.0) (IsPermutation-refl a);
  bytes = λ at a b p q. found_once _ _ d.files.now at a b p.0 q.0;
  listed = λ at names p fails. ⊎_elim (λ x. x p.1) (λ x. found_there _ _ d.folders.now at names p.0 x) fails;
  held = λ at bytes p fails. ⊎_elim (λ x. ⊎_elim (λ y. y p.2) (λ y. found_there _ _ d.files.now at bytes p.0 y) x) (λ x. ⊎_elim (λ y. too_long bytes y.0 (found_once _ _ d.files.now at bytes y.0 p.0 y.1) p.1 y.2) (λ y. one_kind d at p.3.0 p.3.1 y) x) fails;
  mode = λ at a b p q. one_mode d at a b p.0 q.0;
  regular = λ at mode p q. one_kind d at mode p q;
  file = λ at bytes p q. one_kind d at p.3.0 p.3.1 q;
}
