-- What is found at a path, row by row.
use Rattle.std.proofs.Common.{◌≡◌, ◌≤◌, ℕ, List, [], ◌∷◌, length, drop, get_or, take, take_all, ◌-◌, subst, false, Option, Some, None, inl, inr, ap, sym, ◌∙◌, arith}
use Rattle.std.specs.Prelude.{IfNone, IfSome}
use Rattle.std.specs.Str.{bytes_eq}
use Rattle.std.proofs.lemmas.Slice.Eq.{bytes_eq-Decides}
use Rattle.system_fakes.specs.MemoryDisks.{IsFoundAt, IsNowhere}

-- seen in another way
pub found_as : {A B C : Type 0} (path : A → List ℕ) (holds : A → B) (f : B → C) (rows : List A) (at : List ℕ) (v : B) → IsFoundAt path holds rows at v → IsFoundAt path (λ row. f (holds row)) rows at (f v)
found_as path holds f [] at v p = absurd p
found_as path holds f (row ∷ rows) at v (inl p) = inl (p.0, ap f p.1)
found_as path holds f (row ∷ rows) at v (inr p) = inr (p.0, found_as path holds f rows at v p.1)

rest : {A : Type 0} (row : A) (rows : List A) → take (length (row ∷ rows) - 1) (drop 1 (row ∷ rows)) ≡ rows
rest row rows = take_all (length (row ∷ rows) - 1) rows (omega arith)

-- past a first row at another path
pub found_past : {A B : Type 0} (path : A → List ℕ) (holds : A → B) (rows : List A) (d : A) (at : List ℕ) (v : Option B) → 1 ≤ length rows → (path (get_or rows 0 d) ≡ at → ⊥) → IfSome v (IsFoundAt path holds (take (length rows - 1) (drop 1 rows)) at) → IfSome v (IsFoundAt path holds rows at)
found_past path holds rows d at None some other h = tt
found_past path holds [] d at (Some v) some other h = absurd (omega arith)
found_past {A} path holds (row ∷ rows) d at (Some v) some other h = inr (other, subst (λ (l : List A). IsFoundAt path holds l at v) (rest row rows) h)

pub nowhere_past : {A B : Type 0} (path : A → List ℕ) (rows : List A) (d : A) (at : List ℕ) (v : Option B) → 1 ≤ length rows → (path (get_or rows 0 d) ≡ at → ⊥) → IfNone v (IsNowhere path (take (length rows - 1) (drop 1 rows)) at) → IfNone v (IsNowhere path rows at)
nowhere_past path rows d at (Some v) some other h = tt
nowhere_past path [] d at None some other h = absurd (omega arith)
nowhere_past {A} path (row ∷ rows) d at None some other h = (other, subst (λ (l : List A). IsNowhere path l at) (rest row rows) h)

pub others_past : {A : Type 0} (path : A → List ℕ) (rows : List A) (d : A) (at : List ℕ) → 1 ≤ length rows → (path (get_or rows 0 d) ≡ at → ⊥) → (IsNowhere path (take (length rows - 1) (drop 1 rows)) at → IsNowhere path rows at) × (IsNowhere path rows at → IsNowhere path (take (length rows - 1) (drop 1 rows)) at)
others_past path [] d at some other = absurd (omega arith)
others_past {A} path (row ∷ rows) d at some other = (λ h. (other, subst (λ (l : List A). IsNowhere path l at) (rest row rows) h), λ h. subst (λ (l : List A). IsNowhere path l at) (sym (rest row rows)) h.1)

pub other_bytes : (a b : List ℕ) → bytes_eq a b ≡ false → a ≡ b → ⊥
other_bytes a b e same = let d = (bytes_eq-Decides a b).1 same in let f = sym e ∙ d in cc
