-- The bytes of files and ranks, and how the code reads them.
use Rattle.std.proofs.Common.{◌≡◌, ℕ, ◌+◌, ◌-◌, ◌<◌, ◌≤◌, true, false, None, refl, arith}
use Rattle.std.specs.Prelude.{◌==◌}
use Rattle.std.proofs.lemmas.Bool.{ne_eqb, le-leb, lt-leb, and_parts, leb-true}
use Rattle.san_text.specs.Inside.Scan.{is_file, is_rank, kind_by}

-- a byte that is neither a letter of a man nor the sign of castling
pub record IsInner (c : ℕ) : Type 0 where
  pub no_kind : kind_by c ≡ None
  pub no_letter : (c == 79) ≡ false
  pub no_zero : (c == 48) ≡ false

-- the letter of this file
pub record IsFileByte (c f : ℕ) : Type 0 where
  pub inner : IsInner c
  pub file : is_file c ≡ true
  pub no_rank : is_rank c ≡ false
  pub number : c - 97 ≡ f
  pub no_x : (c == 120) ≡ false
  pub no_dash : (c == 45) ≡ false

-- the digit of this rank
pub record IsRankByte (c r : ℕ) : Type 0 where
  pub inner : IsInner c
  pub rank : is_rank c ≡ true
  pub no_file : is_file c ≡ false
  pub number : c - 49 ≡ r

differs : (c d : ℕ) → (c ≡ d → ⊥) → (c == d) ≡ false
differs c d ne = ne_eqb c d ne

kindless : (c : ℕ) → (c ≡ 78 → ⊥) → (c ≡ 66 → ⊥) → (c ≡ 82 → ⊥) → (c ≡ 81 → ⊥) → (c ≡ 75 → ⊥) → (c ≡ 80 → ⊥) → kind_by c ≡ None
kindless c n b r q k p = rw (differs c 78 n, differs c 66 b, differs c 82 r, differs c 81 q, differs c 75 k, differs c 80 p) refl

above_letters : (c : ℕ) → 90 < c → IsInner c
above_letters c h = record {
  no_kind = kindless c (λ e. omega arith) (λ e. omega arith) (λ e. omega arith) (λ e. omega arith) (λ e. omega arith) (λ e. omega arith);
  no_letter = differs c 79 (λ e. omega arith);
  no_zero = differs c 48 (λ e. omega arith);
}

digits_inner : (c : ℕ) → 48 < c → c < 60 → IsInner c
digits_inner c h k = record {
  no_kind = kindless c (λ e. omega arith) (λ e. omega arith) (λ e. omega arith) (λ e. omega arith) (λ e. omega arith) (λ e. omega arith);
  no_letter = differs c 79 (λ e. omega arith);
  no_zero = differs c 48 (λ e. omega arith);
}

pub file_byte : (f : ℕ) → f < 8 → IsFileByte (97 + f) f
file_byte f h = record {
  inner = above_letters (97 + f) (omega arith);
  file = rw (le-leb 97 (97 + f) (omega arith), le-leb (97 + f) 104 (omega arith)) refl;
  no_rank = rw (le-leb 49 (97 + f) (omega arith), lt-leb (97 + f) 56 (omega arith)) refl;
  number = omega arith;
  no_x = differs (97 + f) 120 (λ e. omega arith);
  no_dash = differs (97 + f) 45 (λ e. omega arith);
}

pub rank_byte : (r : ℕ) → r < 8 → IsRankByte (49 + r) r
rank_byte r h = record {
  inner = digits_inner (49 + r) (omega arith) (omega arith);
  rank = rw (le-leb 49 (49 + r) (omega arith), le-leb (49 + r) 56 (omega arith)) refl;
  no_file = rw (lt-leb 97 (49 + r) (omega arith)) refl;
  number = omega arith;
}

-- and back
pub file_bounds : (c : ℕ) → is_file c ≡ true → (97 ≤ c) × (c ≤ 104)
file_bounds c e = let b = and_parts _ _ e in (leb-true 97 c b.0, leb-true c 104 b.1)

pub rank_bounds : (c : ℕ) → is_rank c ≡ true → (49 ≤ c) × (c ≤ 56)
rank_bounds c e = let b = and_parts _ _ e in (leb-true 49 c b.0, leb-true c 56 b.1)
