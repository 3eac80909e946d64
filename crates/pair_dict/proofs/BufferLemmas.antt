-- Bits of a block that a buffer holds.
use Rattle.std.proofs.Common.{◌≡◌, ℕ, ◌+◌, ◌-◌, ◌*◌, ◌/◌, ◌%◌, ◌^◌, ◌<◌, ◌≤◌, List, length, drop, sym, ap, ◌∙◌, arith}
use Rattle.std.proofs.lemmas.Nat.{shr-shr, shl-shr, field_of, pow-add}
use Rattle.std.proofs.Math.Pow.{mod-mod-pow}
use Rattle.pair_dict.specs.Codes.{number_of, bits}
use Rattle.pair_dict.specs.Inside.Windows.{IsWord, Shows}
use Rattle.pair_dict.specs.declared.window.BitBuffer.{BitBuffer}
use Rattle.pair_dict.proofs.Longest.{bits_below}
use Rattle.pair_dict.proofs.Numbers.{word_bits}

-- a buffer that holds no bits
pub shows_none : (block : List ℕ) (p : ℕ) → p ≤ 8 * length block → Shows block p (record { bits = 0; held = 0 })
shows_none block p le = record {
  few = omega arith;
  within = omega arith;
  same = λ n n-le. let none : n ≡ 0 = omega arith in rw none (omega (arith, bits_below block p 0));
}

-- the bits after the first ones
bits_after : (block : List ℕ) (p m n : ℕ) → p + (m + n) ≤ 8 * length block → bits block (p + m) n ≡ bits block p (m + n) % 2 ^ n
unfolding bits
bits_after block p m n fits =
    let k = 8 * length block - (p + (m + n)) in
    let j : 8 * length block - (p + m + n) ≡ k = omega arith in
    let whole : 2 ^ (m + n) ≡ 2 ^ m * 2 ^ n = pow-add 2 m n in
    ap (λ (x : ℕ). number_of block / 2 ^ x % 2 ^ n) j ∙ sym (mod-mod-pow (number_of block / 2 ^ k) m n)

-- a buffer moved up shows the bits that follow
pub shows_after : (block : List ℕ) (end m : ℕ) (w v : BitBuffer) → m ≤ end → m ≤ w.held → Shows block (end - m) w → v.bits ≡ w.bits * 2 ^ m % 2 ^ 64 → v.held ≡ w.held - m → Shows block end v
shows_after block end m w v le held shows bits-is held-is =
    record {
      few = omega (arith, shows.few);
      within = omega (arith, shows.within);
      same = λ n n-le.
          let up : 64 - n ≡ m + (64 - (m + n)) = omega (arith, shows.few) in
          let all : n + (64 - n) ≡ 64 = omega (arith, shows.few) in
          let there : end - m + m ≡ end = omega arith in
          let cut : v.bits / 2 ^ (64 - n) ≡ (w.bits * 2 ^ m) / 2 ^ (64 - n) % 2 ^ n =
          ap (λ (x : ℕ). x / 2 ^ (64 - n)) (bits-is ∙ ap (λ (x : ℕ). w.bits * 2 ^ m % 2 ^ x) (sym all)) ∙ field_of (w.bits * 2 ^ m) n (64 - n) in
          let top : (w.bits * 2 ^ m) / 2 ^ (64 - n) ≡ w.bits / 2 ^ (64 - (m + n)) =
          ap (λ (x : ℕ). (w.bits * 2 ^ m) / 2 ^ x) up ∙ sym (shr-shr (w.bits * 2 ^ m) m (64 - (m + n))) ∙ ap (λ (x : ℕ). x / 2 ^ (64 - (m + n))) (shl-shr w.bits m) in
          let shown : w.bits / 2 ^ (64 - (m + n)) ≡ bits block (end - m) (m + n) = shows.same (m + n) (omega arith) in
          cut ∙ ap (λ (x : ℕ). x % 2 ^ n) (top ∙ shown) ∙ sym (bits_after block (end - m) m n (omega (arith, shows.within))) ∙ ap (λ (x : ℕ). bits block x n) there;
    }

-- the last eight bytes of a block
pub shows_word : (block : List ℕ) (i word : ℕ) → IsWord (drop i block) word → word < 2 ^ 64 → i + 8 ≡ length block → Shows block (8 * i) (record { bits = word; held = 64 })
shows_word block i word is small whole = record {
  few = omega arith;
  within = omega arith;
  same = λ n n-le.
      let there : 8 * i + 0 ≡ 8 * i = omega arith in
      ap (λ (x : ℕ). x) (word_bits block i 0 word word (omega arith) is (omega arith) (omega arith) n (omega arith) (omega arith)) ∙ ap (λ (q : ℕ). bits block q n) there;
}
