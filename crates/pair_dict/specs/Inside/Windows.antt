-- A few bits of a block at the top of a word.
use Rattle.std.specs.Prelude.{◌≡◌, ℕ, ◌+◌, ◌-◌, ◌*◌, ◌/◌, ◌%◌, ◌^◌, ◌<◌, ◌≤◌, List, length, slice_index, map}
use Rattle.pair_dict.specs.Codes.{bases, bits, number_of}
use Rattle.pair_dict.specs.declared.window.BitBuffer.{BitBuffer}
use Rattle.pair_dict.specs.declared.codes.CodeLength.{CodeLength}

-- the highest n bits of the word are the first n bits of the bytes
abbrev pub IsWord : List ℕ → ℕ → Type 0
IsWord bytes word =
    (n : ℕ) → n ≤ 64 → n ≤ 8 * length bytes → word / 2 ^ (64 - n) ≡ number_of bytes / 2 ^ (8 * length bytes - n)

-- the highest n bits of the word are the n bits of the block from bit p on
abbrev pub IsWindow : List ℕ → ℕ → ℕ → Type 0
IsWindow block p word = (n : ℕ) → n ≤ 57 → p + n ≤ 8 * length block → word / 2 ^ (64 - n) ≡ bits block p n

-- the bits that are held are the block's from bit p on
pub record Shows (block : List ℕ) (p : ℕ) (b : BitBuffer) : Type 0 where
  pub few : b.held ≤ 64
  pub within : p + b.held ≤ 8 * length block
  pub same : (n : ℕ) → n ≤ b.held → b.bits / 2 ^ (64 - n) ≡ bits block p n

-- the least number of 32 bits whose first n bits are at least the base, or 2^32 where n bits are never
pub record IsLeastWithPrefix (n base first : ℕ) : Type 0 where
  pub possible : base < 2 ^ n → first ≡ base * 2 ^ (32 - n)
  pub impossible : 2 ^ n ≤ base → first ≡ 2 ^ 32

-- the first number of each length from the least on
pub record AreFirsts (least : ℕ) (lowest firsts : List ℕ) : Type 0 where
  pub lengths : length firsts ≡ length lowest
  pub each : (i : ℕ) → i < length lowest → IsLeastWithPrefix (least + i) (slice_index (bases lowest) i) (slice_index firsts i)

-- the first numbers of code lengths, and their lowest symbols
abbrev pub firsts_in : List CodeLength → List ℕ
firsts_in codes = map (λ c. c.packed / 65536) codes

abbrev pub lowest_in : List CodeLength → List ℕ
lowest_in codes = map (λ c. c.packed % 65536) codes

-- the 32 bits begin with those of the block from bit p on
abbrev pub IsFront : List ℕ → ℕ → ℕ → Type 0
IsFront block p front = (n : ℕ) → n ≤ 32 → p + n ≤ 8 * length block → front / 2 ^ (32 - n) ≡ bits block p n

-- a code that was read: a known symbol, a bit at least, and all of it in the block
pub record IsSoundCode (limit : ℕ) (block : List ℕ) (p : ℕ) (code : ℕ × ℕ) : Type 0 where
  pub known : code.0 < limit
  pub some : 1 ≤ code.1
  pub short : code.1 ≤ 32
  pub within : p + code.1 ≤ 8 * length block

-- the same without its place: a known symbol and 1 to 32 bits
pub record IsKnownCode (limit : ℕ) (code : ℕ × ℕ) : Type 0 where
  pub known : code.0 < limit
  pub some : 1 ≤ code.1
  pub short : code.1 ≤ 32
