-- The bytes that spell a dictionary (Syzygy table format, a size record from its greatest code length on).
use Rattle.std.specs.Prelude.{◌≡◌, ℕ, ◌+◌, ◌*◌, ◌%◌, ◌≤◌, ◌↔◌, true, List, ◌∷◌, ◌++◌, length, take, Ok}
use Rattle.pair_dict.specs.Symbols.{symbol_count, AllHaveValues}
use Rattle.pair_dict.specs.Codes.{Pairing}
use Rattle.pair_dict.specs.Reading.{words, falls, dictionary_at}

-- The greatest code length and the least, then a lowest symbol of two bytes for each length from the least on. The number
-- of symbols in two bytes, the symbols, and one more byte where their number is odd.
pub record SpellsDictionary (bytes : List ℕ) (d : Pairing) : Type 0 where
  pub greatest : ℕ
  pub lowest : List ℕ
  pub low : ℕ
  pub high : ℕ
  pub fill : List ℕ
  pub spelled : bytes ≡ greatest ∷ d.least ∷ (lowest ++ (low ∷ high ∷ (d.symbols ++ fill)))
  pub shortest : 1 ≤ d.least
  pub in_order : d.least ≤ greatest
  pub longest : greatest ≤ 32
  pub one_each : d.least + length d.lowest ≡ greatest + 1
  pub lowest_whole : length lowest ≡ 2 * length d.lowest
  pub lowest_is : words lowest ≡ d.lowest
  pub falling : falls d.lowest ≡ true
  pub count : low + 256 * high ≡ symbol_count d.symbols
  pub some : 1 ≤ symbol_count d.symbols
  pub few : symbol_count d.symbols ≤ 4095
  pub whole : length d.symbols ≡ 3 * symbol_count d.symbols
  pub filled : length fill ≡ symbol_count d.symbols % 2
  pub values : AllHaveValues d.symbols

-- Reading gives a dictionary and a number of bytes exactly where that many bytes are there and spell it.
abbrev pub ReadsWhatIsSpelled : Type 0
ReadsWhatIsSpelled =
    (bytes : List ℕ) (d : Pairing) (taken : ℕ)
    → ((dictionary_at bytes ≡ Ok (d, taken)) ↔ ((taken ≤ length bytes) × SpellsDictionary (take taken bytes) d))
