-- Why bytes don't begin with a dictionary (Syzygy table format, a size record from its greatest code length on). It is the
-- first fault from the left: each part is checked after the good parts before it.
use Rattle.std.specs.Prelude.{◌≡◌, ℕ, ◌+◌, ◌-◌, ◌*◌, ◌%◌, ◌<◌, ◌≤◌, ◌⊎◌, ◌↔◌, false, true, List, ◌∷◌, ◌++◌, length, Err}
use Rattle.pair_dict.specs.declared.fault.DictFault.{DictFault}
use Rattle.pair_dict.specs.declared.fault.DictFault.TheVariants.{Truncated, BadCode, BadSymbol}
use Rattle.pair_dict.specs.Symbols.{AllHaveValues}
use Rattle.pair_dict.specs.Reading.{words, falls, dictionary_at}

-- the greatest length of a code and the least
pub record AreLengths (greatest least : ℕ) : Type 0 where
  pub shortest : 1 ≤ least
  pub in_order : least ≤ greatest
  pub longest : greatest ≤ 32

-- the bytes begin with good lengths, and go on with the rest
pub record HasLengths (bytes : List ℕ) (greatest least : ℕ) (rest : List ℕ) : Type 0 where
  pub front : bytes ≡ greatest ∷ least ∷ rest
  pub good : AreLengths greatest least

-- how many bytes the lowest symbols take, two for each length
abbrev pub lowest_size : ℕ → ℕ → ℕ
lowest_size greatest least = 2 * ((greatest + 1) - least)

-- behind good lengths stands a lowest symbol for each, none greater than the one before
pub record HasLowest (bytes rest : List ℕ) : Type 0 where
  pub greatest : ℕ
  pub least : ℕ
  pub behind : List ℕ
  pub lengths : HasLengths bytes greatest least behind
  pub lowest : List ℕ
  pub front : behind ≡ lowest ++ rest
  pub whole : length lowest ≡ lowest_size greatest least
  pub falling : falls (words lowest) ≡ true

-- behind these stands how many symbols there are, 1 to 4095
pub record HasCount (bytes : List ℕ) (count : ℕ) (rest : List ℕ) : Type 0 where
  pub behind : List ℕ
  pub lowest : HasLowest bytes behind
  pub low : ℕ
  pub high : ℕ
  pub front : behind ≡ low ∷ high ∷ rest
  pub is : low + 256 * high ≡ count
  pub some : 1 ≤ count
  pub few : count ≤ 4095

-- behind that stand the symbols, three bytes each, and a byte more where their number is odd
pub record HasSymbols (bytes symbols : List ℕ) : Type 0 where
  pub count : ℕ
  pub behind : List ℕ
  pub counted : HasCount bytes count behind
  pub rest : List ℕ
  pub front : behind ≡ symbols ++ rest
  pub whole : length symbols ≡ 3 * count
  pub filled : count % 2 ≤ length rest

pub data IsFirstDictFault (bytes : List ℕ) : DictFault → Type 0 where
  no_lengths : length bytes < 2 → IsFirstDictFault bytes Truncated
  bad_lengths : {greatest least : ℕ} {rest : List ℕ} → bytes ≡ greatest ∷ least ∷ rest → (AreLengths greatest least → ⊥) → IsFirstDictFault bytes BadCode
  no_lowest : {greatest least : ℕ} {rest : List ℕ} → HasLengths bytes greatest least rest → length rest < lowest_size greatest least → IsFirstDictFault bytes Truncated
  rising_lowest : {greatest least : ℕ} {behind : List ℕ} (lowest rest : List ℕ) → HasLengths bytes greatest least behind → behind ≡ lowest ++ rest → length lowest ≡ lowest_size greatest least → falls (words lowest) ≡ false → IsFirstDictFault bytes BadCode
  no_count : {rest : List ℕ} → HasLowest bytes rest → length rest < 2 → IsFirstDictFault bytes Truncated
  bad_count : {behind : List ℕ} (low high : ℕ) (rest : List ℕ) → HasLowest bytes behind → behind ≡ low ∷ high ∷ rest → (low + 256 * high < 1) ⊎ (4095 < low + 256 * high) → IsFirstDictFault bytes BadSymbol
  no_symbols : {count : ℕ} {rest : List ℕ} → HasCount bytes count rest → length rest < 3 * count + count % 2 → IsFirstDictFault bytes Truncated
  bad_symbols : {symbols : List ℕ} → HasSymbols bytes symbols → (AllHaveValues symbols → ⊥) → IsFirstDictFault bytes BadSymbol

-- Reading reports the first fault, and there is one only where it reports it.
abbrev pub FirstFaultIsTold : Type 0
FirstFaultIsTold = (bytes : List ℕ) (fault : DictFault) → (dictionary_at bytes ≡ Err fault) ↔ IsFirstDictFault bytes fault
