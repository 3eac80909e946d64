-- Files of keys (this project's own).
use Rattle.std.specs.Prelude.{◌≡◌, ◌≢◌, ◌++◌, ◌<◌, ℕ, List, [], ◌∷◌, drop, length, slice_index, take}
use Rattle.hex.specs.Hex.{encode_lower}
use Rattle.sealed_port.specs.declared.key_file.KeyFault.{KeyFault}
use Rattle.sealed_port.specs.declared.key_file.KeyFault.TheVariants.{FirstLine, SecondLine, Behind}
use Rattle.sealed_port.specs.declared.seal_port.Keys.{Keys}

-- 32 bytes
pub record IsKey (key : List ℕ) : Type 0 where
  pub long : length key ≡ 32
  pub bytes : (i : ℕ) → slice_index key i < 256

-- a key as a line: its bytes in lower-case hexadecimal digits, and a line feed
abbrev pub key_line : List ℕ → List ℕ
key_line key = encode_lower key ++ 10 ∷ []

abbrev pub IsKeyLine : List ℕ → Type 0
IsKeyLine line = (key : List ℕ) × IsKey key × (line ≡ key_line key)

-- a file has the line of one key, which is both, or those of two
pub data SpellsKeys (text : List ℕ) (keys : Keys) : Type 0 where
  One : IsKey keys.first → text ≡ key_line keys.first → keys.second ≡ keys.first → SpellsKeys text keys
  Two : IsKey keys.first → IsKey keys.second → text ≡ key_line keys.first ++ key_line keys.second → SpellsKeys text keys

-- the first 65 bytes of a text, and what stands behind them
abbrev pub front : List ℕ → List ℕ
front text = take 65 text

abbrev pub behind_keys : List ℕ → List ℕ
behind_keys text = drop 65 text

-- the first thing that is wrong: the first line; the second, where there is more than one line; what stands behind two lines
abbrev pub IsFirstKeyFault : List ℕ → KeyFault → Type 0
IsFirstKeyFault text FirstLine = IsKeyLine (front text) → ⊥
IsFirstKeyFault text SecondLine = IsKeyLine (front text) × (behind_keys text ≢ []) × (IsKeyLine (front (behind_keys text)) → ⊥)
IsFirstKeyFault text Behind = IsKeyLine (front text) × IsKeyLine (front (behind_keys text)) × (behind_keys (behind_keys text) ≢ [])

-- the number of the line at fault
abbrev pub key_fault_line : KeyFault → ℕ
key_fault_line FirstLine = 1
key_fault_line SecondLine = 2
key_fault_line Behind = 3
