-- The stamp of a game (this project's own): the first 16 bytes of a digest of its name, start and tables.
use Rattle.std.specs.Prelude.{◌≡◌, ◌≤◌, ◌<◌, ◌++◌, ◌&&◌, ℕ, Bool, true, List, [], ◌∷◌, zero, suc, length, take, slice_index, nat_le}
use Rattle.std.specs.List.{list_all}
use Rattle.sha2.specs.Sha256.{sha256}

-- a stamp is 16 bytes
abbrev pub IsStamp : List ℕ → Type 0
IsStamp stamp = (length stamp ≡ 16) × ((i : ℕ) → slice_index stamp i < 256)

-- from the space to the tilde
abbrev pub is_printable : ℕ → Bool
is_printable byte = nat_le 32 byte && nat_le byte 126

-- 1 to 64 printable bytes
abbrev pub IsGameName : List ℕ → Type 0
IsGameName name = (1 ≤ length name) × (length name ≤ 64) × (list_all is_printable name ≡ true)

-- the delay of verdicts by tables, where there is one
abbrev pub delay_byte : ℕ → List ℕ
delay_byte zero = []
delay_byte (suc n) = suc n ∷ []

-- name, line feed, the start's text, line feed, manifest, delay
abbrev pub stamp_text : List ℕ → List ℕ → List ℕ → ℕ → List ℕ
stamp_text name start manifest delay = name ++ 10 ∷ [] ++ start ++ 10 ∷ [] ++ manifest ++ delay_byte delay

-- the digest is that of FIPS 180-4
abbrev pub stamp_of : List ℕ → List ℕ → List ℕ → ℕ → List ℕ
stamp_of name start manifest delay = take 16 (sha256 (stamp_text name start manifest delay))
