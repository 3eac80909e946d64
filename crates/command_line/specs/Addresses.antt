-- Addresses in one word (this project's own).
use Rattle.std.specs.Prelude.{◌≡◌, ◌⊎◌, ◌<◌, ◌+◌, ◌++◌, ◌^◌, ℕ, List, [], ◌∷◌, Option, Some, None, length}
use Rattle.std.specs.List.{AllByRecursion, Contains}
use Rattle.fen_text.specs.Cuts.{cut_at}
use Rattle.system_io.specs.Recipients.{sender_word}
use Rattle.command_line.specs.Numbers.{IsDecimalNumber}

-- commas part them
abbrev pub addresses_of : List ℕ → List (List ℕ)
addresses_of = cut_at 44

-- an address: no space stands in it; behind its last colon is a port, a number from 0 to 65535, and before that colon something stands,
-- the host
pub record IsAddress (text : List ℕ) : Type 0 where
  pub solid : Contains text 32 → ⊥
  pub front : List (List ℕ)
  pub port : List ℕ
  pub number : ℕ
  pub parts : cut_at 58 text ≡ front ++ port ∷ []
  pub host : length port + 1 < length text
  pub is : IsDecimalNumber port number
  pub within : number < 2 ^ 16

-- where there is such a text, it is an address
abbrev pub IsAddressIfAny : Option (List ℕ) → Type 0
IsAddressIfAny None = Unit {0}
IsAddressIfAny (Some text) = IsAddress text

-- each of them is an address
abbrev pub AreAddresses : List ℕ → Type 0
AreAddresses word = AllByRecursion IsAddress (addresses_of word)

-- or the word for whoever sent the last datagram
abbrev pub IsRecipient : List ℕ → Type 0
IsRecipient text = (text ≡ sender_word) ⊎ IsAddress text

abbrev pub AreRecipients : List ℕ → Type 0
AreRecipients word = AllByRecursion IsRecipient (addresses_of word)
