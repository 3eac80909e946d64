-- The games in memory (this project's own).
use Rattle.std.specs.Prelude.{◌≡◌, ℕ, List, Option, Some, None, if◌then◌else◌, option_map, option_and_then, IsSome, All}
use Rattle.std.specs.Ordering.{nat_cmp}
use Rattle.std.specs.Cmp.Lexicographic.{slice_cmp}
use Rattle.std.specs.Map.{lookup}
use Rattle.std.specs.BTreeMap.{is_at}
use Rattle.system_io.specs.declared.record_store.Entry.{Entry}
use Rattle.game_store.specs.declared.memory.Slot.{Slot}
use Rattle.game_store.specs.declared.memory.Text.{Text}
use Rattle.std.specs.Str.{bytes_eq}
use Rattle.system_io.specs.Records.{StoredRecord, Records, with_entry}
use Rattle.game_store.specs.Rows.{Numbers}

-- the games that have numbers, in the order of their stamps
abbrev pub Slots : Type 0
Slots = List (List ℕ × Slot)

abbrev pub slot_at : Slots → List ℕ → Option Slot
slot_at slots stamp = lookup (is_at (slice_cmp nat_cmp stamp)) slots

abbrev pub number_at : Slots → Numbers
number_at slots stamp = option_map (λ (s : Slot). s.number) (slot_at slots stamp)

abbrev pub game_of_text : Text → StoredRecord
game_of_text t = record { count = t.count; bytes = t.record.items }

-- what memory has of each game
abbrev pub game_at : Slots → Records
game_at slots stamp = option_and_then (λ (s : Slot). option_map game_of_text s.text) (slot_at slots stamp)

-- what had a number has it still
abbrev pub KeepsNumbers : Slots → Slots → Type 0
KeepsNumbers old new = (stamp : List ℕ) (n : ℕ) → number_at old stamp ≡ Some n → number_at new stamp ≡ Some n

abbrev pub HasSame : Slots → Slots → Type 0
HasSame old new = (stamp : List ℕ) → game_at new stamp ≡ game_at old stamp

-- each game of a batch has a number
abbrev pub HaveNumbers : Slots → List Entry → Type 0
HaveNumbers slots = All (λ (e : Entry). IsSome (number_at slots e.stamp))

-- a game that had no number has this one, and this entry; all others have what they had
pub record Takes (number : ℕ) (e : Entry) (old new : Slots) : Type 0 where
  pub fresh : number_at old e.stamp ≡ None
  pub numbers : (stamp : List ℕ) → number_at new stamp ≡ if bytes_eq e.stamp stamp then Some number else number_at old stamp
  pub games : (stamp : List ℕ) → game_at new stamp ≡ with_entry (game_at old) e stamp
