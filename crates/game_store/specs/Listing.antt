-- The list of the games (this project's own).
use Rattle.std.specs.Prelude.{◌≡◌, ℕ, List, [], ◌∷◌, ◌++◌, map, Option, None, Some}
use Rattle.std.specs.List.Sorted.{IsStrictlySortedBy}
use Rattle.std.specs.Map.{lookup}
use Rattle.std.specs.Ordering.{nat_cmp}
use Rattle.std.specs.Cmp.Lexicographic.{slice_cmp}
use Rattle.std.specs.Str.{bytes_eq}
use Rattle.game_store.specs.declared.memory.Kept.{Kept}
use Rattle.game_store.specs.declared.memory.Text.{Text}
use Rattle.system_io.specs.declared.record_store.Entry.{Entry}
use Rattle.system_io.specs.Records.{StoredRecord, Records, entry_record}
use Rattle.game_store.specs.Slots.{Slots, game_of_text}

-- a game with its stamp
abbrev pub Listed : Type 0
Listed = List ℕ × StoredRecord

abbrev pub as_listed : Kept → Listed
as_listed k = (k.stamp, record { count = k.count; bytes = k.record.now })

-- an entry with its stamp
abbrev pub listed_entry : Entry → Listed
listed_entry e = (e.stamp, entry_record e)

-- looked up by its stamp each game has what is kept of it, and the stamps rise
pub record ListsGames (all : List Listed) (games : Records) : Type 0 where
  pub found : (stamp : List ℕ) → lookup (bytes_eq stamp) all ≡ games stamp
  pub rising : IsStrictlySortedBy (slice_cmp nat_cmp) (map (λ (e : Listed). e.0) all)

abbrev pub listed_if : List ℕ → Option Text → List Listed
listed_if stamp None = []
listed_if stamp (Some t) = (stamp, game_of_text t) ∷ []

-- the games in memory that have records
abbrev pub listed_games : Slots → List Listed
listed_games [] = []
listed_games (e ∷ es) = listed_if e.0 e.1.text ++ listed_games es
