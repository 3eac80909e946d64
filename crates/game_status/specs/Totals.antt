-- Games with what is found of each, and how many there are of each kind (this project's own).
use Rattle.std.specs.Prelude.{◌≡◌, ◌-◌, ◌^◌, ℕ, Bool, true, false, List, Option, Some, None, length, map, min}
use Rattle.std.specs.List.{AllZip, count_by, sum_by}
use Rattle.move_msg.specs.declared.record_bytes.Record.{Record as Records}
use Rattle.game_status.specs.declared.comparing.Compared.{Compared}
use Rattle.game_status.specs.declared.comparing.Compared.TheVariants.{Agree, Behind, Unopened, Differ}
use Rattle.game_status.specs.declared.status_lines.Look.{Look}
use Rattle.game_status.specs.declared.status_lines.Look.TheVariants as look
use Rattle.game_status.specs.declared.telling.GameTold.{GameTold}
use Rattle.game_status.specs.declared.telling.Mark.{Mark}
use Rattle.game_status.specs.declared.telling.Mark.TheVariants as mark
use Rattle.game_status.specs.declared.totals.Totals.{Totals}
use Rattle.game_status.specs.Statuses.{game_told_by}
use Rattle.game_status.specs.Tellings.{count_marked, sums_of}

-- a game, by its stamp, and what is found of it
pub record FoundGame : Type 0 where
  pub stamp : List ℕ
  pub look : Look

abbrev pub IsFound : (List ℕ → Look → Type 0) → List ℕ → FoundGame → Type 0
IsFound Finds stamp f = (f.stamp ≡ stamp) × Finds stamp f.look

-- of each of the games with these stamps, in this order
abbrev pub AreFound : (List ℕ → Look → Type 0) → List (List ℕ) → List FoundGame → Type 0
AreFound Finds = AllZip (IsFound Finds)

-- their lines
abbrev pub lines_told : List FoundGame → List GameTold
lines_told = map (λ f. game_told_by f.stamp f.look)

-- ---- how many

-- neither a verdict nor a fault, and its records don't differ
abbrev pub is_open_mark : Mark → Bool
is_open_mark mark.Open = true
is_open_mark _ = false

abbrev pub is_behind : Compared → Bool
is_behind Agree = false
is_behind (Behind more) = true
is_behind Unopened = false
is_behind (Differ ply) = false

-- one of its two records is a front of the other
abbrev pub is_behind_in : Look → Bool
is_behind_in (look.One side) = false
is_behind_in (look.Both side other compared) = is_behind compared
is_behind_in (look.AtFault fault) = false
is_behind_in (look.OtherAtFault fault) = false

abbrev pub count_of : Option Records → ℕ
count_of None = 0
count_of (Some r) = length r.moves

-- how many moves the first folder's record has
abbrev pub moves_in : Look → ℕ
moves_in (look.One side) = count_of side.kept
moves_in (look.Both side other compared) = count_of side.kept
moves_in (look.AtFault fault) = 0
moves_in (look.OtherAtFault fault) = 0

-- more moves than this are not told apart
abbrev pub most_total : ℕ
most_total = 2 ^ 64 - 1

abbrev pub totals_of : List FoundGame → Totals
totals_of found = record {
  sums = sums_of (lines_told found);
  open_games = count_marked is_open_mark (lines_told found);
  behind = count_by (λ f. is_behind_in f.look) found;
  moves = min (sum_by (λ f. moves_in f.look) found) most_total;
}
