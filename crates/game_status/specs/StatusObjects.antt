-- What is found of the games of a folder, or of two, as one JSON object (RFC 8259; its names are this project's own).
use Rattle.std.specs.Prelude.{◌≡◌, ◌++◌, ℕ, Bool, true, false, List, [], ◌∷◌, Option, Some, None, length, option_map, codes, if◌then◌else◌}
use Rattle.std.specs.Fmt.{decimal}
use Rattle.hex.specs.Hex.{encode_lower}
use Rattle.board_core.specs.declared.verdict.Verdict.{Verdict}
use Rattle.board_core.specs.Verdicts.{verdict_name}
use Rattle.fen_text.specs.Written.{fen_of}
use Rattle.json.specs.Json.{Json, null, boolean, number, string, array, object, Items, no_items, item, Members, no_members, member}
use Rattle.json.specs.Print.{print}
use Rattle.json.specs.Token.{Token}
use Rattle.json.specs.Tree.{json_tokens, members_tokens}
use Rattle.json.specs.Written.{Written}
use Rattle.move_msg.specs.declared.record_bytes.Record.{Record as Records}
use Rattle.move_msg.specs.Stamps.{IsGameName}
use Rattle.game_status.specs.declared.comparing.Compared.{Compared}
use Rattle.game_status.specs.declared.comparing.Compared.TheVariants.{Agree, Behind, Unopened, Differ}
use Rattle.game_status.specs.declared.entry.EntryFault.{EntryFault}
use Rattle.game_status.specs.declared.side.Side.{Side}
use Rattle.game_status.specs.declared.status_lines.Look.{Look}
use Rattle.game_status.specs.declared.status_lines.Look.TheVariants as look
use Rattle.game_status.specs.declared.totals.Totals.{Totals}
use Rattle.game_status.specs.Entries.{fault_words}
use Rattle.game_status.specs.Totals.{FoundGame, totals_of}

-- the text of a value: no space, and the shortest escapes
abbrev pub json_text : Json → List ℕ
json_text j = print (json_tokens j)

-- ---- what a call writes

-- these tokens were written
pub record AddsTokens (old new : Written) (ts : List Token) : Type 0 where
  pub before : new.before ≡ old.before
  pub tokens : new.tokens ≡ old.tokens ++ ts

-- these members were written: whatever comes next comes behind them
pub record AddsMembers (old new : Written) (ms : Members → Members) : Type 0 where
  pub before : new.before ≡ old.before
  pub tokens : (more : Members) → new.tokens ++ members_tokens more ≡ old.tokens ++ members_tokens (ms more)

-- the names in it are those of games
abbrev pub IsNamed : Side → Type 0
IsNamed side = IsGameName side.game.name.items

abbrev pub AreNamed : Look → Type 0
AreNamed (look.One side) = IsNamed side
AreNamed (look.Both side other compared) = IsNamed side × IsNamed other
AreNamed (look.AtFault fault) = Unit {0}
AreNamed (look.OtherAtFault fault) = Unit {0}

-- ---- values, or null where there is none

abbrev pub text_or_null : Option (List ℕ) → Json
text_or_null None = null
text_or_null (Some text) = string text

abbrev pub count_or_null : Option ℕ → Json
count_or_null None = null
count_or_null (Some n) = number (decimal n)

abbrev pub truth_or_null : Option Bool → Json
truth_or_null None = null
truth_or_null (Some b) = boolean b

-- members that stand only where that is so, before others
abbrev pub members_if : Bool → (Members → Members) → Members → Members
members_if is_so ms more = if is_so then ms more else more

-- ---- what a folder has of a game, before other members

-- how many moves are kept, the verdict after them, and what is at fault
abbrev pub kept_members : Option ℕ → Option Verdict → Option EntryFault → Members → Members
kept_members moves verdict fault more =
    member (codes "moves") (count_or_null moves)
    (member (codes "verdict") (text_or_null (option_map verdict_name verdict))
    (member (codes "fault") (text_or_null (option_map fault_words fault)) more))

-- of a record, or that nothing is kept
abbrev pub record_members : Option Records → Members → Members
record_members None = kept_members None None None
record_members (Some r) = kept_members (Some (length r.moves)) r.verdict None

-- the game's name, its start as FEN, and what is kept
abbrev pub side_members : Side → Members → Members
side_members side more =
    member (codes "name") (string side.game.name.items)
    (member (codes "start") (string (fen_of side.game.start))
    (record_members side.kept more))

-- none of it is known; why, where that is this folder's fault
abbrev pub unknown_members : Option EntryFault → Members → Members
unknown_members fault more = member (codes "name") null (member (codes "start") null (kept_members None None fault more))

-- ---- what is found of a game

-- in the first folder
abbrev pub first_members : Look → Members → Members
first_members (look.One side) = side_members side
first_members (look.Both side other compared) = side_members side
first_members (look.AtFault fault) = unknown_members (Some fault)
first_members (look.OtherAtFault fault) = unknown_members None

-- whether both records are equal, by how many moves one is behind, and the first ply at which they part
abbrev pub comparison_members : Option Bool → Option ℕ → Option ℕ → Members → Members
comparison_members agree behind differ more =
    member (codes "agree") (truth_or_null agree) (member (codes "behind") (count_or_null behind) (member (codes "differ") (count_or_null differ) more))

abbrev pub compared_members : Compared → Members → Members
compared_members Agree = comparison_members (Some true) None None
compared_members (Behind more) = comparison_members (Some false) (Some more) None
compared_members Unopened = comparison_members (Some false) None None
compared_members (Differ ply) = comparison_members (Some false) None (Some ply)

-- that isn't looked at
abbrev pub unlooked_members : Members → Members
unlooked_members more = member (codes "other") null (comparison_members None None None more)

-- in the second folder, and what comes of comparing both
abbrev pub second_members : Look → Members → Members
second_members (look.One side) more = unlooked_members more
second_members (look.Both side other compared) more = member (codes "other") (object (side_members other no_members)) (compared_members compared more)
second_members (look.AtFault fault) more = unlooked_members more
second_members (look.OtherAtFault fault) more = member (codes "other") (object (unknown_members (Some fault) no_members)) (comparison_members None None None more)

-- a game: its stamp, and what is found of it; also in the second folder, where two are compared
abbrev pub game_json : Bool → FoundGame → Json
game_json compares f =
    object (member (codes "stamp") (string (encode_lower f.stamp)) (first_members f.look (members_if compares (second_members f.look) no_members)))

abbrev pub games_items : Bool → List FoundGame → Items
games_items compares [] = no_items
games_items compares (f ∷ fs) = item (game_json compares f) (games_items compares fs)

-- ---- how many

-- games, those of each state, and the moves of the first folder's records
abbrev pub totals_members : Totals → Members → Members
totals_members t more =
    member (codes "games") (number (decimal t.sums.games))
    (member (codes "open") (number (decimal t.open_games))
    (member (codes "with_verdict") (number (decimal t.sums.ruled))
    (member (codes "at_fault") (number (decimal t.sums.faults))
    (member (codes "moves") (number (decimal t.moves)) more))))

-- those that differ, and those behind
abbrev pub compared_totals : Totals → Members → Members
compared_totals t more = member (codes "differ") (number (decimal t.sums.differ)) (member (codes "behind") (number (decimal t.behind)) more)

abbrev pub totals_json : Bool → Totals → Json
totals_json compares t = object (totals_members t (members_if compares (compared_totals t) no_members))

-- ---- all of it

-- the games in this order, and how many there are of each kind
abbrev pub status_json : Bool → List FoundGame → Json
status_json compares found =
    object (member (codes "games") (array (games_items compares found)) (member (codes "sums") (totals_json compares (totals_of found)) no_members))
