-- The table of games, its rows, and what they say of games (this project's own).
use Rattle.std.specs.Prelude.{◌≡◌, ◌<◌, ◌^◌, ℕ, pos, negsuc, Bool, true, false, if◌then◌else◌, List, [], ◌∷◌, length, codes, Option, Some, None}
use Rattle.std.specs.List.{AllByRecursion}
use Rattle.std.specs.Str.{bytes_eq}
use Rattle.sqlite.specs.Collation.TheVariants.{Binary}
use Rattle.sqlite.specs.declared.types.Value.{Value}
use Rattle.sqlite.specs.declared.types.Value.TheVariants.{Null, Int, Real, Text, Blob as Bytes}
use Rattle.sqlite.specs.Order.{Row, column, bytes}
use Rattle.sqlite_schema.specs.declared.schema.Column.{Column}
use Rattle.sqlite.specs.Table.{Table}
use Rattle.sqlite.specs.Schema.{Schema}
use Rattle.sqlite.specs.Kind.{Kind}
use Rattle.sqlite.specs.Kind.TheVariants.{Integer, Blob}
use Rattle.sqlite_trees.specs.Tree.{rowid}
use Rattle.sqlite_rules.specs.Keys.{AreConflicts}
use Rattle.sqlite_rules.specs.Edit.{without_all}
use Rattle.sqlite_rules.specs.Calls.{ids_of}
use Rattle.sqlite_trees.specs.Tree.{put_row}
use Rattle.system_io.specs.declared.record_store.Entry.{Entry}
use Rattle.system_io.specs.Records.{StoredRecord, Records}

abbrev pub column_of : List ℕ → Kind → Bool → Column
column_of name kind not_null = record { name = name; kind = kind; is_strict = true; not_null = not_null; default = Null; collation = Binary }

-- the number, the stamp, how many moves the record has, and its bytes
abbrev pub columns : List Column
columns = column_of (codes "id") Integer false ∷ column_of (codes "stamp") Blob true ∷ column_of (codes "count") Integer true ∷ column_of (codes "record") Blob true ∷ []

abbrev pub table : Table
table = record {
  name = codes "game";
  tree = 0;
  columns = columns;
  key = Some 0;
  primary = 0 ∷ [];
  uniques = [];
  orders = [];
  checks = [];
  references = [];
  computed = [];
  stamps = record { places = []; terms = []; formats = [] };
  is_counted = false;
}

abbrev pub game_schema : Schema
game_schema = record { tables = table ∷ []; indexes = []; views = [] }

abbrev pub no_schema : Schema
no_schema = record { tables = []; indexes = []; views = [] }

-- ---- the rows

-- a row is its number, NULL in place of its column, and the other columns
abbrev pub stored_row : ℕ → Entry → Row
stored_row number e = Int (pos number) ∷ Null ∷ Bytes e.stamp ∷ Int (pos e.count) ∷ Bytes e.record.items ∷ []

abbrev pub is_stamp_value : List ℕ → Value → Bool
is_stamp_value stamp Null = false
is_stamp_value stamp (Int n) = false
is_stamp_value stamp (Real x) = false
is_stamp_value stamp (Text t) = false
is_stamp_value stamp (Bytes b) = bytes_eq b stamp

abbrev pub number_in : Value → ℕ
number_in Null = 0
number_in (Int (pos n)) = n
number_in (Int (negsuc n)) = 0
number_in (Real x) = 0
number_in (Text t) = 0
number_in (Bytes b) = 0

abbrev pub game_in : Row → StoredRecord
game_in r = record { count = number_in (column r 3); bytes = bytes (column r 4) }

-- what the rows say of each game
abbrev pub games_in : List Row → Records
games_in [] stamp = None
games_in (r ∷ rows) stamp = if is_stamp_value stamp (column r 2) then Some (game_in r) else games_in rows stamp

-- the numbers of games, by their stamps
abbrev pub Numbers : Type 0
Numbers = List ℕ → Option ℕ

-- no two games have one number
abbrev pub AreApart : Numbers → Type 0
AreApart numbers = (a b : List ℕ) (n : ℕ) → numbers a ≡ Some n → numbers b ≡ Some n → a ≡ b

-- a row of a game, under the game's number
pub record IsRow (numbers : Numbers) (r : Row) : Type 0 where
  pub stamp : List ℕ
  pub number : ℕ
  pub count : ℕ
  pub text : List ℕ
  pub numbered : numbers stamp ≡ Some number
  pub whole : length stamp ≡ 16
  pub low : number < 2 ^ 32
  pub few : count < 2 ^ 32
  pub id_is : rowid r ≡ Int (pos number)
  pub stamp_is : column r 2 ≡ Bytes stamp
  pub count_is : column r 3 ≡ Int (pos count)
  pub text_is : column r 4 ≡ Bytes text

abbrev pub AreRows : Numbers → List Row → Type 0
AreRows numbers = AllByRecursion (IsRow numbers)

-- ---- the statements

abbrev pub create_text : List ℕ
create_text = codes "CREATE TABLE game (id INTEGER PRIMARY KEY, stamp BLOB NOT NULL, count INTEGER NOT NULL, record BLOB NOT NULL) STRICT"

abbrev pub list_text : List ℕ
list_text = codes "SELECT id, stamp, count, record FROM game ORDER BY id"

-- a row as the list shows it
abbrev pub list_row : Row → Row
list_row r = rowid r ∷ column r 2 ∷ column r 3 ∷ column r 4 ∷ []

abbrev pub put_text : List ℕ
put_text = codes "INSERT OR REPLACE INTO game (id, stamp, count, record) VALUES (?1, ?2, ?3, ?4)"

-- the parameters of a put
abbrev pub put_parameters : ℕ → Entry → Row
put_parameters number e = Int (pos number) ∷ Bytes e.stamp ∷ Int (pos e.count) ∷ Bytes e.record.items ∷ []

-- the rows, with this one in place of those with its number
pub record HasPut (new : Row) (old now : List Row) : Type 0 where
  pub found : List Row
  pub are : AreConflicts None [] table old new found
  pub rows : now ≡ put_row new (without_all old (ids_of found))
