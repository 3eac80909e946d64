-- Two records of one game that are compared by the files alone (this project's own).
use Rattle.std.specs.Prelude.{◌≡◌, ◌<◌, ◌+◌, ◌⊎◌, ◌++◌, ℕ, List, Option, Some, None, length, take, codes}
use Rattle.std.specs.Fmt.{decimal}
use Rattle.board_core.specs.declared.verdict.Verdict.{Verdict}
use Rattle.move_msg.specs.declared.record_bytes.Record.{Record as Records}
use Rattle.record_audit.specs.Findings.{AreCompared, AreOfOneGame}
use Rattle.game_status.specs.declared.comparing.Compared.{Compared}
use Rattle.game_status.specs.declared.comparing.Compared.TheVariants.{Agree, Behind, Unopened, Differ}
use Rattle.game_status.specs.declared.telling.Mark.{Mark}
use Rattle.game_status.specs.declared.telling.Mark.TheVariants as mark

-- they are of one game; the first has no verdict, and its moves are the first ones of the other, which has so many more, at least one
pub record IsBehind (r s : Records) (more : ℕ) : Type 0 where
  pub game : AreOfOneGame r s
  pub unruled : r.verdict ≡ None
  pub moves : take (length r.moves) s.moves ≡ r.moves
  pub count : length s.moves ≡ length r.moves + more
  pub some : 0 < more

-- the game, the moves and the verdict are the same; or one is behind; or neither is, and this is the first ply at which they part
abbrev pub IsRecordsComparedAs : Records → Records → Compared → Type 0
IsRecordsComparedAs r s Agree = AreCompared r s None
IsRecordsComparedAs r s (Behind more) = IsBehind r s more ⊎ IsBehind s r more
IsRecordsComparedAs r s Unopened = ⊥
IsRecordsComparedAs r s (Differ ply) = AreCompared r s (Some ply) × ((more : ℕ) → IsBehind r s more ⊎ IsBehind s r more → ⊥)

-- the only record of a game: the other folder is behind by all its moves, or the record has none
abbrev pub IsAlone : Records → Compared → Type 0
IsAlone r Agree = ⊥
IsAlone r (Behind more) = (more ≡ length r.moves) × (0 < more)
IsAlone r Unopened = length r.moves ≡ 0
IsAlone r (Differ ply) = ⊥

-- so it is with what two folders keep of a game
abbrev pub IsComparedAs : Option Records → Option Records → Compared → Type 0
IsComparedAs None None compared = compared ≡ Agree
IsComparedAs (Some r) None compared = IsAlone r compared
IsComparedAs None (Some s) compared = IsAlone s compared
IsComparedAs (Some r) (Some s) compared = IsRecordsComparedAs r s compared

abbrev pub compared_words : Compared → List ℕ
compared_words Agree = codes "agree"
compared_words (Behind more) = codes "behind " ++ decimal more
compared_words Unopened = codes "unopened"
compared_words (Differ ply) = codes "differ " ++ decimal ply

-- ---- how the game is counted

abbrev pub mark_by : Option Verdict → Mark
mark_by None = mark.Open
mark_by (Some verdict) = mark.Ruled

abbrev pub mark_of : Option Records → Mark
mark_of None = mark.Open
mark_of (Some r) = mark_by r.verdict

abbrev pub mark_of_two : Option Records → Compared → Mark
mark_of_two kept Agree = mark_of kept
mark_of_two kept (Behind more) = mark.Open
mark_of_two kept Unopened = mark.Open
mark_of_two kept (Differ ply) = mark.Differs
