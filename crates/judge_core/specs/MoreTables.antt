-- Laws of sets that have more tables. They answer the same, but where the first set misses a table that they have. So tables
-- may be opened one after another, as answers miss them. Functions of src/laws.rt carry these laws.
use Rattle.std.specs.Prelude.{◌≡◌, ◌≤◌, ◌<◌, ◌⊎◌, ◌+◌, ℕ, ℤ, IsFalse, IfSome, is_some, List, length, All, count_by, slice_set, take, Option, Some, None, Result, Ok, Err}
use Rattle.std.specs.List.{AllZip}
use Rattle.board_core.specs.declared.parts.Parts.{Parts}
use Rattle.board_core.specs.declared.moves.Move.{Move}
use Rattle.board_core.specs.ComputedMoves.{legal_moves}
use Rattle.table_file.specs.declared.kind.TableKind.{TableKind}
use Rattle.table_file.specs.declared.kind.TableKind.TheVariants.{Wdl}
use Rattle.table_file.specs.Tables.{Contents}
use Rattle.judge_core.specs.declared.wdl.Wdl.{Wdl as Value}
use Rattle.judge_core.specs.declared.fault.ValueFault.{ValueFault}
use Rattle.judge_core.specs.declared.fault.ValueFault.TheVariants as value
use Rattle.judge_core.specs.declared.fault.ProbeFault.{ProbeFault}
use Rattle.judge_core.specs.declared.fault.ProbeFault.TheVariants.{OutOfScope, NotCovered, Damaged, OutOfMemory}
use Rattle.judge_core.specs.declared.game.GameOutcome.{GameOutcome}
use Rattle.judge_core.specs.declared.probe_result.ProbeResult.{ProbeResult}
use Rattle.judge_core.specs.declared.root_move.RootMove.{RootMove}
use Rattle.judge_core.specs.Tables.{Tables, slot, table_at}
use Rattle.judge_core.specs.Asked.{not_covered}
use Rattle.judge_core.specs.Probing.{wdl_of}
use Rattle.board_core.specs.Ends.{has_no_move}
use Rattle.judge_core.specs.Distances.{dtz_of}
use Rattle.judge_core.specs.Answers.{IsProbe, IsWdlProbe, IsDecisive, signed_in}
use Rattle.judge_core.specs.ProbeResult.{IsProbed}
use Rattle.judge_core.specs.Root.{IsRoot, root_moves}
use Rattle.judge_core.specs.Ruling.{is_out_of_scope, ruling}
use Rattle.judge_core.specs.Games.{Rules, position_after_all, plies_to, IsOutcome}
use Rattle.judge_core.specs.Standings.{Reached, IsAt}

-- the second set has each table of the first
abbrev pub HasAll : Tables → Tables → Type 0
HasAll tables more = (kind : TableKind) (key : ℕ) (t : Contents) → table_at tables kind key ≡ Some t → table_at more kind key ≡ Some t

-- of this kind and this material the second set has no table that the first lacks
abbrev pub AddsNone : Tables → Tables → TableKind → ℕ → Type 0
AddsNone tables more kind key = table_at more kind key ≡ table_at tables kind key

-- ---- final answers

-- the material of which a probe misses a table
abbrev pub missed : {X : Type 0} → Result X ProbeFault → Option ℕ
missed (Ok x) = None
missed (Err OutOfScope) = None
missed (Err (NotCovered key)) = Some key
missed (Err (Damaged key)) = None
missed (Err OutOfMemory) = None

-- A value is final: it misses no table, or the WDL table of a material of which the second set adds none.
abbrev pub IsFinalValue : Tables → Tables → Option ℕ → Type 0
IsFinalValue tables more missing = IfSome missing (AddsNone tables more Wdl)

-- A distance is final: it misses no table, or one of a material of which the second set adds none of either kind.
abbrev pub IsFinalDistance : Tables → Tables → Option ℕ → Type 0
IsFinalDistance tables more missing = IfSome missing (λ key. (kind : TableKind) → AddsNone tables more kind key)

-- A ruling, which doesn't tell what it misses, is final: so is what it looks at. That is the value, where a legal move is left
-- and the position is in scope, and for a win or a loss the distance.
pub record IsFinalRuling (tables more : Tables) (p : Parts) : Type 0 where
  pub value : IsFalse (has_no_move (legal_moves p)) → IsFalse (is_out_of_scope p) → IsFinalValue tables more (not_covered (wdl_of tables p))
  pub distance :
      IsFalse (has_no_move (legal_moves p)) → IsFalse (is_out_of_scope p) → IsDecisive (wdl_of tables p)
      → IsFinalDistance tables more (not_covered (dtz_of tables p))

-- a root move whose value and distance are final
abbrev pub IsFinalMove : Tables → Tables → RootMove → Type 0
IsFinalMove tables more m = IsFinalValue tables more (not_covered m.wdl) × IsFinalDistance tables more (not_covered m.dtz)

-- ---- more tables

-- the same move, with the same value and the same distance where these are final
pub record IsSameMove (tables more : Tables) (m other : RootMove) : Type 0 where
  pub played : other.played ≡ m.played
  pub effect : other.effect ≡ m.effect
  pub state : other.state ≡ m.state
  pub wdl : IsFinalValue tables more (not_covered m.wdl) → other.wdl ≡ m.wdl
  pub dtz : IsFinalDistance tables more (not_covered m.dtz) → other.dtz ≡ m.dtz

-- What the first set answers on a position and is final, the second answers too: values, distances and verdicts, what
-- `Set::wdl`, `Set::dtz` and `Set::answers` return, and root moves, each by itself and all in their order.
pub record AnswersTheSame (tables more : Tables) (p : Parts) : Type 0 where
  pub value : IsFinalValue tables more (not_covered (wdl_of tables p)) → wdl_of more p ≡ wdl_of tables p
  pub distance : IsFinalDistance tables more (not_covered (dtz_of tables p)) → dtz_of more p ≡ dtz_of tables p
  pub verdict : IsFinalRuling tables more p → ruling more p ≡ ruling tables p
  pub wdl : (r : Result Value ProbeFault) → IsWdlProbe tables p r → IsFinalValue tables more (missed r) → IsWdlProbe more p r
  pub dtz :
      (r : Result ℤ ProbeFault) → IsProbe r (is_out_of_scope p) (signed_in (dtz_of tables p)) → IsFinalDistance tables more (missed r)
      → IsProbe r (is_out_of_scope p) (signed_in (dtz_of more p))
  pub answers :
      (probed : ProbeResult) → IsProbed tables p probed → IsFinalValue tables more (missed probed.wdl) → IsFinalDistance tables more (missed probed.dtz)
      → IsProbed more p probed × (ruling more p ≡ ruling tables p)
  pub moves : AllZip (IsSameMove tables more) (root_moves tables p) (root_moves more p)
  pub root : (moves : List RootMove) → IsRoot tables p moves → All (IsFinalMove tables more) moves → IsRoot more p moves

-- A set that has more tables answers the same, but where the first set misses a table that it has.
abbrev pub MoreTablesAnswerTheSame : Type 0
MoreTablesAnswerTheSame = (tables more : Tables) (p : Parts) → HasAll tables more → AnswersTheSame tables more p

-- ---- missing tables

-- The set lacks this table, and each set that has more tables, but not this one, misses it too.
pub record IsMissing {X : Type 0} (answer : Tables → Result X ValueFault) (tables : Tables) (kind : TableKind) (key : ℕ) : Type 0 where
  pub known : key < 145
  pub lacks : table_at tables kind key ≡ None
  pub stays : (more : Tables) → HasAll tables more → table_at more kind key ≡ None → answer more ≡ Err (value.NotCovered key)

-- A table that an answer names as missing is missing, and the answer stays until it is there. For a value it is the WDL table,
-- for a distance one of the two.
abbrev pub WhatIsMissingStaysMissing : Type 0
WhatIsMissingStaysMissing =
    (tables : Tables) (p : Parts) (key : ℕ)
    → (wdl_of tables p ≡ Err (value.NotCovered key) → IsMissing (λ set. wdl_of set p) tables Wdl key)
    × (dtz_of tables p ≡ Err (value.NotCovered key) → (kind : TableKind) × IsMissing (λ set. dtz_of set p) tables kind key)

-- ---- tables that are opened one after another

-- the second set is the first with one table more
pub record IsOneMore (tables more : Tables) (kind : TableKind) (key : ℕ) (t : Contents) : Type 0 where
  pub kept : HasAll tables more
  pub there : table_at more kind key ≡ Some t
  pub within : (whole : Tables) → HasAll tables whole → table_at whole kind key ≡ Some t → HasAll more whole

-- A table that is put into its empty slot, as `Set::add` does, changes nothing else.
abbrev pub AddingKeepsTheRest : Type 0
AddingKeepsTheRest =
    (tables : Tables) (kind : TableKind) (key : ℕ) (t : Contents) → table_at tables kind key ≡ None → slot kind key < length tables
    → IsOneMore tables (slice_set tables (slot kind key) (Some t)) kind key t

-- What is final for the whole set is final for each set between, and stays final there.
abbrev pub FinalStaysFinal : Type 0
FinalStaysFinal =
    (tables more whole : Tables) → HasAll tables more → HasAll more whole
    → ((missing : Option ℕ) → IsFinalValue tables whole missing → IsFinalValue tables more missing × IsFinalValue more whole missing)
    × ((missing : Option ℕ) → IsFinalDistance tables whole missing → IsFinalDistance tables more missing × IsFinalDistance more whole missing)
    × ((p : Parts) → IsFinalRuling tables whole p → IsFinalRuling tables more p × IsFinalRuling more whole p)

-- the second set has a table of this kind and this material that the first lacks
pub record AddsTable (tables more : Tables) (kind : TableKind) (key : ℕ) : Type 0 where
  pub table : Contents
  pub lacks : table_at tables kind key ≡ None
  pub there : table_at more kind key ≡ Some table

-- An answer is final, or the whole set has a table that this set lacks, of the material that the answer names.
abbrev pub WhatIsNotFinalCanBeOpened : Type 0
WhatIsNotFinalCanBeOpened =
    (tables whole : Tables) (missing : Option ℕ) → HasAll tables whole
    → (IsFinalValue tables whole missing ⊎ ((key : ℕ) × (missing ≡ Some key) × AddsTable tables whole Wdl key))
    × (IsFinalDistance tables whole missing ⊎ ((key : ℕ) × (missing ≡ Some key) × (kind : TableKind) × AddsTable tables whole kind key))

-- Sets that are asked one after another. Each is final, or the next one has a table that it lacks; each has the tables of the
-- one before, and none that the whole set lacks.
pub record AreOpened (IsFinal : Tables → Type 0) (whole : Tables) (sets : ℕ → Tables) : Type 0 where
  pub within : (n : ℕ) → HasAll (sets n) whole
  pub kept : (n : ℕ) → HasAll (sets n) (sets (n + 1))
  pub opened : (n : ℕ) → IsFinal (sets n) ⊎ ((kind : TableKind) × (key : ℕ) × AddsTable (sets n) (sets (n + 1)) kind key)

abbrev pub table_count : Tables → ℕ
table_count tables = count_by is_some tables

-- One of them is final. There are no more before it than tables were opened, and no more than slots.
pub record HasLast (IsFinal : Tables → Type 0) (whole : Tables) (sets : ℕ → Tables) : Type 0 where
  pub last : ℕ
  pub final : IsFinal (sets last)
  pub opened : last + table_count (sets 0) ≤ table_count (sets last)
  pub soon : last ≤ length whole

-- Whoever opens a table that an answer misses, and asks again, comes to an answer that is final, and so that of the whole set.
-- Here `missing` is what some answer of a set misses.
abbrev pub AskingAgainEnds : Type 0
AskingAgainEnds =
    (whole : Tables) (sets : ℕ → Tables) (missing : Tables → Option ℕ) (p : Parts)
    → (AreOpened (λ set. IsFinalValue set whole (missing set)) whole sets → HasLast (λ set. IsFinalValue set whole (missing set)) whole sets)
    × (AreOpened (λ set. IsFinalDistance set whole (missing set)) whole sets → HasLast (λ set. IsFinalDistance set whole (missing set)) whole sets)
    × (AreOpened (λ set. IsFinalRuling set whole p) whole sets → HasLast (λ set. IsFinalRuling set whole p) whole sets)

-- ---- games

-- both sets rule the same at each ply up to this one
abbrev pub RulesTheSame : Rules → Tables → List Move → ℕ → Type 0
RulesTheSame rules more moves last =
    (ply : ℕ) (p : Parts) → ply ≤ last → position_after_all rules.start (take ply moves) ≡ Some p → ruling more p ≡ ruling rules.tables p

-- The outcome of a game, and where it stands, depend on the tables by the rulings alone of the plies up to there.
abbrev pub GamesDependOnRulings : Type 0
GamesDependOnRulings =
    (rules : Rules) (more : Tables) (moves : List Move)
    → ((outcome : GameOutcome) → RulesTheSame rules more moves (plies_to moves outcome) → IsOutcome rules moves outcome → IsOutcome (record rules { tables = more }) moves outcome)
    × ((s : Reached) → RulesTheSame rules more moves (length moves) → IsAt rules moves s → IsAt (record rules { tables = more }) moves s)
