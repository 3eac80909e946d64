-- The tables that probes miss.
use Rattle.std.specs.Prelude.{◌≡◌, ◌⊎◌, ℕ, ℤ, List, [], Result, Ok, Err}
use Rattle.board_core.specs.declared.parts.Parts.{Parts}
use Rattle.board_core.specs.declared.position.PositionFault.{PositionFault}
use Rattle.board_core.specs.Position.{IsPosition, IsFirstFault}
use Rattle.place_index.specs.Material.{name_of, men_of}
use Rattle.judge_core.specs.declared.wdl.Wdl.{Wdl}
use Rattle.judge_core.specs.declared.fault.ProbeFault.{ProbeFault}
use Rattle.judge_core.specs.declared.fault.ProbeFault.TheVariants.{OutOfScope, NotCovered, Damaged, OutOfMemory}
use Rattle.judge_core.specs.Answers.{IsProbe, IsWdlProbe, ListsMoves, signed_in}
use Rattle.judge_core.specs.Distances.{dtz_of}
use Rattle.judge_core.specs.Known.{IsKnownProbe}
use Rattle.judge_core.specs.Ruling.{is_out_of_scope}
use Rattle.judge_core.specs.Tables.{Tables}
use Rattle.probe_api.specs.Boards.{shown}
use Rattle.probe_api.specs.Texts.{PutsText}
use Rattle.probe_api.specs.declared.board.Board.{Board}

-- the name of the material of which a probe misses a table; empty where it misses none
abbrev pub missing_name : {X : Type 0} → Result X ProbeFault → List ℕ
missing_name (Ok v) = []
missing_name (Err OutOfScope) = []
missing_name (Err (NotCovered key)) = name_of (men_of key)
missing_name (Err (Damaged key)) = []
missing_name (Err OutOfMemory) = []

-- of the WDL probe of a position
pub record PutsMissingOf (tables : Tables) (p : Parts) (old : List ℕ) (told : ℕ) (new : List ℕ) : Type 0 where
  pub wdl : Result Wdl ProbeFault
  pub probe : IsWdlProbe tables p wdl
  pub put : PutsText (missing_name wdl) old told new

-- of the WDL probe of the position that a board shows; the name is empty where it shows none
pub record PutsMissing (tables : Tables) (board : Board) (old : List ℕ) (told : ℕ) (new : List ℕ) : Type 0 where
  pub position : IsPosition (shown board) → PutsMissingOf tables (shown board) old told new
  pub fault : (fault : PositionFault) → IsFirstFault (shown board) fault → PutsText [] old told new
  pub one : IsPosition (shown board) ⊎ ((fault : PositionFault) × IsFirstFault (shown board) fault)

-- of the probe of a position that ends at a capture that wins
pub record PutsKnownMissingOf (tables : Tables) (p : Parts) (old : List ℕ) (told : ℕ) (new : List ℕ) : Type 0 where
  pub wdl : Result Wdl ProbeFault
  pub probe : IsKnownProbe tables p wdl
  pub put : PutsText (missing_name wdl) old told new

-- ... of the position that a board shows; the name is empty where it shows none
pub record PutsKnownMissing (tables : Tables) (board : Board) (old : List ℕ) (told : ℕ) (new : List ℕ) : Type 0 where
  pub position : IsPosition (shown board) → PutsKnownMissingOf tables (shown board) old told new
  pub fault : (fault : PositionFault) → IsFirstFault (shown board) fault → PutsText [] old told new
  pub one : IsPosition (shown board) ⊎ ((fault : PositionFault) × IsFirstFault (shown board) fault)

-- of the DTZ probe of a position: its own table or another one, of either kind; memory is refused only where moves are listed
pub record PutsDtzMissingOf (tables : Tables) (p : Parts) (old : List ℕ) (told : ℕ) (new : List ℕ) : Type 0 where
  pub dtz : Result ℤ ProbeFault
  pub probe : IsProbe dtz (is_out_of_scope p) (signed_in (dtz_of tables p))
  pub memory : dtz ≡ Err OutOfMemory → ListsMoves tables p
  pub put : PutsText (missing_name dtz) old told new

-- of the DTZ probe of the position that a board shows; the name is empty where it shows none
pub record PutsDtzMissing (tables : Tables) (board : Board) (old : List ℕ) (told : ℕ) (new : List ℕ) : Type 0 where
  pub position : IsPosition (shown board) → PutsDtzMissingOf tables (shown board) old told new
  pub fault : (fault : PositionFault) → IsFirstFault (shown board) fault → PutsText [] old told new
  pub one : IsPosition (shown board) ⊎ ((fault : PositionFault) × IsFirstFault (shown board) fault)
