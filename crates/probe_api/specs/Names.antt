-- The names of statuses and verdicts: those by which the program tells them, where it tells them too.
use Rattle.std.specs.Prelude.{ℕ, List, [], ◌∷◌, cond, nat_eq, codes}
use Rattle.board_core.specs.Position.{fault_name as position_name}
use Rattle.board_core.specs.Verdicts.{verdict_name as name_of_verdict}
use Rattle.board_core.specs.declared.position.PositionFault.TheVariants.{BadKings, TooManyMen, PawnOnEdge, BadCastling, BadEnPassant, OpponentInCheck, BadCounter}
use Rattle.board_core.specs.declared.verdict.Verdict.TheVariants.{WhiteMates, BlackMates, Stalemate, TableDraw, TableWhite, TableBlack, Stopped}
use Rattle.fen_text.specs.Fen.{fen_fault_name as text_name}
use Rattle.fen_text.specs.declared.fault.FenFault.TheVariants.{FieldCount, BadPlacement, BadSide, BadCastlingText, BadSquare, BadNumber}
use Rattle.table_file.specs.Faults.{table_fault_name}
use Rattle.table_file.specs.declared.fault.TableFault.TheVariants.{BadName, BadSize, BadMagic, BadFlags, BadPieces, BadOrder, Truncated, BadExponent, BadCode, BadSymbol, BadSparse}
use Rattle.judge_core.specs.Answers.{probe_fault_name}
use Rattle.judge_core.specs.declared.fault.ProbeFault.TheVariants.{OutOfScope, NotCovered, Damaged, OutOfMemory}

abbrev pub name_in : List (ℕ × List ℕ) → ℕ → List ℕ
name_in [] n = []
name_in (row ∷ rows) n = cond (nat_eq n row.0) row.1 (name_in rows n)

-- the faults of a table file, and what a set, a buffer or a game refuses
abbrev pub refusal_names : List (ℕ × List ℕ)
refusal_names =
    (64, table_fault_name BadName) ∷ (65, table_fault_name BadSize) ∷ (66, table_fault_name BadMagic) ∷ (67, table_fault_name BadFlags) ∷ (68, table_fault_name BadPieces) ∷ (69, table_fault_name BadOrder) ∷
    (70, table_fault_name Truncated) ∷ (71, table_fault_name BadExponent) ∷ (72, table_fault_name BadCode) ∷ (73, table_fault_name BadSymbol) ∷ (74, table_fault_name BadSparse) ∷
    (80, codes "Duplicate") ∷ (81, codes "BadCache") ∷ (82, codes "LengthsDiffer") ∷ (83, codes "NoRoom") ∷ (84, codes "GameOver") ∷ (85, codes "BadMove") ∷ (86, codes "IllegalMove") ∷ (87, codes "BadDelay") ∷ (88, codes "AmbiguousMove") ∷ []

-- an answer and why there is none; the faults of a text and of the position that it spells; and those
abbrev pub status_names : List (ℕ × List ℕ)
status_names =
    (0, codes "Ok") ∷ (1, codes "HandleClosed") ∷ (2, probe_fault_name OutOfScope) ∷ (3, probe_fault_name (NotCovered 0)) ∷ (4, probe_fault_name (Damaged 0)) ∷ (5, probe_fault_name OutOfMemory) ∷ (6, codes "GameClosed") ∷
    (16, text_name FieldCount) ∷ (17, text_name BadPlacement) ∷ (18, text_name BadSide) ∷ (19, text_name BadCastlingText) ∷ (20, text_name BadSquare) ∷ (21, text_name BadNumber) ∷
    (32, position_name BadKings) ∷ (33, position_name TooManyMen) ∷ (34, position_name PawnOnEdge) ∷ (35, position_name BadCastling) ∷ (36, position_name BadEnPassant) ∷ (37, position_name OpponentInCheck) ∷ (38, position_name BadCounter) ∷
    refusal_names

-- the name of a status, and nothing where no status has this number
unfoldable pub status_name : ℕ → List ℕ
status_name n = name_in status_names n

-- the verdicts by their numbers in messages, and 0 where the game goes on
abbrev pub verdict_names : List (ℕ × List ℕ)
verdict_names =
    (0, codes "open") ∷ (1, name_of_verdict WhiteMates) ∷ (2, name_of_verdict BlackMates) ∷ (3, name_of_verdict Stalemate) ∷ (4, name_of_verdict TableDraw) ∷
    (5, name_of_verdict TableWhite) ∷ (6, name_of_verdict TableBlack) ∷ (7, name_of_verdict Stopped) ∷ []

-- the name of a verdict by its number, and nothing where none has it
unfoldable pub numbered_verdict_name : ℕ → List ℕ
numbered_verdict_name n = name_in verdict_names n
