-- What a caller is told, as a status and a number. Status 0 is an answer. Of the others, 1 is a closed handle, 2 a position out of
-- scope, 3 a table that is missing, 4 one that is damaged, 5 memory that was refused, 6 no game; 16 to 21 a text that is no FEN text,
-- 32 to 38 one that spells no position, 64 to 74 a file that is no table; 80 a table that is there already, 81 a cache of no or too many
-- blocks, 82 two lengths that differ, 83 no room; 84 a game that has a verdict, 85 no move, 86 a move that isn't legal, 87 a delay above 8,
-- 88 a text that is so of two legal moves.
use Rattle.std.specs.Prelude.{◌≡◌, ◌≢◌, ◌⊎◌, ℕ, ℤ, List, pos, Option, Some, None, Result, Ok, Err}
use Rattle.board_core.specs.declared.parts.Parts.{Parts}
use Rattle.board_core.specs.declared.position.PositionFault.{PositionFault}
use Rattle.board_core.specs.declared.position.PositionFault.TheVariants.{BadKings, TooManyMen, PawnOnEdge, BadCastling, BadEnPassant, OpponentInCheck, BadCounter}
use Rattle.board_core.specs.declared.verdict.Verdict.{Verdict}
use Rattle.board_core.specs.Verdicts.{verdict_code}
use Rattle.board_core.specs.Position.{IsPosition, IsFirstFault}
use Rattle.fen_text.specs.Fen.{SpellsPosition, IsFirstFenFault}
use Rattle.fen_text.specs.declared.fault.FenFault.{FenFault}
use Rattle.fen_text.specs.declared.fault.FenFault.TheVariants.{FieldCount, BadPlacement, BadSide, BadCastlingText, BadSquare, BadNumber, BadPosition}
use Rattle.table_file.specs.declared.fault.TableFault.{TableFault}
use Rattle.table_file.specs.declared.fault.TableFault.TheVariants.{BadName, BadSize, BadMagic, BadFlags, BadPieces, BadOrder, Truncated, BadExponent, BadCode, BadSymbol, BadSparse, OutOfMemory}
use Rattle.judge_core.specs.declared.wdl.Wdl.{Wdl}
use Rattle.judge_core.specs.declared.fault.ProbeFault.{ProbeFault}
use Rattle.judge_core.specs.declared.fault.ProbeFault.TheVariants.{OutOfScope, NotCovered, Damaged, OutOfMemory as NoMemory}
use Rattle.judge_core.specs.Answers.{IsProbe, ListsMoves, ListsMovesForVerdict, signed_in}
use Rattle.judge_core.specs.Determined.{IsDeterminedWdl, IsDeterminedDtz, ListsMovesDetermined}
use Rattle.judge_core.specs.Distances.{dtz_of}
use Rattle.judge_core.specs.Known.{IsKnownProbe}
use Rattle.judge_core.specs.Probing.{wdl_of}
use Rattle.judge_core.specs.Ruling.{is_out_of_scope, ruling}
use Rattle.judge_core.specs.Tables.{Tables}
use Rattle.judge_core.specs.ProbeResult.{numbered}
use Rattle.probe_api.specs.Boards.{shown}
use Rattle.probe_api.specs.declared.board.Board.{Board}
use Rattle.probe_api.specs.declared.asking.Question.{Question}
use Rattle.probe_api.specs.declared.asking.Question.TheVariants.{Wdl as AsksWdl, Dtz as AsksDtz, Verdict as AsksVerdict, KnownWdl as AsksKnownWdl, DeterminedWdl as AsksDeterminedWdl, DeterminedDtz as AsksDeterminedDtz}
use Rattle.probe_api.specs.declared.reply.Reply.{Reply}

abbrev pub told : ℤ → Reply
told n = record { status = 0; value = n }

abbrev pub refused : ℕ → Reply
refused s = record { status = s; value = pos 0 }

-- there is no room for so many
abbrev pub short : ℤ → Reply
short n = record { status = 83; value = n }

-- what a probe answers
abbrev pub probe_reply : Result ℤ ProbeFault → Reply
probe_reply (Ok n) = told n
probe_reply (Err OutOfScope) = refused 2
probe_reply (Err (NotCovered key)) = refused 3
probe_reply (Err (Damaged key)) = refused 4
probe_reply (Err NoMemory) = refused 5

-- a verdict's number, as in messages, and 0 where the game goes on
abbrev pub verdict_number : Option Verdict → ℕ
verdict_number None = 0
verdict_number (Some verdict) = verdict_code verdict

abbrev pub position_status : PositionFault → ℕ
position_status BadKings = 32
position_status TooManyMen = 33
position_status PawnOnEdge = 34
position_status BadCastling = 35
position_status BadEnPassant = 36
position_status OpponentInCheck = 37
position_status BadCounter = 38

abbrev pub fen_status : FenFault → ℕ
fen_status FieldCount = 16
fen_status BadPlacement = 17
fen_status BadSide = 18
fen_status BadCastlingText = 19
fen_status BadSquare = 20
fen_status BadNumber = 21
fen_status (BadPosition fault) = position_status fault

-- what is asked of a position: the caller is told the WDL value,
pub record TellsWdl (tables : Tables) (p : Parts) (reply : Reply) : Type 0 where
  pub wdl : Result Wdl ProbeFault
  pub answered : wdl ≢ Err NoMemory
  pub is : IsProbe wdl (is_out_of_scope p) (wdl_of tables p)
  pub told : reply ≡ probe_reply (numbered wdl)

-- the distance in plies,
pub record TellsDtz (tables : Tables) (p : Parts) (reply : Reply) : Type 0 where
  pub dtz : Result ℤ ProbeFault
  pub is : IsProbe dtz (is_out_of_scope p) (signed_in (dtz_of tables p))
  pub memory : dtz ≡ Err NoMemory → ListsMoves tables p
  pub told : reply ≡ probe_reply dtz

-- the verdict, unless memory for a list of moves was refused,
pub record TellsVerdict (tables : Tables) (p : Parts) (reply : Reply) : Type 0 where
  pub told : reply ≢ refused 5 → reply ≡ told (pos (verdict_number (ruling tables p)))
  pub memory : reply ≡ refused 5 → ListsMovesForVerdict tables p

-- the value as soon as it is known, which a capture that wins is whatever is missing or damaged elsewhere,
pub record TellsKnownWdl (tables : Tables) (p : Parts) (reply : Reply) : Type 0 where
  pub wdl : Result Wdl ProbeFault
  pub is : IsKnownProbe tables p wdl
  pub told : reply ≡ probe_reply (numbered wdl)

-- the value that is the same whatever the missing tables hold, the set's own where it has one,
pub record TellsDeterminedWdl (tables : Tables) (p : Parts) (reply : Reply) : Type 0 where
  pub wdl : Result Wdl ProbeFault
  pub is : IsDeterminedWdl tables p wdl
  pub told : reply ≡ probe_reply (numbered wdl)

-- and such a distance, wherever one is told
pub record TellsDeterminedDtz (tables : Tables) (p : Parts) (reply : Reply) : Type 0 where
  pub dtz : Result ℤ ProbeFault
  pub is : IsDeterminedDtz tables p dtz
  pub memory : dtz ≡ Err NoMemory → ListsMovesDetermined tables p
  pub told : reply ≡ probe_reply dtz

abbrev pub Tells : Question → Tables → Parts → Reply → Type 0
Tells AsksWdl tables p reply = TellsWdl tables p reply
Tells AsksDtz tables p reply = TellsDtz tables p reply
Tells AsksVerdict tables p reply = TellsVerdict tables p reply
Tells AsksKnownWdl tables p reply = TellsKnownWdl tables p reply
Tells AsksDeterminedWdl tables p reply = TellsDeterminedWdl tables p reply
Tells AsksDeterminedDtz tables p reply = TellsDeterminedDtz tables p reply

-- what the caller is told of a text: of the position that it spells, or the first fault; and each text has one of these
pub record TellsText (question : Question) (tables : Tables) (text : List ℕ) (reply : Reply) : Type 0 where
  pub position : (p : Parts) → IsPosition p → SpellsPosition text p → Tells question tables p reply
  pub fault : (fault : FenFault) → IsFirstFenFault text fault → reply ≡ refused (fen_status fault)
  pub one : ((p : Parts) × IsPosition p × SpellsPosition text p) ⊎ ((fault : FenFault) × IsFirstFenFault text fault)

-- what the caller is told of a board: of the position that it shows, or the first fault of what it shows
pub record TellsBoard (question : Question) (tables : Tables) (board : Board) (reply : Reply) : Type 0 where
  pub position : IsPosition (shown board) → Tells question tables (shown board) reply
  pub fault : (fault : PositionFault) → IsFirstFault (shown board) fault → reply ≡ refused (position_status fault)
  pub one : IsPosition (shown board) ⊎ ((fault : PositionFault) × IsFirstFault (shown board) fault)

abbrev pub table_status : TableFault → ℕ
table_status BadName = 64
table_status BadSize = 65
table_status BadMagic = 66
table_status BadFlags = 67
table_status BadPieces = 68
table_status BadOrder = 69
table_status Truncated = 70
table_status BadExponent = 71
table_status BadCode = 72
table_status BadSymbol = 73
table_status BadSparse = 74
table_status OutOfMemory = 5
