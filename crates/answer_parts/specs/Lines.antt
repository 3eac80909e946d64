-- The lines that the program writes (this project's own).
use Rattle.std.specs.Prelude.{ℕ, ℤ, List, ◌++◌, Option, Some, None, Result, Ok, Err, codes, if◌then◌else◌, ◌∷◌}
use Rattle.std.specs.Net.Text.{socket_text}
use Rattle.std.specs.declared.net.socket_addr.SocketAddr.{SocketAddr}
use Rattle.std.specs.Fmt.{decimal}
use Rattle.board_core.specs.Position.{fault_name as position_fault_name}
use Rattle.fen_text.specs.declared.fault.FenFault.{FenFault}
use Rattle.fen_text.specs.declared.fault.FenFault.TheVariants as fen
use Rattle.fen_text.specs.Fen.{fen_fault_name}
use Rattle.fen_text.specs.Coordinates.{move_text}
use Rattle.judge_core.specs.declared.fault.ProbeFault.{ProbeFault}
use Rattle.judge_core.specs.declared.probe_result.ProbeResult.{ProbeResult}
use Rattle.judge_core.specs.declared.root_move.BoardState.{BoardState}
use Rattle.judge_core.specs.declared.root_move.BoardState.TheVariants.{Open, Check, Checkmate, Stalemate}
use Rattle.judge_core.specs.declared.root_move.Effect.{Effect}
use Rattle.judge_core.specs.declared.root_move.RootMove.{RootMove}
use Rattle.judge_core.specs.Answers.{as_probe}
use Rattle.judge_core.specs.ProbeResult.{wdl_number}
use Rattle.judge_core.specs.Root.{zeroes_clock}
use Rattle.judge_core.specs.Words.{column_words, columns_words, outcome_words, verdict_words}
use Rattle.move_msg.specs.declared.message.MessageFault.{MessageFault}
use Rattle.move_msg.specs.Messages.{message_fault_name}
use Rattle.move_msg.specs.MessageWords.{message_words}
use Rattle.record_audit.specs.Findings.{finding_words, refused_record}
use Rattle.line_teller.specs.ToldLines.{refused_files, refused_memory}
use Rattle.move_msg.specs.declared.arbiter_id.ArbiterId.{ArbiterId}
use Rattle.relay_world.specs.declared.world.State.{State}
use Rattle.relay_world.specs.declared.world.State.TheVariants as state
use Rattle.relay_world.specs.Texts.{who_word}
use Rattle.arbiter_server.specs.ServedLines.{refused_keeper, refused_port, verdict_or_none, refused_store}
use Rattle.table_folder.specs.declared.fault.FileFault.{FileFault}
use Rattle.table_folder.specs.Faults.{file_fault_name}
use Rattle.answer_parts.specs.declared.answers.lines.KeptCount.{KeptCount}
use Rattle.answer_parts.specs.declared.answers.lines.Line.{Line}
use Rattle.answer_parts.specs.declared.answers.lines.RootLine.{RootLine}
use Rattle.answer_parts.specs.declared.answers.lines.Line.TheVariants as line
use Rattle.answer_parts.specs.declared.answers.refusals.EntryFault.{EntryFault}
use Rattle.answer_parts.specs.declared.answers.refusals.EntryFault.TheVariants as entry
use Rattle.answer_parts.specs.declared.answers.refusals.Refusal.{Refusal}
use Rattle.answer_parts.specs.declared.answers.refusals.Refusal.TheVariants as refusal

-- ---- names

-- the fault of a text, with that of the position after it where the text spells its parts
abbrev pub fault_text : FenFault → List ℕ
fault_text (fen.BadPosition fault) = codes "BadPosition " ++ position_fault_name fault
fault_text fen.FieldCount = fen_fault_name fen.FieldCount
fault_text fen.BadPlacement = fen_fault_name fen.BadPlacement
fault_text fen.BadSide = fen_fault_name fen.BadSide
fault_text fen.BadCastlingText = fen_fault_name fen.BadCastlingText
fault_text fen.BadSquare = fen_fault_name fen.BadSquare
fault_text fen.BadNumber = fen_fault_name fen.BadNumber

-- why the game of a line isn't entered
abbrev pub entry_fault_words : EntryFault → List ℕ
entry_fault_words entry.Fields = codes "fields"
entry_fault_words entry.Name = codes "name"
entry_fault_words (entry.Start fault) = fault_text fault
entry_fault_words entry.Delay = codes "delay"
entry_fault_words entry.Keeper = codes "keeper"
entry_fault_words entry.Exists = codes "exists"

-- ---- lines

abbrev pub refused_fen : FenFault → List ℕ
refused_fen fault = codes "refused FEN " ++ fault_text fault

-- what a probe tells, or why it tells nothing
abbrev pub told_words : List ℕ → Result ℤ ProbeFault → List ℕ
told_words question told = question ++ codes " " ++ column_words told

-- the refusal of a manifest by the number of its first line at fault, and of a file
abbrev pub refused_manifest : ℕ → List ℕ
refused_manifest number = codes "refused manifest " ++ decimal number

-- the refusal of a file of keys: others may use it, or its line with this number is malformed
abbrev pub refused_shared_key : List ℕ
refused_shared_key = codes "refused key shared"

abbrev pub refused_key : ℕ → List ℕ
refused_key number = codes "refused key " ++ decimal number

abbrev pub refused_file : List ℕ → List ℕ → List ℕ
refused_file name word = codes "refused " ++ name ++ codes " " ++ word

-- a name, and what was found there
abbrev pub look_word : Option FileFault → List ℕ
look_word None = codes "ok"
look_word (Some fault) = file_fault_name fault

abbrev pub look_words : List ℕ → Option FileFault → List ℕ
look_words name fault = name ++ codes " " ++ look_word fault

-- what is wrong with a message; nothing where the stream ends inside it
abbrev pub message_fault : Option MessageFault → List ℕ
message_fault None = codes "Cut"
message_fault (Some fault) = message_fault_name fault

-- the refusal of a message by its number, the first being 1
abbrev pub refused_message : ℕ → List ℕ → List ℕ
refused_message number name = codes "refused message " ++ decimal number ++ codes " " ++ name

-- how an arbiter is
abbrev pub state_word : State → List ℕ
state_word state.Running = codes "running"
state_word state.Down = codes "down"
state_word state.Closed = codes "closed"

-- an arbiter: its letter, how it is, how many moves it keeps and its verdict
unfoldable pub arbiter_words : ArbiterId → State → Option KeptCount → List ℕ
arbiter_words who state None = who_word who ++ codes " " ++ state_word state ++ codes " - none"
arbiter_words who state (Some kept) =
    who_word who ++ codes " " ++ state_word state ++ codes " " ++ decimal kept.count ++ codes " " ++ verdict_or_none kept.verdict

-- the address at which datagrams come
abbrev pub ready_words : SocketAddr → List ℕ
ready_words own = codes "ready " ++ socket_text own

-- how many messages were sent
abbrev pub sent_words : ℕ → List ℕ
sent_words number = codes "sent " ++ decimal number

-- the refusal of a word that is no move by its place, the first being 0
abbrev pub refused_move : ℕ → List ℕ
refused_move place = codes "refused move " ++ decimal place

-- the refusal of a schedule by the number of its first line at fault
abbrev pub refused_line : ℕ → List ℕ
refused_line number = codes "refused line " ++ decimal number

-- a game has to be new, and its file is there
abbrev pub refused_exists : List ℕ
refused_exists = codes "refused exists"

-- the refusal of a game of a list by the number of its line, the first being 1
abbrev pub refused_entry : ℕ → EntryFault → List ℕ
refused_entry number fault = refused_line number ++ codes " " ++ entry_fault_words fault

-- the refusal of what another process has
abbrev pub refused_in_use : List ℕ
refused_in_use = codes "refused in use"

-- why something is refused
abbrev pub refusal_words : Refusal → List ℕ
refusal_words (refusal.Fen fault) = refused_fen fault
refusal_words (refusal.Manifest number) = refused_manifest number
refusal_words (refusal.File name fault) = refused_file name.bytes (file_fault_name fault)
refusal_words (refusal.Message number fault) = refused_message number (message_fault fault)
refusal_words (refusal.Line number) = refused_line number
refusal_words (refusal.Entry number fault) = refused_entry number fault
refusal_words (refusal.Move place) = refused_move place
refusal_words (refusal.Record fault) = refused_record fault
refusal_words refusal.Port = refused_port
refusal_words refusal.Keeper = refused_keeper
refusal_words refusal.Exists = refused_exists
refusal_words refusal.InUse = refused_in_use
refusal_words refusal.Store = refused_store
refusal_words refusal.Files = refused_files
refusal_words refusal.SharedKey = refused_shared_key
refusal_words (refusal.Key number) = refused_key number
refusal_words refusal.Memory = refused_memory

-- two records are the same, or part at a ply
abbrev pub agreement_words : Option ℕ → List ℕ
agreement_words None = codes "agree"
agreement_words (Some ply) = codes "differ " ++ decimal ply

-- a legal move: mate or stalemate, or whether it sets the halfmove clock to 0
abbrev pub mark_word : BoardState → Effect → List ℕ
mark_word Checkmate effect = codes "mate"
mark_word Stalemate effect = codes "stalemate"
mark_word Open effect = if zeroes_clock effect then codes "zeroing" else codes "-"
mark_word Check effect = if zeroes_clock effect then codes "zeroing" else codes "-"

-- its value, its distance and that word, or why it has no value
abbrev pub valued_words : List ℕ → Result ℤ ProbeFault → Result ℤ ProbeFault → List ℕ → List ℕ
valued_words played (Ok v) dtz mark = played ++ codes " " ++ column_words (Ok v) ++ codes " " ++ column_words dtz ++ codes " " ++ mark
valued_words played (Err fault) dtz mark = told_words played (Err fault)

unfoldable pub root_line_words : RootLine → List ℕ
root_line_words l = valued_words (move_text l.played) l.probed.wdl l.probed.dtz (mark_word l.state l.effect)

-- its value and its distance as numbers
abbrev pub probed_of : RootMove → ProbeResult
probed_of m = record { wdl = as_probe wdl_number m.wdl; dtz = as_probe (λ n. n) m.dtz }

-- a legal move and what tables tell of it
abbrev pub root_words : RootMove → List ℕ
root_words m = root_line_words (record { played = m.played; effect = m.effect; state = m.state; probed = probed_of m })

abbrev pub words_of : Line → List ℕ
words_of (line.Ruling verdict) = verdict_words verdict
words_of (line.Refused why) = refusal_words why
words_of (line.Move m) = move_text m
words_of (line.SanMove m text) = move_text m ++ 9 ∷ text.bytes
words_of (line.Look name fault) = look_words name.bytes fault
words_of (line.Wdl told) = told_words (codes "wdl") told.0
words_of (line.Dtz told) = told_words (codes "dtz") told.0
words_of (line.Message m) = message_words m
words_of (line.Arbiter who state kept) = arbiter_words who state kept
words_of (line.Sent number) = sent_words number
words_of (line.Finding finding) = finding_words finding
words_of (line.Compared compared) = agreement_words compared
words_of (line.Outcome o) = outcome_words o.outcome o.plies
words_of (line.Value told) = column_words told.0
words_of (line.Columns c) = columns_words c.probed.wdl c.probed.dtz c.verdict
words_of (line.Root l) = root_line_words l
