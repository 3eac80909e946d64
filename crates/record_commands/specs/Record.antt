-- `record FILE`: what a kept record says (this project's own).
use Rattle.std.specs.Prelude.{◌≡◌, ◌++◌, ℕ, List, [], ◌∷◌, Option, codes}
use Rattle.std.specs.Fmt.{decimal}
use Rattle.std.specs.List.{flat_map}
use Rattle.hex.specs.Hex.{encode_lower}
use Rattle.board_core.specs.declared.moves.Move.{Move}
use Rattle.board_core.specs.declared.verdict.Verdict.{Verdict}
use Rattle.fen_text.specs.Coordinates.{move_text}
use Rattle.move_msg.specs.declared.stamp.Stamp.{Stamp}
use Rattle.move_msg.specs.declared.record_bytes.Record.{Record as Records}
use Rattle.move_msg.specs.declared.record_bytes.RecordFault.{RecordFault}
use Rattle.move_msg.specs.Records.{HasRecordLayout, IsFirstRecordFault, SpellsRecord}
use Rattle.move_msg.specs.TextLines.{text_of}
use Rattle.arbiter_server.specs.ServedLines.{verdict_or_none}
use Rattle.record_audit.specs.Findings.{refused_record}
use Rattle.answer_parts.specs.Reply.{Reply, refusal_reply}

-- the lines of a record: its stamp in lower-case hexadecimal digits, its delay, its moves in coordinates, its verdict
abbrev pub stamp_words : Stamp → List ℕ
stamp_words stamp = codes "stamp " ++ encode_lower stamp

abbrev pub delay_words : ℕ → List ℕ
delay_words delay = codes "delay " ++ decimal delay

abbrev pub spaced : List Move → List ℕ
spaced = flat_map (λ m. codes " " ++ move_text m)

abbrev pub moves_words : List Move → List ℕ
moves_words moves = codes "moves" ++ spaced moves

abbrev pub recorded_verdict_words : Option Verdict → List ℕ
recorded_verdict_words verdict = codes "verdict " ++ verdict_or_none verdict

unfoldable pub record_lines : Records → List (List ℕ)
record_lines r = stamp_words r.stamp ∷ delay_words r.delay ∷ moves_words r.moves ∷ recorded_verdict_words r.verdict ∷ []

-- the record that the bytes spell, a line for each of its parts; or the first fault of bytes that spell none
pub data IsReply (bytes : List ℕ) (r : Reply) : Type 0 where
  OfRecord : (q : Records) → SpellsRecord bytes q → r ≡ record { text = text_of (record_lines q); status = 0 } → IsReply bytes r
  OfNone : (fault : RecordFault) → IsFirstRecordFault bytes fault → r ≡ refusal_reply (refused_record fault) → IsReply bytes r

-- only what is laid out as a record takes memory
abbrev pub RecordTakesMemory : List ℕ → Type 0
RecordTakesMemory = HasRecordLayout
