-- A message as text (this project's own).
use Rattle.std.specs.Prelude.{ℕ, List, ◌++◌, codes}
use Rattle.std.specs.Fmt.{decimal}
use Rattle.board_core.specs.declared.moves.Move.{Move as Moves}
use Rattle.board_core.specs.declared.verdict.Verdict.{Verdict as Verdicts}
use Rattle.board_core.specs.Verdicts.{verdict_name}
use Rattle.fen_text.specs.Coordinates.{move_text}
use Rattle.move_msg.specs.declared.message.Message.{Message}
use Rattle.move_msg.specs.declared.message.Message.TheVariants.{Move, Ack, Verdict, Fetch}
use Rattle.move_msg.specs.Senders.{who_number, sender_number}

-- of each kind: what it is, its sender's number, its number, and the move, the verdict or how many moves are wanted
abbrev pub move_words : ℕ → ℕ → Moves → List ℕ
move_words sender number m = codes "Move " ++ decimal sender ++ codes " " ++ decimal number ++ codes " " ++ move_text m

abbrev pub ack_words : ℕ → ℕ → List ℕ
ack_words sender count = codes "Ack " ++ decimal sender ++ codes " " ++ decimal count

abbrev pub verdict_message_words : ℕ → ℕ → Verdicts → List ℕ
verdict_message_words sender ply verdict = codes "Verdict " ++ decimal sender ++ codes " " ++ decimal ply ++ codes " " ++ verdict_name verdict

abbrev pub fetch_words : ℕ → ℕ → ℕ → List ℕ
fetch_words sender number wanted = codes "Fetch " ++ decimal sender ++ codes " " ++ decimal number ++ codes " " ++ decimal wanted

-- the words of a message
unfoldable pub message_words : Message → List ℕ
message_words (Move stamp sender number m) = move_words (sender_number sender) number m
message_words (Ack stamp who count) = ack_words (who_number who) count
message_words (Verdict stamp who ply verdict) = verdict_message_words (who_number who) ply verdict
message_words (Fetch stamp who number wanted) = fetch_words (who_number who) number wanted
