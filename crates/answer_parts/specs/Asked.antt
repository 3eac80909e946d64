-- Answers before they are written: the reply that each is (this project's own).
use Rattle.std.specs.Prelude.{map}
use Rattle.answer_parts.specs.declared.answers.Answer.{Answer}
use Rattle.answer_parts.specs.declared.answers.Answer.TheVariants.{Refused, One, Lines, Text, JsonFault}
use Rattle.move_msg.specs.TextLines.{ended, text_of}
use Rattle.json_lines.specs.declared.told.JsonLine.TheVariants as line
use Rattle.answer_parts.specs.JsonAnswers.{json_reply}
use Rattle.answer_parts.specs.Lines.{refusal_words, words_of}
use Rattle.answer_parts.specs.Reply.{Reply, refusal_reply, status_if}

-- the reply that an answer is
abbrev pub reply_of : Answer → Reply
reply_of (Refused refusal) = refusal_reply (refusal_words refusal)
reply_of (One line done) = record { text = ended (words_of line); status = status_if done }
reply_of (Lines lines done) = record { text = text_of (map words_of lines.items); status = status_if done }
reply_of (Text bytes done) = record { text = bytes.items; status = status_if done }
reply_of (JsonFault fault) = json_reply (line.Fault fault)
