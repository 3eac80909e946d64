-- An object of JSON as a reply (RFC 8259; the names of the members are this project's own).
use Rattle.json_lines.specs.declared.told.JsonLine.{JsonLine}
use Rattle.json_lines.specs.Objects.{json_text, line_json}
use Rattle.json_lines.specs.Told.{is_done}
use Rattle.move_msg.specs.TextLines.{ended}
use Rattle.answer_parts.specs.Reply.{Reply, status_if}

-- the reply that an object is
abbrev pub json_reply : JsonLine → Reply
json_reply l = record { text = ended (json_text (line_json l)); status = status_if (is_done l) }
