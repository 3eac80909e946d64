use Rattle.std.proofs.Common.{List, ap, ℕ}
use Rattle.json_lines.specs.Objects.{error_json, json_text}
use Rattle.table_commands.proofs.json_answers.refused_line.Goals as goal

pub returns-clause-text : goal.returns-clause-text
returns-clause-text c = ap (λ (words : List ℕ). json_text (error_json words)) c.refused_words.ensures
