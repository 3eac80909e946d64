use Rattle.std.proofs.Common.{◌∙◌, sym}
use Rattle.std.proofs.lemmas.Bool.{false≢true}
use Rattle.answer_commands.proofs.store_reading.ask_once.Goals.{in-Unasked, in_default}
use Rattle.answer_commands.proofs.store_reading.ask_once.Goals as goal

pub returns-then-matches : goal.returns-then-matches
returns-then-matches g c = elim c.match-matches.branch [ in-Unasked w ↦ rw w.in-Unasked.is c.ask.ensures | in_default w ↦ absurd (false≢true (sym w.matches-is ∙ c.if-matches.true)) ]
