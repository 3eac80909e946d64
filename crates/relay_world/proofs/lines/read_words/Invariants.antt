use Rattle.std.proofs.Common.{◌≤◌, length}
use Rattle.fen_text.specs.Cuts.{cut_at}
use Rattle.relay_world.proofs.Reading.{AreLeft}
use Rattle.relay_world.proofs.lines.read_words.Given as goal

abbrev pub invariant-loop-word : goal.invariant-loop-word
invariant-loop-word l = AreLeft l.fn.text l.rest l.moves.items × (length l.moves.items ≤ 4095)

abbrev pub decreases-loop-word : goal.decreases-loop-word
decreases-loop-word l = length (cut_at 32 l.rest)
