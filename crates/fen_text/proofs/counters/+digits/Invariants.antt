use Rattle.fen_text.proofs.counters.+digits.Given as goal

abbrev pub decreases-digits : goal.decreases-digits
decreases-digits l = l.number
