use Rattle.std.proofs.Common.{◌≡◌, ◌++◌, false, drop}
use Rattle.pgn_games.specs.Tags.{unescaped}
use Rattle.pgn_games.proofs.tags.unescaped.Given as goal

-- what is pushed, and what the rest says
abbrev pub invariant-loop-b : goal.invariant-loop-b
invariant-loop-b l = unescaped false l.quoted ≡ l.value.items ++ unescaped l.escaped (drop l.b-index l.quoted)
