use Rattle.std.proofs.Common.{◌≡◌, take}
use Rattle.place_index.proofs.arrangement.coded.Given as goal

abbrev pub invariant-loop-code : goal.invariant-loop-code
invariant-loop-code l = l.pieces.items ≡ take l.code-index l.codes
