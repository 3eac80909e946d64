use Rattle.std.proofs.Common.{◌≡◌, take}
use Rattle.std.specs.List.{list_all}
use Rattle.json_lines.proofs.Playing.{is_told}
use Rattle.json_lines.proofs.told.have_both.Given as goal

abbrev pub invariant-loop-m : goal.invariant-loop-m
invariant-loop-m l = l.all ≡ list_all is_told (take l.m-index l.moves)
