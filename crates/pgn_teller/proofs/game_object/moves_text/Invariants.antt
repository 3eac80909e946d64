use Rattle.std.proofs.Common.{◌≡◌, take}
use Rattle.std.specs.Prelude.{string_bytes}
use Rattle.pgn_teller.specs.GameObjects.{moves_text}
use Rattle.pgn_teller.proofs.game_object.moves_text.Given as goal

abbrev pub invariant-loop-m : goal.invariant-loop-m
invariant-loop-m l = string_bytes l.text ≡ moves_text (take l.m-index l.moves)
