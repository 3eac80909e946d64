use Rattle.std.proofs.Common.{◌≡◌, take}
use Rattle.pair_dict.specs.Codes.{number_of}
use Rattle.pair_dict.proofs.window.short_word.Given as goal

abbrev pub invariant-loop-byte : goal.invariant-loop-byte
invariant-loop-byte l = l.word ≡ number_of (take l.byte-index l.bytes)
