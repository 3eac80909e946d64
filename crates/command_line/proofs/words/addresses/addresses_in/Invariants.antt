use Rattle.std.proofs.Common.{◌≡◌, ◌++◌, length, map}
use denote.Text.{Utf8}
use denote.Shadow.{shadow}
use Rattle.command_line.specs.Addresses.{addresses_of}
use Rattle.command_line.proofs.words.addresses.addresses_in.Given as goal

abbrev pub invariant-loop-first : goal.invariant-loop-first
invariant-loop-first l = shadow (Utf8 l.rest) × (addresses_of l.word ≡ map (λ s. s.now) l.addresses.items ++ addresses_of l.rest)

abbrev pub decreases-loop-first : goal.decreases-loop-first
decreases-loop-first l = length l.rest
