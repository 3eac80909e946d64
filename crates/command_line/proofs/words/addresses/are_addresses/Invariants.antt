use Rattle.std.proofs.Common.{length}
use denote.Text.{Utf8}
use denote.Shadow.{shadow}
use Rattle.command_line.proofs.AddressLaws.{DoneTo}
use Rattle.command_line.specs.Addresses.{IsAddress}
use Rattle.command_line.proofs.words.addresses.are_addresses.Given as goal

abbrev pub invariant-loop-first : goal.invariant-loop-first
invariant-loop-first l = shadow (Utf8 l.rest) × DoneTo IsAddress l.word l.rest

abbrev pub decreases-loop-first : goal.decreases-loop-first
decreases-loop-first l = length l.rest
