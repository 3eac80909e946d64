use Rattle.std.proofs.Common.{◌≤◌, length}
use denote.Text.{Utf8}
use denote.Shadow.{shadow}
use Rattle.command_line.proofs.AddressLaws.{CutTo}
use Rattle.command_line.proofs.words.addresses.behind_colon.Given as goal

abbrev pub invariant-loop-host : goal.invariant-loop-host
invariant-loop-host l = shadow (Utf8 l.rest) × (length l.rest ≤ length l.text) × CutTo l.text l.rest

abbrev pub decreases-loop-host : goal.decreases-loop-host
decreases-loop-host l = length l.rest
