-- The words of `send`, part by part; cited by private functions alone.
use Rattle.std.specs.Prelude.{ℕ, Option, codes}
use Rattle.clap.specs.Words.{Text}
use Rattle.command_line.specs.Addresses.{IsAddressIfAny}
use Rattle.command_line.specs.Numbers.{IsDelay, IsHundredOr}

abbrev pub AreSendTerms : (Text → Option Text) → ℕ → ℕ → ℕ → Type 0
AreSendTerms value delay wait tries = IsDelay (value (codes "delay")) delay × IsHundredOr (value (codes "wait")) wait × IsHundredOr (value (codes "tries")) tries × IsAddressIfAny (value (codes "bind"))
