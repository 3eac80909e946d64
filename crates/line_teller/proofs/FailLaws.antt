-- A writer that failed.
use Rattle.std.proofs.Common.{inl, inr}
use Rattle.std.specs.Prelude.{Result, Ok, Err, OnErr}
use Rattle.system_io.specs.Outputs.{OutputFacts}
use Rattle.line_teller.specs.ToldLines.{HasFailed}

module _ {W : Type 0} (facts : W → OutputFacts) where
  -- it refused a write
  pub refused : (at : W) → (facts at).refuses → HasFailed facts
  refused at refuses = record { at = at; so = inl refuses }

  -- what was written can't go out
  pub stuck : (at : W) → (facts at).stuck → HasFailed facts
  stuck at is_stuck = record { at = at; so = inr is_stuck }

  pub on_stuck : {T F : Type 0} (at : W) (r : Result T F) → OnErr r (facts at).stuck → OnErr r (HasFailed facts)
  on_stuck at (Ok x) is_stuck = tt
  on_stuck at (Err fault) is_stuck = stuck at is_stuck
