-- A record that is still to be put (this project's own).
use Rattle.std.specs.Prelude.{◌≡◌, ℕ, List, Option, Some, None}
use Rattle.arbiter_core.specs.declared.keeper.Keep.TheVariants.{Good}
use Rattle.arbiter_core.specs.Keeping.{KeeperFacts}

pub record DraftView : Type 0 where
  -- what is kept once it is put
  pub kept : Option (List ℕ)
  -- what is to be put
  pub to_put : Option (List ℕ)

-- nothing is to be put any more
abbrev pub settled : DraftView → DraftView
settled d = record { kept = d.kept; to_put = None }

-- a put succeeds, and is to be put in a file
abbrev pub draft_facts : KeeperFacts DraftView
draft_facts = record {
  kept = λ d. d.kept;
  faults = λ d. 0;
  may_be = λ d keep. keep ≡ Good;
  get_may_fail = λ d. ⊥;
  leaves = λ d bytes n. (n.kept ≡ Some bytes) × (n.to_put ≡ Some bytes);
  reads = λ d fault n. n ≡ d;
}
