-- What opening an arbiter over a draft leaves.
use Rattle.std.proofs.Common.{◌≡◌, ◌⊎◌, inl, inr, List, ℕ, Option, Some, None, refl}
use Rattle.std.specs.Prelude.{Ok}
use Rattle.arbiter_core.specs.Answering.{Identity}
use Rattle.arbiter_core.specs.Opens.{IsOpening, Opens, OpensOver}
use Rattle.arbiter_core.specs.Setups.{SetupView}
use Rattle.arbiter_core.specs.Views.{View}
use Rattle.arbiter_server.proofs.OpenedLaws.{good_unless}
use Rattle.game_folder.specs.Drafts.{DraftView, draft_facts}

-- an arbiter that runs goes on from what was found, with nothing to be put; or its first record is to be put
abbrev pub IsBegun : DraftView → DraftView → Type 0
IsBegun old new = ((bytes : List ℕ) × (old.kept ≡ Some bytes) × (new ≡ old)) ⊎ ((bytes : List ℕ) × (new.kept ≡ Some bytes) × (new.to_put ≡ Some bytes))

by_kept : (setup : SetupView) (me : Identity) (old new : DraftView) (v : View) (k : Option (List ℕ)) → old.kept ≡ k → OpensOver draft_facts setup me k old new (Ok v) → IsBegun old new
by_kept setup me old new v None is h = inr (h.sent, h.once.0, h.once.1)
by_kept setup me old new v (Some bytes) is h = inl (bytes, is, h.2)

by_opens : (setup : SetupView) (me : Identity) (old new : DraftView) (v : View) → Opens draft_facts setup me old new (Ok v) → IsBegun old new
by_opens setup me old new v h = elim h [
  | inl fails ↦ let is = fails.answer in absurd cc
  | inr rest ↦ elim rest [ inl none ↦ let is = none.answer in absurd cc | inr over ↦ by_kept setup me old new v old.kept refl over ]
]

pub begun : (setup : SetupView) (old new : DraftView) (v : View) → IsOpening draft_facts setup old new (Ok v) → IsBegun old new
begun setup old new v h = let opens = h.good (good_unless setup (λ bad. let e = (h.bad bad).0 in cc)) in by_opens setup opens.0 old new v opens.2
