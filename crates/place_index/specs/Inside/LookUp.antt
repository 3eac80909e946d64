-- The tallies by which a position is found, and what a placement keeps.
use Rattle.std.specs.Prelude.{◌≡◌, ℕ, ◌+◌, ◌*◌, ◌/◌, ◌%◌, ◌<◌, ◌≤◌, ◌⊎◌, slice_index, max, take}
use Rattle.place_index.specs.Material.{pieces_of, tally_of}
use Rattle.place_index.specs.Turning.{lead_file}
use Rattle.place_index.specs.Inside.Turns.{lead_square}
use Rattle.place_index.specs.Index.{IsPlacement}
use Rattle.place_index.specs.declared.tables.TheConstants.{KEYS}
use Rattle.place_index.specs.declared.placed.Placed.TheInside.{Inside}
use Rattle.place_index.specs.Placed.{Placement}

-- the tally of the same men with colours exchanged: its halves change places
abbrev pub rotated : ℕ → ℕ
rotated t = t % 4294967296 * 4294967296 + t / 4294967296

-- men with this tally are those of the table, in its colours or with colours exchanged
abbrev pub HasTally : ℕ → ℕ → Type 0
HasTally key t = (t ≡ tally_of (pieces_of key)) ⊎ (rotated t ≡ tally_of (pieces_of key))

-- the key that is looked for by a tally
abbrev pub key_by_tally : ℕ → ℕ
key_by_tally t = slice_index KEYS (max t (rotated t) % 1181)

-- what a value of this type keeps
abbrev pub placement_of : Inside → Placement
placement_of a = record { material = a.material; men = take a.count a.men; side = a.side; file = a.file }

pub record IsPlaced (a : Inside) : Type 0 where
  pub material : a.material < 145
  pub count : a.count ≤ 5
  pub men : IsPlacement a.material (take a.count a.men)
  pub lead : a.lead ≡ lead_square a.material (take a.count a.men)
  pub file : a.file ≡ lead_file a.material (take a.count a.men)
