-- Records of a folder's store, which stand in the place of files of the folder (this project's own).
use Rattle.std.specs.Prelude.{ℕ, List, Option, Vec, option_map}
use Rattle.std.specs.Global.{Global}
use Rattle.std.specs.Cmp.Lexicographic.{slice_cmp}
use Rattle.std.specs.Ordering.{nat_cmp}
use Rattle.std.specs.BTreeMap.{BTreeMap, get}

-- the bytes of the record that a store has of each game, by the game's stamp
abbrev pub RecordBytes : Type 0
RecordBytes = List ℕ → Option (List ℕ)

abbrev pub bytes_in : BTreeMap (List ℕ) (Vec ℕ Global) → RecordBytes
bytes_in records stamp = option_map (λ v. v.items) (get (slice_cmp nat_cmp) records stamp)
