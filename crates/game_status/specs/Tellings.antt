-- Games that are told one by one, a line each, and counted (this project's own).
use Rattle.std.specs.Prelude.{◌&&◌, ◌==◌, ◌++◌, ℕ, Bool, true, false, List, [], length, filter, codes, if◌then◌else◌}
use Rattle.std.specs.Fmt.{decimal}
use Rattle.game_status.specs.declared.telling.GameTold.{GameTold}
use Rattle.game_status.specs.declared.telling.Mark.{Mark}
use Rattle.game_status.specs.declared.telling.Mark.TheVariants as mark
use Rattle.game_status.specs.declared.telling.Sums.{Sums}

abbrev pub is_ruled_mark : Mark → Bool
is_ruled_mark mark.Ruled = true
is_ruled_mark _ = false

abbrev pub is_fault : Mark → Bool
is_fault mark.AtFault = true
is_fault _ = false

abbrev pub is_apart : Mark → Bool
is_apart mark.Differs = true
is_apart _ = false

-- how many are marked so
abbrev pub count_marked : (Mark → Bool) → List GameTold → ℕ
count_marked test told = length (filter (λ t. test t.mark) told)

abbrev pub sums_of : List GameTold → Sums
sums_of told = record { games = length told; ruled = count_marked is_ruled_mark told; faults = count_marked is_fault told; differ = count_marked is_apart told }

abbrev pub counts_words : Sums → List ℕ
counts_words s = decimal s.games ++ codes " games, " ++ decimal s.ruled ++ codes " with a verdict, " ++ decimal s.faults ++ codes " at fault"

-- where two records of each game are compared
abbrev pub differ_words : Bool → ℕ → List ℕ
differ_words compares differ = if compares then codes ", " ++ decimal differ ++ codes " differ" else []

abbrev pub sums_words : Bool → Sums → List ℕ
sums_words compares s = counts_words s ++ differ_words compares s.differ

-- none is at fault, and none differs
abbrev pub are_well : Sums → Bool
are_well s = (s.faults == 0) && (s.differ == 0)
