-- The value as soon as it is known. Captures are tried first, and one that leads to a position that the opponent has lost wins,
-- whatever is missing or damaged elsewhere (as in the published probing code).
use Rattle.std.specs.Prelude.{◌≡◌, ◌≢◌, ℕ, zero, suc, nat_le, Bool, Result, Ok, Err, if◌then◌else◌}
use Rattle.std.specs.List.{list_any}
use Rattle.board_core.specs.declared.parts.Parts.{Parts}
use Rattle.board_core.specs.Position.{IsPosition}
use Rattle.board_core.specs.ComputedMoves.{legal_captures, count_of_men}
use Rattle.judge_core.specs.declared.fault.ProbeFault.{ProbeFault}
use Rattle.judge_core.specs.declared.fault.ProbeFault.TheVariants.{OutOfScope, OutOfMemory}
use Rattle.judge_core.specs.declared.wdl.Wdl.{Wdl}
use Rattle.judge_core.specs.declared.wdl.Wdl.TheVariants.{Draw, Win}
use Rattle.judge_core.specs.Answers.{IsProbe, as_probe}
use Rattle.judge_core.specs.Distances.{is_value}
use Rattle.judge_core.specs.MoreTables.{HasAll}
use Rattle.judge_core.specs.Probing.{values_after, searched_where, worth_in, wdl_of}
use Rattle.judge_core.specs.Ruling.{is_out_of_scope}
use Rattle.judge_core.specs.Tables.{Tables, table_value}
use Rattle.judge_core.specs.Values.{Reading}

-- some capture wins, where `value` gives the values of positions
abbrev pub wins_by_capture : (Parts → Reading) → Parts → Bool
wins_by_capture value p = list_any (is_value Win) (values_after value p (legal_captures p))

-- Bare kings are a draw. A capture that wins is all that counts. Where none does, the captures and the own table say the value, and
-- which fault is told: the first table that is missing, or else the first that is damaged, in the order of captures, the own last.
abbrev pub known_by : (Parts → Reading) → (Parts → Reading) → Parts → Reading
known_by own value p =
    if nat_le (count_of_men p) 2 then Ok Draw
    else if wins_by_capture value p then Ok Win
    else worth_in (searched_where own value p)

-- ... where at most so many captures in a row are visited
unfoldable pub known_to : (Parts → Reading) → ℕ → Parts → Reading
known_to own zero p = Ok Draw
known_to own (suc n) p = known_by own (known_to own n) p

-- Each capture takes a man, so that there are no more captures in a row than men.
unfoldable pub known_where : (Parts → Reading) → Parts → Reading
known_where own p = known_to own (count_of_men p) p

-- the value as soon as it is known, by the tables of a set
unfoldable pub known_of : Tables → Parts → Reading
known_of tables p = known_where (table_value tables) p

-- ---- answers

-- what a probe returns that ends at a capture that wins
abbrev pub known_answer : Tables → Parts → Result Wdl ProbeFault
known_answer tables p = if is_out_of_scope p then Err OutOfScope else as_probe (λ v. v) (known_of tables p)

-- it is what is known or out of scope, and never want of memory
abbrev pub IsKnownProbe : Tables → Parts → Result Wdl ProbeFault → Type 0
IsKnownProbe tables p wdl = (wdl ≢ Err OutOfMemory) × IsProbe wdl (is_out_of_scope p) (known_of tables p)

-- ---- laws, which functions of src/laws.rt carry

-- The value that is known follows from those after the captures by its rule: the bound on captures in a row cuts nothing off.
abbrev pub KnownMeetsItsRule : Type 0
KnownMeetsItsRule = (tables : Tables) (p : Parts) → IsPosition p → known_of tables p ≡ known_by (table_value tables) (known_of tables) p

-- Where the tables say what a position is worth, this is known.
abbrev pub ValueIsKnown : Type 0
ValueIsKnown = (tables : Tables) (p : Parts) (v : Wdl) → wdl_of tables p ≡ Ok v → known_of tables p ≡ Ok v

-- What is known stays so in a set that has more tables.
abbrev pub KnownStaysKnown : Type 0
KnownStaysKnown = (tables more : Tables) (p : Parts) (v : Wdl) → HasAll tables more → known_of tables p ≡ Ok v → known_of more p ≡ Ok v
