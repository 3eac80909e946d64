-- Codes one after the other, by the bits that begin with them, and the values that they stand for.
use Rattle.std.specs.Prelude.{◌≡◌, ℕ, ◌+◌, ◌-◌, ◌*◌, ◌/◌, ◌%◌, ◌^◌, ◌<◌, ◌≤◌, List, length, drop, slice_index}
use Rattle.std.proofs.Common.{get_or}
use Rattle.pair_dict.specs.Codes.{Pairing}
use Rattle.pair_dict.specs.Blocks.{values_from, block_values}
use Rattle.pair_dict.specs.Marks.{IsMark}
use Rattle.pair_dict.specs.Inside.Windows.{Shows}
use Rattle.pair_dict.specs.declared.window.BitBuffer.{BitBuffer}
use Rattle.pair_dict.specs.declared.runs.CodeRun.{CodeRun}
use Rattle.pair_dict.specs.declared.runs.RunSum.{RunSum}
use Rattle.pair_dict.specs.declared.places.Place.{Place}

-- how many values a run stands for, and how many bits it takes
abbrev pub run_values : CodeRun → ℕ
run_values run = run.packed / 64

abbrev pub run_bits : CodeRun → ℕ
run_bits run = run.packed % 64

-- the same of runs that are taken together
abbrev pub sum_values : RunSum → ℕ
sum_values sum = sum.packed / 64

abbrev pub sum_bits : RunSum → ℕ
sum_bits sum = sum.packed % 64

-- what is left from bit p on is what is left of the block's values from an offset on
pub record IsLeft (d : Pairing) (block : List ℕ) (p left offset : ℕ) : Type 0 where
  pub most : ℕ
  pub enough : 8 * length block ≤ p + most
  pub same : drop left (values_from d block most p) ≡ drop offset (block_values d block)

-- from bit p on so many bits stand for so many values
abbrev pub IsSkip : Pairing → List ℕ → ℕ → ℕ → ℕ → Type 0
IsSkip d block p n values = (left offset : ℕ) → values ≤ left → IsLeft d block p left offset → IsLeft d block (p + n) (left - values) offset

-- a run at a bit of a block: the values that its bits stand for
pub record IsRunAt (d : Pairing) (block : List ℕ) (p values n : ℕ) : Type 0 where
  pub few : n ≤ 32 * values
  pub skips : IsSkip d block p n values

-- a run wherever a block shows the bits `front`, so many, and all of the run is held
pub record IsRun (d : Pairing) (width front : ℕ) (run : CodeRun) : Type 0 where
  pub short : run_bits run ≤ width
  pub few : run_values run ≤ 256 * run_bits run
  pub is :
      (block : List ℕ) (p : ℕ) (b : BitBuffer) → Shows block p b → b.bits / 2 ^ (64 - width) ≡ front → run_bits run ≤ b.held
      → IsRunAt d block p (run_values run) (run_bits run)

-- those of all bits from 0 on
abbrev pub AreRuns : Pairing → ℕ → List CodeRun → Type 0
AreRuns d width runs = (front : ℕ) (other : CodeRun) → front < length runs → IsRun d width front (get_or runs front other)

-- ---- while they are found

-- a run of one code, whose bits are the number `code`
pub record IsCodeRun (d : Pairing) (code : ℕ) (run : CodeRun) : Type 0 where
  pub some : 1 ≤ run_bits run
  pub alone : IsRun d (run_bits run) code run

-- numbers of 32 bits below `top` are no code of the lengths before the place i
pub record IsTop (firsts : List ℕ) (i top : ℕ) : Type 0 where
  pub few : top ≤ 2 ^ 32
  pub below : (j : ℕ) → j < i → top ≤ slice_index firsts j

-- those of n bits stand from the place 2^n on
abbrev pub AreJoined : Pairing → List CodeRun → Type 0
AreJoined d runs =
    (width front : ℕ) (other : CodeRun) → front < 2 ^ width → 2 ^ width + front < length runs
    → IsRun d width front (get_or runs (2 ^ width + front) other)

-- a run of the bits that belong to a place
abbrev pub IsRunOf : Pairing → ℕ → CodeRun → Type 0
IsRunOf d place run = (width front : ℕ) → width ≤ 64 → front < 2 ^ width → place ≡ 2 ^ width + front → IsRun d width front run

-- the run at a place has at most so many values, and so has each of as many runs as the number of their first place
abbrev pub IsRunWithin : List CodeRun → ℕ → ℕ → Type 0
IsRunWithin runs place most = (other : CodeRun) → run_values (get_or runs place other) ≤ most

abbrev pub AreRunsWithin : List CodeRun → ℕ → ℕ → Type 0
AreRunsWithin runs behind most = (rest : ℕ) → rest < behind → IsRunWithin runs (behind + rest) most

-- ---- while a block is gone through

-- going on to a later place of a block leaves the same to be found
pub record IsFurther (d : Pairing) (block : List ℕ) (from to : Place) : Type 0 where
  pub within : to.at ≤ 8 * length block
  pub forth : from.at ≤ to.at
  pub back : to.left ≤ from.left
  pub slow : to.at + 32 * to.left ≤ from.at + 32 * from.left
  pub rest : (offset : ℕ) → IsLeft d block from.at from.left offset → IsLeft d block to.at to.left offset
  pub passed : (values : ℕ) → IsMark d block from.at values → IsMark d block to.at (values + (from.left - to.left))

-- a place before the value at an offset
pub record IsBefore (d : Pairing) (block : List ℕ) (offset : ℕ) (place : Place) : Type 0 where
  pub left : place.left ≤ offset
  pub mark : IsMark d block place.at (offset - place.left)

-- runs that were taken from bit p on: the values that their bits stand for, and a buffer that shows what follows
pub record AreTaken (d : Pairing) (block : List ℕ) (p : ℕ) (sum : RunSum) (buffer : BitBuffer) : Type 0 where
  pub run : IsRunAt d block p (sum_values sum) (sum_bits sum)
  pub shows : Shows block (p + sum_bits sum) buffer
