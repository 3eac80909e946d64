-- What stands while the file of a plan is written.
use Rattle.std.specs.Prelude.{◌≡◌, ℕ, ◌+◌, ◌-◌, ◌^◌, ◌<◌, ◌≤◌, List, [], ◌∷◌, length, drop, slice_index}
use Rattle.std.specs.List.{All}
use Rattle.pair_dict.specs.Symbols.{symbol_count, values_of, AllHaveValues}
use Rattle.table_file.specs.declared.plan.Content.{Content}
use Rattle.table_file.specs.declared.plan.Content.TheVariants.{Single, Pairs}
use Rattle.table_file.specs.Plan.{symbol_bytes, FitsBlock}
use Rattle.table_file.specs.declared.forging.blocks.Held.{Held}
use Rattle.table_file.specs.PlannedFile.{spot_among}

-- how many values each symbol has
pub record AreCountsOf (symbols counts : List ℕ) : Type 0 where
  pub lengths : length counts ≡ symbol_count symbols
  pub each : (s : ℕ) → s < length counts → slice_index counts s ≡ length (values_of symbols s)

-- the values that a block's symbols have together
abbrev pub sum_of : List ℕ → List ℕ → ℕ
sum_of counts [] = 0
sum_of counts (s ∷ block) = slice_index counts s + sum_of counts block

-- so many values stand before a block, so that it is found by what is left of an index
pub record IsBlockReached (lengths : List ℕ) (block before : ℕ) : Type 0 where
  pub block_found : (index : ℕ) → before ≤ index → (spot_among lengths index).0 ≡ block + (spot_among (drop block lengths) (index - before)).0
  pub offset_found : (index : ℕ) → before ≤ index → (spot_among lengths index).1 ≡ (spot_among (drop block lengths) (index - before)).1

-- fewer than eight bits
pub record IsHeld (h : Held) : Type 0 where
  pub few : h.count < 8
  pub bits : h.bits < 2 ^ h.count

-- each symbol of blocks has values, and blocks have known symbols alone
abbrev pub HasGoodValues : Content → Type 0
HasGoodValues (Single v) = Unit {0}
HasGoodValues (Pairs q) = AllHaveValues (symbol_bytes q) × All (λ block. FitsBlock q block.items) q.blocks.items
