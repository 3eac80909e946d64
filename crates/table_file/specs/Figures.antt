-- The figures of a size record (Syzygy table format, size record).
use Rattle.std.specs.Prelude.{ℕ, ◌+◌, ◌-◌, ◌/◌, ◌^◌, ◌≤◌}
use Rattle.pair_dict.specs.Codes.{Pairing}

pub record Figures : Type 0 where
  pub block_exponent : ℕ
  pub span_exponent : ℕ
  pub padding : ℕ
  pub blocks : ℕ
  pub dictionary : Pairing

-- how many bytes a block has
abbrev pub block_size : Figures → ℕ
block_size c = 2 ^ c.block_exponent

-- how many values lie between two sparse entries
abbrev pub span : Figures → ℕ
span c = 2 ^ c.span_exponent

-- how many sparse entries there are for so many indices: one for each span that is begun
abbrev pub sparse_entry_count : ℕ → Figures → ℕ
sparse_entry_count size c = (size + (span c - 1)) / span c

pub record AreFigures (c : Figures) : Type 0 where
  pub block : c.block_exponent ≤ 24
  pub some : 1 ≤ c.span_exponent
  pub wide : c.span_exponent ≤ 31
