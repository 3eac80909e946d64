-- Places in a block that were passed before: a later reading may begin there.
use Rattle.std.specs.Prelude.{◌≡◌, ℕ, ◌+◌, ◌*◌, ◌<◌, ◌≤◌, List, length, drop}
use Rattle.std.proofs.Common.{get_or}
use Rattle.pair_dict.specs.Codes.{Pairing}
use Rattle.pair_dict.specs.Blocks.{values_from, block_values}
use Rattle.pair_dict.specs.declared.bookmarks.Mark.{Mark}
use Rattle.pair_dict.specs.declared.bookmarks.Bookmarks.{Bookmarks}

-- From this bit on the block's codes give its values but the first so many.
pub record IsMark (d : Pairing) (block : List ℕ) (at values : ℕ) : Type 0 where
  pub within : at ≤ 8 * length block
  pub most : ℕ
  pub enough : 8 * length block ≤ at + most
  pub rest : values_from d block most at ≡ drop values (block_values d block)

-- Each bookmark is a place of this block.
abbrev pub AreMarks : Pairing → List ℕ → Bookmarks → Type 0
AreMarks d block marks =
    (i : ℕ) (other : Mark) → i < marks.filled → IsMark d block (get_or marks.marks i other).at (get_or marks.marks i other).values
