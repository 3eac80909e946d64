-- A dictionary whose symbols' values are not looked at yet.
use Rattle.std.specs.Prelude.{◌≡◌, ℕ, ◌+◌, ◌≤◌, length, true}
use Rattle.pair_dict.specs.Codes.{Pairing}
use Rattle.pair_dict.specs.Symbols.{symbol_count}
use Rattle.pair_dict.specs.Reading.{falls, words}
use Rattle.pair_dict.specs.declared.layout.Layout.{Layout}

abbrev pub pairing_in : Layout → Pairing × ℕ
pairing_in a = (record { least = a.least; lowest = words a.lowest.now; symbols = a.symbols.now }, a.taken)

pub record IsDictLayout (a : Layout) : Type 0 where
  pub least : 1 ≤ a.least
  pub some : 1 ≤ length (words a.lowest.now)
  pub greatest : a.least + length (words a.lowest.now) ≤ 33
  pub falling : falls (words a.lowest.now) ≡ true
  pub few : symbol_count a.symbols.now ≤ 4095
