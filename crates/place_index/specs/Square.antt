-- Squares, from 0 for a1 to 63 for h8.
use Rattle.std.specs.Prelude.{ℕ, ◌+◌, ◌*◌, ◌-◌, ◌/◌, ◌%◌, Bool, ◌==◌, nat_lt, cond}

abbrev pub file : ℕ → ℕ
file s = s % 8

abbrev pub rank : ℕ → ℕ
rank s = s / 8

-- the file of a square mirrored to the left, 0 for a and h to 3 for d and e
abbrev pub left_file : ℕ → ℕ
left_file s = cond (nat_lt (file s) 4) (file s) (7 - file s)

abbrev pub on_diagonal : ℕ → Bool
on_diagonal s = file s == rank s

-- below the diagonal from a1 to h8
abbrev pub under_diagonal : ℕ → Bool
under_diagonal s = nat_lt (rank s) (file s)

-- the square that lies opposite: left and right, bottom and top, across the diagonal
abbrev pub left_right : ℕ → ℕ
left_right s = 8 * rank s + (7 - file s)

abbrev pub bottom_top : ℕ → ℕ
bottom_top s = 8 * (7 - rank s) + file s

abbrev pub across : ℕ → ℕ
across s = 8 * file s + rank s

-- 1 where the first square is the lower one, else 0
unfoldable pub before : ℕ → ℕ → ℕ
before a b = cond (nat_lt a b) 1 0
