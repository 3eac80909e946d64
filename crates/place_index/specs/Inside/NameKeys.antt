-- Where a text would stand among the names, if it is one: what a look-up without a search computes.
use Rattle.std.specs.Prelude.{ℕ, ◌+◌, ◌*◌, List, [], ◌∷◌, length, slice_index, cond, ◌==◌}

-- the place of a letter among Q R B N P
abbrev pub letter_place : ℕ → ℕ
letter_place b = cond (b == 81) 0 (cond (b == 82) 1 (cond (b == 66) 2 (cond (b == 78) 3 4)))

-- the place of two letters among QQ, QR, .., PP
abbrev pub pair_of : ℕ → ℕ → ℕ
pair_of i j = slice_index (0 ∷ 4 ∷ 7 ∷ 9 ∷ 10 ∷ []) i + j

-- the place of three letters among QQQ, QQR, .., PPP
abbrev pub triple_of : ℕ → ℕ → ℕ → ℕ
triple_of i j k = slice_index (0 ∷ 10 ∷ 16 ∷ 19 ∷ 20 ∷ []) i + pair_of j k

-- the rank of the letter at an index
abbrev pub rank_at : List ℕ → ℕ → ℕ
rank_at name i = letter_place (slice_index name i)

unfoldable pub key_by_name : List ℕ → ℕ
key_by_name name =
    cond (length name == 4) (rank_at name 1)
    (cond (length name == 5)
    (cond (slice_index name 2 == 118) (20 + pair_of (rank_at name 1) (rank_at name 4)) (5 + pair_of (rank_at name 1) (rank_at name 2)))
    (cond (length name == 6)
    (cond (slice_index name 3 == 118)
    (70 + 5 * pair_of (rank_at name 1) (rank_at name 2) + rank_at name 5)
    (35 + triple_of (rank_at name 1) (rank_at name 2) (rank_at name 3)))
    0))
