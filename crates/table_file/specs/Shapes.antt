-- Whether pieces and order nibbles make a shape, computed (Syzygy index, groups).
use Rattle.std.specs.Prelude.{ℕ, ◌-◌, Bool, List, length, take, slice_index, Result, Ok, Err, ◌==◌, nat_lt, ◌&&◌, ◌||◌, not, if◌then◌else◌}
use Rattle.std.specs.List.{list_all, list_any, range_with_len}
use Rattle.place_index.specs.Material.{pieces_of, count_of}
use Rattle.place_index.specs.Shape.{Layout, layout, groups_of, has_pawns, both_have_pawns, has_unique, lead_pawns, lead_code, other_pawns, other_code}
use Rattle.table_file.specs.declared.fault.TableFault.{TableFault}
use Rattle.table_file.specs.declared.fault.TableFault.TheVariants.{BadPieces, BadOrder}

-- as many of each code, of the 16 codes of a nibble, as the men have
abbrev pub is_arrangement : ℕ → List ℕ → Bool
is_arrangement m pieces = length pieces == length (pieces_of m) && list_all (λ c. count_of pieces c == count_of (pieces_of m) c) (range_with_len 0 16)

abbrev pub stands_in : ℕ → List ℕ → Bool
stands_in piece pieces = list_any (λ p. p == piece) pieces

-- each piece is the one before it, or stands nowhere before
abbrev pub is_side_by_side : List ℕ → Bool
is_side_by_side pieces = list_all (λ k. slice_index pieces k == slice_index pieces (k - 1) || not (stands_in (slice_index pieces k) (take k pieces))) (range_with_len 1 (length pieces - 1))

-- the pieces from one place on, so many of them, all have a code
abbrev pub are_all : List ℕ → ℕ → ℕ → ℕ → Bool
are_all pieces from n code = list_all (λ i. slice_index pieces i == code) (range_with_len from n)

abbrev pub begins_by_pawns : ℕ → List ℕ → Bool
begins_by_pawns m pieces = are_all pieces 0 (lead_pawns m) (lead_code m) && are_all pieces (lead_pawns m) (other_pawns m) (other_code m)

abbrev pub begins_by_three : List ℕ → Bool
begins_by_three pieces = list_all (λ i. count_of pieces (slice_index pieces i) == 1) (range_with_len 0 3)

abbrev pub begins_by_kings : List ℕ → Bool
begins_by_kings pieces = (slice_index pieces 0 == 6 && slice_index pieces 1 == 14) || (slice_index pieces 0 == 14 && slice_index pieces 1 == 6)

abbrev pub begins_well : ℕ → List ℕ → Bool
begins_well m pieces = if has_pawns m then begins_by_pawns m pieces else if has_unique m then begins_by_three pieces else begins_by_kings pieces

unfoldable pub are_good_pieces : ℕ → List ℕ → Bool
are_good_pieces m pieces = is_arrangement m pieces && (is_side_by_side pieces && begins_well m pieces)

unfoldable pub are_good_orders : Layout → Bool
are_good_orders l =
    nat_lt l.order (length (groups_of l))
    && (not (both_have_pawns l.material) || (nat_lt l.second (length (groups_of l)) && not (l.second == l.order)))

-- the shape, or the first fault of pieces and orders
unfoldable pub shape_at : ℕ → List ℕ → ℕ → ℕ → ℕ → Result Layout TableFault
shape_at m pieces order second file =
    if are_good_pieces m pieces
    then (if are_good_orders (layout m pieces order second file) then Ok (layout m pieces order second file) else Err BadOrder)
    else Err BadPieces
