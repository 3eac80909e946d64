-- Worked rows, computed from the definitions.
use Rattle.std.proofs.Common.{◌≡◌, [], ◌∷◌, refl}
use Rattle.place_index.specs.Square.{before}
use Rattle.place_index.specs.Counting.{count_before}
use Rattle.place_index.specs.Choose.{parts, choose}
use Rattle.place_index.specs.Three.{triangle_number, three_at}
use Rattle.place_index.specs.Pawns.{pawn_number, pawn_square, pawns_before, pawn_numbers_of}
use Rattle.place_index.specs.Kings.{kings_size}
use Rattle.place_index.specs.Others.{taken, free_number}
use Rattle.place_index.specs.Men.{man, stands, falling, squares_of}
use Rattle.place_index.specs.Material.{men_of, count_of, pieces_of}
use Rattle.place_index.specs.Shape.{Layout, layout, has_unique, lead_code, other_code, lead_pawns, other_pawns, lead_men, runs, upto, places, lead_size, other_sizes, product, factor_at}
use Rattle.place_index.specs.Turning.{lead_pawn, under, to_left, to_bottom, turned_pawns, turned_pieces, turned, lead_file}
use Rattle.place_index.specs.Index.{lead_number, other_numbers, numbers_of, sum_of_products, index_of}
use Rattle.place_index.proofs.Counting.Choosing.{pascal, choose_pascal}

-- KRvK
abbrev rook : Layout
rook = layout 1 (6 ∷ 4 ∷ 14 ∷ []) 0 0 0

pub row_rook : index_of rook (man 6 1 ∷ man 4 18 ∷ man 14 63 ∷ []) ≡ 1115
unfolding before count_before parts choose triangle_number three_at pawn_number pawn_square pawns_before pawn_numbers_of kings_size taken free_number stands falling squares_of men_of count_of pieces_of has_unique lead_code other_code lead_pawns other_pawns lead_men runs upto places lead_size other_sizes product factor_at lead_pawn under to_left to_bottom turned_pawns turned_pieces turned lead_file lead_number other_numbers numbers_of sum_of_products index_of
row_rook = refl

row_rook_turned : index_of rook (man 6 62 ∷ man 4 45 ∷ man 14 0 ∷ []) ≡ 1115
unfolding before count_before parts choose triangle_number three_at pawn_number pawn_square pawns_before pawn_numbers_of kings_size taken free_number stands falling squares_of men_of count_of pieces_of has_unique lead_code other_code lead_pawns other_pawns lead_men runs upto places lead_size other_sizes product factor_at lead_pawn under to_left to_bottom turned_pawns turned_pieces turned lead_file lead_number other_numbers numbers_of sum_of_products index_of
row_rook_turned = refl

row_rook_diagonal : index_of rook (man 6 0 ∷ man 4 8 ∷ man 14 63 ∷ []) ≡ 23497
unfolding before count_before parts choose triangle_number three_at pawn_number pawn_square pawns_before pawn_numbers_of kings_size taken free_number stands falling squares_of men_of count_of pieces_of has_unique lead_code other_code lead_pawns other_pawns lead_men runs upto places lead_size other_sizes product factor_at lead_pawn under to_left to_bottom turned_pawns turned_pieces turned lead_file lead_number other_numbers numbers_of sum_of_products index_of
row_rook_diagonal = refl

row_rook_long_diagonal : index_of rook (man 6 0 ∷ man 4 9 ∷ man 14 63 ∷ []) ≡ 31169
unfolding before count_before parts choose triangle_number three_at pawn_number pawn_square pawns_before pawn_numbers_of kings_size taken free_number stands falling squares_of men_of count_of pieces_of has_unique lead_code other_code lead_pawns other_pawns lead_men runs upto places lead_size other_sizes product factor_at lead_pawn under to_left to_bottom turned_pawns turned_pieces turned lead_file lead_number other_numbers numbers_of sum_of_products index_of
row_rook_long_diagonal = refl

row_rook_greatest : index_of rook (man 6 27 ∷ man 4 63 ∷ man 14 54 ∷ []) ≡ 31331
unfolding before count_before parts choose triangle_number three_at pawn_number pawn_square pawns_before pawn_numbers_of kings_size taken free_number stands falling squares_of men_of count_of pieces_of has_unique lead_code other_code lead_pawns other_pawns lead_men runs upto places lead_size other_sizes product factor_at lead_pawn under to_left to_bottom turned_pawns turned_pieces turned lead_file lead_number other_numbers numbers_of sum_of_products index_of
row_rook_greatest = refl

-- KQQvK
abbrev queens : Layout
queens = layout 5 (6 ∷ 14 ∷ 5 ∷ 5 ∷ []) 1 0 0

row_queens : index_of queens (man 6 0 ∷ man 14 18 ∷ man 5 1 ∷ man 5 27 ∷ []) ≡ 834231
unfolding before count_before triangle_number three_at pawn_number pawn_square pawns_before pawn_numbers_of kings_size taken free_number stands falling squares_of men_of count_of pieces_of has_unique lead_code other_code lead_pawns other_pawns lead_men runs upto places lead_size other_sizes product factor_at lead_pawn under to_left to_bottom turned_pawns turned_pieces turned lead_file lead_number other_numbers numbers_of sum_of_products index_of pascal
row_queens = rw (choose_pascal 62 2, choose_pascal 25 2, choose_pascal 0 1) refl
