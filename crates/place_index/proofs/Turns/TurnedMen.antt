-- What the code of the turning needs to know of men.
use Rattle.std.proofs.Common.{◌≡◌, ℕ, suc, ◌+◌, ◌<◌, ◌≤◌, true, false, List, [], ◌∷◌, length, take, slice_index, get_or, refl, ap, ◌∙◌, arith}
use Rattle.std.proofs.lemmas.List.{length-map}
use Rattle.place_index.specs.Square.{file, rank}
use Rattle.place_index.specs.Material.{pieces_of, white_pawns, black_pawns}
use Rattle.place_index.specs.Men.{codes_of, stands, falling, square_of, moved}
use Rattle.place_index.specs.Pawns.{pawn_square, pawn_numbers_of}
use Rattle.place_index.specs.Shape.{Layout, has_pawns, lead_code, lead_men, factors_of, greatest_size}
use Rattle.place_index.specs.Turning.{leftward, turned_pieces, turned_pawns, lead_pawn, turned, lead_file}
use Rattle.place_index.specs.Inside.Groups.{AreMen, IsLeadTurned}
use Rattle.place_index.specs.Index.{IsPlacement, IsShape, numbers_of, sum_of_products}
use Rattle.place_index.specs.declared.man.Man.{Man}
use Rattle.place_index.proofs.Materials.Arranging.{arranged_length}
use Rattle.place_index.proofs.Shapes.Beginning.{lead_by_pawns, some_pawns, no_pawns}
use Rattle.place_index.proofs.Counting.Falling.{falling_falls}
use Rattle.place_index.proofs.Shapes.Greatest.{lead_least, lead_most, size_is_within}
use Rattle.place_index.proofs.Materials.MenTables.{men_most}
use Rattle.place_index.proofs.Counting.MappedSets.{falling_at}
use Rattle.place_index.proofs.Turns.Board.{settled, IsMirroring, moved_alone, moved_board}
use Rattle.place_index.proofs.Turns.TurnedPawns.{numbers_size}
use Rattle.place_index.proofs.Turns.Alone.{square_of_alone}
use Rattle.place_index.proofs.Shapes.LayoutGroups.{lead_is_pawn, lead_count}
use Rattle.place_index.proofs.Indices.IndexLaw.{pawns_are, lead_kings, two_are, turned_placement, index_products, index_below}

pub men_few : (key : ℕ) (men : List Man) → key < 145 → IsPlacement key men → length men ≤ 5
men_few key men lt p = omega (arith, length-map men (λ m. m.code), arranged_length (codes_of men) (pieces_of key) p.material, men_most key lt)

pub are_men : (key : ℕ) (men : List Man) → key < 145 → IsPlacement key men → AreMen men
are_men key men lt p = record { few = men_few key men lt p; alone = p.alone; board = p.board }

pub lead_range : (key : ℕ) (men : List Man) → IsPlacement key men → (s : ℕ) → stands men (lead_code key) s ≡ true → (8 ≤ s) × (s < 56)
lead_range key men p s h = (settled key men p).pawns (lead_code key) s (lead_is_pawn key) h

pub lead_numbers_size : (key : ℕ) (men : List Man) → has_pawns key ≡ true → IsPlacement key men → length (pawn_numbers_of men (lead_code key)) ≡ lead_men key
lead_numbers_size key men pawned p = omega (arith, numbers_size key men (lead_code key) p (lead_is_pawn key), lead_count key, lead_by_pawns key pawned)

pub numbers_fall : (men : List Man) (c k : ℕ) → k < length (pawn_numbers_of men c) → get_or (pawn_numbers_of men c) k 0 < 48
unfolding pawn_numbers_of
numbers_fall men c k lt = falling_at 48 (falling (λ n. stands men c (pawn_square n)) 48) k (falling_falls (λ n. stands men c (pawn_square n)) 48) lt

pub lead_number_few : (key : ℕ) (men : List Man) → key < 145 → has_pawns key ≡ true → IsPlacement key men → (1 ≤ length (pawn_numbers_of men (lead_code key))) × (slice_index (pawn_numbers_of men (lead_code key)) 0 < 48)
lead_number_few key men lt pawned p =
    let some : 1 ≤ length (pawn_numbers_of men (lead_code key)) = omega (arith, lead_numbers_size key men pawned p, lead_least key lt) in
    (some, numbers_fall men (lead_code key) 0 (omega (arith, some)))

pub lead_pawn_is : (key : ℕ) (men : List Man) (s : ℕ) → s ≡ pawn_square (slice_index (pawn_numbers_of men (lead_code key)) 0) → s ≡ lead_pawn key men
unfolding lead_pawn
lead_pawn_is key men s e = e

-- ---- men that are moved are men

pub moved_men : (f : ℕ → ℕ) (men : List Man) → IsMirroring f → AreMen men → AreMen (moved f men)
moved_men f men m a = record { few = omega (arith, length-moved f men, a.few); alone = moved_alone f men m a.board a.alone; board = moved_board f men m a.board }
  where
    length-moved : (f : ℕ → ℕ) (men : List Man) → length (moved f men) ≡ length men
    length-moved f [] = refl
    length-moved f (x ∷ men) = ap suc (length-moved f men)

pub turned_pawned : (l : Layout) (men : List Man) (s : ℕ) → has_pawns l.material ≡ true → s ≡ lead_pawn l.material men → leftward s men ≡ turned l men
unfolding turned turned_pawns
turned_pawned l men s pawned e = rw pawned (ap (λ x. leftward x men) e)

pub turned_plain : (l : Layout) (men : List Man) → has_pawns l.material ≡ false → turned_pieces (take (lead_men l.material) l.pieces) men ≡ turned l men
unfolding turned
turned_plain l men plain = rw plain refl

-- ---- the leading group of turned men

pub lead_is_turned : (l : Layout) (men : List Man) → IsShape l → IsPlacement l.material men → lead_file l.material men ≡ l.file → IsLeadTurned l (turned l men)
lead_is_turned l men s p on =
    let q = turned_placement l men s p on in
    record {
      range = λ pawned. lead_range l.material (turned l men) q;
      pawns = λ pawned.
          let a = pawns_are l men s pawned p on in
          let size = lead_numbers_size l.material (turned l men) pawned q in
          let few = lead_number_few l.material (turned l men) s.material pawned q in
          let first : slice_index (pawn_numbers_of (turned l men) (lead_code l.material)) 0 ≡ a.lead = ap (λ xs. slice_index xs 0) a.numbers in
          record {
            some = few.0;
            few = omega (arith, size, lead_most l.material s.material);
            lead = few.1;
            all = λ k lt. numbers_fall (turned l men) (lead_code l.material) k lt;
            file = ap (λ n. file (pawn_square n)) first ∙ a.turned.on_file;
            off_last = omega (arith, ap (λ n. rank (pawn_square n)) first, a.turned.off_last);
          };
      kings = λ plain common.
          let t = lead_kings l s plain common in
          let u = two_are l men s t p in
          let first : square_of (turned l men) (slice_index l.pieces 0) ≡ u.s0 = ap (λ xs. square_of (turned l men) (slice_index xs 0)) t.pieces ∙ square_of_alone (turned l men) t.a u.s0 u.first in
          let second : square_of (turned l men) (slice_index l.pieces 1) ≡ u.s1 = ap (λ xs. square_of (turned l men) (slice_index xs 1)) t.pieces ∙ square_of_alone (turned l men) t.b u.s1 u.second in
          rw (first, second) u.turned;
    }

pub products_fit : (l : Layout) (men : List Man) → IsShape l → IsPlacement l.material men → lead_file l.material men ≡ l.file → sum_of_products (numbers_of l (turned l men)) (factors_of l) ≤ greatest_size
products_fit l men s p on = omega (arith, index_products l men, index_below l men s p on, size_is_within l.material l.pieces l.order l.second l.file s.material s.file s.pieces)

-- how many pawns there are tells whether there are any
pub pawned_of : (key : ℕ) → 1 ≤ white_pawns key + black_pawns key → has_pawns key ≡ true
pawned_of key some = some_pawns (white_pawns key + black_pawns key) some

pub plain_of : (key : ℕ) → (1 ≤ white_pawns key + black_pawns key → ⊥) → has_pawns key ≡ false
plain_of key none = no_pawns (white_pawns key + black_pawns key) none
