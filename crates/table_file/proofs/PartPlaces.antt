-- The places of parts among those of a table file.
use Rattle.std.proofs.Common.{◌≡◌, ℕ, suc, ◌+◌, ◌*◌, ◌/◌, ◌<◌, ◌≤◌, Bool, true, false, cond, refl, sym, ap, ◌∙◌, arith}
use Rattle.std.specs.Prelude.{◌%◌}
use Rattle.std.proofs.lemmas.Nat.{mod_below, div-mul-add, div_below}
use Rattle.std.proofs.Math.Nat.{mul-le-mul_left, mul-suc, mul_comm}
use Rattle.board_core.specs.declared.piece.Side.TheVariants.{White}
use Rattle.place_index.specs.Placed.{Placement, Fits, side_number}
use Rattle.place_index.specs.Shape.{Layout, has_pawns}
use Rattle.table_file.specs.declared.kind.TableKind.{TableKind}
use Rattle.table_file.specs.declared.kind.TableKind.TheVariants.{Wdl, Dtz}
use Rattle.table_file.specs.declared.places.PartPlace.{PartPlace}
use Rattle.table_file.specs.Inside.Places.{IsPlace}
use Rattle.table_file.specs.Files.{files_of, side_count, is_symmetric}
use Rattle.table_file.specs.Tables.{Contents, PartAt, part_for, nth_part, part_file, part_count, part_place, IsAskedBy}

-- ---- how many sides and files

one_or_two : (b : Bool) → 1 ≤ cond b 1 2
one_or_two true = omega arith
one_or_two false = omega arith

pub some_sides : (kind : TableKind) (m : ℕ) → 1 ≤ side_count kind m
unfolding side_count
some_sides Dtz m = omega arith
some_sides Wdl m = one_or_two (is_symmetric m)

one_or_four : (b : Bool) → cond b 4 1 ≤ 4
one_or_four true = omega arith
one_or_four false = omega arith

few_files : (m : ℕ) → files_of m ≤ 4
unfolding files_of
few_files m = one_or_four (has_pawns m)

-- part k of so many is on one of four files
pub file_below : (kind : TableKind) (m k sides n : ℕ) → sides ≡ side_count kind m → n ≡ part_count kind m → k < n → k / sides < 4
file_below kind m k sides n sides-is n-is lt =
    let s = side_count kind m in
    let more : files_of m * s ≤ 4 * s = omega (arith, mul-le-mul_left s (few_files m), mul_comm s (files_of m), mul_comm s 4) in
    rw sides-is (div_below k s 4 (some_sides kind m) (omega (arith, lt, n-is, more)))

-- ---- the place of a part

own_below : (m file : ℕ) → file < 4 → part_file m file < files_of m
unfolding files_of
own_below m file lt = by_pawns (has_pawns m)
  where
    by_pawns : (b : Bool) → cond b file 0 < cond b 4 1
    by_pawns true = lt
    by_pawns false = omega arith

place_below : (a f r s : ℕ) → a < f → r < s → a * s + r < f * s
place_below a f r s lt small =
    let more : s * suc a ≤ s * f = mul-le-mul_left s lt in
    let one = mul-suc s a in
    omega (arith, more, one, mul_comm s a, mul_comm s f, small)

pub within_parts : (p : PartAt) → p.file < 4 → part_place p < part_count p.table.kind p.table.material
within_parts p lt =
    let s = side_count p.table.kind p.table.material in
    place_below (part_file p.table.material p.file) (files_of p.table.material) (side_number p.side % s) s (own_below p.table.material p.file lt) (mod_below (side_number p.side) s (some_sides p.table.kind p.table.material))

in_one : (f n s : ℕ) → 1 ≡ s → f ≡ f * s + n % s
in_one f n s e = rw (← e) (omega arith)

in_two : (f n s : ℕ) → 2 ≡ s → n < 2 → 2 * f + n ≡ f * s + n % s
in_two f n s e lt = rw (← e) (omega (arith, lt))

-- of one side, and of two
pub place_in_one : (p : PartAt) (f : ℕ) → 1 ≡ side_count p.table.kind p.table.material → f ≡ part_file p.table.material p.file → f ≡ part_place p
place_in_one p f one own =
    let s = side_count p.table.kind p.table.material in
    let n = side_number p.side in
    in_one f n s one ∙ ap (λ g. g * s + n % s) own

pub place_in_two : (p : PartAt) (f n : ℕ) → 2 ≡ side_count p.table.kind p.table.material → f ≡ part_file p.table.material p.file → n ≡ side_number p.side → n < 2 → 2 * f + n ≡ part_place p
place_in_two p f n two own n-is lt =
    let s = side_count p.table.kind p.table.material in
    in_two f n s two lt ∙ ap (λ g. g * s + n % s) own ∙ ap (λ m. part_file p.table.material p.file * s + m % s) n-is

pub file_of_place : (kind : TableKind) (m side file k : ℕ) → k ≡ file * side_count kind m + side % side_count kind m → k / side_count kind m ≡ file
file_of_place kind m side file k is =
    let s = side_count kind m in
    ap (λ i. i / s) is ∙ div-mul-add file s (side % s) (mod_below side s (some_sides kind m))

-- ---- a placement, and a DTZ table

pub fits_part : (p : PartAt) (placed : Placement) (l : Layout) → l.material ≡ p.table.material → l.file ≡ part_file p.table.material p.file → IsAskedBy p placed → Fits l placed
fits_part p placed l material file asked =
    record {
      material = asked.material ∙ sym material;
      file = own (has_pawns p.table.material) refl ∙ sym file;
    }
  where
    own : (b : Bool) → has_pawns p.table.material ≡ b → placed.file ≡ cond (has_pawns p.table.material) p.file 0
    own true e = rw e asked.file
    own false e = rw e (asked.first (ap (λ m. has_pawns m) asked.material ∙ e))

dtz_sides : (kind : TableKind) (m : ℕ) → kind ≡ Dtz → side_count kind m ≡ 1
unfolding side_count
dtz_sides Dtz m e = refl
dtz_sides Wdl m e = absurd cc

-- a DTZ table doesn't look at the side
pub one_side : (p : PartAt) → p.table.kind ≡ Dtz → part_place p ≡ part_place (part_for p.table White p.file)
one_side p e =
    let one = dtz_sides p.table.kind p.table.material e in
    let same : side_number p.side % side_count p.table.kind p.table.material ≡ 0 % side_count p.table.kind p.table.material = rw one (omega arith) in
    ap (λ n. part_file p.table.material p.file * side_count p.table.kind p.table.material + n) same

-- ---- part k

-- the part that its place gives
pub nth_is : (t : Contents) (kind : TableKind) (material k : ℕ) (place : PartPlace) → IsPlace (side_count kind material) k place → kind ≡ t.kind → material ≡ t.material → part_for t place.side place.file ≡ nth_part t k
nth_is t kind material k place at kind-is material-is =
    let sides : side_count kind material ≡ side_count t.kind t.material = rw (kind-is, material-is) refl in
    rw (at.side, at.file, sides) refl
