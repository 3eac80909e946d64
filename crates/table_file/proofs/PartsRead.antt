-- What the parts that were read were read from: shapes of the material, and maps for each.
use Rattle.std.proofs.Common.{◌≡◌, ℕ, zero, suc, ◌+◌, ◌/◌, Bool, true, false, cond, eqb, List, [], ◌∷◌, length, map, Some, Result, Ok, Err, refl, sym, ap, ◌∙◌, arith}
use Rattle.std.specs.Prelude.{◌%◌, slice_get}
use Rattle.std.specs.List.{range_with_len}
use Rattle.place_index.specs.Material.{pieces_of}
use Rattle.place_index.specs.Shape.{Layout, layout}
use Rattle.table_file.specs.declared.fault.TableFault.{TableFault}
use Rattle.table_file.specs.declared.fault.TableFault.TheVariants.{BadPieces, BadOrder}
use Rattle.table_file.specs.declared.kind.TableKind.{TableKind}
use Rattle.table_file.specs.declared.kind.TableKind.TheVariants.{Wdl, Dtz}
use Rattle.table_file.specs.declared.parts.Part.{Part}
use Rattle.table_file.specs.Reading.{◌>>=◌, each_at, byte_at, taken_at, risen}
use Rattle.table_file.specs.Shapes.{shape_at, are_good_pieces, are_good_orders}
use Rattle.table_file.specs.Files.{side_of, setup_at, second_at, nibble, part_at, side_count}
use Rattle.table_file.specs.SizeRecords.{size_record_at}
use Rattle.table_file.specs.Maps.{ValueMaps, maps_at, all_maps_at}
use Rattle.table_file.specs.Sections.{AreShaped}
use Rattle.table_file.proofs.Agreeing.{bind_ok, is_ok}

some_is : {A : Type 0} (a b : A) → Some a ≡ Some b → a ≡ b
some_is a b e = cc

-- each part by its step
source : {A B : Type 0} (step : A → List ℕ → Result (B × List ℕ) TableFault) (xs : List A) (bytes : List ℕ) (x : List B × List ℕ) → each_at step xs bytes ≡ Ok x
    → (k : ℕ) (b : B) → slice_get x.0 k ≡ Some b → (a : A) × (before : List ℕ) × (after : List ℕ) × (slice_get xs k ≡ Some a) × (step a before ≡ Ok (b, after))
unfolding each_at
source {B = B} step [] bytes x e k b at =
    let none = ap (λ (y : List B × List ℕ). slice_get y.0 k) (is_ok ([], bytes) x e) in
    absurd (cc (none, at))
source {B = B} step (a ∷ xs) bytes x e zero b at =
    let one = bind_ok (step a bytes) (λ first. each_at step xs first.1 >>= λ rest. Ok (first.0 ∷ rest.0, rest.1)) x e in
    let two = bind_ok (each_at step xs one.0.1) (λ rest. Ok (one.0.0 ∷ rest.0, rest.1)) x one.2 in
    let same = is_ok (one.0.0 ∷ two.0.0, two.0.1) x two.2 in
    let first : one.0.0 ≡ b = some_is one.0.0 b (ap (λ (y : List B × List ℕ). slice_get y.0 0) same ∙ at) in
    (a, bytes, one.0.1, refl, one.1 ∙ ap (λ (c : B). Ok (c, one.0.1)) first)
source {B = B} step (a ∷ xs) bytes x e (suc k) b at =
    let one = bind_ok (step a bytes) (λ first. each_at step xs first.1 >>= λ rest. Ok (first.0 ∷ rest.0, rest.1)) x e in
    let two = bind_ok (each_at step xs one.0.1) (λ rest. Ok (one.0.0 ∷ rest.0, rest.1)) x one.2 in
    let same = is_ok (one.0.0 ∷ two.0.0, two.0.1) x two.2 in
    source step xs one.0.1 two.0 two.1 k b (ap (λ (y : List B × List ℕ). slice_get y.0 (suc k)) same ∙ at)

as_many : {A B : Type 0} (step : A → List ℕ → Result (B × List ℕ) TableFault) (xs : List A) (bytes : List ℕ) (x : List B × List ℕ) → each_at step xs bytes ≡ Ok x → length x.0 ≡ length xs
unfolding each_at
as_many {B = B} step [] bytes x e = ap (λ (y : List B × List ℕ). length y.0) (sym (is_ok ([], bytes) x e))
as_many {B = B} step (a ∷ xs) bytes x e =
    let one = bind_ok (step a bytes) (λ first. each_at step xs first.1 >>= λ rest. Ok (first.0 ∷ rest.0, rest.1)) x e in
    let two = bind_ok (each_at step xs one.0.1) (λ rest. Ok (one.0.0 ∷ rest.0, rest.1)) x one.2 in
    sym (ap (λ (y : List B × List ℕ). length y.0) (is_ok (one.0.0 ∷ two.0.0, two.0.1) x two.2)) ∙ ap suc (as_many step xs one.0.1 two.0 two.1)

-- ---- shapes

two_tests : (a b : Bool) (l s : Layout) → cond a (cond b (Ok l) (Err BadOrder)) (Err BadPieces) ≡ Ok s → l ≡ s
two_tests true true l s e = is_ok l s e
two_tests true false l s e = absurd cc
two_tests false b l s e = absurd cc

shape_read : (m : ℕ) (pieces : List ℕ) (order second file : ℕ) (s : Layout) → shape_at m pieces order second file ≡ Ok s → layout m pieces order second file ≡ s
unfolding shape_at
shape_read m pieces order second file s e = two_tests (are_good_pieces m pieces) (are_good_orders (layout m pieces order second file)) (layout m pieces order second file) s e

setup_read : (m sides k : ℕ) (bytes : List ℕ) (s : Layout) (after : List ℕ) → setup_at m sides k bytes ≡ Ok (s, after) → (s.material ≡ m) × (s.file ≡ k / sides)
unfolding setup_at
setup_read m sides k bytes s after e =
    let side = side_of (k % sides) in
    let order = bind_ok (byte_at bytes) _ (s, after) e in
    let second = bind_ok (second_at m order.0.1) _ (s, after) order.2 in
    let men = bind_ok (taken_at (length (pieces_of m)) second.0.1) _ (s, after) second.2 in
    let shape = bind_ok (shape_at m (map (nibble side) men.0.0) (nibble side order.0.0) (nibble side second.0.0) (k / sides)) _ (s, after) men.2 in
    let same = is_ok (shape.0, cond (eqb (k % sides + 1) sides) men.0.1 bytes) (s, after) shape.2 in
    let is = shape_read m (map (nibble side) men.0.0) (nibble side order.0.0) (nibble side second.0.0) (k / sides) shape.0 shape.1 ∙ ap (λ (z : Layout × List ℕ). z.0) same in
    (ap (λ (l : Layout). l.material) (sym is), ap (λ (l : Layout). l.file) (sym is))

part_read : (kind : TableKind) (s : Layout) (bytes : List ℕ) (p : Part) (after : List ℕ) → part_at kind s bytes ≡ Ok (p, after) → s ≡ p.shape
unfolding part_at
part_read kind s bytes p after e =
    let read = bind_ok (size_record_at kind bytes) _ (p, after) e in
    ap (λ (z : Part × List ℕ). z.0.shape) (is_ok (record { shape = s; size_record = read.0.0 }, read.0.1) (p, after) read.2)

range_at : (from n k a : ℕ) → slice_get (range_with_len from n) k ≡ Some a → from + k ≡ a
range_at from zero k a at = absurd cc
range_at from (suc n) zero a at = omega (arith, some_is from a at)
range_at from (suc n) (suc k) a at = omega (arith, range_at (from + 1) n k a at)

pub are_shaped : (kind : TableKind) (m sides n : ℕ) (bytes between : List ℕ) (shapes : List Layout × List ℕ) (parts : List Part × List ℕ)
    → sides ≡ side_count kind m → each_at (setup_at m sides) (range_with_len 0 n) bytes ≡ Ok shapes → each_at (part_at kind) shapes.0 between ≡ Ok parts → AreShaped kind m parts.0
are_shaped kind m sides n bytes between shapes parts sides-is e f k p at =
    let of-part = source (part_at kind) shapes.0 between parts f k p at in
    let same = part_read kind of-part.0 of-part.1 p of-part.2 of-part.4 in
    let of-shape = source (setup_at m sides) (range_with_len 0 n) bytes shapes e k of-part.0 of-part.3 in
    let said = setup_read m sides of-shape.0 of-shape.1 of-part.0 of-shape.2 of-shape.4 in
    let place : of-shape.0 ≡ k = omega (arith, range_at 0 n k of-shape.0 of-shape.3) in
    (sym (ap (λ (l : Layout). l.material) same) ∙ said.0, sym (ap (λ (l : Layout). l.file) same) ∙ said.1 ∙ rw (place, sides-is) refl)

-- ---- maps

pub maps_for_each : (kind : TableKind) (parts : List Part) (bytes : List ℕ) (maps : List ValueMaps × List ℕ) → all_maps_at kind parts bytes ≡ Ok maps → kind ≡ Dtz → length maps.0 ≡ length parts
unfolding all_maps_at
maps_for_each Wdl parts bytes maps e is = absurd cc
maps_for_each Dtz parts bytes maps e is =
    let read = bind_ok (each_at maps_at parts bytes) _ maps e in
    sym (ap (λ (z : List ValueMaps × List ℕ). length z.0) (is_ok (read.0.0, risen 2 read.0.1) maps read.2)) ∙ as_many maps_at parts bytes read.0 read.1
