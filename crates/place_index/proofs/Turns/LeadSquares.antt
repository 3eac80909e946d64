-- The leading men's squares.
use Rattle.std.proofs.Common.{◌≡◌, ℕ, ◌+◌, ◌*◌, ◌<◌, ◌≤◌, true, cond, List, [], ◌∷◌, length, map, slice_index, refl, sym, ap, ◌∙◌, subst, inl, inr, arith}
use Rattle.std.proofs.lemmas.Bool.{cases_eq, cases_lt, lt-ltb, le-ltb}
use Rattle.std.proofs.lemmas.List.{append-nil, length-map}
use Rattle.place_index.specs.Square.{file, before}
use Rattle.place_index.specs.Material.{pieces_of, count_of}
use Rattle.place_index.specs.Men.{stands, squares_of}
use Rattle.place_index.specs.Inside.ShortLists.{inserted}
use Rattle.place_index.specs.Others.{taken}
use Rattle.place_index.specs.Inside.Groups.{CountLike}
use Rattle.place_index.specs.Pawns.{pawn_number, pawn_square, pawn_numbers_of, pawns_number}
use Rattle.place_index.specs.Shape.{has_pawns, lead_code, lead_men}
use Rattle.place_index.specs.Index.{AreAlone, IsPlacement, lead_codes, lead_pawns_number, squares_of_all}
use Rattle.place_index.specs.Inside.Groups.{ArePawnsAt}
use Rattle.place_index.specs.Inside.Leading.{AreLeading}
use Rattle.place_index.specs.Inside.Turned.{IsTurned}
use Rattle.place_index.specs.Inside.TurnedMen.{TurnedMen}
use Rattle.place_index.specs.declared.man.Man.{Man}
use Rattle.place_index.specs.declared.leading.Leading.TheVariants.{Pawn, Pawns}
use Rattle.place_index.proofs.Shapes.Beginning.{lead_by_pawns}
use Rattle.place_index.proofs.Turns.Board.{settled, stands_here, stands_later, squares_more, squares_still, inserted_below, length_inserted}
use Rattle.place_index.proofs.Indices.Collecting.{inserted_above, inserted_last, squares_none, numbers_none}
use Rattle.place_index.proofs.Counting.Falling.{falling_member}
use Rattle.place_index.proofs.Indices.IndexLaw.{codes_by_pawns, number_by_pawns}
use Rattle.place_index.proofs.Materials.KeyTables.{count_table, count_most}
use Rattle.place_index.proofs.Shapes.LayoutGroups.{lead_count}
use Rattle.place_index.proofs.Materials.MenTables.{codes_small}
use Rattle.place_index.proofs.Turns.TurnedMen.{lead_range, lead_numbers_size, numbers_fall}
use Rattle.place_index.proofs.Turns.TurnedPawns.{square_number, number_square, numbers_more, numbers_still}
use Rattle.place_index.proofs.Turns.Mirrorings.{count_small}

-- ---- squares of pawn numbers

taken_inserted : (x s : ℕ) (xs : List ℕ) → taken (inserted x xs) s ≡ before x s + taken xs s
unfolding taken
taken_inserted x s [] = ap (λ l. taken l s) (inserted_last x)
taken_inserted x s (y ∷ ys) =
    elim (cases_lt y x) [
      | inl lt ↦ ap (λ l. taken l s) (inserted_above x y ys lt)
      | inr le ↦ omega (arith, ap (λ l. taken l s) (inserted_below x y ys le), taken_inserted x s ys)
    ]

numbers_inserted : (n s : ℕ) (ns : List ℕ) → taken (map pawn_square (inserted n ns)) s ≡ before (pawn_square n) s + taken (map pawn_square ns) s
unfolding taken
numbers_inserted n s [] = ap (λ l. taken (map pawn_square l) s) (inserted_last n)
numbers_inserted n s (m ∷ ns) =
    elim (cases_lt m n) [
      | inl lt ↦ ap (λ l. taken (map pawn_square l) s) (inserted_above n m ns lt)
      | inr le ↦ omega (arith, ap (λ l. taken (map pawn_square l) s) (inserted_below n m ns le), numbers_inserted n s ns)
    ]

pub pawns_taken : (men : List Man) (c s : ℕ) → AreAlone men → ((t : ℕ) → stands men c t ≡ true → (8 ≤ t) × (t < 56)) → taken (map pawn_square (pawn_numbers_of men c)) s ≡ taken (squares_of men c) s
pawns_taken [] c s a r = ap (λ l. taken (map pawn_square l) s) (numbers_none c) ∙ sym (ap (λ l. taken l s) (squares_none c))
pawns_taken (m ∷ men) c s a r =
    let rest = pawns_taken men c s a.1 (λ t h. r t (stands_later m men c t h)) in
    elim (cases_eq m.code c) [
      | inl e ↦
          let at = r m.square (subst (λ k. stands (m ∷ men) k m.square ≡ true) e (stands_here m men)) in
          omega (
            arith,
            ap (λ l. taken (map pawn_square l) s) (numbers_more m men c e at.0 at.1 (a.0 c)),
            numbers_inserted (pawn_number m.square) s (pawn_numbers_of men c),
            ap (λ q. before q s) (number_square m.square at.0 at.1),
            rest,
            ap (λ l. taken l s) (squares_more m men c e (omega (arith, at.1)) (a.0 c)),
            taken_inserted m.square s (squares_of men c),
          )
      | inr ne ↦ ap (λ l. taken (map pawn_square l) s) (numbers_still m men c ne) ∙ rest ∙ sym (ap (λ l. taken l s) (squares_still m men c ne))
    ]

pub pawns_length : (men : List Man) (c : ℕ) → AreAlone men → ((t : ℕ) → stands men c t ≡ true → (8 ≤ t) × (t < 56)) → length (pawn_numbers_of men c) ≡ length (squares_of men c)
pawns_length [] c a r = ap length (numbers_none c) ∙ sym (ap length (squares_none c))
pawns_length (m ∷ men) c a r =
    let rest = pawns_length men c a.1 (λ t h. r t (stands_later m men c t h)) in
    elim (cases_eq m.code c) [
      | inl e ↦
          let at = r m.square (subst (λ k. stands (m ∷ men) k m.square ≡ true) e (stands_here m men)) in
          omega (
            arith,
            ap length (numbers_more m men c e at.0 at.1 (a.0 c)),
            length_inserted (pawn_number m.square) (pawn_numbers_of men c),
            rest,
            ap length (squares_more m men c e (omega (arith, at.1)) (a.0 c)),
            length_inserted m.square (squares_of men c),
          )
      | inr ne ↦ ap length (numbers_still m men c ne) ∙ rest ∙ sym (ap length (squares_still m men c ne))
    ]

-- the squares of the leading pawns' numbers count like their squares
pub pawns_like : (key : ℕ) (men : List Man) (squares : List ℕ) → IsPlacement key men → squares ≡ map pawn_square (pawn_numbers_of men (lead_code key)) → CountLike squares (squares_of men (lead_code key))
pawns_like key men squares p is = (
  ap length is ∙ length-map (pawn_numbers_of men (lead_code key)) pawn_square ∙ pawns_length men (lead_code key) p.alone (lead_range key men p),
  λ s. ap (λ l. taken l s) is ∙ pawns_taken men (lead_code key) s p.alone (lead_range key men p),
)

-- ---- a leading pawn alone

single : (xs : List ℕ) → length xs ≡ 1 → xs ≡ slice_index xs 0 ∷ []
single [] e = absurd (omega (arith, e))
single (x ∷ []) e = refl
single (x ∷ y ∷ xs) e = absurd (omega (arith, e))

before_self : (a : ℕ) → before a a ≡ 0
unfolding before
before_self a = rw (le-ltb a a (omega arith)) refl

not_before : (a b : ℕ) → before a b ≡ 0 → b ≤ a
unfolding before
not_before a b e =
    elim (cases_lt a b) [
      | inl lt ↦ absurd (omega (arith, ap (λ t. cond {A = ℕ} t 1 0) (sym (lt-ltb a b lt)) ∙ e))
      | inr le ↦ le
    ]

taken_one : (a s : ℕ) → taken (a ∷ []) s ≡ before a s + 0
unfolding taken
taken_one a s = refl

one_square : (a b : ℕ) → ((s : ℕ) → taken (a ∷ []) s ≡ taken (b ∷ []) s) → a ≡ b
one_square a b same =
    let one : b ≤ a = not_before a b (omega (arith, same b, taken_one a b, taken_one b b, before_self b)) in
    let other : a ≤ b = not_before b a (omega (arith, same a, taken_one a a, taken_one b a, before_self a)) in
    omega (arith, one, other)

pub lone_pawn_once : (key : ℕ) → has_pawns key ≡ true → lead_men key ≡ 1 → count_of (pieces_of key) (lead_code key) ≡ 1
lone_pawn_once key pawned one = lead_count key ∙ sym (lead_by_pawns key pawned) ∙ one

lone_number : (key : ℕ) (men : List Man) (s : ℕ) → has_pawns key ≡ true → lead_men key ≡ 1 → IsPlacement key men → squares_of men (lead_code key) ≡ s ∷ [] → pawn_numbers_of men (lead_code key) ≡ pawn_number s ∷ []
lone_number key men s pawned one p squares =
    let numbers = single (pawn_numbers_of men (lead_code key)) (lead_numbers_size key men pawned p ∙ one) in
    let n = slice_index (pawn_numbers_of men (lead_code key)) 0 in
    let small : n < 48 = numbers_fall men (lead_code key) 0 (omega (arith, ap length numbers)) in
    let same : pawn_square n ≡ s =
    one_square (pawn_square n) s (λ x. ap (λ l. taken (map pawn_square l) x) (sym numbers) ∙ pawns_taken men (lead_code key) x p.alone (lead_range key men p) ∙ ap (λ l. taken l x) squares) in
    numbers ∙ ap (λ k. k ∷ []) (sym (square_number n small) ∙ ap pawn_number same)

first_stands : (men : List Man) (c s : ℕ) → squares_of men c ≡ s ∷ [] → stands men c s ≡ true
unfolding squares_of
first_stands men c s e = (falling_member (stands men c) 64 s [] e).0

pub pawn_leads : (t : TurnedMen) (s : ℕ) → IsTurned t → has_pawns t.shape.material ≡ true → lead_men t.shape.material ≡ 1 → squares_of t.men (lead_code t.shape.material) ≡ s ∷ [] → AreLeading t (Pawn s)
pawn_leads t s h pawned one squares =
    let numbers = lone_number t.shape.material t.men s pawned one h.men squares in
    let range = lead_range t.shape.material t.men h.men s (first_stands t.men (lead_code t.shape.material) s squares) in
    let same : pawn_square (pawn_number s) ≡ s = number_square s range.0 range.1 in
    let all : squares_of_all t.men (lead_codes t.shape) ≡ s ∷ [] = ap (squares_of_all t.men) (codes_by_pawns t.shape pawned) ∙ append-nil (squares_of t.men (lead_code t.shape.material)) ∙ squares in
    record {
      wanted = (omega (arith, range.0), omega (arith, range.1), ap (λ x. file x) (sym same ∙ ap (λ xs. pawn_square (slice_index xs 0)) (sym numbers)) ∙ (h.lead.pawns pawned).file);
      number = sym (number_by_pawns t.shape t.men pawned ∙ ap lead_pawns_number numbers ∙ ap (λ x. pawns_number x []) same ∙ omega arith);
      squares = (ap length (sym all), λ k. ap (λ l. taken l k) (sym all));
    }

pub pawns_lead : (t : TurnedMen) (numbers : List ℕ) → IsTurned t → has_pawns t.shape.material ≡ true → numbers ≡ pawn_numbers_of t.men (lead_code t.shape.material) → AreLeading t (Pawns numbers)
pawns_lead t numbers h pawned e = record {
  wanted = subst (ArePawnsAt t.shape.file) (sym e) (h.lead.pawns pawned);
  number = ap lead_pawns_number e ∙ sym (number_by_pawns t.shape t.men pawned);
  squares = subst (CountLike (map pawn_square numbers)) (sym (ap (squares_of_all t.men) (codes_by_pawns t.shape pawned) ∙ append-nil (squares_of t.men (lead_code t.shape.material))))
      (pawns_like t.shape.material t.men (map pawn_square numbers) h.men (ap (map pawn_square) e));
}

-- ---- no more than three men of a kind

pub count_few : (key c : ℕ) → key < 145 → count_of (pieces_of key) c ≤ 3
count_few key c lt =
    elim (cases_lt c 16) [
      | inl small ↦
          let at : key * 16 + c < 2320 = omega (arith, lt, small) in
          omega (arith, count_table key c lt small, count_most (key * 16 + c) at)
      | inr le ↦ omega (arith, count_small 16 (pieces_of key) c (codes_small key lt) le)
    ]

pub group_few : (key : ℕ) (men : List Man) (c : ℕ) → key < 145 → IsPlacement key men → length (squares_of men c) ≤ 3
group_few key men c lt p = omega (arith, (settled key men p).counts c, count_few key c lt)
