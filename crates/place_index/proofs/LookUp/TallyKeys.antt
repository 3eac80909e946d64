-- A material is found by the tally of its men, in either colours.
use Rattle.std.proofs.Common.{◌≡◌, ◌≢◌, ℕ, ◌+◌, ◌*◌, ◌/◌, ◌%◌, ◌<◌, ◌≤◌, true, eqb, leb, ltb, Option, Some, None, List, [], ◌∷◌, length, map, take, slice_index, refl, sym, ap, ◌∙◌, subst, inl, inr, arith}
use Rattle.std.specs.Prelude.{◌&&◌, IfNone, bit_or, count_by, max}
use Rattle.std.specs.List.{list_all}
use Rattle.std.specs.List.Sorted.{IsPermutation}
use Rattle.std.proofs.Math.Nat.{max_comm}
use Rattle.std.proofs.lemmas.Bool.{agree_below_at, and_from, and_parts, eqb-true, leb-true, ltb-true}
use Rattle.std.proofs.lemmas.List.{length-map, length-take}
use Rattle.std.proofs.lemmas.List.Sorted.{IsPermutation-map}
use Rattle.std.proofs.lemmas.Nat.{or_shifted}
use Rattle.board_core.specs.declared.piece.Piece.{Piece}
use Rattle.board_core.specs.declared.piece.Side.TheVariants.{White, Black}
use Rattle.board_core.specs.Position.{is_of}
use Rattle.place_index.specs.Material.{count_of, digits, pieces_of, tally_of}
use Rattle.place_index.specs.Men.{codes_of, other_side, exchanged}
use Rattle.place_index.specs.Inside.LookUp.{HasTally, key_by_tally, rotated}
use Rattle.place_index.specs.Placed.{IsMaterialOf, IsNamed, men_on}
use Rattle.place_index.specs.declared.man.Man.{Man}
use Rattle.place_index.specs.declared.tables.TheConstants.{KEYS}
use Rattle.place_index.proofs.Materials.KeyWalk.{each, each_pieces, pieces}
use Rattle.place_index.proofs.LookUp.MenOn.{codes_on, men_count}
use Rattle.place_index.proofs.Materials.Symmetric.{codes_exchanged, material_few, twice}
use Rattle.place_index.proofs.Materials.Tallies.{same_tally, tallied_small, tally_cons, tally_nil}

-- ---- tallies with colours exchanged

-- the halves of a code's tally
abbrev low : ℕ → ℕ
low c = tally_of (c ∷ []) % 4294967296

abbrev high : ℕ → ℕ
high c = tally_of (c ∷ []) / 4294967296

code_halves : (c : ℕ) → c < 16 → (eqb (tally_of (other_side c ∷ [])) (high c + 4294967296 * low c) && leb (low c + high c) 268435456) ≡ true
unfolding count_of digits
code_halves c lt = agree_below_at (λ c. eqb (tally_of (other_side c ∷ [])) (high c + 4294967296 * low c) && leb (low c + high c) 268435456) (λ c. true) 16 c refl lt

other_small : (c : ℕ) → c < 16 → ltb (other_side c) 16 ≡ true
other_small c lt = agree_below_at (λ c. ltb (other_side c) 16) (λ c. true) 16 c refl lt

-- a tally is two halves, which change places with the colours
record Halves (codes : List ℕ) : Type 0 where
  lower : ℕ
  upper : ℕ
  is : tally_of codes ≡ lower + 4294967296 * upper
  other : tally_of (map other_side codes) ≡ upper + 4294967296 * lower
  most : lower + upper ≤ 268435456 * length codes

halves : (codes : List ℕ) → list_all (λ c. ltb c 16) codes ≡ true → Halves codes
halves [] small = record { lower = 0; upper = 0; is = omega (arith, tally_nil); other = omega (arith, tally_nil); most = omega arith }
halves (c ∷ codes) small =
    let both = and_parts (ltb c 16) (list_all (λ c. ltb c 16) codes) small in
    let rest = halves codes both.1 in
    let here = and_parts (eqb (tally_of (other_side c ∷ [])) (high c + 4294967296 * low c)) (leb (low c + high c) 268435456) (code_halves c (ltb-true c 16 both.0)) in
    record {
      lower = low c + rest.lower;
      upper = high c + rest.upper;
      is = omega (arith, tally_cons c codes, rest.is);
      other = omega (arith, tally_cons (other_side c) (map other_side codes), rest.other, eqb-true _ _ here.0);
      most = omega (arith, rest.most, leb-true _ _ here.1);
    }

exchanged_small : (codes : List ℕ) → list_all (λ c. ltb c 16) codes ≡ true → list_all (λ c. ltb c 16) (map other_side codes) ≡ true
exchanged_small [] small = refl
exchanged_small (c ∷ codes) small =
    let both = and_parts (ltb c 16) (list_all (λ c. ltb c 16) codes) small in
    and_from (ltb (other_side c) 16) (list_all (λ c. ltb c 16) (map other_side codes)) (other_small c (ltb-true c 16 both.0)) (exchanged_small codes both.1)

rotated_halves : (t lower upper : ℕ) → t ≡ lower + 4294967296 * upper → lower < 4294967296 → rotated t ≡ upper + 4294967296 * lower
rotated_halves t lower upper is lt = omega (arith, is, lt)

-- the tally of exchanged men
tally_exchanged : (men : List Man) → list_all (λ c. ltb c 16) (codes_of men) ≡ true → length men ≤ 5 → tally_of (codes_of (exchanged men)) ≡ rotated (tally_of (codes_of men))
tally_exchanged men small few =
    let h = halves (codes_of men) small in
    let lt : h.lower < 4294967296 = omega (arith, h.most, few, length-map men (λ m. m.code)) in
    ap tally_of (codes_exchanged men) ∙ h.other ∙ sym (rotated_halves _ h.lower h.upper h.is lt)

-- ---- a tally is that of a table where its men are the table's

pub has_tally : (key : ℕ) (men : List Man) → list_all (λ c. ltb c 16) (codes_of men) ≡ true → length men ≤ 5 → IsMaterialOf key men → HasTally key (tally_of (codes_of men))
has_tally key men small few (inl named) = inl (same_tally (codes_of men) (pieces_of key) named)
has_tally key men small few (inr named) = inr (sym (tally_exchanged men small few) ∙ same_tally (codes_of (exchanged men)) (pieces_of key) named)

pub tally_has : (key : ℕ) (men : List Man) → key < 145 → list_all (λ c. ltb c 16) (codes_of men) ≡ true → length men ≤ 5 → HasTally key (tally_of (codes_of men)) → IsMaterialOf key men
tally_has key men lt small few (inl is) = inl (tallied_small key (codes_of men) lt small (omega (arith, few, length-map men (λ m. m.code))) is)
tally_has key men lt small few (inr is) =
    let other = subst (λ l. list_all (λ c. ltb c 16) l ≡ true) (sym (codes_exchanged men)) (exchanged_small (codes_of men) small) in
    inr (tallied_small key (codes_of (exchanged men)) lt other (omega (arith, few, length-map men (λ m. m.code), ap length (codes_exchanged men), length-map (codes_of men) other_side))
    (tally_exchanged men small few ∙ is))

-- ---- the key of a tally

pub rotate_is : (t : ℕ) → t < 18446744073709551616 → bit_or (t * 4294967296 % 18446744073709551616) (t / 4294967296) ≡ rotated t
rotate_is t lt =
    let up : t * 4294967296 % 18446744073709551616 ≡ t % 4294967296 * 4294967296 = omega (arith, lt) in
    let below : t / 4294967296 < 4294967296 = omega (arith, lt) in
    ap (λ n. bit_or n (t / 4294967296)) up ∙ or_shifted (t % 4294967296) 32 (t / 4294967296) below

key_test : (k : ℕ) → k < 145 → eqb (slice_index KEYS (max (tally_of (pieces_of k)) (rotated (tally_of (pieces_of k))) % 1181)) k ≡ true
unfolding each pieces count_of digits
key_test k lt = each_pieces (λ k ps. eqb (slice_index KEYS (max (tally_of ps) (rotated (tally_of ps)) % 1181)) k) refl k lt

rotated_twice : (t : ℕ) → t < 18446744073709551616 → rotated (rotated t) ≡ t
rotated_twice t lt = omega (arith, lt)

pub key_of_tally : (key tally : ℕ) → key < 145 → tally < 18446744073709551616 → HasTally key tally → key_by_tally tally ≡ key
key_of_tally key tally lt below (inl is) = ap key_by_tally is ∙ eqb-true _ _ (key_test key lt)
key_of_tally key tally lt below (inr is) =
    let back : tally ≡ rotated (tally_of (pieces_of key)) = sym (rotated_twice tally below) ∙ ap rotated is in
    ap (λ t. slice_index KEYS (max t (rotated tally) % 1181)) back ∙ ap (λ t. slice_index KEYS (max (rotated (tally_of (pieces_of key))) t % 1181)) is
    ∙ ap (λ t. slice_index KEYS (t % 1181)) (max_comm (rotated (tally_of (pieces_of key))) (tally_of (pieces_of key))) ∙ eqb-true _ _ (key_test key lt)

exchanged_codes : (key : ℕ) (men : List Man) → IsNamed key (exchanged men) → IsPermutation (codes_of men) (map other_side (pieces_of key))
exchanged_codes key men named =
    subst (λ l. IsPermutation l (map other_side (pieces_of key))) (twice (codes_of men))
    (IsPermutation-map other_side (map other_side (codes_of men)) (pieces_of key) (subst (λ l. IsPermutation l (pieces_of key)) (codes_exchanged men) named))

other_test : (k : ℕ) → k < 145 → eqb (key_by_tally (tally_of (map other_side (pieces_of k)))) k ≡ true
unfolding each pieces count_of digits
other_test k lt = each_pieces (λ k ps. eqb (key_by_tally (tally_of (map other_side ps))) k) refl k lt

-- men have one material
pub found_key : (key : ℕ) (men : List Man) → key < 145 → IsMaterialOf key men → key_by_tally (tally_of (codes_of men)) ≡ key
found_key key men lt (inl named) = ap key_by_tally (same_tally _ _ named) ∙ eqb-true _ _ (key_test key lt)
found_key key men lt (inr named) = ap key_by_tally (same_tally _ _ (exchanged_codes key men named)) ∙ eqb-true _ _ (other_test key lt)

-- a tally that is neither way that of the key found has none
pub other_key : (key found tally own other : ℕ) → found ≡ key → own ≡ tally_of (pieces_of found) → other ≡ rotated tally → tally ≢ own → other ≢ own → HasTally key tally → ⊥
other_key key found tally own other e o r ne nf (inl is) = ne (is ∙ ap (λ k. tally_of (pieces_of k)) (sym e) ∙ sym o)
other_key key found tally own other e o r ne nf (inr is) = nf (r ∙ is ∙ ap (λ k. tally_of (pieces_of k)) (sym e) ∙ sym o)

-- ---- the material of a position

pub few_on : (board : List (Option Piece)) (key count : ℕ) → key < 145 → IsMaterialOf key (men_on board) → count ≡ count_by (is_of White) board + count_by (is_of Black) board → 5 < count → ⊥
few_on board key count lt is sides more = omega (arith, more, sides, men_count 0 board, material_few key (men_on board) lt is)

pub IfNone_then : {X : Type 0} (r : Option X) {P Q : Type 0} → IfNone r P → (P → Q) → IfNone r Q
IfNone_then None p f = f p
IfNone_then (Some x) p f = tt

pub found_on : (board : List (Option Piece)) (key tally count : ℕ) (items : List Man) → key < 145 → take count items ≡ men_on board → count ≤ 5 → tally ≡ tally_of (codes_of (men_on board)) → HasTally key tally → IsMaterialOf key (men_on board)
found_on board key tally count items lt is few t has =
    tally_has key (men_on board) lt (codes_on board) (omega (arith, few, ap length is, length-take count items)) (subst (HasTally key) t has)

pub none_on : (board : List (Option Piece)) (key tally : ℕ) → key < 145 → tally ≡ tally_of (codes_of (men_on board)) → IsMaterialOf key (men_on board) → HasTally key tally
none_on board key tally lt t is = subst (HasTally key) (sym t) (has_tally key (men_on board) (codes_on board) (material_few key (men_on board) lt is) is)
