-- What is filled byte by byte is a rank, and a rank is filled so.
use Rattle.std.proofs.Common.{lit≤, get_or, ◌⊎◌, leb, ◌≡◌, ℕ, zero, suc, ◌+◌, ◌-◌, ◌<◌, ◌≤◌, Bool, true, false, cond, List, [], ◌∷◌, length, Option, Some, None, refl, sym, ap, ◌∙◌, arith, inl, inr, eqb}
use Rattle.std.proofs.Math.Bool.{and-false}
use Rattle.std.specs.Prelude.{◌&&◌, ◌||◌, not, nat_lt, is_some, replicate, ◌==◌}
use Rattle.std.specs.Option.{option_map_or}
use Rattle.std.specs.List.{list_all, flat_map, All}
use Rattle.std.proofs.lemmas.List.Sums.{AllPass-from_list_all}
use Rattle.std.proofs.lemmas.Bool.{cases_lt, lt-ltb, le-ltb, le-leb, lt-leb, leb-true, eqb-true, ne_eqb}
use Rattle.std.proofs.lemmas.List.{length-append, length-replicate}
use Rattle.std.proofs.lemmas.List.Concat.{flat_map-cons}
use Rattle.board_core.specs.declared.piece.Piece.{Piece}
use Rattle.board_core.specs.declared.piece.Side.{Side}
use Rattle.board_core.specs.declared.piece.Side.TheVariants.{White, Black}
use Rattle.board_core.specs.declared.piece.Kind.{Kind}
use Rattle.board_core.specs.declared.piece.Kind.TheVariants.{Pawn, Knight, Bishop, Rook, Queen, King}
use Rattle.fen_text.specs.Placement.{fen_letter, letter_of, man_of, is_run, is_rank_byte, cells_of, runs_apart, SpellsRank}
use Rattle.fen_text.specs.Inside.Scan.{fills}

-- the squares of a digit
pub run_cells : (c : ℕ) → 49 ≤ c → c ≤ 56 → cells_of c ≡ replicate (c - 48) None
run_cells c low high = (let a = le-leb 49 c low in let b = le-leb c 56 high in rw (a, b) refl)

pub both : (a b : Bool) → (a && b) ≡ true → (a ≡ true) × (b ≡ true)
both true b e = (refl, e)
both false b e = absurd cc

branch : (b : Bool) (c k : ℕ) (man : Piece) (rest : Option Piece) (m : Piece) → eqb c k ≡ b → letter_of man ≡ k → (rest ≡ Some m → letter_of m ≡ c) → cond b (Some man) rest ≡ Some m → letter_of m ≡ c
branch true c k man rest m test is next e = (let same : man ≡ m = cc in ap letter_of (sym same) ∙ is ∙ sym (eqb-true c k test))
branch false c k man rest m test is next e = next e

if_man : (c k : ℕ) (man : Piece) (rest : Option Piece) (m : Piece) → letter_of man ≡ k → (rest ≡ Some m → letter_of m ≡ c) → cond (eqb c k) (Some man) rest ≡ Some m → letter_of m ≡ c
if_man c k man rest m is next e = branch (eqb c k) c k man rest m refl is next e

-- the letter of the man that a letter stands for
pub man_back : (c : ℕ) (m : Piece) → man_of c ≡ Some m → letter_of m ≡ c
unfolding man_of
man_back c m e =
    if_man c 80 (record { side = White; kind = Pawn }) _ m refl
    (if_man c 78 (record { side = White; kind = Knight }) _ m refl
    (if_man c 66 (record { side = White; kind = Bishop }) _ m refl
    (if_man c 82 (record { side = White; kind = Rook }) _ m refl
    (if_man c 81 (record { side = White; kind = Queen }) _ m refl
    (if_man c 75 (record { side = White; kind = King }) _ m refl
    (if_man c 112 (record { side = Black; kind = Pawn }) _ m refl
    (if_man c 110 (record { side = Black; kind = Knight }) _ m refl
    (if_man c 98 (record { side = Black; kind = Bishop }) _ m refl
    (if_man c 114 (record { side = Black; kind = Rook }) _ m refl
    (if_man c 113 (record { side = Black; kind = Queen }) _ m refl
    (if_man c 107 (record { side = Black; kind = King }) _ m refl
    (λ none. absurd cc)))))))))))) e

letter_from : (side : Side) (kind : Kind) → 66 ≤ fen_letter side kind
letter_from White Pawn = lit≤ tt
letter_from White Knight = lit≤ tt
letter_from White Bishop = lit≤ tt
letter_from White Rook = lit≤ tt
letter_from White Queen = lit≤ tt
letter_from White King = lit≤ tt
letter_from Black Pawn = lit≤ tt
letter_from Black Knight = lit≤ tt
letter_from Black Bishop = lit≤ tt
letter_from Black Rook = lit≤ tt
letter_from Black Queen = lit≤ tt
letter_from Black King = lit≤ tt

-- a byte of a rank is a digit or a letter
from_test : (r : Bool) (o : Option Piece) (c : ℕ) → is_run c ≡ r → man_of c ≡ o → (r || is_some o) ≡ true → 49 ≤ c
from_test true o c run man e = leb-true 49 c (both (leb 49 c) (leb c 56) run).0
from_test false None c run man e = absurd cc
from_test false (Some m) c run man e = omega (arith, man_back c m man, letter_from m.side m.kind)

pub byte_from : (c : ℕ) → is_rank_byte c ≡ true → 49 ≤ c
byte_from c e = from_test (is_run c) (man_of c) c refl refl e

pub rank_no_slash : (text : List ℕ) → list_all is_rank_byte text ≡ true → All (λ b. (b == 47) ≡ false) text
rank_no_slash text e = λ k d lt. let byte : 49 ≤ get_or text k d = byte_from (get_or text k d) (AllPass-from_list_all is_rank_byte text e k d lt) in ne_eqb (get_or text k d) 47 (λ same. omega arith)

-- the square of a letter
pub man_cells : (c : ℕ) (man : Piece) → ((c < 49) ⊎ (56 < c)) → man_of c ≡ Some man → cells_of c ≡ Some man ∷ []
man_cells c man (inl low) e = (let a = lt-leb 49 c low in rw (a, e) refl)
man_cells c man (inr high) e = (let b = lt-leb c 56 high in let no : is_run c ≡ false = rw b (and-false (leb 49 c)) in rw (no, e) refl)

abbrev len : Bool → ℕ → Option Piece → ℕ
len r v o = cond r v (option_map_or (λ _. 1) o 0)

abbrev cells : Bool → ℕ → Option Piece → List (Option Piece)
cells r v o = cond r (replicate v None) (option_map_or (λ m. Some m ∷ []) o [])

length-cells : (r : Bool) (v : ℕ) (o : Option Piece) → length (cells r v o) ≡ len r v o
length-cells true v o = length-replicate v None
length-cells false v None = refl
length-cells false v (Some m) = refl

abbrev step_by : Bool → ℕ → Option Piece → Bool → ℕ → Option (Bool × ℕ)
step_by r v o after left =
    cond r (cond (after || nat_lt left v) None (Some (true, left - v)))
    (cond (is_some o && nat_lt 0 left) (Some (false, left - 1)) None)

record Steps (r : Bool) (v : ℕ) (o : Option Piece) (after : Bool) (left : ℕ) (next : Bool) : Type 0 where
  byte : (r || is_some o) ≡ true
  apart : (after && r) ≡ false
  room : len r v o ≤ left
  goes_on : next ≡ true

steps : (r : Bool) (v : ℕ) (o : Option Piece) (after : Bool) (left : ℕ) (rest : Bool × ℕ → Bool) → option_map_or rest (step_by r v o after left) false ≡ true → Steps r v o after left (rest (r, left - len r v o))
steps true v o true left rest e = absurd cc
steps true v o false left rest e =
    elim (cases_lt left v) [
      | inl lt ↦ (let yes = lt-ltb left v lt in let bad : false ≡ true = sym (rw yes refl) ∙ e in absurd cc)
      | inr le ↦ (let no = le-ltb left v le in record { byte = refl; apart = refl; room = le; goes_on = rw no at e })
    ]
steps false v None after left rest e = absurd cc
steps false v (Some m) after zero rest e = absurd cc
steps false v (Some m) true (suc left) rest e = (let yes = lt-ltb 0 (suc left) (omega arith) in record { byte = refl; apart = refl; room = omega arith; goes_on = rw yes at e })
steps false v (Some m) false (suc left) rest e = (let yes = lt-ltb 0 (suc left) (omega arith) in record { byte = refl; apart = refl; room = omega arith; goes_on = rw yes at e })

steps_so : (r : Bool) (v : ℕ) (o : Option Piece) (after : Bool) (left : ℕ) (rest : Bool × ℕ → Bool) → Steps r v o after left (rest (r, left - len r v o)) → option_map_or rest (step_by r v o after left) false ≡ true
steps_so true v o true left rest h = (let bad : true ≡ false = h.apart in absurd cc)
steps_so true v o false left rest h = (let no = le-ltb left v h.room in rw no h.goes_on)
steps_so false v None after left rest h = (let bad : false ≡ true = h.byte in absurd cc)
steps_so false v (Some m) after zero rest h = (let bad : 1 ≤ 0 = h.room in absurd (omega arith))
steps_so false v (Some m) after (suc left) rest h = (let yes = lt-ltb 0 (suc left) (omega arith) in rw yes h.goes_on)

-- a byte after a run or not, and the bytes after it
abbrev pub apart_after : Bool → List ℕ → Bool
apart_after after [] = true
apart_after after (c ∷ cs) = not (after && is_run c) && apart_after (is_run c) cs

apart_tail : (d : ℕ) (cs : List ℕ) → apart_after (is_run d) cs ≡ runs_apart (d ∷ cs)
unfolding runs_apart
apart_tail d [] = refl
apart_tail d (e ∷ es) = ap (λ (b : Bool). not (is_run d && is_run e) && b) (apart_tail e es)

pub apart_is : (t : List ℕ) → apart_after false t ≡ runs_apart t
unfolding runs_apart
apart_is [] = refl
apart_is (c ∷ cs) = apart_tail c cs

pub join : (a b : Bool) → a ≡ true → b ≡ true → (a && b) ≡ true
join a b p q = rw (p, q) refl

pub negated : (a : Bool) → a ≡ false → not a ≡ true
negated a e = rw e refl

pub affirmed : (a : Bool) → not a ≡ true → a ≡ false
affirmed true e = absurd cc
affirmed false e = refl

record Fills (after : Bool) (left : ℕ) (t : List ℕ) : Type 0 where
  bytes : list_all is_rank_byte t ≡ true
  apart : apart_after after t ≡ true
  squares : length (flat_map cells_of t) ≡ left

length-cells_of : (c : ℕ) (cs : List ℕ) → length (flat_map cells_of (c ∷ cs)) ≡ len (is_run c) (c - 48) (man_of c) + length (flat_map cells_of cs)
length-cells_of c cs =
    ap length (flat_map-cons cells_of c cs) ∙ length-append (cells_of c) (flat_map cells_of cs)
    ∙ ap (λ (n : ℕ). n + length (flat_map cells_of cs)) (length-cells (is_run c) (c - 48) (man_of c))

sound : (t : List ℕ) (after : Bool) (left : ℕ) → fills after left t ≡ true → Fills after left t
unfolding fills
sound [] after left e = record { bytes = refl; apart = refl; squares = sym (eqb-true left 0 e) }
sound (c ∷ cs) after left e =
    let s = steps (is_run c) (c - 48) (man_of c) after left (λ p. fills p.0 p.1 cs) e in
    let h = sound cs (is_run c) (left - len (is_run c) (c - 48) (man_of c)) s.goes_on in
    record {
      bytes = join (is_rank_byte c) (list_all is_rank_byte cs) s.byte h.bytes;
      apart = join (not (after && is_run c)) (apart_after (is_run c) cs) (negated _ s.apart) h.apart;
      squares = omega (arith, length-cells_of c cs, s.room, h.squares);
    }

complete : (t : List ℕ) (after : Bool) (left : ℕ) → Fills after left t → fills after left t ≡ true
unfolding fills
complete [] after left h = rw (← h.squares) refl
complete (c ∷ cs) after left h =
    let b = both (is_rank_byte c) (list_all is_rank_byte cs) h.bytes in
    let a = both (not (after && is_run c)) (apart_after (is_run c) cs) h.apart in
    let more = length-cells_of c cs in
    steps_so (is_run c) (c - 48) (man_of c) after left (λ p. fills p.0 p.1 cs) (record {
      byte = b.0;
      apart = affirmed _ a.0;
      room = omega (arith, more, h.squares);
      goes_on = complete cs (is_run c) (left - len (is_run c) (c - 48) (man_of c)) (record { bytes = b.1; apart = a.1; squares = omega (arith, more, h.squares) });
    })

-- what is filled is a rank
pub rank_found : (t : List ℕ) → fills false 8 t ≡ true → SpellsRank t (flat_map cells_of t)
rank_found t e =
    let h = sound t false 8 e in
    record { bytes = h.bytes; apart = sym (apart_is t) ∙ h.apart; squares = refl; eight = h.squares }

-- a rank is filled
pub rank_only : (t : List ℕ) (men : List (Option Piece)) → SpellsRank t men → fills false 8 t ≡ true
rank_only t men h = complete t false 8 (record { bytes = h.bytes; apart = apart_is t ∙ h.apart; squares = ap length h.squares ∙ h.eight })
