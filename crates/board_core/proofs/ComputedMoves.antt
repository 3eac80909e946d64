use Rattle.std.proofs.Common.{ℕ, zero, suc, ◌≡◌, ◌≢◌, ◌<◌, ◌≤◌, ◌⊎◌, List, [], ◌∷◌, Option, Some, None, Bool, true, false, cond, not, ◌&&◌, ◌||◌, ◌==◌, is_some, length, get_or, Decides, refl, sym, ap, subst, ◌∙◌, arith, inl, inr, find, option_and_then}
use Rattle.std.proofs.lemmas.Bool.Decides.{nat_tests, same_from_decides, Decides-and, Decides-or, Decides-not, Decides-like, Decides-eqb, Decides-ltb}
use Rattle.std.proofs.lemmas.Bool.{cases_Bool}
use Rattle.board_core.specs.declared.piece.Piece.{Piece}
use Rattle.board_core.specs.declared.piece.Side.{Side}
use Rattle.board_core.specs.declared.piece.Side.TheVariants.{White, Black}
use Rattle.board_core.specs.declared.piece.Kind.{Kind}
use Rattle.board_core.specs.declared.piece.Kind.TheVariants.{Pawn, Knight, Bishop, Rook, Queen, King}
use Rattle.board_core.specs.declared.piece.Promotion.{Promotion}
use Rattle.board_core.specs.declared.piece.Wing.{Wing}
use Rattle.board_core.specs.declared.piece.Wing.TheVariants.{KingSide, QueenSide}
use Rattle.board_core.specs.declared.parts.Parts.{Parts}
use Rattle.board_core.specs.declared.moves.Move.{Move}
use Rattle.board_core.specs.declared.moves.MoveCase.{MoveCase}
use Rattle.board_core.specs.declared.moves.MoveCase.TheVariants.{Plain, Advance, DoubleStep, PawnCapture, EnPassant, Castle}
use Rattle.board_core.specs.Side.{other}
use Rattle.board_core.specs.Square.{file_of, rank_of, apart}
use Rattle.board_core.specs.Attack.{man_at, Along, IsPawnAttack, Reaches, IsAttacked, IsInCheck, forward}
use Rattle.board_core.specs.Castling.{king_home, rook_home, king_end}
use Rattle.board_core.specs.Position.{is_king}
use Rattle.board_core.specs.Moves.{first_rank, last_rank, IsBetween, IsOnWay, IsPlain, IsAdvance, IsDoubleStep, IsPawnCapture, IsEnPassant, IsCastle, IsMove, Legal, IsLegal, after}
use Rattle.board_core.specs.Computed.{is_in_check}
use Rattle.board_core.specs.ComputedMoves.{is_pawn, is_pawn_of, promotes, is_square, is_plain, is_advance, is_double_step, is_pawn_capture, is_en_passant, is_between, is_on_way, is_way_empty, is_way_safe, is_castle, is_move, cases, is_on_board, case_of, position_after}
use Rattle.board_core.proofs.Computed.{some_man, Decides-leb, Decides-each_below, Decides-none, Decides-same_side, Decides-man, Decides-king_of, Decides-of, Decides-along, Decides-clear, Decides-and_then, Decides-pawn_attack, Decides-attacks, Decides-attacked, Decides-in_check}

pub Decides-pawn : (k : Kind) → Decides (is_pawn k) (k ≡ Pawn)
Decides-pawn Pawn = (λ _. refl, λ _. refl)
Decides-pawn Knight = (λ e. absurd (let f = e in cc), λ e. let f = e in cc)
Decides-pawn Bishop = (λ e. absurd (let f = e in cc), λ e. let f = e in cc)
Decides-pawn Rook = (λ e. absurd (let f = e in cc), λ e. let f = e in cc)
Decides-pawn Queen = (λ e. absurd (let f = e in cc), λ e. let f = e in cc)
Decides-pawn King = (λ e. absurd (let f = e in cc), λ e. let f = e in cc)

pub Decides-pawn_of : (side : Side) (o : Option Piece) → Decides (is_pawn_of side o) (o ≡ some_man side Pawn)
Decides-pawn_of side None = (λ e. absurd (let f = e in cc), λ e. let f = e in cc)
Decides-pawn_of side (Some man) = Decides-man side Pawn man _ _ (Decides-same_side side man.side) (Decides-pawn man.kind)

Decides-promotes : (side : Side) (to : ℕ) (o : Option Promotion) → Decides (promotes side to o) ((o ≡ None → rank_of to ≡ last_rank side → ⊥) × ((k : Promotion) → o ≡ Some k → rank_of to ≡ last_rank side))
Decides-promotes side to None =
    Decides-like _ (λ n. (λ _. n, λ k e. absurd (let f = e in cc))) (λ r. r.0 refl) (Decides-not _ (Decides-eqb (rank_of to) (last_rank side)))
Decides-promotes side to (Some k) =
    Decides-like _ (λ e. (λ f. absurd (let g = f in cc), λ _ _. e)) (λ r. r.1 k refl) (Decides-eqb (rank_of to) (last_rank side))

Decides-square : (o : Option ℕ) (s : ℕ) → Decides (is_square o s) (o ≡ Some s)
Decides-square None s = (λ e. absurd (let f = e in cc), λ e. let f = e in cc)
Decides-square (Some e) s = Decides-like _ (λ f. ap Some f) (λ f. cc) (Decides-eqb e s)

abbrev kind_on : Option Piece → Kind
kind_on None = Pawn
kind_on (Some man) = man.kind

Decides-plain : (p : Parts) (m : Move) → m.from < 64 → m.to < 64 → Decides (is_plain p m) (IsPlain p m)
Decides-plain p m lf lt =
    Decides-like _
    (λ r. record {
      kind = r.0.0.0.0;
      no_pawn = λ e. r.0.0.1 (rw e at r.0.0.0.1);
      stands = r.0.0.0.1;
      reaches = r.0.0.0.2;
      free = λ what st. r.0.1 (what, st);
      whole = r.1;
    })
    (λ r. ((((r.kind, r.stands, r.reaches), λ e. r.no_pawn (ap kind_on (sym r.stands ∙ e))), λ t. r.free t.0 t.1), r.whole))
    (Decides-and _ _ (Decides-and _ _ (Decides-and _ _
    (Decides-attacks p.men p.side (man_at p.men m.from) m.from m.to lf lt)
    (Decides-not _ (Decides-pawn_of p.side (man_at p.men m.from))))
    (Decides-not _ (Decides-of p.side (man_at p.men m.to))))
    (Decides-none m.promotion))

Decides-advance : (p : Parts) (m : Move) → Decides (is_advance p m) (IsAdvance p m)
Decides-advance p m =
    Decides-like _
    (λ r. record { stands = r.0.0.0; ahead = r.0.0.1; empty = r.0.1; promotes = r.1 })
    (λ r. (((r.stands, r.ahead), r.empty), r.promotes))
    (Decides-and _ _ (Decides-and _ _ (Decides-and _ _
    (Decides-pawn_of p.side (man_at p.men m.from))
    (Decides-along (forward p.side) 1 m.from m.to))
    (Decides-none (man_at p.men m.to)))
    (Decides-promotes p.side m.to m.promotion))

Decides-double_step : (p : Parts) (m : Move) → Decides (is_double_step p m) (IsDoubleStep p m)
Decides-double_step p m =
    Decides-like _
    (λ r. record { stands = r.0.0.0.0.0; home = r.0.0.0.0.1; ahead = r.0.0.0.1; clear = r.0.0.1; empty = r.0.1; whole = r.1 })
    (λ r. (((((r.stands, r.home), r.ahead), r.clear), r.empty), r.whole))
    (Decides-and _ _ (Decides-and _ _ (Decides-and_then _ _ (Decides-and _ _ (Decides-and _ _
    (Decides-pawn_of p.side (man_at p.men m.from))
    (Decides-eqb (rank_of m.from) (first_rank p.side)))
    (Decides-along (forward p.side) 2 m.from m.to))
    (λ h. Decides-clear p.men (forward p.side) 2 m.from m.to h.1))
    (Decides-none (man_at p.men m.to)))
    (Decides-none m.promotion))

Decides-pawn_capture : (p : Parts) (m : Move) → Decides (is_pawn_capture p m) (IsPawnCapture p m)
Decides-pawn_capture p m =
    Decides-like _
    (λ r. record { stands = r.0.0.0; attacks = r.0.0.1; enemy = r.0.1; promotes = r.1 })
    (λ r. (((r.stands, r.attacks), r.enemy), r.promotes))
    (Decides-and _ _ (Decides-and _ _ (Decides-and _ _
    (Decides-pawn_of p.side (man_at p.men m.from))
    (Decides-pawn_attack p.side m.from m.to))
    (Decides-of (other p.side) (man_at p.men m.to)))
    (Decides-promotes p.side m.to m.promotion))

pub Decides-en_passant : (p : Parts) (m : Move) → Decides (is_en_passant p m) (IsEnPassant p m)
unfolding is_en_passant
Decides-en_passant p m =
    Decides-like _
    (λ r. record { stands = r.0.0.0.0; attacks = r.0.0.0.1; passed = r.0.0.1; empty = r.0.1; whole = r.1 })
    (λ r. ((((r.stands, r.attacks), r.passed), r.empty), r.whole))
    (Decides-and _ _ (Decides-and _ _ (Decides-and _ _ (Decides-and _ _
    (Decides-pawn_of p.side (man_at p.men m.from))
    (Decides-pawn_attack p.side m.from m.to))
    (Decides-square p.en_passant m.to))
    (Decides-none (man_at p.men m.to)))
    (Decides-none m.promotion))

Decides-implies : {P Q : Type 0} (x y : Bool) → Decides x P → Decides y Q → Decides (not x || y) (P → Q)
Decides-implies true y h k = (λ e _. k.0 e, λ f. k.1 (f (h.0 refl)))
Decides-implies false y h k = (λ _ r. absurd (let f = h.1 r in cc), λ _. refl)

Decides-between : (a s b : ℕ) → Decides (is_between a s b) (IsBetween a s b)
Decides-between a s b = Decides-or _ _ (Decides-and _ _ (Decides-ltb a s) (Decides-ltb s b)) (Decides-and _ _ (Decides-ltb b s) (Decides-ltb s a))

Decides-on_way : (a s b : ℕ) → Decides (is_on_way a s b) (IsOnWay a s b)
Decides-on_way a s b = Decides-or _ _ (Decides-and _ _ (Decides-leb a s) (Decides-leb s b)) (Decides-and _ _ (Decides-leb b s) (Decides-leb s a))

between_below : (a s b : ℕ) → a < 64 → b < 64 → IsBetween a s b → s < 64
between_below a s b la lb h = omega arith

on_way_below : (a s b : ℕ) → a < 64 → b < 64 → IsOnWay a s b → s < 64
on_way_below a s b la lb h = omega arith

Decides-way_empty : (men : List (Option Piece)) (a b : ℕ) → a < 64 → b < 64 → Decides (is_way_empty men a b) ((s : ℕ) → IsBetween a s b → man_at men s ≡ None)
Decides-way_empty men a b la lb =
    Decides-like _ (λ all s h. all s (between_below a s b la lb h) h) (λ all s _ h. all s h)
    (Decides-each_below 64 _ (λ s. IsBetween a s b → man_at men s ≡ None) (λ s _. Decides-implies _ _ (Decides-between a s b) (Decides-none (man_at men s))))

Decides-way_safe : (men : List (Option Piece)) (by : Side) (a b : ℕ) → a < 64 → b < 64 → Decides (is_way_safe men by a b) ((s : ℕ) → IsOnWay a s b → IsAttacked men by s → ⊥)
Decides-way_safe men by a b la lb =
    Decides-like _ (λ all s h. all s (on_way_below a s b la lb h) h) (λ all s _ h. all s h)
    (Decides-each_below 64 _ (λ s. IsOnWay a s b → IsAttacked men by s → ⊥) (λ s lt. Decides-implies _ _ (Decides-on_way a s b) (Decides-not _ (Decides-attacked men by s lt))))

king_home_below : (side : Side) → king_home side < 64
king_home_below White = omega arith
king_home_below Black = omega arith

rook_home_below : (side : Side) (wing : Wing) → rook_home side wing < 64
rook_home_below White KingSide = omega arith
rook_home_below White QueenSide = omega arith
rook_home_below Black KingSide = omega arith
rook_home_below Black QueenSide = omega arith

king_end_below : (side : Side) (wing : Wing) → king_end side wing < 64
king_end_below White KingSide = omega arith
king_end_below White QueenSide = omega arith
king_end_below Black KingSide = omega arith
king_end_below Black QueenSide = omega arith

Decides-castle : (p : Parts) (m : Move) (wing : Wing) → Decides (is_castle p m wing) (IsCastle p m wing)
Decides-castle p m wing =
    Decides-like _
    (λ r. record { stands = r.0.0.0.0.0.0; right = r.0.0.0.0.0.1; from_home = r.0.0.0.0.1; to_end = r.0.0.0.1; clear = r.0.0.1; safe = r.0.1; whole = r.1 })
    (λ r. ((((((r.stands, r.right), r.from_home), r.to_end), r.clear), r.safe), r.whole))
    (Decides-and _ _ (Decides-and _ _ (Decides-and _ _ (Decides-and _ _ (Decides-and _ _ (Decides-and _ _
    (Decides-king_of p.side (man_at p.men m.from))
    (λ e. e, λ e. e))
    (Decides-eqb m.from (king_home p.side)))
    (Decides-eqb m.to (king_end p.side wing)))
    (Decides-way_empty p.men (king_home p.side) (rook_home p.side wing) (king_home_below p.side) (rook_home_below p.side wing)))
    (Decides-way_safe p.men (other p.side) (king_home p.side) (king_end p.side wing) (king_home_below p.side) (king_end_below p.side wing)))
    (Decides-none m.promotion))

Decides-move : (p : Parts) (m : Move) (c : MoveCase) → m.from < 64 → m.to < 64 → Decides (is_move p m c) (IsMove p m c)
Decides-move p m Plain lf lt = Decides-plain p m lf lt
Decides-move p m Advance lf lt = Decides-advance p m
Decides-move p m DoubleStep lf lt = Decides-double_step p m
Decides-move p m PawnCapture lf lt = Decides-pawn_capture p m
Decides-move p m EnPassant lf lt = Decides-en_passant p m
Decides-move p m (Castle wing) lf lt = Decides-castle p m wing

-- the only case under which a move can go, told by the man, the files and ranks it crosses, and what stands on its square
abbrev pawn_case : ℕ → ℕ → Bool → MoveCase
pawn_case files ranks taken = cond (files == 0) (cond (ranks == 1) Advance DoubleStep) (cond taken PawnCapture EnPassant)

abbrev piece_case : Bool → ℕ → MoveCase
piece_case castles to = cond castles (Castle (cond (file_of to == 6) KingSide QueenSide)) Plain

abbrev told_case : Kind → ℕ → ℕ → Option Piece → MoveCase
told_case kind from to there = cond (is_pawn kind)
    (pawn_case (apart (file_of from) (file_of to)) (apart (rank_of from) (rank_of to)) (is_some there))
    (piece_case (is_king kind && (apart (file_of from) (file_of to) == 2)) to)

ahead_apart : (side : Side) (n from to : ℕ) → Along (forward side) n from to → (apart (file_of from) (file_of to) ≡ 0) × (apart (rank_of from) (rank_of to) ≡ n)
ahead_apart White n from to h = (omega arith, omega arith)
ahead_apart Black n from to h = (omega arith, omega arith)

attack_apart : (side : Side) (from to : ℕ) → IsPawnAttack side from to → apart (file_of from) (file_of to) ≡ 1
attack_apart White from to h = h.0
attack_apart Black from to h = h.0

no_pawn_told : (kind : Kind) → kind ≢ Pawn → is_pawn kind ≡ false
no_pawn_told Pawn ne = absurd (ne refl)
no_pawn_told Knight ne = refl
no_pawn_told Bishop ne = refl
no_pawn_told Rook ne = refl
no_pawn_told Queen ne = refl
no_pawn_told King ne = refl

near : (n : ℕ) → n ≤ 1 → (n == 2) ≡ false
near n h = grind (arith, nat_tests)

no_castle_told : (men : List (Option Piece)) (side : Side) (kind : Kind) (from to : ℕ) → Reaches men side kind from to → (is_king kind && (apart (file_of from) (file_of to) == 2)) ≡ false
no_castle_told men side Pawn from to h = refl
no_castle_told men side Knight from to h = refl
no_castle_told men side Bishop from to h = refl
no_castle_told men side Rook from to h = refl
no_castle_told men side Queen from to h = refl
no_castle_told men side King from to h = near _ h.1

castle_told : (side : Side) (wing : Wing) (there : Option Piece) → told_case King (king_home side) (king_end side wing) there ≡ Castle wing
castle_told White KingSide there = refl
castle_told White QueenSide there = refl
castle_told Black KingSide there = refl
castle_told Black QueenSide there = refl

ahead_told : (n from to : ℕ) (there : Option Piece) → apart (file_of from) (file_of to) ≡ 0 → apart (rank_of from) (rank_of to) ≡ n → told_case Pawn from to there ≡ cond (n == 1) Advance DoubleStep
ahead_told n from to there f r = rw (f, r) refl

attack_told : (from to : ℕ) (there : Option Piece) → apart (file_of from) (file_of to) ≡ 1 → told_case Pawn from to there ≡ cond (is_some there) PawnCapture EnPassant
attack_told from to there f = rw f refl

told : (p : Parts) (m : Move) (c : MoveCase) → IsMove p m c → told_case (kind_on (man_at p.men m.from)) m.from m.to (man_at p.men m.to) ≡ c
told p m Plain r = rw (r.stands, no_pawn_told r.kind r.no_pawn, no_castle_told p.men p.side r.kind m.from m.to r.reaches) refl
told p m Advance r = let a = ahead_apart p.side 1 m.from m.to r.ahead in rw r.stands (ahead_told 1 m.from m.to _ a.0 a.1)
told p m DoubleStep r = let a = ahead_apart p.side 2 m.from m.to r.ahead in rw r.stands (ahead_told 2 m.from m.to _ a.0 a.1)
told p m PawnCapture r = rw (r.stands, r.enemy.1) (attack_told m.from m.to (some_man (other p.side) r.enemy.0) (attack_apart p.side m.from m.to r.attacks))
told p m EnPassant r = rw (r.stands, r.empty) (attack_told m.from m.to None (attack_apart p.side m.from m.to r.attacks))
told p m (Castle wing) r = rw (r.stands, r.from_home, r.to_end) (castle_told p.side wing (man_at p.men (king_end p.side wing)))

-- a move goes under one case at most
pub one_case : (p : Parts) (m : Move) (b c : MoveCase) → IsMove p m b → IsMove p m c → b ≡ c
one_case p m b c h k = sym (told p m b h) ∙ told p m c k

find_passes : {X : Type 0} (test : X → Bool) (xs : List X) (x : X) → find test xs ≡ Some x → test x ≡ true
find_passes test [] x e = absurd (let f = e in cc)
find_passes test (y ∷ ys) x e = elim (cases_Bool (test y)) [
  | inl t ↦ let f : Some y ≡ Some x = rw t at e in let same : y ≡ x = cc in rw (← same) t
  | inr n ↦ find_passes test ys x (rw n at e)
]

find_only : {X : Type 0} (test : X → Bool) (xs : List X) (k : ℕ) (x : X) → k < length xs → get_or xs k x ≡ x → test x ≡ true → ((y : X) → test y ≡ true → y ≡ x) → find test xs ≡ Some x
find_only test [] k x lt e t only = absurd (omega arith)
find_only test (y ∷ ys) zero x lt e t only = rw (e, t) refl
find_only test (y ∷ ys) (suc k) x lt e t only = elim (cases_Bool (test y)) [
  | inl a ↦ rw a (ap Some (only y a))
  | inr b ↦ rw b (find_only test ys k x (omega arith) e t only)
]

place_of_case : (c : MoveCase) → (k : ℕ) × (k < length cases) × (get_or cases k c ≡ c)
place_of_case Plain = (0, omega arith, refl)
place_of_case Advance = (1, omega arith, refl)
place_of_case DoubleStep = (2, omega arith, refl)
place_of_case PawnCapture = (3, omega arith, refl)
place_of_case EnPassant = (4, omega arith, refl)
place_of_case (Castle KingSide) = (5, omega arith, refl)
place_of_case (Castle QueenSide) = (6, omega arith, refl)

Decides-on_board : (m : Move) → Decides (is_on_board m) ((m.from < 64) × (m.to < 64))
Decides-on_board m = Decides-and _ _ (Decides-ltb m.from 64) (Decides-ltb m.to 64)

on_board_found : {X : Type 0} (b : Bool) (o : Option X) (x : X) → cond b o None ≡ Some x → (b ≡ true) × (o ≡ Some x)
on_board_found true o x e = (refl, e)
on_board_found false o x e = absurd (let f = e in cc)

-- the computed case is the case of the rules
pub case_found : (p : Parts) (m : Move) (c : MoveCase) → case_of p m ≡ Some c → (m.from < 64) × (m.to < 64) × IsMove p m c
unfolding case_of
case_found p m c e =
    let f = on_board_found (is_on_board m) _ c e in
    let on = (Decides-on_board m).0 f.0 in
    (on.0, on.1, (Decides-move p m c on.0 on.1).0 (find_passes (is_move p m) cases c f.1))

pub case_only : (p : Parts) (m : Move) (c : MoveCase) → m.from < 64 → m.to < 64 → IsMove p m c → case_of p m ≡ Some c
unfolding case_of
case_only p m c lf lt r =
    let on : is_on_board m ≡ true = (Decides-on_board m).1 (lf, lt) in
    let k = place_of_case c in
    rw on (find_only (is_move p m) cases k.0 c k.1 k.2 ((Decides-move p m c lf lt).1 r) (λ b t. one_case p m b c ((Decides-move p m b lf lt).0 t) r))

then_found : {X Y : Type 0} (f : X → Option Y) (o : Option X) (y : Y) → option_and_then f o ≡ Some y → (x : X) × (o ≡ Some x) × (f x ≡ Some y)
then_found f None y e = absurd (let g = e in cc)
then_found f (Some x) y e = (x, refl, e)

unless_found : (b : Bool) (q r : Parts) → cond b None (Some q) ≡ Some r → (b ≡ false) × (q ≡ r)
unless_found true q r e = absurd (let f = e in cc)
unless_found false q r e = (refl, cc)

safe_false : (men : List (Option Piece)) (side : Side) → (IsInCheck men side → ⊥) → is_in_check men side ≡ false
safe_false men side safe = elim (cases_Bool (is_in_check men side)) [
  | inl t ↦ absurd (safe ((Decides-in_check men side).0 t))
  | inr f ↦ f
]

false_safe : (men : List (Option Piece)) (side : Side) → is_in_check men side ≡ false → IsInCheck men side → ⊥
false_safe men side f h = let t = (Decides-in_check men side).1 h in let e = sym f ∙ t in cc

-- the computed position after a move is the one of the rules
pub position_legal : (p : Parts) (m : Move) (q : Parts) → position_after p m ≡ Some q → Legal p m q
unfolding position_after
position_legal p m q e =
    let c = then_found _ (case_of p m) q e in
    let r = case_found p m c.0 c.1 in
    let s = unless_found (is_in_check (after p m c.0).men p.side) (after p m c.0) q c.2 in
    record { case = c.0; from_board = r.0; to_board = r.1; rule = r.2; becomes = sym s.1; safe = rw s.1 at (false_safe (after p m c.0).men p.side s.0) }

pub legal_position : (p : Parts) (m : Move) (q : Parts) → Legal p m q → position_after p m ≡ Some q
unfolding position_after
legal_position p m q l =
    let safe : is_in_check (after p m l.case).men p.side ≡ false = rw (← l.becomes) (safe_false q.men p.side l.safe) in
    rw (case_only p m l.case l.from_board l.to_board l.rule, safe) (ap Some (sym l.becomes))

option_cases : {X : Type 0} (o : Option X) → (o ≡ None) ⊎ ((x : X) × (o ≡ Some x))
option_cases None = inl refl
option_cases (Some x) = inr (x, refl)

-- what a move's contract says in two clauses is that the position is the computed one
pub computed : (p : Parts) (m : Move) (r : Option Parts) → ((q : Parts) → r ≡ Some q → Legal p m q) → ((q : Parts) → Legal p m q → r ≡ Some q) → r ≡ position_after p m
computed p m r legal only = elim (option_cases (position_after p m)) [
  | inr q ↦ only q.0 (position_legal p m q.0 q.1) ∙ sym q.1
  | inl none ↦ elim (option_cases r) [
    | inl e ↦ e ∙ sym none
    | inr q ↦ absurd (let f = sym none ∙ legal_position p m q.0 (legal q.0 q.1) in cc)
  ]
]

-- a call that returns none, and one that returns a position, returns the computed one
pub computed_none : (p : Parts) (m : Move) → ((q : Parts) → Legal p m q → None ≡ Some q) → None ≡ position_after p m
computed_none p m only = computed p m None (λ q e. absurd (let f = e in cc)) only

pub computed_some : (p : Parts) (m : Move) (q : Parts) → Legal p m q → Some q ≡ position_after p m
computed_some p m q l = sym (legal_position p m q l)

-- what decides that a move goes by the rule of en passant is the computed test
-- a legal move leads to the position after it by its case
pub legal_as : (p : Parts) (m : Move) (q : Parts) (c : MoveCase) → IsLegal p m → IsMove p m c → q ≡ after p m c → Legal p m q
legal_as p m q c l rule e =
    let same : l.1.case ≡ c = one_case p m l.1.case c l.1.rule rule in
    let there : q ≡ l.0 = e ∙ sym (l.1.becomes ∙ ap (after p m) same) in
    subst (Legal p m) (sym there) l.1

pub en_passant_computed : (p : Parts) (m : Move) (r : Bool) → Decides r (IsEnPassant p m) → r ≡ is_en_passant p m
en_passant_computed p m r h = same_from_decides r (is_en_passant p m) h (Decides-en_passant p m)
