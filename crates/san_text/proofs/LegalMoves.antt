-- What the rules say of legal moves, as their texts need it.
use Rattle.std.proofs.Common.{◌≡◌, ◌≢◌, ◌≤◌, ◌<◌, ℕ, Bool, true, false, ◌+◌, if◌then◌else◌, Option, Some, None, is_some, Decides, refl, sym, ap, subst, ◌∙◌, arith, inl, inr}
use Rattle.std.proofs.lemmas.Bool.{false_from_ne_true, ne_eqb, cases_lt}
use Rattle.board_core.proofs.Sweep.{Rests}
use Rattle.std.proofs.lemmas.Bool.Decides.{same_from_decides, Decides-like}
use Rattle.std.specs.Prelude.{List}
use Rattle.board_core.specs.declared.piece.Piece.{Piece}
use Rattle.board_core.specs.declared.piece.Side.{Side}
use Rattle.board_core.specs.declared.piece.Side.TheVariants.{White, Black}
use Rattle.board_core.specs.declared.piece.Kind.{Kind}
use Rattle.board_core.specs.declared.piece.Kind.TheVariants.{Pawn, King}
use Rattle.board_core.specs.declared.piece.Promotion.{Promotion}
use Rattle.board_core.specs.declared.piece.Wing.{Wing}
use Rattle.board_core.specs.declared.piece.Wing.TheVariants.{KingSide, QueenSide}
use Rattle.board_core.specs.declared.parts.Parts.{Parts}
use Rattle.board_core.specs.declared.moves.Move.{Move}
use Rattle.board_core.specs.declared.moves.MoveCase.{MoveCase}
use Rattle.board_core.specs.declared.moves.MoveCase.TheVariants.{Plain, Advance, DoubleStep, PawnCapture, EnPassant, Castle}
use Rattle.board_core.specs.Square.{file_of, apart}
use Rattle.board_core.specs.Attack.{man_at, Along, IsPawnAttack, Reaches, forward}
use Rattle.board_core.specs.Castling.{king_home, king_end}
use Rattle.board_core.specs.Position.{is_king_of}
use Rattle.board_core.specs.Moves.{Stands, IsMove, IsCastle, IsLegal}
use Rattle.board_core.specs.ComputedMoves.{is_capture, is_en_passant}
use Rattle.board_core.proofs.Computed.{Decides-king_of}
use Rattle.board_core.proofs.ComputedMoves.{Decides-en_passant}
use Rattle.board_core.proofs.Listing.{promotes_pawn}
use Rattle.san_text.specs.Agrees.{wing_by_files, castling}
use Rattle.san_text.specs.Written.{kind_there}
use Rattle.std.specs.Int.{bit_at}
use Rattle.san_text.specs.declared.told.ManTold.{ManTold}
use Rattle.san_text.specs.Inside.Movers.{castling_move, MayBeMeant}

-- one man stands on a square
pub same_kind : (men : List (Option Piece)) (s : ℕ) (side : Side) (k l : Kind) → Stands men s side k → Stands men s side l → k ≡ l
same_kind men s side k l a b = ap kind_there (sym a ∙ b)

-- ---- pawns that leave their file

pub one_file_apart : (a b : ℕ) → apart a b ≡ 1 → a ≢ b
one_file_apart a b e same = absurd (omega (arith, e, same))

pub files_apart : (side : Side) (from to : ℕ) → IsPawnAttack side from to → file_of from ≢ file_of to
files_apart White from to a = one_file_apart (file_of from) (file_of to) a.0
files_apart Black from to a = one_file_apart (file_of from) (file_of to) a.0

pub on_file : (side : Side) (n from to : ℕ) → Along (forward side) n from to → file_of from ≡ file_of to
on_file White n from to a = sym a.0
on_file Black n from to a = sym a.0

passes : (p : Parts) (m : Move) (c : MoveCase) → IsMove p m c → man_at p.men m.to ≡ None → file_of m.from ≢ file_of m.to → Stands p.men m.from p.side Pawn → is_en_passant p m ≡ true
passes p m Plain r none leaves pawn = absurd (r.no_pawn (same_kind p.men m.from p.side r.kind Pawn r.stands pawn))
passes p m Advance r none leaves pawn = absurd (leaves (on_file p.side 1 m.from m.to r.ahead))
passes p m DoubleStep r none leaves pawn = absurd (leaves (on_file p.side 2 m.from m.to r.ahead))
passes p m PawnCapture r none leaves pawn = absurd (let e = sym none ∙ r.enemy.1 in cc)
passes p m EnPassant r none leaves pawn = (Decides-en_passant p m).1 r
passes p m (Castle wing) r none leaves pawn = absurd (let e = same_kind p.men m.from p.side King Pawn r.stands pawn in cc)

pub passant_test : (p : Parts) (m : Move) (b : Bool) → IsLegal p m → man_at p.men m.to ≡ None → Decides b ((file_of m.from ≢ file_of m.to) × Stands p.men m.from p.side Pawn) → b ≡ is_en_passant p m
passant_test p m b l none d =
    same_from_decides b (is_en_passant p m) d
    (Decides-like _
    (λ r. (files_apart p.side m.from m.to r.attacks, r.stands))
    (λ r. (Decides-en_passant p m).0 (passes p m l.1.case l.1.rule none r.0 r.1))
    (Decides-en_passant p m))

pub no_passant_onto : (p : Parts) (m : Move) (man : Piece) → man_at p.men m.to ≡ Some man → false ≡ is_en_passant p m
no_passant_onto p m man some = sym (false_from_ne_true (is_en_passant p m) (λ t. absurd (let e = sym some ∙ ((Decides-en_passant p m).0 t).empty in cc)))

pub capture_test : (p : Parts) (m : Move) (b : Bool) → man_at p.men m.to ≡ None → b ≡ is_en_passant p m → b ≡ is_capture p m
capture_test p m b none e = rw none e

pub capture_onto : (p : Parts) (m : Move) (man : Piece) → man_at p.men m.to ≡ Some man → true ≡ is_capture p m
capture_onto p m man some = rw some refl

-- ---- castling

near : (a b : ℕ) → apart a b ≤ 1 → (b ≡ a + 2 → ⊥) × (a ≡ b + 2 → ⊥)
near a b le = (λ e. absurd (omega (arith, le, e)), λ e. absurd (omega (arith, le, e)))

no_wing : (a b : ℕ) → apart a b ≤ 1 → wing_by_files a b ≡ None
no_wing a b le = let n = near a b le in rw (ne_eqb b (a + 2) n.0, ne_eqb a (b + 2) n.1) refl

wing_back : (side : Side) (wing : Wing) → wing_by_files (file_of (king_home side)) (file_of (king_end side wing)) ≡ Some wing
wing_back White KingSide = refl
wing_back White QueenSide = refl
wing_back Black KingSide = refl
wing_back Black QueenSide = refl

castle_rule : (p : Parts) (m : Move) (c : MoveCase) (wing : Wing) → IsMove p m c → Stands p.men m.from p.side King → wing_by_files (file_of m.from) (file_of m.to) ≡ Some wing → IsCastle p m wing
castle_rule p m Plain wing r king e =
    let kind = same_kind p.men m.from p.side r.kind King r.stands king in
    let step = subst (λ k. Reaches p.men p.side k m.from m.to) kind r.reaches in
    absurd (let f = sym (no_wing (file_of m.from) (file_of m.to) step.1) ∙ e in cc)
castle_rule p m Advance wing r king e = absurd (let f = same_kind p.men m.from p.side Pawn King r.stands king in cc)
castle_rule p m DoubleStep wing r king e = absurd (let f = same_kind p.men m.from p.side Pawn King r.stands king in cc)
castle_rule p m PawnCapture wing r king e = absurd (let f = same_kind p.men m.from p.side Pawn King r.stands king in cc)
castle_rule p m EnPassant wing r king e = absurd (let f = same_kind p.men m.from p.side Pawn King r.stands king in cc)
castle_rule p m (Castle w) wing r king e =
    let files : wing_by_files (file_of m.from) (file_of m.to) ≡ Some w = rw (r.from_home, r.to_end) (wing_back p.side w) in
    let same : w ≡ wing = let f = sym files ∙ e in cc in
    subst (λ x. IsCastle p m x) same r

pub king_of_castling : (p : Parts) (m : Move) (wing : Wing) → castling p m ≡ Some wing → Stands p.men m.from p.side King
king_of_castling p m wing e = by_test (is_king_of p.side (man_at p.men m.from)) refl e
  where
    by_test : (b : Bool) → is_king_of p.side (man_at p.men m.from) ≡ b → (if b then wing_by_files (file_of m.from) (file_of m.to) else None) ≡ Some wing → Stands p.men m.from p.side King
    by_test true t f = (Decides-king_of p.side (man_at p.men m.from)).0 t
    by_test false t f = absurd (let g = f in cc)

-- castling is told exactly of the moves that castle by the rules
pub castling_rule : (p : Parts) (m : Move) (wing : Wing) → IsLegal p m → castling p m ≡ Some wing → IsCastle p m wing
castling_rule p m wing l e =
    let king = king_of_castling p m wing e in
    let t = (Decides-king_of p.side (man_at p.men m.from)).1 king in
    castle_rule p m l.1.case wing l.1.rule king (rw t at e)

pub castling_told : (p : Parts) (m : Move) (wing : Wing) → IsCastle p m wing → castling p m ≡ Some wing
castling_told p m wing r =
    let t = (Decides-king_of p.side (man_at p.men m.from)).1 r.stands in
    rw t (rw (r.from_home, r.to_end) (wing_back p.side wing))

-- the move that castles
pub castles_by : (p : Parts) (m : Move) (wing : Wing) → IsLegal p m → castling p m ≡ Some wing → m ≡ castling_move p.side wing
castles_by p m wing l e = let r = castling_rule p m wing l e in rw (← r.from_home, ← r.to_end, ← r.whole) refl

-- ---- promotions

-- no man but a pawn is promoted
pub whole : (p : Parts) (m : Move) (kind : Kind) → IsLegal p m → Stands p.men m.from p.side kind → kind ≢ Pawn → m.promotion ≡ None
whole p m kind l st ne = by_promotion m.promotion refl
  where
    by_promotion : (o : Option Promotion) → m.promotion ≡ o → o ≡ None
    by_promotion None e = refl
    by_promotion (Some k) e = absurd (ne (same_kind p.men m.from p.side kind Pawn st (promotes_pawn p m l.1.case k l.1.rule e).0))

none_if : {X : Type 0} (o : Option X) → is_some o ≡ false → o ≡ None
none_if None e = refl
none_if (Some x) e = absurd (let f = e in cc)

-- as the code looks at the square where the man goes
pub passant_empty : (p : Parts) (m : Move) (b : Bool) (o : Option Piece) → o ≡ man_at p.men m.to → is_some o ≡ false → IsLegal p m → Decides b ((file_of m.from ≢ file_of m.to) × Stands p.men m.from p.side Pawn) → b ≡ is_en_passant p m
passant_empty p m b o at e l d = passant_test p m b l (sym at ∙ none_if o e) d

pub capture_empty : (p : Parts) (m : Move) (b : Bool) (o : Option Piece) → o ≡ man_at p.men m.to → is_some o ≡ false → IsLegal p m → Decides b ((file_of m.from ≢ file_of m.to) × Stands p.men m.from p.side Pawn) → b ≡ is_capture p m
capture_empty p m b o at e l d = capture_test p m b (sym at ∙ none_if o e) (passant_empty p m b o at e l d)

pub passant_taken : (p : Parts) (m : Move) (o : Option Piece) → o ≡ man_at p.men m.to → is_some o ≡ true → false ≡ is_en_passant p m
passant_taken p m None at e = absurd (let f = e in cc)
passant_taken p m (Some man) at e = no_passant_onto p m man (sym at)

-- ---- men who may be meant

-- of a set of squares
pub record MeantWithin (p : Parts) (man : ManTold) (within s : ℕ) : Type 0 where
  pub meant : MayBeMeant p man s
  pub here : bit_at within s ≡ 1

-- a sweep past the lowest square of a set leaves the others with the fact in it
pub others_rest : (Q : ℕ → Type 0) (next set to set' : ℕ) → Rests Q next set → ((s : ℕ) → s < next → Q s → ⊥) → ((s : ℕ) → s < 64 → s ≢ to → bit_at set' s ≡ bit_at set s) → (s : ℕ) → s < 64 → Q s → s ≢ to → bit_at set' s ≡ 1
others_rest Q next set to set' r none kept s b q ne = elim (cases_lt s next) [
  | inl lt ↦ absurd (none s lt q)
  | inr ge ↦ kept s b ne ∙ r.rest s b ge q
]
