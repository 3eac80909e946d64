-- One text spells one position, and a text with a fault spells none.
use Rattle.std.proofs.Common.{◌≡◌, ℕ, ◌+◌, ◌/◌, ◌%◌, Bool, true, false, List, [], ◌∷◌, length, get_or, Option, Some, None, refl, sym, ap, subst, ◌∙◌, arith}
use Rattle.std.proofs.lemmas.Fmt.{decimal_injective}
use Rattle.board_core.specs.declared.piece.Piece.{Piece}
use Rattle.board_core.specs.declared.piece.Side.{Side}
use Rattle.board_core.specs.declared.piece.Side.TheVariants.{White, Black}
use Rattle.board_core.specs.declared.parts.Rights.{Rights}
use Rattle.board_core.specs.declared.parts.Parts.{Parts}
use Rattle.board_core.specs.declared.position.PositionFault.{PositionFault}
use Rattle.board_core.specs.declared.position.PositionFault.TheVariants.{BadKings, TooManyMen, PawnOnEdge, BadCastling, BadEnPassant, OpponentInCheck, BadCounter}
use Rattle.board_core.specs.Position.{IsPosition, IsFirstFault}
use Rattle.fen_text.specs.declared.fault.FenFault.{FenFault}
use Rattle.fen_text.specs.declared.fault.FenFault.TheVariants.{FieldCount, BadPlacement, BadSide, BadCastlingText, BadSquare, BadNumber, BadPosition}
use Rattle.fen_text.specs.Cuts.{cut_at}
use Rattle.fen_text.specs.Placement.{SpellsPlacement}
use Rattle.fen_text.specs.Fields.{side_text, castling_text, en_passant_text, SpellsSide, SpellsCastling, SpellsEnPassant, SpellsCounter}
use Rattle.fen_text.specs.Inside.Scan.{begins, past_letter}
use Rattle.fen_text.specs.Fen.{SixFields, HasPlacement, HasSide, HasCastling, HasSquare, HasNumbers, SpellsPosition, IsFirstFenFault}
use Rattle.fen_text.proofs.RanksLaws.{placement_only}

abbrev pub six : (t placement side castling en_passant halfmove fullmove : List ℕ) → cut_at 32 t ≡ placement ∷ side ∷ castling ∷ en_passant ∷ halfmove ∷ fullmove ∷ [] → SixFields t
six t placement side castling en_passant halfmove fullmove cut = record {
  placement = placement;
  side = side;
  castling = castling;
  en_passant = en_passant;
  halfmove = halfmove;
  fullmove = fullmove;
  cut = cut;
}

-- the fields of a text are the same however they are given
pub record SameFields (t : List ℕ) (f g : SixFields t) : Type 0 where
  pub placement : f.placement ≡ g.placement
  pub side : f.side ≡ g.side
  pub castling : f.castling ≡ g.castling
  pub en_passant : f.en_passant ≡ g.en_passant
  pub halfmove : f.halfmove ≡ g.halfmove
  pub fullmove : f.fullmove ≡ g.fullmove

pub same_fields : (t : List ℕ) (f g : SixFields t) → SameFields t f g
same_fields t f g =
    let e = sym f.cut ∙ g.cut in
    record { placement = cc; side = cc; castling = cc; en_passant = cc; halfmove = cc; fullmove = cc }

-- one text of a field spells one thing
placement_one : (t : List ℕ) (a b : List (Option Piece)) → SpellsPlacement t a → SpellsPlacement t b → a ≡ b
placement_one t a b h k = (placement_only t a h).board ∙ sym (placement_only t b k).board

side_at : (a b : Side) → side_text a ≡ side_text b → a ≡ b
side_at White White e = refl
side_at White Black e = absurd (omega (arith, ap (λ (t : List ℕ). get_or t 0 0) e))
side_at Black White e = absurd (omega (arith, ap (λ (t : List ℕ). get_or t 0 0) e))
side_at Black Black e = refl

rights_of : List ℕ → Rights
rights_of t = record {
  white_king = begins 75 t;
  white_queen = begins 81 (past_letter 75 t);
  black_king = begins 107 (past_letter 81 (past_letter 75 t));
  black_queen = begins 113 (past_letter 107 (past_letter 81 (past_letter 75 t)));
}

rights_back : (white_king white_queen black_king black_queen : Bool) → rights_of (castling_text (record { white_king = white_king; white_queen = white_queen; black_king = black_king; black_queen = black_queen })) ≡ record { white_king = white_king; white_queen = white_queen; black_king = black_king; black_queen = black_queen }
unfolding rights_of
rights_back true true true true = refl
rights_back true true true false = refl
rights_back true true false true = refl
rights_back true true false false = refl
rights_back true false true true = refl
rights_back true false true false = refl
rights_back true false false true = refl
rights_back true false false false = refl
rights_back false true true true = refl
rights_back false true true false = refl
rights_back false true false true = refl
rights_back false true false false = refl
rights_back false false true true = refl
rights_back false false true false = refl
rights_back false false false true = refl
rights_back false false false false = refl

castling_one : (a b : Rights) → castling_text a ≡ castling_text b → a ≡ b
castling_one a b e =
    sym (rights_back a.white_king a.white_queen a.black_king a.black_queen) ∙ ap rights_of e ∙ rights_back b.white_king b.white_queen b.black_king b.black_queen

square_at : (a b : Option ℕ) → en_passant_text a ≡ en_passant_text b → a ≡ b
square_at None None e = refl
square_at None (Some b) e = absurd (omega (arith, ap length e))
square_at (Some a) None e = absurd (omega (arith, ap length e))
square_at (Some a) (Some b) e =
    let file : 97 + a % 8 ≡ 97 + b % 8 = ap (λ (t : List ℕ). get_or t 0 0) e in
    let rank : 49 + a / 8 ≡ 49 + b / 8 = ap (λ (t : List ℕ). get_or t 1 0) e in
    ap (λ (s : ℕ). Some s) (omega (arith, file, rank))

counter_one : (t : List ℕ) (a b : ℕ) → SpellsCounter t a → SpellsCounter t b → a ≡ b
counter_one t a b h k = decimal_injective a b (omega (arith, h.small)) (omega (arith, k.small)) (sym h.text ∙ k.text)

abbrev parts : List (Option Piece) → Side → Rights → Option ℕ → ℕ → ℕ → Parts
parts men side rights en_passant halfmove fullmove = record { men = men; side = side; rights = rights; en_passant = en_passant; halfmove = halfmove; fullmove = fullmove }

-- one text spells one position
pub spells_one : (t : List ℕ) (p q : Parts) → SpellsPosition t p → SpellsPosition t q → p ≡ q
spells_one t p q h k =
    let f = same_fields t h.fields k.fields in
    let men = placement_one k.fields.placement p.men q.men (subst (λ (s : List ℕ). SpellsPlacement s p.men) f.placement h.men) k.men in
    let side = side_at p.side q.side (sym h.side ∙ f.side ∙ k.side) in
    let rights = castling_one p.rights q.rights (sym h.rights ∙ f.castling ∙ k.rights) in
    let en_passant = square_at p.en_passant q.en_passant (sym h.en_passant.text ∙ f.en_passant ∙ k.en_passant.text) in
    let halfmove = counter_one k.fields.halfmove p.halfmove q.halfmove (subst (λ (s : List ℕ). SpellsCounter s p.halfmove) f.halfmove h.halfmove) k.halfmove in
    let fullmove = counter_one k.fields.fullmove p.fullmove q.fullmove (subst (λ (s : List ℕ). SpellsCounter s p.fullmove) f.fullmove h.fullmove) k.fullmove in
    ap (λ (m : List (Option Piece)). parts m p.side p.rights p.en_passant p.halfmove p.fullmove) men
    ∙ ap (λ (s : Side). parts q.men s p.rights p.en_passant p.halfmove p.fullmove) side
    ∙ ap (λ (r : Rights). parts q.men q.side r p.en_passant p.halfmove p.fullmove) rights
    ∙ ap (λ (s : Option ℕ). parts q.men q.side q.rights s p.halfmove p.fullmove) en_passant
    ∙ ap (λ (n : ℕ). parts q.men q.side q.rights q.en_passant n p.fullmove) halfmove
    ∙ ap (λ (n : ℕ). parts q.men q.side q.rights q.en_passant q.halfmove n) fullmove

no_fault : (p : Parts) (fault : PositionFault) → IsPosition p → IsFirstFault p fault → ⊥
no_fault p BadKings h f = f h.kings
no_fault p TooManyMen h f = f.1 h.few
no_fault p PawnOnEdge h f = f.2 h.pawns
no_fault p BadCastling h f = f.3 h.rights
no_fault p BadEnPassant h f = f.4 h.en_passant
no_fault p OpponentInCheck h f = f.5 h.quiet
no_fault p BadCounter h f = f.6 h.counters

-- what a position spells is spelled in the fields, however they are given
pub has_fields : (t : List ℕ) (p : Parts) (f : SixFields t) → SpellsPosition t p → HasPlacement f × HasSide f × HasCastling f × HasSquare f × HasNumbers f
has_fields t p f h =
    let same = same_fields t h.fields f in (
      (p.men, subst (λ (s : List ℕ). SpellsPlacement s p.men) same.placement h.men),
      (p.side, subst (λ (s : List ℕ). SpellsSide s p.side) same.side h.side),
      (p.rights, subst (λ (s : List ℕ). SpellsCastling s p.rights) same.castling h.rights),
      (p.en_passant, subst (λ (s : List ℕ). SpellsEnPassant s p.en_passant) same.en_passant h.en_passant),
      ((p.halfmove, subst (λ (s : List ℕ). SpellsCounter s p.halfmove) same.halfmove h.halfmove), (p.fullmove, subst (λ (s : List ℕ). SpellsCounter s p.fullmove) same.fullmove h.fullmove)),
    )

-- a text with a fault spells no position
pub fault_only : (t : List ℕ) (fault : FenFault) (p : Parts) → IsFirstFenFault t fault → IsPosition p → SpellsPosition t p → ⊥
fault_only t FieldCount p f position h = f (ap length h.fields.cut)
fault_only t BadPlacement p f position h = f.1 (has_fields t p f.0 h).0
fault_only t BadSide p f position h = f.2 (has_fields t p f.0 h).1
fault_only t BadCastlingText p f position h = f.3 (has_fields t p f.0 h).2
fault_only t BadSquare p f position h = f.4 (has_fields t p f.0 h).3
fault_only t BadNumber p f position h = f.5 (has_fields t p f.0 h).4
fault_only t (BadPosition fault) p f position h =
    no_fault p fault position (subst (λ (q : Parts). IsFirstFault q fault) (spells_one t f.0 p f.1 h) f.2)
