-- Lines that name moves in turn.
use Rattle.std.proofs.Common.{◌≡◌, ◌∙◌, sym, ap, subst, refl, ℕ, List, [], ◌∷◌, ◌++◌, Some, append-nil}
use Rattle.std.proofs.lemmas.Option.{same_Some}
use Rattle.board_core.specs.declared.moves.Move.{Move as Moves}
use Rattle.board_core.specs.declared.parts.Parts.{Parts}
use Rattle.board_core.specs.ComputedMoves.{position_after}
use Rattle.fen_text.specs.Coordinates.{AreMoves, SpellsMove}
use Rattle.judge_core.specs.Games.{position_after_all}
use Rattle.judge_core.proofs.Plies.{starts}
use Rattle.move_notation.specs.declared.notation.Notation.{Notation}
use Rattle.move_notation.specs.declared.notation.Notation.TheVariants.{Coordinates, San}
use Rattle.move_notation.specs.Laws.{NamesOneMove}
use Rattle.move_notation.specs.Notations.{AreMovesIn, LeadsTo, Spells}
use Rattle.move_notation.proofs.TurnLaws.{leads_more}

-- a move, and then the others
pub goes_first : (p q : Parts) (m : Moves) (moves : List Moves) → position_after p m ≡ Some q → position_after_all p (m ∷ moves) ≡ position_after_all q moves
unfolding position_after_all
goes_first p q m moves is = rw is refl

-- the position after moves that are led to
leads_end : (p q : Parts) (texts : List (List ℕ)) (moves : List Moves) → LeadsTo p texts moves q → position_after_all p moves ≡ Some q
unfolding LeadsTo
leads_end p q [] [] leads = starts p ∙ ap Some (sym leads)
leads_end p q [] (m ∷ moves) leads = absurd leads
leads_end p q (text ∷ texts) [] leads = absurd leads
leads_end p q (text ∷ texts) (m ∷ moves) (next, reads, played, rest) = goes_first p next m moves played ∙ leads_end next q texts moves rest

pub spelled_none : (notation : Notation) (p : Parts) → AreMovesIn notation p [] []
unfolding LeadsTo
spelled_none Coordinates p = tt
spelled_none San p = (p, refl)

coordinates_more : (lines : List (List ℕ)) (moves : List Moves) (line : List ℕ) (m : Moves) → AreMoves lines moves → SpellsMove line m → AreMoves (lines ++ line ∷ []) (moves ++ m ∷ [])
coordinates_more [] [] line m a b = (b, tt)
coordinates_more [] (n ∷ moves) line m a b = absurd a
coordinates_more (l ∷ lines) [] line m a b = absurd a
coordinates_more (l ∷ lines) (n ∷ moves) line m a b = (a.0, coordinates_more lines moves line m a.1 b)

-- one more line
pub spelled_more : (notation : Notation) (start at next : Parts) (lines : List (List ℕ)) (moves : List Moves) (line : List ℕ) (m : Moves) → AreMovesIn notation start lines moves → position_after_all start moves ≡ Some at → Spells notation at line m → position_after at m ≡ Some next → AreMovesIn notation start (lines ++ line ∷ []) (moves ++ m ∷ [])
spelled_more Coordinates start at next lines moves line m a there spells played = coordinates_more lines moves line m a spells
spelled_more San start at next lines moves line m (q, leads) there reads played =
    let same : q ≡ at = same_Some q at (sym (leads_end start q lines moves leads) ∙ there) in
    (next, leads_more start at next lines moves line m (subst (LeadsTo start lines moves) same leads) reads played)

module _ (one : NamesOneMove) where
  coordinates_split : (p : Parts) (ls rs : List (List ℕ)) (ms all : List Moves) → AreMoves ls ms → AreMoves (ls ++ rs) all → (more : List Moves) × (all ≡ ms ++ more) × AreMoves rs more
  coordinates_split p [] rs [] all a b = (all, refl, b)
  coordinates_split p [] rs (m ∷ ms) all a b = absurd a
  coordinates_split p (l ∷ ls) rs [] all a b = absurd a
  coordinates_split p (l ∷ ls) rs (m ∷ ms) [] a b = absurd b
  coordinates_split p (l ∷ ls) rs (m ∷ ms) (n ∷ all) a b =
      let r = coordinates_split p ls rs ms all a.1 b.1 in
      let same : n ≡ m = one Coordinates p l n m b.0 a.0 in
      (r.0, subst (λ x. x ∷ all ≡ m ∷ (ms ++ r.0)) (sym same) (ap (λ x. m ∷ x) r.1), r.2)

  san_split : (p q r : Parts) (ls rs : List (List ℕ)) (ms all : List Moves) → LeadsTo p ls ms q → LeadsTo p (ls ++ rs) all r → (more : List Moves) × (all ≡ ms ++ more) × LeadsTo q rs more r
  unfolding LeadsTo
  san_split p q r [] rs [] all a b = (all, refl, subst (λ x. LeadsTo x rs all r) (sym a) b)
  san_split p q r [] rs (m ∷ ms) all a b = absurd a
  san_split p q r (l ∷ ls) rs [] all a b = absurd a
  san_split p q r (l ∷ ls) rs (m ∷ ms) [] a b = absurd b
  san_split p q r (l ∷ ls) rs (m ∷ ms) (n ∷ all) (next, reads, played, rest) (next', reads', played', rest') =
      let same : n ≡ m = one San p l n m reads' reads in
      let here : next' ≡ next = same_Some next' next (sym played' ∙ ap (position_after p) same ∙ played) in
      let parts = san_split next q r ls rs ms all rest (subst (λ x. LeadsTo x (ls ++ rs) all r) here rest') in
      (parts.0, subst (λ x. x ∷ all ≡ m ∷ (ms ++ parts.0)) (sym same) (ap (λ x. m ∷ x) parts.1), parts.2)

  -- moves of which the first ones are known
  pub split_moves : (notation : Notation) (p q : Parts) (ls rs : List (List ℕ)) (ms all : List Moves) → position_after_all p ms ≡ Some q → AreMovesIn notation p ls ms → AreMovesIn notation p (ls ++ rs) all → (more : List Moves) × (all ≡ ms ++ more) × AreMovesIn notation q rs more
  split_moves Coordinates p q ls rs ms all there a b = coordinates_split p ls rs ms all a b
  split_moves San p q ls rs ms all there (at, leads) (end, whole) =
      let same : at ≡ q = same_Some at q (sym (leads_end p at ls ms leads) ∙ there) in
      let parts = san_split p q end ls rs ms all (subst (LeadsTo p ls ms) same leads) whole in
      (parts.0, parts.1, (end, parts.2))

  no_more : (notation : Notation) (p : Parts) (more : List Moves) → AreMovesIn notation p [] more → more ≡ []
  unfolding LeadsTo
  no_more Coordinates p [] h = refl
  no_more Coordinates p (m ∷ more) h = absurd h
  no_more San p [] h = refl
  no_more San p (m ∷ more) h = absurd h.1

  pub same_moves : (notation : Notation) (p q : Parts) (ls : List (List ℕ)) (ms all : List Moves) → position_after_all p ms ≡ Some q → AreMovesIn notation p ls ms → AreMovesIn notation p ls all → all ≡ ms
  same_moves notation p q ls ms all there a b =
      let parts = split_moves notation p q ls [] ms all there a (subst (λ ts. AreMovesIn notation p ts all) (sym (append-nil ls)) b) in
      parts.1 ∙ ap (λ more. ms ++ more) (no_more notation q parts.0 parts.2) ∙ append-nil ms

-- the first line names the first move
pub first_move : (notation : Notation) (p : Parts) (line : List ℕ) (lines : List (List ℕ)) (moves : List Moves) → AreMovesIn notation p (line ∷ lines) moves → (m : Moves) × (others : List Moves) × (moves ≡ m ∷ others) × Spells notation p line m
unfolding LeadsTo
first_move Coordinates p line lines [] h = absurd h
first_move Coordinates p line lines (m ∷ others) h = (m, others, refl, h.0)
first_move San p line lines [] h = absurd h.1
first_move San p line lines (m ∷ others) h = (m, others, refl, h.1.1)
