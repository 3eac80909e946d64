-- Which mark stands behind a text.
use Rattle.std.proofs.Common.{◌≡◌, ℕ, Bool, true, false, List, [], ◌∷◌, ◌++◌, Option, Decides, refl, sym, ap, ◌∙◌, arith, ◌↔◌}
use Rattle.std.specs.Prelude.{codes, if◌then◌else◌}
use Rattle.std.proofs.lemmas.Bool.{false_from_ne_true}
use Rattle.std.proofs.lemmas.Bool.Decides.{Decides-and, Decides-like}
use Rattle.std.proofs.lemmas.List.{append_cancel_left}
use Rattle.board_core.specs.declared.parts.Parts.{Parts}
use Rattle.board_core.specs.declared.moves.Move.{Move}
use Rattle.board_core.specs.Attack.{IsInCheck}
use Rattle.board_core.specs.Ends.{HasNoMove, has_no_move, IsCheckmate, is_checkmate}
use Rattle.board_core.specs.Moves.{IsLegal, Legal}
use Rattle.board_core.specs.Computed.{is_in_check}
use Rattle.board_core.specs.ComputedMoves.{legal_moves}
use Rattle.board_core.proofs.Computed.{Decides-in_check}
use Rattle.board_core.proofs.ComputedMoves.{legal_position}
use Rattle.board_core.proofs.ComputedLists.{HasLegal-moves}
use Rattle.san_text.specs.Told.{told_text}
use Rattle.san_text.specs.Written.{san_told, check_mark, mark_after, san_of}

none_listed : (p : Parts) (moves : List Move) → legal_moves p ≡ moves → Decides (has_no_move moves) (HasNoMove p)
none_listed p [] e = (λ _ m l. absurd (let c = (HasLegal-moves p).complete m l in let lt = rw e at c.1 in omega arith), λ _. refl)
none_listed p (m ∷ moves) e =
    (λ t. absurd (let f = t in cc), λ none. absurd (none m (let s = (HasLegal-moves p).sound in (rw e at s) 0 m (omega arith))))

Decides-mate : (q : Parts) → Decides (is_checkmate q) (IsCheckmate q)
Decides-mate q =
    Decides-like _ (λ r. (r.1, r.0)) (λ r. (r.1, r.0))
    (Decides-and _ _ (Decides-in_check q.men q.side) (none_listed q (legal_moves q) refl))

-- the mark, by whether there is mate and whether there is check
abbrev mark_by : Bool → Bool → List ℕ
mark_by mate check = if mate then codes "#" else (if check then codes "+" else [])

abbrev first : List ℕ → ℕ
first [] = 0
first (c ∷ cs) = c

mate_only : (mate check : Bool) → mark_by mate check ≡ codes "#" → mate ≡ true
mate_only true check e = refl
mate_only false true e = absurd (let f : 43 ≡ 35 = ap first e in omega (arith, f))
mate_only false false e = absurd (let f : 0 ≡ 35 = ap first e in omega (arith, f))

check_only : (mate check : Bool) → mark_by mate check ≡ codes "+" → (mate ≡ false) × (check ≡ true)
check_only true check e = absurd (let f : 35 ≡ 43 = ap first e in omega (arith, f))
check_only false true e = (refl, refl)
check_only false false e = absurd (let f : 0 ≡ 43 = ap first e in omega (arith, f))

mark_is : (q : Parts) → check_mark q ≡ mark_by (is_checkmate q) (is_in_check q.men q.side)
unfolding check_mark
mark_is q = refl

-- the text is what is told, and the mark of the position after the move
text_is : (p : Parts) (m : Move) (q : Parts) → Legal p m q → san_of p m ≡ told_text (san_told p m) ++ mark_by (is_checkmate q) (is_in_check q.men q.side)
unfolding san_of
text_is p m q l =
    ap (λ (o : Option Parts). told_text (san_told p m) ++ mark_after o) (legal_position p m q l)
    ∙ ap (λ (t : List ℕ). told_text (san_told p m) ++ t) (mark_is q)

pub marks_mate : (p : Parts) (m : Move) (q : Parts) → Legal p m q → (san_of p m ≡ told_text (san_told p m) ++ codes "#") ↔ IsCheckmate q
marks_mate p m q l = (
  λ e.
      let mate = mate_only (is_checkmate q) (is_in_check q.men q.side) (append_cancel_left (told_text (san_told p m)) _ _ (sym (text_is p m q l) ∙ e)) in
      (Decides-mate q).0 mate,
  λ mate. let t = (Decides-mate q).1 mate in text_is p m q l ∙ shown (is_checkmate q) t,
)
  where
    shown : (b : Bool) → b ≡ true → told_text (san_told p m) ++ mark_by b (is_in_check q.men q.side) ≡ told_text (san_told p m) ++ codes "#"
    shown true e = refl
    shown false e = absurd (let f = e in cc)

pub marks_check : (p : Parts) (m : Move) (q : Parts) → Legal p m q → (san_of p m ≡ told_text (san_told p m) ++ codes "+") ↔ (IsInCheck q.men q.side × (IsCheckmate q → ⊥))
marks_check p m q l = (
  λ e.
      let d = check_only (is_checkmate q) (is_in_check q.men q.side) (append_cancel_left (told_text (san_told p m)) _ _ (sym (text_is p m q l) ∙ e)) in
      ((Decides-in_check q.men q.side).0 d.1, λ mate. let t = sym d.0 ∙ (Decides-mate q).1 mate in cc),
  λ h.
      let check = (Decides-in_check q.men q.side).1 h.0 in
      let no_mate : is_checkmate q ≡ false = false_from_ne_true (is_checkmate q) (λ t. h.1 ((Decides-mate q).0 t)) in
      text_is p m q l ∙ shown (is_checkmate q) (is_in_check q.men q.side) no_mate check,
)
  where
    shown : (mate check : Bool) → mate ≡ false → check ≡ true → told_text (san_told p m) ++ mark_by mate check ≡ told_text (san_told p m) ++ codes "+"
    shown true check e f = absurd (let g = e in cc)
    shown false true e f = refl
    shown false false e f = absurd (let g = f in cc)

-- ---- the mark that is written

pub mark_of_none : (q : Parts) → is_in_check q.men q.side ≡ false → check_mark q ≡ []
mark_of_none q quiet =
    let mate : is_checkmate q ≡ false = rw quiet refl in
    mark_is q ∙ ap (λ (b : Bool). mark_by b (is_in_check q.men q.side)) mate ∙ ap (mark_by false) quiet

pub mark_of_check : (q : Parts) (m : Move) → is_in_check q.men q.side ≡ true → IsLegal q m → check_mark q ≡ codes "+"
mark_of_check q m check legal =
    let mate : is_checkmate q ≡ false = false_from_ne_true (is_checkmate q) (λ is. ((Decides-mate q).0 is).0 m legal) in
    mark_is q ∙ ap (λ (b : Bool). mark_by b (is_in_check q.men q.side)) mate ∙ ap (mark_by false) check

pub mark_of_mate : (q : Parts) → IsInCheck q.men q.side → HasNoMove q → check_mark q ≡ codes "#"
mark_of_mate q check none =
    mark_is q ∙ ap (λ (b : Bool). mark_by b (is_in_check q.men q.side)) ((Decides-mate q).1 (none, check))
