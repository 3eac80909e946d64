-- A text that is read as a move is no number and no result.
use Rattle.std.proofs.Common.{◌≡◌, ◌∙◌, ℕ, suc, ◌+◌, ◌<◌, ◌≤◌, ◌++◌, Bool, true, false, List, [], ◌∷◌, Some, length, refl, sym, ap, subst, arith, inl, inr, lit<}
use Rattle.std.specs.Prelude.{◌==◌, ◌&&◌, nat_lt, codes, bytes_eq}
use Rattle.std.specs.List.{list_all}
use Rattle.std.proofs.lemmas.Bool.{false_from_ne_true}
use Rattle.std.proofs.lemmas.Bool.Decides.{nat_tests}
use Rattle.std.proofs.lemmas.Slice.Eq.{bytes_eq-Decides}
use Rattle.std.proofs.lemmas.List.Folds.{list_all-append}
use Rattle.board_core.specs.declared.parts.Parts.{Parts}
use Rattle.board_core.specs.declared.moves.Move.{Move}
use Rattle.board_core.specs.declared.piece.Wing.{Wing}
use Rattle.board_core.specs.declared.piece.Wing.TheVariants.{KingSide, QueenSide}
use Rattle.board_core.specs.Square.{file_of, rank_of}
use Rattle.san_text.specs.declared.told.ManTold.{ManTold}
use Rattle.san_text.specs.declared.told.Told.{Told}
use Rattle.san_text.specs.declared.told.Told.TheVariants.{Castles, Goes}
use Rattle.san_text.specs.Told.{IsAmongTexts, SpellsCastles, SpellsMan, SpellsTold, castles_texts, file_letter, passing_text, rank_digit, square_text}
use Rattle.pgn_games.specs.Bytes.{is_digit, run_len}
use Rattle.pgn_games.specs.Lexemes.{MoveText, symbol_tells}
use Rattle.pgn_games.specs.Scores.{SpellsSymbol}

-- a byte below the small letters
below : ℕ → Bool
below b = nat_lt b 97

below_append : (a b : List ℕ) → list_all below (a ++ b) ≡ (list_all below a && list_all below b)
below_append a b = list_all-append below a b

and_false : (a : Bool) → (a && false) ≡ false
and_false true = refl
and_false false = refl

-- a text with a small letter
abbrev HasSmall : List ℕ → Type 0
HasSmall t = list_all below t ≡ false

small_behind : (a b : List ℕ) → HasSmall b → HasSmall (a ++ b)
small_behind a b h = below_append a b ∙ ap (λ (k : Bool). list_all below a && k) h ∙ and_false (list_all below a)

small_front : (a b : List ℕ) → HasSmall a → HasSmall (a ++ b)
small_front a b h = below_append a b ∙ ap (λ (k : Bool). k && list_all below b) h

small_byte : (b : ℕ) (t : List ℕ) → 97 ≤ b → HasSmall (b ∷ t)
unfolding below
small_byte b t h = let k : nat_lt b 97 ≡ false = grind (arith, nat_tests) in rw k refl

digit_below : (b : ℕ) → is_digit b ≡ true → below b ≡ true
unfolding below
digit_below b h = grind (arith, nat_tests)

-- it is no row of digits
no_number_by : (k : Bool) (b : ℕ) (t : List ℕ) → is_digit b ≡ k → HasSmall (b ∷ t) → (HasSmall t → (run_len is_digit t == length t) ≡ false) → (run_len is_digit (b ∷ t) == length (b ∷ t)) ≡ false
no_number_by false b t is small next = rw is (grind (arith, nat_tests))
no_number_by true b t is small next =
    let rest : HasSmall t = sym (ap (λ (k : Bool). k && list_all below t) (digit_below b is)) ∙ small in
    let other : (run_len is_digit t == length t) ≡ false = next rest in
    rw is (grind (arith, nat_tests, other))

no_number : (t : List ℕ) → HasSmall t → (run_len is_digit t == length t) ≡ false
no_number [] h = absurd (cc)
no_number (b ∷ t) h = no_number_by (is_digit b) b t refl h (no_number t)

-- it is none of the results
no_text : (t u : List ℕ) → HasSmall t → list_all below u ≡ true → bytes_eq t u ≡ false
no_text t u h g = false_from_ne_true (bytes_eq t u) (λ e. absurd (let same : t ≡ u = (bytes_eq-Decides t u).0 e in let all : list_all below t ≡ true = ap (list_all below) same ∙ g in cc))

abbrev IsMoveSymbol : List ℕ → Type 0
IsMoveSymbol t = (symbol_tells t ≡ Some (MoveText t)) × (0 < length t)

small_tells : (t : List ℕ) → HasSmall t → symbol_tells t ≡ Some (MoveText t)
unfolding below
small_tells t h = rw (no_number t h, no_text t (codes "1-0") h refl, no_text t (codes "0-1") h refl, no_text t (codes "1/2-1/2") h refl) refl

some_small : (t : List ℕ) → HasSmall t → 0 < length t
some_small [] h = absurd (cc)
some_small (b ∷ t) h = omega arith

man_has_small : (t : List ℕ) (man : ManTold) → SpellsMan t man → HasSmall t
man_has_small t man h =
    let before = h.letter ++ file_letter man.file ++ rank_digit man.rank ++ h.between in
    let square : HasSmall (square_text man.to) = small_byte (97 + file_of man.to) ((49 + rank_of man.to) ∷ []) (omega arith) in
    subst HasSmall (sym h.text) (small_front (before ++ square_text man.to ++ h.promotion ++ passing_text man.en_passant) h.marks (small_front (before ++ square_text man.to ++ h.promotion) (passing_text man.en_passant) (small_front (before ++ square_text man.to) h.promotion (small_behind before (square_text man.to) square))))

man_tells : (t : List ℕ) (man : ManTold) → SpellsMan t man → IsMoveSymbol t
man_tells t man h = (small_tells t (man_has_small t man h), some_small t (man_has_small t man h))

-- castling by O or by 0
no_digits : (k n : ℕ) → k < 2 → (k == suc (suc n)) ≡ false
no_digits k n h = grind (arith, nat_tests)

castles_by : (c marks : List ℕ) (wing : Wing) → IsAmongTexts (castles_texts wing) c → IsMoveSymbol (c ++ marks)
castles_by c marks KingSide (inl e) =
    subst (λ (u : List ℕ). IsMoveSymbol (u ++ marks)) (sym e) (rw (no_digits 0 (suc (length marks)) (lit< tt)) refl, omega arith)
castles_by c marks KingSide (inr (inl e)) =
    subst (λ (u : List ℕ). IsMoveSymbol (u ++ marks)) (sym e) (rw (no_digits 1 (suc (length marks)) (lit< tt)) refl, omega arith)
castles_by c marks KingSide (inr (inr none)) = absurd none
castles_by c marks QueenSide (inl e) =
    subst (λ (u : List ℕ). IsMoveSymbol (u ++ marks)) (sym e) (rw (no_digits 0 (suc (suc (suc (length marks)))) (lit< tt)) refl, omega arith)
castles_by c marks QueenSide (inr (inl e)) =
    subst (λ (u : List ℕ). IsMoveSymbol (u ++ marks)) (sym e) (rw (no_digits 1 (suc (suc (suc (length marks)))) (lit< tt)) refl, omega arith)
castles_by c marks QueenSide (inr (inr none)) = absurd none

castles_tells : (t : List ℕ) (wing : Wing) → SpellsCastles t wing → IsMoveSymbol t
castles_tells t wing h = subst IsMoveSymbol (sym h.text) (castles_by h.castling h.marks wing h.castles)

told_tells : (t : List ℕ) (told : Told) → SpellsTold t told → IsMoveSymbol t
told_tells t (Castles wing) h = castles_tells t wing h
told_tells t (Goes man) h = man_tells t man h

-- a symbol that is read as a move is the text of a move
pub move_symbol : (p : Parts) (m : Move) (text : List ℕ) → SpellsSymbol p m text → (symbol_tells text ≡ Some (MoveText text)) × (0 < length text)
move_symbol p m text h = told_tells text h.read.told h.read.spells
