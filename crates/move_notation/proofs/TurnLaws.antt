-- Words that are read in turn.
use Rattle.std.proofs.Common.{◌≡◌, ◌≢◌, ℕ, List, [], ◌∷◌, ◌++◌, length, refl, sym, ap, ◌∙◌, subst, append_assoc}
use Rattle.std.specs.Prelude.{Some, Result, Ok, Err, suc, OnErr}
use Rattle.board_core.specs.declared.parts.Parts.{Parts}
use Rattle.board_core.specs.declared.moves.Move.{Move as Moves}
use Rattle.board_core.specs.ComputedMoves.{position_after}
use Rattle.move_msg.specs.GameTexts.{HasMove, words_in}
use Rattle.fen_text.specs.Laws.{HasOneMove}
use Rattle.san_text.specs.San.{IsMeant, ReadsSan}
use Rattle.san_text.specs.Laws.{TellsOneThing}
use Rattle.san_text.specs.declared.told.Told.{Told}
use Rattle.move_notation.specs.declared.notation.Notation.TheVariants.{Coordinates, San}
use Rattle.move_notation.specs.Laws.{NamesOneMove}
use Rattle.move_notation.specs.Notations.{AreSanMoves, IsFirstUnread, LeadsTo}

-- a text names one move at most
pub names_one : HasOneMove → TellsOneThing → NamesOneMove
names_one one thing Coordinates p t m n a b = one t m n a b
names_one one thing San p t m n a b =
    let same : a.told ≡ b.told = thing t a.told b.told a.spells b.spells in
    b.only m (subst (λ (told : Told). IsMeant p told m) same a.meant)

-- one more word is read
pub leads_more : (p q next : Parts) (texts : List (List ℕ)) (moves : List Moves) (text : List ℕ) (m : Moves) → LeadsTo p texts moves q → ReadsSan q text m → position_after q m ≡ Some next → LeadsTo p (texts ++ text ∷ []) (moves ++ m ∷ []) next
unfolding LeadsTo
leads_more p q next [] [] text m leads reads played =
    (next, subst (λ p. ReadsSan p text m) leads reads, subst (λ (p : Parts). position_after p m ≡ Some next) leads played, refl)
leads_more p q next [] (n ∷ moves) text m leads reads played = absurd leads
leads_more p q next (t ∷ texts) [] text m leads reads played = absurd leads
leads_more p q next (t ∷ texts) (n ∷ moves) text m leads reads played =
    (leads.0, leads.1, leads.2, leads_more leads.0 q next texts moves text m leads.3 reads played)

-- as many words as moves
leads_length : (p q : Parts) (texts : List (List ℕ)) (moves : List Moves) → LeadsTo p texts moves q → length texts ≡ length moves
unfolding LeadsTo
leads_length p q [] [] leads = refl
leads_length p q [] (n ∷ moves) leads = absurd leads
leads_length p q (t ∷ texts) [] leads = absurd leads
leads_length p q (t ∷ texts) (n ∷ moves) leads = ap suc (leads_length leads.0 q texts moves leads.3)

-- the words before the rest of a text are read
pub record AreReadTo (start : Parts) (text rest : List ℕ) (moves : List Moves) (there : Parts) : Type 0 where
  pub front : List (List ℕ)
  pub is : words_in text ≡ front ++ words_in rest
  pub leads : LeadsTo start front moves there

pub read_start : (start : Parts) (text : List ℕ) → AreReadTo start text text [] start
unfolding LeadsTo
read_start start text = record { front = []; is = refl; leads = refl }

pub read_more : (start there next : Parts) (text rest word tail : List ℕ) (moves : List Moves) (m : Moves) → AreReadTo start text rest moves there → words_in rest ≡ word ∷ words_in tail → ReadsSan there word m → position_after there m ≡ Some next → AreReadTo start text tail (moves ++ m ∷ []) next
read_more start there next text rest word tail moves m r cut reads played = record {
  front = r.front ++ word ∷ [];
  is = r.is ∙ ap (λ ws. r.front ++ ws) cut ∙ sym (append_assoc r.front (word ∷ []) (words_in tail));
  leads = leads_more start there next r.front moves word m r.leads reads played;
}

append_nil_of : (ws : List (List ℕ)) → ws ++ [] ≡ ws
append_nil_of [] = refl
append_nil_of (w ∷ ws) = ap (λ vs. w ∷ vs) (append_nil_of ws)

pub read_all : (start there : Parts) (text rest : List ℕ) (moves : List Moves) → AreReadTo start text rest moves there → words_in rest ≡ [] → AreSanMoves start (words_in text) moves
read_all start there text rest moves r none =
    (there, subst (λ ws. LeadsTo start ws moves there) (sym (r.is ∙ ap (λ ws. r.front ++ ws) none ∙ append_nil_of r.front)) r.leads)

pub read_bad : (start there : Parts) (text rest word tail : List ℕ) (moves : List Moves) → AreReadTo start text rest moves there → words_in rest ≡ word ∷ words_in tail → ((m : Moves) → ReadsSan there word m → ⊥) → IsFirstUnread start (words_in text) (length moves)
read_bad start there text rest word tail moves r cut none = record {
  before = r.front;
  text = word;
  behind = words_in tail;
  are = r.is ∙ ap (λ ws. r.front ++ ws) cut;
  counted = leads_length start there r.front moves r.leads;
  moves = moves;
  there = there;
  leads = r.leads;
  none = none;
}

-- a text with a word has words
has_some : (front behind : List (List ℕ)) (word : List ℕ) → front ++ word ∷ behind ≢ []
has_some [] behind word e = let f = e in absurd cc
has_some (w ∷ front) behind word e = let f = e in absurd cc

pub has_words : (start there : Parts) (text rest word tail : List ℕ) (moves : List Moves) → AreReadTo start text rest moves there → words_in rest ≡ word ∷ words_in tail → words_in text ≢ []
has_words start there text rest word tail moves r cut none =
    has_some r.front (words_in tail) word (sym (r.is ∙ ap (λ ws. r.front ++ ws) cut) ∙ none)

pub has_move : (text : List ℕ) → HasMove text → words_in text ≢ []
has_move text (before, word, behind, is, move) none = has_some before behind word (sym is ∙ none)

-- whatever the error is
pub anyhow : {T E : Type 0} {P : Type 0} → (r : Result T E) → P → OnErr r P
anyhow (Ok x) h = tt
anyhow (Err e) h = h
