-- Words and moves of a text.
use Rattle.std.proofs.Common.{arith, ◌≡◌, ℕ, true, false, List, [], ◌∷◌, ◌++◌, length, filter, refl, sym, ap, ◌∙◌, subst, append_assoc}
use Rattle.std.specs.Prelude.{Result, Ok, Err, OnErr}
use Rattle.std.specs.List.{slice_split}
use Rattle.board_core.specs.declared.moves.Move.{Move as Moves}
use Rattle.fen_text.specs.Coordinates.{AreMoves, SpellsMove}
use Rattle.move_msg.specs.GameTexts.{HasMove, IsBadWordAt, TellsMoves, has_bytes, is_gap, words_in}
use Rattle.move_msg.specs.Inside.GameSteps.{AddsWord}

more_moves : (ws vs : List (List ℕ)) (ms ns : List Moves) → AreMoves ws ms → AreMoves vs ns → AreMoves (ws ++ vs) (ms ++ ns)
more_moves [] vs [] ns a b = b
more_moves [] vs (m ∷ ms) ns a b = absurd a
more_moves (w ∷ ws) vs [] ns a b = absurd a
more_moves (w ∷ ws) vs (m ∷ ms) ns a b = (a.0, more_moves ws vs ms ns a.1 b)

word_apart : (word : List ℕ) (ws : List (List ℕ)) → filter has_bytes (word ∷ ws) ≡ filter has_bytes (word ∷ []) ++ filter has_bytes ws
word_apart [] ws = refl
word_apart (b ∷ bs) ws = refl

word_stays : (word : List ℕ) (ws : List (List ℕ)) → has_bytes word ≡ true → filter has_bytes (word ∷ ws) ≡ word ∷ filter has_bytes ws
word_stays [] ws e = let f = e in absurd cc
word_stays (b ∷ bs) ws e = refl

-- the words before the rest of a text are read
pub record AreRead (text rest : List ℕ) (moves : List Moves) : Type 0 where
  pub front : List (List ℕ)
  pub is : words_in text ≡ front ++ words_in rest
  pub are : AreMoves front moves

pub read_start : (text : List ℕ) → AreRead text text []
read_start text = record { front = []; is = refl; are = tt }

pub read_more : (text rest tail word : List ℕ) (old new : List Moves) → AreRead text rest old → slice_split is_gap rest ≡ word ∷ slice_split is_gap tail → AddsWord word old new true → AreRead text tail new
unfolding words_in
read_more text rest tail word old new r cut adds =
    let one : List (List ℕ) = filter has_bytes (word ∷ []) in
    let left : words_in rest ≡ one ++ words_in tail = ap (filter has_bytes) cut ∙ word_apart word (slice_split is_gap tail) in
    record {
      front = r.front ++ one;
      is = r.is ∙ ap (λ ws. r.front ++ ws) left ∙ sym (append_assoc r.front one (words_in tail));
      are = subst (AreMoves (r.front ++ one)) (sym adds.2) (more_moves r.front one old adds.0 r.are adds.1);
    }

pub read_all : (text rest : List ℕ) (old new : List Moves) → AreRead text rest old → slice_split is_gap rest ≡ rest ∷ [] → AddsWord rest old new true → TellsMoves text new
unfolding words_in
read_all text rest old new r cut adds =
    let one : List (List ℕ) = filter has_bytes (rest ∷ []) in
    let left : words_in rest ≡ one = ap (filter has_bytes) cut in
    subst (λ ws. AreMoves ws new) (sym (r.is ∙ ap (λ ws. r.front ++ ws) left)) (subst (AreMoves (r.front ++ one)) (sym adds.2) (more_moves r.front one old adds.0 r.are adds.1))

bad_at : (ws vs : List (List ℕ)) (word : List ℕ) (ms : List Moves) → AreMoves ws ms → ((m : Moves) → SpellsMove word m → ⊥) → IsBadWordAt (ws ++ word ∷ vs) (length ms)
bad_at [] vs word [] a none = none
bad_at [] vs word (m ∷ ms) a none = absurd a
bad_at (w ∷ ws) vs word [] a none = absurd a
bad_at (w ∷ ws) vs word (m ∷ ms) a none = ((m, a.0), bad_at ws vs word ms a.1 none)

pub read_bad : (text rest word : List ℕ) (ws : List (List ℕ)) (old new : List Moves) → AreRead text rest old → slice_split is_gap rest ≡ word ∷ ws → AddsWord word old new false → IsBadWordAt (words_in text) (length new)
unfolding words_in
read_bad text rest word ws old new r cut adds =
    let left : words_in rest ≡ word ∷ filter has_bytes ws = ap (filter has_bytes) cut ∙ word_stays word ws adds.0 in
    subst (λ vs. IsBadWordAt vs (length new)) (sym (r.is ∙ ap (λ vs. r.front ++ vs) left))
    (subst (λ (ms : List Moves). IsBadWordAt (r.front ++ word ∷ filter has_bytes ws) (length ms)) (sym adds.2) (bad_at r.front (filter has_bytes ws) word old r.are adds.1))

-- a word that follows what is read is one of the text's
pub has_move : (text rest word : List ℕ) (ws : List (List ℕ)) (old : List Moves) → AreRead text rest old → slice_split is_gap rest ≡ word ∷ ws → (has_bytes word ≡ true) × ((m : Moves) × SpellsMove word m) → HasMove text
unfolding words_in
has_move text rest word ws old r cut h =
    let left : words_in rest ≡ word ∷ filter has_bytes ws = ap (filter has_bytes) cut ∙ word_stays word ws h.0 in
    (r.front, word, filter has_bytes ws, r.is ∙ ap (λ vs. r.front ++ vs) left, h.1)

-- what holds anyhow holds where there is an error
pub anyhow : {A E X : Type 0} (r : Result A E) → X → OnErr r X
anyhow (Ok a) x = tt
anyhow (Err e) x = x

-- an empty piece is no word
pub word_passed : (text word tail : List ℕ) → slice_split is_gap text ≡ word ∷ slice_split is_gap tail → length word ≡ 0 → words_in text ≡ words_in tail
unfolding words_in
word_passed text [] tail cut none = ap (filter has_bytes) cut
word_passed text (b ∷ bs) tail cut none = absurd (omega arith)

abbrev pub IsNext : List ℕ → List ℕ → List ℕ → Type 0
IsNext text word tail = words_in text ≡ word ∷ words_in tail

-- a piece with bytes is the next word
pub word_next : (text word tail : List ℕ) → slice_split is_gap text ≡ word ∷ slice_split is_gap tail → (word ≡ [] → ⊥) → IsNext text word tail
unfolding words_in
word_next text [] tail cut some = absurd (some refl)
word_next text (b ∷ bs) tail cut some = ap (filter has_bytes) cut

-- where a text has no gap it is one word, or none
pub word_last : (text : List ℕ) → slice_split is_gap text ≡ text ∷ [] → (text ≡ [] → ⊥) → IsNext text text []
unfolding words_in
word_last [] cut some = absurd (some refl)
word_last (b ∷ bs) cut some = ap (filter has_bytes) cut

pub no_word : (text : List ℕ) → length text ≡ 0 → words_in text ≡ []
unfolding words_in
no_word [] none = refl
no_word (b ∷ bs) none = absurd (omega arith)
