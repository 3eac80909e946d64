-- Words of moves one after the other.
use Rattle.std.proofs.Common.{◌≡◌, ℕ, Bool, IsTrue, ◌+◌, ◌*◌, ◌<◌, ◌^◌, List, [], ◌∷◌, ◌++◌, length, take, drop, get_or, refl, sym, ap, ap₂, subst, ◌∙◌, arith, append_assoc, append-nil}
use Rattle.std.specs.Prelude.{◌==◌, ◌↔◌}
use Rattle.std.specs.Int.{w16, to_be_bytes, from_be_bytes}
use Rattle.std.proofs.lemmas.Bool.{eqb-true}
use Rattle.std.proofs.lemmas.List.{nil_from_length, take_more}
use Rattle.std.proofs.lemmas.Nat.{from_be_bytes-to_be_bytes_2}
use Rattle.board_core.specs.declared.moves.Move.{Move}
use Rattle.move_msg.specs.Words.{SpellsWord, greatest_word}
use Rattle.move_msg.specs.Records.{SpellsMoves, AppendsMoves}
use Rattle.move_msg.proofs.WordLaws.{one_word, word_below}

-- the bytes are words of some moves
pub record HaveWords (t : List ℕ) : Type 0 where
  pub moves : List Move
  pub spelled : SpellsMoves t moves

pub record AreSameWords (rest t : List ℕ) : Type 0 where
  pub forth : HaveWords rest → HaveWords t
  pub back : HaveWords t → HaveWords rest

-- these moves were read, and the rest is left
pub record HaveRead (t : List ℕ) (done : List Move) (rest : List ℕ) : Type 0 where
  pub forth : (ms : List Move) → SpellsMoves rest ms → SpellsMoves t (done ++ ms)
  pub back : HaveWords t → HaveWords rest

-- what words begin by
pub record HasFirst (w : ℕ) (tail : List ℕ) (ms : List Move) : Type 0 where
  pub move : Move
  pub others : List Move
  pub is : ms ≡ move ∷ others
  pub word : SpellsWord w move
  pub rest : SpellsMoves tail others

same_pair : (v w : ℕ) (x y : List ℕ) → v < 2 ^ 16 → w < 2 ^ 16 → to_be_bytes w16 v ++ x ≡ to_be_bytes w16 w ++ y → (v ≡ w) × (x ≡ y)
same_pair v w x y small_v small_w e = (
  sym (from_be_bytes-to_be_bytes_2 v small_v) ∙ ap (λ (t : List ℕ). from_be_bytes w16 (take 2 t)) e ∙ from_be_bytes-to_be_bytes_2 w small_w,
  ap (drop 2) e,
)

pub first_of : (w : ℕ) (tail : List ℕ) (ms : List Move) → w < 2 ^ 16 → SpellsMoves (to_be_bytes w16 w ++ tail) ms → HasFirst w tail ms
first_of w tail [] small e = absurd cc
first_of w tail (m ∷ ms) small s =
    let b = word_below s.0 m s.2 in
    let p = same_pair w s.0 tail s.1 small (omega arith) s.3 in
    record {
      move = m;
      others = ms;
      is = refl;
      word = subst (λ (v : ℕ). SpellsWord v m) (sym p.0) s.2;
      rest = subst (λ (t : List ℕ). SpellsMoves t ms) (sym p.1) s.4;
    }

pub one_list : (t : List ℕ) (ms ns : List Move) → SpellsMoves t ms → SpellsMoves t ns → ms ≡ ns
one_list t [] [] p q = refl
one_list t [] (n ∷ ns) p q = let e = sym p ∙ q.3 in absurd cc
one_list t (m ∷ ms) [] p q = let e = sym q ∙ p.3 in absurd cc
one_list t (m ∷ ms) (n ∷ ns) p q =
    let b = word_below p.0 m p.2 in
    let d = word_below q.0 n q.2 in
    let e = same_pair p.0 q.0 p.1 q.1 (omega arith) (omega arith) (sym p.3 ∙ q.3) in
    let head : m ≡ n = one_word q.0 m n (subst (λ (v : ℕ). SpellsWord v m) e.0 p.2) q.2 in
    let tail : ms ≡ ns = one_list q.1 ms ns (subst (λ (x : List ℕ). SpellsMoves x ms) e.1 p.4) q.4 in
    ap₂ (λ (x : Move) (xs : List Move). x ∷ xs) head tail

-- moves have one spelling
pub one_text : (s t : List ℕ) (ms : List Move) → SpellsMoves s ms → SpellsMoves t ms → s ≡ t
one_text s t [] p q = p ∙ sym q
one_text s t (m ∷ ms) p q =
    p.3 ∙ ap₂ (λ (w : ℕ) (x : List ℕ). to_be_bytes w16 w ++ x) (p.2.value ∙ sym q.2.value) (one_text p.1 q.1 ms p.4 q.4) ∙ sym q.3

-- words have two bytes for each move
pub words_length : (t : List ℕ) (ms : List Move) → SpellsMoves t ms → length t ≡ 2 * length ms
words_length t [] e = ap length e
words_length t (m ∷ ms) s =
    let rest = words_length s.1 ms s.4 in
    let all = ap length s.3 in
    omega arith

-- one more at the end
pub words_snoc : (t : List ℕ) (ms : List Move) (w : ℕ) (m : Move) → SpellsMoves t ms → SpellsWord w m → SpellsMoves (t ++ to_be_bytes w16 w) (ms ++ m ∷ [])
words_snoc t [] w m e word = (w, [], word, ap (λ (x : List ℕ). x ++ to_be_bytes w16 w) e ∙ sym (append-nil (to_be_bytes w16 w)), refl)
words_snoc t (n ∷ ns) w m s word =
    (s.0, s.1 ++ to_be_bytes w16 w, s.2, ap (λ (x : List ℕ). x ++ to_be_bytes w16 w) s.3 ∙ append_assoc (to_be_bytes w16 s.0) s.1 (to_be_bytes w16 w), words_snoc s.1 ns w m s.4 word)

-- a word more was read
pub reads_on : (t : List ℕ) (done : List Move) (rest tail : List ℕ) (w : ℕ) (m : Move) → w < 2 ^ 16 → rest ≡ to_be_bytes w16 w ++ tail → SpellsWord w m → HaveRead t done rest → HaveRead t (done ++ m ∷ []) tail
reads_on t done rest tail w m small is word h =
    record {
      forth = λ ms s. subst (SpellsMoves t) (sym (append_assoc done (m ∷ []) ms)) (h.forth (m ∷ ms) (w, tail, word, is, s));
      back = λ words. let old = h.back words in
          let f = first_of w tail old.moves small (subst (λ (x : List ℕ). SpellsMoves x old.moves) is old.spelled) in
          record { moves = f.others; spelled = f.rest };
    }

pub same_on : (t rest tail : List ℕ) (w : ℕ) (m : Move) → w < 2 ^ 16 → rest ≡ to_be_bytes w16 w ++ tail → SpellsWord w m → AreSameWords rest t → AreSameWords tail t
same_on t rest tail w m small is word h =
    record {
      forth = λ words. h.forth (record { moves = m ∷ words.moves; spelled = (w, tail, word, is, words.spelled) });
      back = λ words. let old = h.back words in
          let f = first_of w tail old.moves small (subst (λ (x : List ℕ). SpellsMoves x old.moves) is old.spelled) in
          record { moves = f.others; spelled = f.rest };
    }

-- the rest begins by no word that stands for a move
pub not_words : (rest tail : List ℕ) (w : ℕ) → w < 2 ^ 16 → rest ≡ to_be_bytes w16 w ++ tail → greatest_word < w → HaveWords rest → ⊥
not_words rest tail w small is high words =
    let f = first_of w tail words.moves small (subst (λ (x : List ℕ). SpellsMoves x words.moves) is words.spelled) in
    let b = word_below w f.move f.word in
    absurd (omega arith)

-- fewer than two bytes are words only where there are none
pub short_words : (rest : List ℕ) → length rest < 2 → HaveWords rest → rest ≡ []
short_words rest short words =
    let len = words_length rest words.moves words.spelled in
    nil_from_length rest (omega arith)

pub words_of : {t : List ℕ} → (ms : List Move) × SpellsMoves t ms → HaveWords t
words_of all = record { moves = all.0; spelled = all.1 }

-- nothing is left
pub all_read : (t : List ℕ) (done : List Move) (rest : List ℕ) → length rest ≡ 0 → HaveRead t done rest → SpellsMoves t done
all_read t done rest none h = subst (SpellsMoves t) (append-nil done) (h.forth [] (nil_from_length rest none))

-- a rest of one byte is left, which is no word
pub half_left : (t : List ℕ) (done : List Move) (rest : List ℕ) → length rest < 2 → (length rest ≡ 0 → ⊥) → HaveRead t done rest → (ms : List Move) → SpellsMoves t ms → ⊥
half_left t done rest short some h ms s = some (ap length (short_words rest short (h.back (words_of (ms, s)))))

-- the words of one move more
pub appends_more : (old mid new : List ℕ) (ms : List Move) (i : ℕ) (m : Move) → i < length ms → m ≡ get_or ms i m → AppendsMoves old mid (take i ms) → (w : ℕ) × SpellsWord w m × (new ≡ mid ++ to_be_bytes w16 w) → AppendsMoves old new (take (i + 1) ms)
appends_more old mid new ms i m lt is before one =
    let more : take (i + 1) ms ≡ take i ms ++ m ∷ [] = take_more ms i m lt ∙ ap (λ (x : Move). take i ms ++ x ∷ []) (sym is) in (
      before.0 ++ to_be_bytes w16 one.0,
      subst (SpellsMoves (before.0 ++ to_be_bytes w16 one.0)) (sym more) (words_snoc before.0 (take i ms) one.0 m before.1 one.1),
      one.2 ∙ ap (λ (x : List ℕ). x ++ to_be_bytes w16 one.0) before.2 ∙ append_assoc old before.0 (to_be_bytes w16 one.0),
    )

-- fewer than two bytes are left: words were all exactly where none is left
pub only_empty : (t rest : List ℕ) (is_empty : Bool) → is_empty ≡ (length rest == 0) → length rest < 2 → AreSameWords rest t → IsTrue is_empty ↔ ((ms : List Move) × SpellsMoves t ms)
only_empty t rest is_empty is short h = (
  λ yes_empty.
      let none : length rest ≡ 0 = eqb-true (length rest) 0 (sym is ∙ yes_empty) in
      let all = h.forth (record { moves = []; spelled = nil_from_length rest none }) in
      (all.moves, all.spelled),
  λ all.
      let none : rest ≡ [] = short_words rest short (h.back (words_of all)) in
      is ∙ ap (λ (x : List ℕ). length x == 0) none,
)
