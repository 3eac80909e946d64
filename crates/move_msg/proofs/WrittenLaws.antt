-- A record whose bytes go on: what stands before the words is written anew, and words are appended or taken back.
use Rattle.std.proofs.Common.{◌≡◌, ℕ, ◌+◌, ◌*◌, ◌≤◌, List, [], ◌∷◌, ◌++◌, Option, None, length, take, drop, refl, sym, ap, subst, ◌∙◌, arith, append_assoc}
use Rattle.std.specs.Prelude.{slice_set, slice_index_or}
use Rattle.std.specs.Int.{w16, w32, to_be_bytes}
use Rattle.std.proofs.lemmas.List.{take_at, drop_at, take-take, take-append-drop, take-append-le, drop-append-le, drop-drop, drop-take, set-append_right, length-append, length-drop, length-take, length-take-le}
use Rattle.board_core.specs.declared.moves.Move.{Move}
use Rattle.board_core.specs.declared.verdict.Verdict.{Verdict}
use Rattle.move_msg.specs.declared.record_bytes.Record.{Record}
use Rattle.move_msg.specs.Numbers.{most_moves}
use Rattle.move_msg.specs.Records.{SpellsMoves, WritesRecord, body_text, code_or_none, cut_back, gone_on, record_frame}
use Rattle.move_msg.proofs.WordsLaws.{words_length}

-- words of moves one after the other
spells_both : (a b : List ℕ) (ms ns : List Move) → SpellsMoves a ms → SpellsMoves b ns → SpellsMoves (a ++ b) (ms ++ ns)
spells_both a b [] ns p q = subst (λ (x : List ℕ). SpellsMoves (x ++ b) ns) (sym p) q
spells_both a b (m ∷ ms) ns p q =
    (p.0, p.1 ++ b, p.2, ap (λ (x : List ℕ). x ++ b) p.3 ∙ append_assoc (to_be_bytes w16 p.0) p.1 b, spells_both p.1 b ms ns p.4 q)

record IsSplit (t : List ℕ) (ms : List Move) : Type 0 where
  front : List ℕ
  back : List ℕ
  first : SpellsMoves front ms
  is : t ≡ front ++ back

split_words : (t : List ℕ) (ms ns : List Move) → SpellsMoves t (ms ++ ns) → IsSplit t ms
split_words t [] ns p = record { front = []; back = t; first = refl; is = refl }
split_words t (m ∷ ms) ns p =
    let s = split_words p.1 ms ns p.4 in
    record {
      front = to_be_bytes w16 p.0 ++ s.front;
      back = s.back;
      first = (p.0, s.front, p.2, refl, s.first);
      is = p.3 ∙ ap (λ (x : List ℕ). to_be_bytes w16 p.0 ++ x) s.is ∙ sym (append_assoc (to_be_bytes w16 p.0) s.front s.back);
    }

-- the first words are those of the first moves
words_cut : (t : List ℕ) (ms : List Move) (n : ℕ) → n ≤ length ms → SpellsMoves t ms → SpellsMoves (take (2 * n) t) (take n ms)
words_cut t ms n le p =
    let s = split_words t (take n ms) (drop n ms) (subst (SpellsMoves t) (sym (take-append-drop n ms)) p) in
    let size : length s.front ≡ 2 * n = words_length s.front (take n ms) s.first ∙ ap (λ (k : ℕ). 2 * k) (length-take-le n ms le) in
    subst (λ (x : List ℕ). SpellsMoves x (take n ms)) (sym (ap (take (2 * n)) s.is ∙ take_at s.front s.back (2 * n) size)) s.first

-- what stands before the verdict's code
front_is : (s b : List ℕ) (d : ℕ) → length s ≡ 16 → take 20 (record_frame s d b) ≡ 83 ∷ 82 ∷ 2 ∷ s ++ d ∷ []
unfolding record_frame
front_is s b d len =
    ap (λ (x : List ℕ). 83 ∷ 82 ∷ 2 ∷ x) (ap (take 17) (sym (append_assoc s (d ∷ []) b)) ∙ take_at (s ++ d ∷ []) b 17 (omega (arith, length-append s (d ∷ []))))

joined : (s b : List ℕ) (d : ℕ) → (83 ∷ 82 ∷ 2 ∷ s ++ d ∷ []) ++ b ≡ record_frame s d b
unfolding record_frame
joined s b d = ap (λ (x : List ℕ). 83 ∷ 82 ∷ 2 ∷ x) (append_assoc s (d ∷ []) b)

-- the words
record HasWords (t : List ℕ) (r : Record) : Type 0 where
  long : 25 ≤ length t
  front : take 20 t ≡ 83 ∷ 82 ∷ 2 ∷ r.stamp ++ r.delay ∷ []
  words : SpellsMoves (drop 25 t) r.moves

framed : (s b : List ℕ) (d : ℕ) → length s ≡ 16 → (length (record_frame s d b) ≡ 20 + length b) × (drop 20 (record_frame s d b) ≡ b)
unfolding record_frame
framed s b d len = (omega (arith, length-append s (d ∷ b)), sym (drop-drop 1 16 (s ++ d ∷ b)) ∙ ap (drop 1) (drop_at s (d ∷ b) 16 len))

after_count : (n words : List ℕ) (code : ℕ) → length n ≡ 4 → (length (code ∷ n ++ words) ≡ 5 + length words) × (drop 5 (code ∷ n ++ words) ≡ words)
after_count n words code four = (omega (arith, length-append n words), drop_at n words 4 four)

bodied : (words : List ℕ) (code count : ℕ) → (length (body_text code count words) ≡ 5 + length words) × (drop 5 (body_text code count words) ≡ words)
unfolding body_text
bodied words code count = after_count (to_be_bytes w32 count) words code refl

framed_words : (s words : List ℕ) (d code count : ℕ) → length s ≡ 16 → (25 ≤ length (record_frame s d (body_text code count words))) × (drop 25 (record_frame s d (body_text code count words)) ≡ words)
framed_words s words d code count len =
    let b = body_text code count words in
    let f = framed s b d len in
    let w = bodied words code count in
    let all = f.0 in
    let rest = w.0 in
    (omega arith, sym (drop-drop 5 20 (record_frame s d b)) ∙ ap (drop 5) f.1 ∙ w.1)

has_words : (t : List ℕ) (r : Record) → WritesRecord t r → HasWords t r
has_words t r h =
    let is : t ≡ record_frame r.stamp r.delay (body_text (code_or_none r.verdict) (length r.moves) h.rest.words) = h.text ∙ ap (record_frame r.stamp r.delay) h.rest.text in
    let all = framed_words r.stamp h.rest.words r.delay (code_or_none r.verdict) (length r.moves) h.in_range.2 in
    record {
      long = subst (λ (x : List ℕ). 25 ≤ length x) (sym is) all.0;
      front = ap (take 20) h.text ∙ front_is r.stamp h.body r.delay h.in_range.2;
      words = subst (λ (x : List ℕ). SpellsMoves x r.moves) (sym (ap (drop 25) is ∙ all.1)) h.rest.moves;
    }

-- with another code and another number before other words it is another record of the game
anew : (t front words : List ℕ) (r : Record) (v : Option Verdict) (ms : List Move) (n : ℕ) → WritesRecord t r → front ≡ take 20 t → length ms ≡ n → n ≤ most_moves → SpellsMoves words ms → WritesRecord (front ++ body_text (code_or_none v) n words) (record { stamp = r.stamp; delay = r.delay; verdict = v; moves = ms })
anew t front words r v ms n h is count few spelled =
    let body : List ℕ = body_text (code_or_none v) n words in
    record {
      in_range = (h.in_range.0, subst (λ (k : ℕ). k ≤ most_moves) (sym count) few, h.in_range.2);
      body = body;
      rest = record { words = words; moves = spelled; text = ap (λ (k : ℕ). body_text (code_or_none v) k words) (sym count) };
      text = ap (λ (x : List ℕ). x ++ body) (is ∙ (has_words t r h).front) ∙ joined r.stamp body r.delay;
    }

pub went_on : (t more : List ℕ) (r : Record) (ms : List Move) (v : Option Verdict) (n : ℕ) → WritesRecord t r → SpellsMoves more ms → length r.moves + length ms ≤ most_moves → n ≡ length (r.moves ++ ms) → WritesRecord (take 20 (t ++ more) ++ body_text (code_or_none v) n (drop 25 (t ++ more))) (gone_on r ms v)
went_on t more r ms v n h spelled few count =
    let w = has_words t r h in
    let long = w.long in
    anew t (take 20 (t ++ more)) (drop 25 (t ++ more)) r v (r.moves ++ ms) n h (take-append-le 20 t more (omega arith)) (sym count) (omega (arith, count, length-append r.moves ms))
    (subst (λ (x : List ℕ). SpellsMoves x (r.moves ++ ms)) (sym (drop-append-le 25 t more long)) (spells_both (drop 25 t) more r.moves ms w.words spelled))

pub went_back : (t : List ℕ) (r : Record) (n : ℕ) → WritesRecord t r → n ≤ length r.moves → WritesRecord (take 20 (take (25 + 2 * n) t) ++ body_text 0 n (drop 25 (take (25 + 2 * n) t))) (cut_back r n)
went_back t r n h le =
    let w = has_words t r h in
    let few = h.in_range.1 in
    anew t (take 20 (take (25 + 2 * n) t)) (drop 25 (take (25 + 2 * n) t)) r None (take n r.moves) n h (take-take 20 (25 + 2 * n) t (omega arith)) (length-take-le n r.moves le) (omega arith)
    (subst (λ (x : List ℕ). SpellsMoves x (take n r.moves)) (sym (drop-take 25 (2 * n) t)) (words_cut (drop 25 t) r.moves n le w.words))

pub long_enough : (t : List ℕ) (r : Record) → WritesRecord t r → 25 ≤ length t
long_enough t r h = (has_words t r h).long

pub cut_long : (t : List ℕ) (r : Record) (n : ℕ) → WritesRecord t r → 25 ≤ length (take (25 + 2 * n) t)
cut_long t r n h = let long = long_enough t r h in omega (arith, length-take (25 + 2 * n) t)

pub longer : (t more : List ℕ) (r : Record) → WritesRecord t r → 25 ≤ length (t ++ more)
longer t more r h = let long = long_enough t r h in omega (arith, length-append t more)

-- five bytes are written over those at the places 20 to 24
over_first : (q : List ℕ) (v w x y z : ℕ) → 5 ≤ length q → slice_set (slice_set (slice_set (slice_set (slice_set q 0 v) 1 w) 2 x) 3 y) 4 z ≡ v ∷ w ∷ x ∷ y ∷ z ∷ drop 5 q
over_first [] v w x y z long = absurd (omega arith)
over_first (a ∷ []) v w x y z long = absurd (omega arith)
over_first (a ∷ b ∷ []) v w x y z long = absurd (omega arith)
over_first (a ∷ b ∷ c ∷ []) v w x y z long = absurd (omega arith)
over_first (a ∷ b ∷ c ∷ d ∷ []) v w x y z long = absurd (omega arith)
over_first (a ∷ b ∷ c ∷ d ∷ e ∷ q) v w x y z long = refl

over_later : (p q : List ℕ) (v w x y z : ℕ) → length p ≡ 20 → slice_set (slice_set (slice_set (slice_set (slice_set (p ++ q) 20 v) 21 w) 22 x) 23 y) 24 z ≡ p ++ slice_set (slice_set (slice_set (slice_set (slice_set q 0 v) 1 w) 2 x) 3 y) 4 z
over_later p q v w x y z len =
    ap (λ (l : List ℕ). slice_set (slice_set (slice_set (slice_set l 21 w) 22 x) 23 y) 24 z) (set-append_right p q 20 20 v len (omega arith))
    ∙ ap (λ (l : List ℕ). slice_set (slice_set (slice_set l 22 x) 23 y) 24 z) (set-append_right p (slice_set q 0 v) 20 21 w len (omega arith))
    ∙ ap (λ (l : List ℕ). slice_set (slice_set l 23 y) 24 z) (set-append_right p (slice_set (slice_set q 0 v) 1 w) 20 22 x len (omega arith))
    ∙ ap (λ (l : List ℕ). slice_set l 24 z) (set-append_right p (slice_set (slice_set (slice_set q 0 v) 1 w) 2 x) 20 23 y len (omega arith))
    ∙ set-append_right p (slice_set (slice_set (slice_set (slice_set q 0 v) 1 w) 2 x) 3 y) 20 24 z len (omega arith)

over : (t : List ℕ) (v w x y z : ℕ) → 25 ≤ length t → slice_set (slice_set (slice_set (slice_set (slice_set t 20 v) 21 w) 22 x) 23 y) 24 z ≡ take 20 t ++ v ∷ w ∷ x ∷ y ∷ z ∷ drop 25 t
over t v w x y z long =
    ap (λ (l : List ℕ). slice_set (slice_set (slice_set (slice_set (slice_set l 20 v) 21 w) 22 x) 23 y) 24 z) (sym (take-append-drop 20 t))
    ∙ over_later (take 20 t) (drop 20 t) v w x y z (length-take-le 20 t (omega arith))
    ∙ ap (λ (l : List ℕ). take 20 t ++ l) (over_first (drop 20 t) v w x y z (omega (arith, length-drop 20 t)))
    ∙ ap (λ (l : List ℕ). take 20 t ++ v ∷ w ∷ x ∷ y ∷ z ∷ l) (drop-drop 5 20 t)

abbrev byte : List ℕ → ℕ → ℕ
byte bytes i = slice_index_or bytes i 0

pub rewritten : (t : List ℕ) (code n : ℕ) (bytes : List ℕ) → 25 ≤ length t → bytes ≡ to_be_bytes w32 n → slice_set (slice_set (slice_set (slice_set (slice_set t 20 code) 21 (byte bytes 0)) 22 (byte bytes 1)) 23 (byte bytes 2)) 24 (byte bytes 3) ≡ take 20 t ++ body_text code n (drop 25 t)
unfolding body_text
rewritten t code n bytes long is =
    subst (λ (b : List ℕ). slice_set (slice_set (slice_set (slice_set (slice_set t 20 code) 21 (byte b 0)) 22 (byte b 1)) 23 (byte b 2)) 24 (byte b 3) ≡ take 20 t ++ body_text code n (drop 25 t)) (sym is)
    (over t code (byte (to_be_bytes w32 n) 0) (byte (to_be_bytes w32 n) 1) (byte (to_be_bytes w32 n) 2) (byte (to_be_bytes w32 n) 3) long)
