-- What spells a record is laid out as one and read as it; bytes that are laid out and read so spell it.
use Rattle.std.proofs.Common.{◌≡◌, ℕ, zero, suc, cond, ◌+◌, ◌*◌, ◌<◌, ◌≤◌, List, ◌∷◌, ◌++◌, Option, Some, None, IfSome, length, take, drop, slice_index, refl, sym, ap, ap₂, subst, ◌∙◌, arith, inl, inr, ◌⊎◌, drop-cons}
use Rattle.std.specs.Prelude.{◌==◌}
use Rattle.std.specs.Int.{w32, to_be_bytes, from_be_bytes}
use Rattle.std.proofs.lemmas.List.{take_at, drop_at, take-append-drop, drop-drop, get_or-append_right, length-append, length-take, length-drop}
use Rattle.std.proofs.lemmas.Nat.{be_bytes_4, from_be_bytes-to_be_bytes_4}
use Rattle.board_core.specs.declared.moves.Move.{Move}
use Rattle.board_core.specs.declared.verdict.Verdict.{Verdict}
use Rattle.board_core.specs.Verdicts.{verdict_code}
use Rattle.move_msg.specs.declared.record_bytes.Record.{Record}
use Rattle.move_msg.specs.declared.record_bytes.RecordFault.{RecordFault}
use Rattle.move_msg.specs.declared.record_bytes.RecordFault.TheVariants.{BadLength, BadHead, BadField, OutOfMemory}
use Rattle.move_msg.specs.declared.record_bytes.Header.{Header}
use Rattle.move_msg.specs.Heard.{verdict_with}
use Rattle.move_msg.specs.Inside.Layouts.{header_at}
use Rattle.move_msg.specs.Numbers.{most_moves}
use Rattle.move_msg.specs.Records.{SpellsRecord, SpellsBody, SpellsMoves, WritesRecord, IsRecord, HasRecordFront, HasRecordHead, HasRecordLayout, IsFirstRecordFault, body_in, body_text, code_or_none, body_count, delay_in, old_frame, record_frame, body_verdict, words_at}
use Rattle.move_msg.proofs.MessageLaws.{IsBytes, IsBytes-drop, IsBytes-take, code_below, code_above}
use Rattle.move_msg.proofs.HeardLaws.{same_verdict}
use Rattle.move_msg.proofs.WordsLaws.{one_list, one_text, words_length}

cons_is : (x y : ℕ) (xs ys : List ℕ) → x ≡ y → xs ≡ ys → x ∷ xs ≡ y ∷ ys
cons_is x y xs ys e f = ap₂ (λ (a : ℕ) (rest : List ℕ). a ∷ rest) e f

-- codes of verdicts
codes_below : (v : Option Verdict) → code_or_none v ≤ 7
codes_below None = omega arith
codes_below (Some v) = code_below v

same_code : (v w : Option Verdict) → code_or_none v ≡ code_or_none w → v ≡ w
same_code None None e = refl
same_code None (Some w) e = absurd (omega (arith, code_above w))
same_code (Some v) None e = absurd (omega (arith, code_above v))
same_code (Some v) (Some w) e = ap (λ (x : Verdict). Some x) (same_verdict v w e)

-- delay and body by version
old_delay : (t : List ℕ) → slice_index t 2 ≡ 1 → delay_in t ≡ 0
old_delay t one = ap (λ (n : ℕ). cond (n == 1) 0 (slice_index t 19)) one

old_body : (t : List ℕ) → slice_index t 2 ≡ 1 → body_in t ≡ drop 19 t
old_body t one = ap (λ (n : ℕ). cond (n == 1) (drop 19 t) (drop 20 t)) one

new_delay : (t : List ℕ) → slice_index t 2 ≡ 2 → delay_in t ≡ slice_index t 19
new_delay t two = ap (λ (n : ℕ). cond (n == 1) 0 (slice_index t 19)) two

new_body : (t : List ℕ) → slice_index t 2 ≡ 2 → body_in t ≡ drop 20 t
new_body t two = ap (λ (n : ℕ). cond (n == 1) (drop 19 t) (drop 20 t)) two

-- what is read of the bytes is the record
pub record IsReadAs (t : List ℕ) (r : Record) : Type 0 where
  pub layout : HasRecordLayout t
  pub stamp : take 16 (drop 3 t) ≡ r.stamp
  pub delay : delay_in t ≡ r.delay
  pub verdict : body_verdict (body_in t) ≡ code_or_none r.verdict
  pub words : SpellsMoves (words_at (body_in t)) r.moves

pub count_read : (t : List ℕ) (ms : List Move) → HasRecordLayout t → SpellsMoves (words_at (body_in t)) ms → (body_count (body_in t) ≡ length ms) × (length ms ≤ most_moves)
count_read t ms l words =
    let two = words_length (words_at (body_in t)) ms words in
    let exact = l.exact in
    let few = l.counts.2 in
    let same : body_count (body_in t) ≡ length ms = omega (arith, length-drop 5 (body_in t)) in
    (same, omega arith)

-- a body by its parts
is_body : (b : List ℕ) → IsBytes b → 5 ≤ length b → b ≡ body_text (body_verdict b) (body_count b) (words_at b)
unfolding body_text
is_body b fits long =
    let count : to_be_bytes w32 (from_be_bytes w32 (take 4 (drop 1 b))) ≡ take 4 (drop 1 b) =
    be_bytes_4 (take 4 (drop 1 b)) _ (omega (arith, length-take 4 (drop 1 b), length-drop 1 b))
    (IsBytes-take 4 (drop 1 b) (IsBytes-drop 1 b fits)) refl in
    let after1 : drop 1 b ≡ to_be_bytes w32 (body_count b) ++ drop 5 b =
    sym (take-append-drop 4 (drop 1 b)) ∙ ap₂ (λ (x y : List ℕ). x ++ y) (sym count) (drop-drop 4 1 b) in
    drop-cons b 0 0 (omega arith) ∙ ap (λ (x : List ℕ). slice_index b 0 ∷ x) after1

record HasBody (b : List ℕ) (r : Record) : Type 0 where
  long : 5 ≤ length b
  verdict : body_verdict b ≡ code_or_none r.verdict
  count : body_count b ≡ length r.moves
  size : length b ≡ 5 + 2 * length r.moves
  words : SpellsMoves (words_at b) r.moves

body_parts : (code : ℕ) (n words : List ℕ) → length n ≡ 4 → (take 4 (drop 1 (code ∷ n ++ words)) ≡ n) × (drop 5 (code ∷ n ++ words) ≡ words)
body_parts code n words four = (take_at n words 4 four, drop_at n words 4 four)

body_back : (r : Record) (words : List ℕ) → length r.moves ≤ most_moves → SpellsMoves words r.moves → HasBody (body_text (code_or_none r.verdict) (length r.moves) words) r
unfolding body_text
body_back r words few moves =
    let n = to_be_bytes w32 (length r.moves) in
    let p = body_parts (code_or_none r.verdict) n words refl in
    let two = words_length words r.moves moves in
    let len : length (code_or_none r.verdict ∷ n ++ words) ≡ 5 + length words = omega (arith, length-append n words) in
    record {
      long = omega arith;
      verdict = refl;
      count = ap (from_be_bytes w32) p.0 ∙ from_be_bytes-to_be_bytes_4 (length r.moves) (omega arith);
      size = omega arith;
      words = subst (λ (x : List ℕ). SpellsMoves x r.moves) (sym p.1) moves;
    }

has_body : (b : List ℕ) (r : Record) → length r.moves ≤ most_moves → SpellsBody b r → HasBody b r
has_body b r few h = subst (λ (x : List ℕ). HasBody x r) (sym h.text) (body_back r h.words few h.moves)

-- what stands before a body
record IsFramed (t : List ℕ) (r : Record) (b : List ℕ) : Type 0 where
  head : HasRecordHead t
  long : 19 + length b ≤ length t
  stamp : take 16 (drop 3 t) ≡ r.stamp
  delay : delay_in t ≡ r.delay
  body : body_in t ≡ b

new_framed : (r : Record) (b : List ℕ) → length r.stamp ≡ 16 → IsFramed (record_frame r.stamp r.delay b) r b
unfolding record_frame
new_framed r b len =
    let s = r.stamp in
    let t : List ℕ = r.delay ∷ b in
    record {
      head = (refl, refl, inr refl);
      long = omega (arith, length-append s t);
      stamp = take_at s t 16 len;
      delay = get_or-append_right s t 16 16 0 len (omega arith);
      body = sym (drop-drop 1 16 (s ++ t)) ∙ ap (drop 1) (drop_at s t 16 len);
    }

old_framed : (r : Record) (b : List ℕ) → length r.stamp ≡ 16 → r.delay ≡ 0 → IsFramed (old_frame r.stamp b) r b
unfolding old_frame
old_framed r b len none =
    let s = r.stamp in
    record {
      head = (refl, refl, inl refl);
      long = omega (arith, length-append s b);
      stamp = take_at s b 16 len;
      delay = sym none;
      body = drop_at s b 16 len;
    }

framed : (t : List ℕ) (r : Record) (b : List ℕ) → length r.stamp ≡ 16 → (t ≡ record_frame r.stamp r.delay b) ⊎ ((r.delay ≡ 0) × (t ≡ old_frame r.stamp b)) → IsFramed t r b
framed t r b len (inl new) = subst (λ (x : List ℕ). IsFramed x r b) (sym new) (new_framed r b len)
framed t r b len (inr old) = subst (λ (x : List ℕ). IsFramed x r b) (sym old.1) (old_framed r b len old.0)

body_read : (t : List ℕ) (r : Record) (b : List ℕ) → IsRecord r → IsFramed t r b → HasBody b r → IsReadAs t r
body_read t r b range f h =
    let few = range.1 in
    let long = h.long in
    let outer = f.long in
    let whole : HasBody (body_in t) r = subst (λ (x : List ℕ). HasBody x r) (sym f.body) h in
    let count = whole.count in
    let size = whole.size in
    record {
      layout = record {
        front = record { long = omega arith; head = f.head; body = whole.long };
        counts = (
          subst (λ (x : ℕ). x ≤ 8) (sym f.delay) range.0,
          subst (λ (x : ℕ). x ≤ 7) (sym whole.verdict) (codes_below r.verdict),
          subst (λ (x : ℕ). x ≤ most_moves) (sym count) few,
        );
        exact = omega arith;
      };
      stamp = f.stamp;
      delay = f.delay;
      verdict = whole.verdict;
      words = whole.words;
    }

pub read_back : (t : List ℕ) (r : Record) → SpellsRecord t r → IsReadAs t r
read_back t r h =
    body_read t r h.body h.in_range (framed t r h.body h.in_range.2 h.text) (has_body h.body r h.in_range.1 h.rest)

-- bytes by their frame
is_old : (t : List ℕ) → HasRecordFront t → slice_index t 2 ≡ 1 → t ≡ old_frame (take 16 (drop 3 t)) (drop 19 t)
unfolding old_frame
is_old t f one =
    let long = f.long in
    let d : (i : ℕ) → i < 24 → drop i t ≡ slice_index t i ∷ drop (suc i) t = λ i lt. drop-cons t i 0 (omega arith) in
    let tail : drop 3 t ≡ take 16 (drop 3 t) ++ drop 19 t =
    sym (take-append-drop 16 (drop 3 t)) ∙ ap (λ (x : List ℕ). take 16 (drop 3 t) ++ x) (drop-drop 16 3 t) in
    d 0 (omega arith) ∙ cons_is _ _ _ _ f.head.0 (d 1 (omega arith)
    ∙ cons_is _ _ _ _ f.head.1 (d 2 (omega arith)
    ∙ cons_is _ _ _ _ one tail))

is_new : (t : List ℕ) → HasRecordFront t → slice_index t 2 ≡ 2 → t ≡ record_frame (take 16 (drop 3 t)) (slice_index t 19) (drop 20 t)
unfolding record_frame
is_new t f two =
    let long = f.long in
    let d : (i : ℕ) → i < 24 → drop i t ≡ slice_index t i ∷ drop (suc i) t = λ i lt. drop-cons t i 0 (omega arith) in
    let tail : drop 3 t ≡ take 16 (drop 3 t) ++ slice_index t 19 ∷ drop 20 t =
    sym (take-append-drop 16 (drop 3 t)) ∙ ap (λ (x : List ℕ). take 16 (drop 3 t) ++ x) (drop-drop 16 3 t ∙ d 19 (omega arith)) in
    d 0 (omega arith) ∙ cons_is _ _ _ _ f.head.0 (d 1 (omega arith)
    ∙ cons_is _ _ _ _ f.head.1 (d 2 (omega arith)
    ∙ cons_is _ _ _ _ two tail))

-- by version: the text, and that a body is of bytes
record IsCut (t : List ℕ) (r : Record) : Type 0 where
  text : (t ≡ record_frame r.stamp r.delay (body_in t)) ⊎ ((r.delay ≡ 0) × (t ≡ old_frame r.stamp (body_in t)))
  fits : IsBytes (body_in t)

cut_by : (t : List ℕ) (r : Record) → IsBytes t → HasRecordFront t → take 16 (drop 3 t) ≡ r.stamp → delay_in t ≡ r.delay → (slice_index t 2 ≡ 1) ⊎ (slice_index t 2 ≡ 2) → IsCut t r
cut_by t r fits f stamp delay (inl one) =
    record {
      text = inr (sym delay ∙ old_delay t one, is_old t f one ∙ ap₂ old_frame stamp (sym (old_body t one)));
      fits = subst IsBytes (sym (old_body t one)) (IsBytes-drop 19 t fits);
    }
cut_by t r fits f stamp delay (inr two) =
    let is : t ≡ record_frame r.stamp r.delay (body_in t) =
    is_new t f two
    ∙ ap₂ (λ (s : List ℕ) (n : ℕ). record_frame s n (drop 20 t)) stamp (sym (new_delay t two) ∙ delay)
    ∙ ap (record_frame r.stamp r.delay) (sym (new_body t two)) in
    record { text = inl is; fits = subst IsBytes (sym (new_body t two)) (IsBytes-drop 20 t fits) }

-- what is read as a record spells it
pub spelled_so : (t : List ℕ) (r : Record) → IsBytes t → IsReadAs t r → SpellsRecord t r
spelled_so t r fits p =
    let b = body_in t in
    let cut = cut_by t r fits p.layout.front p.stamp p.delay p.layout.front.head.2 in
    let count = count_read t r.moves p.layout p.words in
    let long = p.layout.front.long in
    let sixteen : length r.stamp ≡ 16 = sym (ap length p.stamp) ∙ omega (arith, length-take 16 (drop 3 t), length-drop 3 t) in
    record {
      in_range = (subst (λ (x : ℕ). x ≤ 8) p.delay p.layout.counts.0, count.1, sixteen);
      body = b;
      rest = record {
        words = words_at b;
        moves = p.words;
        text = is_body b cut.fits p.layout.front.body ∙ ap₂ (λ (c n : ℕ). body_text c n (words_at b)) p.verdict count.0;
      };
      text = cut.text;
    }

abbrev made : List ℕ → ℕ → Option Verdict → List Move → Record
made s d v ms = record { stamp = s; delay = d; verdict = v; moves = ms }

made_is : (s s' : List ℕ) (d d' : ℕ) (v v' : Option Verdict) (ms ms' : List Move) → s ≡ s' → d ≡ d' → v ≡ v' → ms ≡ ms' → made s d v ms ≡ made s' d' v' ms'
made_is s s' d d' v v' ms ms' es ed ev em = cc

-- bytes are read as one record
pub one_read : (t : List ℕ) (q r : Record) → IsReadAs t q → IsReadAs t r → q ≡ r
one_read t q r p u =
    made_is _ _ _ _ _ _ _ _ (sym p.stamp ∙ u.stamp) (sym p.delay ∙ u.delay) (same_code q.verdict r.verdict (sym p.verdict ∙ u.verdict)) (one_list (words_at (body_in t)) q.moves r.moves p.words u.words)

pub one_record : (t : List ℕ) (q r : Record) → SpellsRecord t q → SpellsRecord t r → q ≡ r
one_record t q r h l = one_read t q r (read_back t q h) (read_back t r l)

-- a record has one spelling a version
same_body : (a b : List ℕ) (r : Record) → SpellsBody a r → SpellsBody b r → a ≡ b
same_body a b r h l =
    h.text ∙ ap (body_text (code_or_none r.verdict) (length r.moves)) (one_text h.words l.words r.moves h.moves l.moves) ∙ sym l.text

new_version : (s : List ℕ) (d : ℕ) (b : List ℕ) → slice_index (record_frame s d b) 2 ≡ 2
unfolding record_frame
new_version s d b = refl

old_version : (s b : List ℕ) → slice_index (old_frame s b) 2 ≡ 1
unfolding old_frame
old_version s b = refl

abbrev version : List ℕ → ℕ
version t = slice_index t 2

same_text : (s t : List ℕ) (r : Record) (a b : List ℕ) → a ≡ b → version s ≡ version t → (s ≡ record_frame r.stamp r.delay a) ⊎ ((r.delay ≡ 0) × (s ≡ old_frame r.stamp a)) → (t ≡ record_frame r.stamp r.delay b) ⊎ ((r.delay ≡ 0) × (t ≡ old_frame r.stamp b)) → s ≡ t
same_text s t r a b body same (inl h) (inl l) = h ∙ ap (record_frame r.stamp r.delay) body ∙ sym l
same_text s t r a b body same (inl h) (inr l) = absurd (omega (arith, ap version h ∙ new_version r.stamp r.delay a, ap version l.1 ∙ old_version r.stamp b))
same_text s t r a b body same (inr h) (inl l) = absurd (omega (arith, ap version h.1 ∙ old_version r.stamp a, ap version l ∙ new_version r.stamp r.delay b))
same_text s t r a b body same (inr h) (inr l) = h.1 ∙ ap (old_frame r.stamp) body ∙ sym l.1

pub one_record_spelling : (s t : List ℕ) (r : Record) → SpellsRecord s r → SpellsRecord t r → slice_index s 2 ≡ slice_index t 2 → s ≡ t
one_record_spelling s t r h l same = same_text s t r h.body l.body (same_body h.body l.body r h.rest l.rest) same h.text l.text

-- what is written is read back, and isn't long
pub is_spelled : (t : List ℕ) (r : Record) → WritesRecord t r → SpellsRecord t r
is_spelled t r h = record { in_range = h.in_range; body = h.body; rest = h.rest; text = inl h.text }

length-record_frame : (s : List ℕ) (d : ℕ) (b : List ℕ) → length s ≡ 16 → length (record_frame s d b) ≡ 20 + length b
unfolding record_frame
length-record_frame s d b len = omega (arith, length-append s (d ∷ b))

pub written_length : (t : List ℕ) (r : Record) → WritesRecord t r → length t ≤ 8217
written_length t r h =
    let all = ap length h.text ∙ length-record_frame r.stamp r.delay h.body h.in_range.2 in
    let few = h.in_range.1 in
    let size = (has_body h.body r few h.rest).size in
    omega arith

-- bytes that spell a record have no fault
pub no_record_fault : (t : List ℕ) (r : Record) (fault : RecordFault) → SpellsRecord t r → IsFirstRecordFault t fault → ⊥
no_record_fault t r BadLength h (inl short) = let long = (read_back t r h).layout.front.long in absurd (omega arith)
no_record_fault t r BadLength h (inr (inl f)) = let body = (read_back t r h).layout.front.body in let short = f.2 in absurd (omega arith)
no_record_fault t r BadLength h (inr (inr f)) = f.2 (read_back t r h).layout.exact
no_record_fault t r BadHead h fault = fault.1 (read_back t r h).layout.front.head
no_record_fault t r BadField h (inl f) = f.1 (read_back t r h).layout.counts
no_record_fault t r BadField h (inr f) = f.1 r h
no_record_fault t r OutOfMemory h fault = fault

-- a record by its header, verdict and moves
abbrev pub read_as : Header → Option Verdict → List Move → Record
read_as h v ms = record { stamp = h.stamp; delay = h.delay; verdict = v; moves = ms }

pub front_read : (t : List ℕ) (h : Header) (v : Option Verdict) (words : List ℕ) (ms list : List Move) → HasRecordLayout t → h ≡ header_at t → words ≡ words_at (body_in t) → code_or_none v ≡ h.code → SpellsMoves words ms → list ≡ ms → IsReadAs t (read_as h v list)
unfolding header_at
front_read t h v words ms list layout is rest code moves same =
    record {
      layout = layout;
      stamp = sym (ap (λ (x : Header). x.stamp) is);
      delay = sym (ap (λ (x : Header). x.delay) is);
      verdict = sym (code ∙ ap (λ (x : Header). x.code) is);
      words = subst (λ (x : List Move). SpellsMoves (words_at (body_in t)) x) (sym same) (subst (λ (x : List ℕ). SpellsMoves x ms) rest moves);
    }

pub code_few : (t : List ℕ) (h : Header) → HasRecordLayout t → h ≡ header_at t → h.code ≤ 7
unfolding header_at
code_few t h layout is = subst (λ (x : ℕ). x ≤ 7) (sym (ap (λ (x : Header). x.code) is)) layout.counts.1

-- the words of a record that bytes spell
pub spelled_words : (t words : List ℕ) (r : Record) → words ≡ words_at (body_in t) → SpellsRecord t r → SpellsMoves words r.moves
spelled_words t words r is h = subst (λ (x : List ℕ). SpellsMoves x r.moves) (sym is) (read_back t r h).words

pub few_moves : (t words : List ℕ) (ms : List Move) → HasRecordLayout t → words ≡ words_at (body_in t) → SpellsMoves words ms → length ms ≤ most_moves
few_moves t words ms l is moves = (count_read t ms l (subst (λ (x : List ℕ). SpellsMoves x ms) is moves)).1

-- each code up to 7 is that of a verdict or of none
pub verdict_coded : (code : ℕ) → code ≤ 7 → (v : Option Verdict) × (code_or_none v ≡ code)
verdict_coded zero few = (None, refl)
verdict_coded (suc zero) few = (verdict_with 1, refl)
verdict_coded (suc (suc zero)) few = (verdict_with 2, refl)
verdict_coded (suc (suc (suc zero))) few = (verdict_with 3, refl)
verdict_coded (suc (suc (suc (suc zero)))) few = (verdict_with 4, refl)
verdict_coded (suc (suc (suc (suc (suc zero))))) few = (verdict_with 5, refl)
verdict_coded (suc (suc (suc (suc (suc (suc zero)))))) few = (verdict_with 6, refl)
verdict_coded (suc (suc (suc (suc (suc (suc (suc zero))))))) few = (verdict_with 7, refl)
verdict_coded (suc (suc (suc (suc (suc (suc (suc (suc n)))))))) few = absurd (omega arith)

none_kept : (code : ℕ) (v : Option Verdict) → code_or_none v ≡ code → ((w : Verdict) → code ≡ verdict_code w → ◌≡◌ {A = Option Verdict} None (Some w)) → ◌≡◌ {A = ℕ} 0 code
none_kept code None is only = is
none_kept code (Some v) is only = let none = only v (sym is) in absurd cc

-- what is found by a code has it
pub code_kept : (found : Option Verdict) (code : ℕ) → code ≤ 7 → IfSome found (λ v. code ≡ verdict_code v) → ((v : Verdict) → code ≡ verdict_code v → found ≡ Some v) → code_or_none found ≡ code
code_kept (Some v) code few some only = sym some
code_kept None code few some only = let v = verdict_coded code few in none_kept code v.0 v.1 only

-- count and code
pub summary_is : (t : List ℕ) (h : Header) (r : Record) → h ≡ header_at t → IsReadAs t r → (h.count ≡ length r.moves) × (h.code ≡ code_or_none r.verdict)
unfolding header_at
summary_is t h r is p =
    (ap (λ (x : Header). x.count) is ∙ (count_read t r.moves p.layout p.words).0, ap (λ (x : Header). x.code) is ∙ p.verdict)

-- words that stand for no moves are the last fault
pub bad_words : (t : List ℕ) (fault : RecordFault) → HasRecordLayout t → fault ≡ BadField → ((r : Record) → SpellsRecord t r → ⊥) → IsFirstRecordFault t fault
bad_words t fault l is none = subst (IsFirstRecordFault t) (sym is) (inr (l, none))
