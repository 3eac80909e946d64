-- The computed message is the one that the bytes spell, and the computed fault their first.
use Rattle.std.proofs.Common.{◌≡◌, ℕ, Bool, true, false, cond, ◌/◌, ◌%◌, ◌<◌, ◌≤◌, ◌^◌, List, [], ◌∷◌, Option, Some, None, Result, Ok, Err, length, take, drop, slice_index, refl, sym, ap, subst, ◌∙◌, arith, inl, inr, ◌⊎◌, nat_le}
use Rattle.std.specs.Prelude.{◌==◌, ◌&&◌, ◌||◌, option_map, option_and_then}
use Rattle.std.specs.Option.{ok_or}
use Rattle.std.specs.Int.{w32, from_be_bytes}
use Rattle.std.specs.Str.{bytes_eq}
use Rattle.std.proofs.lemmas.Slice.Eq.{bytes_eq-Decides}
use Rattle.std.proofs.lemmas.Bool.{eqb-true, leb-true, le-leb}
use Rattle.board_core.specs.declared.piece.Promotion.{Promotion}
use Rattle.board_core.specs.declared.piece.Promotion.TheVariants.{Queen, Rook, Bishop, Knight}
use Rattle.board_core.specs.declared.moves.Move.{Move as Moves}
use Rattle.board_core.specs.declared.verdict.Verdict.{Verdict as Verdicts}
use Rattle.board_core.specs.declared.verdict.Verdict.TheVariants as verdict
use Rattle.board_core.specs.Verdicts.{verdict_code}
use Rattle.move_msg.specs.declared.stamp.Stamp.{Stamp}
use Rattle.move_msg.specs.declared.arbiter_id.ArbiterId.{ArbiterId}
use Rattle.move_msg.specs.declared.arbiter_id.ArbiterId.TheVariants as who
use Rattle.move_msg.specs.declared.arbiter_id.Sender.TheVariants.{Source, Arbiter}
use Rattle.move_msg.specs.declared.message.Message.{Message}
use Rattle.move_msg.specs.declared.message.Message.TheVariants.{Move, Ack, Verdict, Fetch}
use Rattle.move_msg.specs.declared.message.MessageFault.{MessageFault}
use Rattle.move_msg.specs.declared.message.MessageFault.TheVariants.{NoTag, BadLength, BadHead, BadKind, BadField}
use Rattle.move_msg.specs.declared.coding.MessageKind.{MessageKind}
use Rattle.move_msg.specs.declared.coding.MessageKind.TheVariants as kind
use Rattle.move_msg.specs.declared.coding.Fields.{Fields}
use Rattle.move_msg.specs.Numbers.{most_moves, most_wanted}
use Rattle.move_msg.specs.Senders.{who_number, sender_number}
use Rattle.move_msg.specs.Words.{SpellsWord, promotion_number, word_of}
use Rattle.move_msg.specs.Messages.{no_tag, SpellsMessage, IsInRange, IsFirstMessageFault, HasHead, HasKind, version_of, message_kind, stamp_in, sender_of, message_number, word_in}
use Rattle.move_msg.specs.Inside.Layouts.{HasFields, fields_at, kind_number, version_number}
use Rattle.move_msg.specs.Heard.{arbiters, first_numbered, promotions, verdicts, who_with, verdict_with, promotion_with, move_with, found_where, move_heard, relayed_heard, ack_heard, verdict_heard, fetch_heard, reader_of, heard_by, heard_in, length_fault}
use Rattle.move_msg.proofs.MessageLaws.{IsBytes, IsBytes-drop, IsBytes-take, IsKind, laid_out, found, no_fault, one_fault, one_of_five}

-- what is found by a number has it
numbered_at : {A : Type 0} (number : A → ℕ) (x : A) (all : List A) (n : ℕ) (y : A) → ((first_numbered number all n ≡ Some y) → number y ≡ n) → (b : Bool) → (number x == n) ≡ b → cond b (Some x) (first_numbered number all n) ≡ Some y → number y ≡ n
numbered_at number x all n y rest true is e = let same : x ≡ y = cc in sym (ap number same) ∙ eqb-true _ _ is
numbered_at number x all n y rest false is e = rest e

found_has : {A : Type 0} (number : A → ℕ) (all : List A) (n : ℕ) (y : A) → first_numbered number all n ≡ Some y → number y ≡ n
found_has number [] n y e = absurd cc
found_has number (x ∷ all) n y e = numbered_at number x all n y (found_has number all n y) (number x == n) refl e

who_has : (n : ℕ) (a : ArbiterId) → who_with n ≡ Some a → who_number a ≡ n
who_has n a e = found_has who_number arbiters n a e

verdict_coded : (n : ℕ) (v : Verdicts) → verdict_with n ≡ Some v → verdict_code v ≡ n
verdict_coded n v e = found_has verdict_code verdicts n v e

promotion_has : (n : ℕ) (p : Option Promotion) → promotion_with n ≡ Some p → promotion_number p ≡ n
promotion_has n p e = found_has promotion_number promotions n p e

who_back : (a : ArbiterId) → who_with (who_number a) ≡ Some a
who_back who.A = refl
who_back who.B = refl

verdict_back : (v : Verdicts) → verdict_with (verdict_code v) ≡ Some v
verdict_back verdict.WhiteMates = refl
verdict_back verdict.BlackMates = refl
verdict_back verdict.Stalemate = refl
verdict_back verdict.TableDraw = refl
verdict_back verdict.TableWhite = refl
verdict_back verdict.TableBlack = refl
verdict_back verdict.Stopped = refl

promotion_back : (p : Option Promotion) → promotion_with (promotion_number p) ≡ Some p
promotion_back None = refl
promotion_back (Some Queen) = refl
promotion_back (Some Rook) = refl
promotion_back (Some Bishop) = refl
promotion_back (Some Knight) = refl

-- tests and what they let through
kept : {A : Type 0} (b : Bool) (o : Option A) (x : A) → found_where b o ≡ Some x → (b ≡ true) × (o ≡ Some x)
kept true o x e = (refl, e)
kept false o x e = absurd cc

let_through : {A : Type 0} (b : Bool) (o : Option A) (x : A) → b ≡ true → o ≡ Some x → found_where b o ≡ Some x
let_through b o x test is = ap (λ (t : Bool). found_where t o) test ∙ is

mapped : {A B : Type 0} (f : A → B) (o : Option A) (y : B) → option_map f o ≡ Some y → (x : A) × (o ≡ Some x) × (y ≡ f x)
mapped f None y e = absurd cc
mapped f (Some x) y e = (x, refl, cc)

chained : {A B : Type 0} (f : A → Option B) (o : Option A) (y : B) → option_and_then f o ≡ Some y → (x : A) × (o ≡ Some x) × (f x ≡ Some y)
chained f None y e = absurd cc
chained f (Some x) y e = (x, refl, e)

both : (a b : Bool) → (a && b) ≡ true → (a ≡ true) × (b ≡ true)
both true b e = (refl, e)
both false b e = absurd cc

and_true : (a b : Bool) → a ≡ true → b ≡ true → (a && b) ≡ true
and_true a b x y = ap (λ (t : Bool). t && b) x ∙ y

few : (a b : ℕ) → a ≤ b → nat_le a b ≡ true
few a b le = le-leb a b le

at_most : (a b : ℕ) → nat_le a b ≡ true → a ≤ b
at_most a b e = leb-true a b e

-- words and moves
word_back : (m : Moves) → m.from < 64 → m.to < 64 → move_with (word_of m) ≡ Some m
unfolding move_with
word_back m f t =
    let p = promotion_number m.promotion in
    let from_is : word_of m % 64 ≡ m.from = omega arith in
    let to_is : word_of m / 64 % 64 ≡ m.to = omega arith in
    let number_is : word_of m / 4096 ≡ p = omega arith in
    let promotion_is : promotion_with (word_of m / 4096) ≡ Some m.promotion = ap promotion_with number_is ∙ promotion_back m.promotion in
    rw (promotion_is, from_is, to_is) refl

word_has : (word : ℕ) (m : Moves) → move_with word ≡ Some m → SpellsWord word m
unfolding move_with
word_has word m e =
    let found = mapped (λ p. record { from = word % 64; to = word / 64 % 64; promotion = p }) (promotion_with (word / 4096)) m e in
    let number : promotion_number found.0 ≡ word / 4096 = promotion_has (word / 4096) found.0 found.1 in
    subst (SpellsWord word) (sym found.2) (record { from_board = omega arith; to_board = omega arith; value = omega arith })

abbrev made : Stamp → ℕ → ℕ → ℕ → Fields
made stamp sender number word = record { stamp = stamp; sender = sender; number = number; word = word }

its_word : (word : ℕ) (m : Moves) → SpellsWord word m → SpellsWord (word_of m) m
its_word word m h = subst (λ (w : ℕ). SpellsWord w m) h.value h

-- what is heard has the fields
move_has : (s : Stamp) (a n w : ℕ) (m : Message) → n < 2 ^ 32 → move_heard s a n w ≡ Some m → HasFields kind.Move (made s a n w) m
move_has s a n w m small e =
    let p = kept (a == 0) (option_map (Move s Source n) (move_with w)) m e in
    let q = mapped (Move s Source n) (move_with w) m p.1 in
    let word = word_has w q.0 q.1 in
    subst (HasFields kind.Move (made s a n w)) (sym q.2)
    (record { in_range = (small, its_word w q.0 word); version = refl; kind = refl; stamp = refl; sender = sym (eqb-true a 0 p.0); number = refl; word = sym word.value })

relayed_has : (s : Stamp) (a n w : ℕ) (m : Message) → n < 2 ^ 32 → relayed_heard s a n w ≡ Some m → HasFields kind.Relayed (made s a n w) m
relayed_has s a n w m small e =
    let p = chained (λ who. option_map (Move s (Arbiter who) n) (move_with w)) (who_with a) m e in
    let q = mapped (Move s (Arbiter p.0) n) (move_with w) m p.2 in
    let word = word_has w q.0 q.1 in
    subst (HasFields kind.Relayed (made s a n w)) (sym q.2)
    (record { in_range = (small, its_word w q.0 word); version = refl; kind = refl; stamp = refl; sender = who_has a p.0 p.1; number = refl; word = sym word.value })

ack_has : (s : Stamp) (a n w : ℕ) (m : Message) → ack_heard s a n w ≡ Some m → HasFields kind.Ack (made s a n w) m
ack_has s a n w m e =
    let p = kept (nat_le n most_moves && w == 0) (option_map (λ who. Ack s who n) (who_with a)) m e in
    let tests = both (nat_le n most_moves) (w == 0) p.0 in
    let q = mapped (λ who. Ack s who n) (who_with a) m p.1 in
    subst (HasFields kind.Ack (made s a n w)) (sym q.2)
    (record { in_range = at_most n most_moves tests.0; version = refl; kind = refl; stamp = refl; sender = who_has a q.0 q.1; number = refl; word = sym (eqb-true w 0 tests.1) })

verdict_has : (s : Stamp) (a n w : ℕ) (m : Message) → verdict_heard s a n w ≡ Some m → HasFields kind.Verdict (made s a n w) m
verdict_has s a n w m e =
    let p = kept (nat_le n most_moves) (option_and_then (λ who. option_map (Verdict s who n) (verdict_with w)) (who_with a)) m e in
    let q = chained (λ who. option_map (Verdict s who n) (verdict_with w)) (who_with a) m p.1 in
    let v = mapped (Verdict s q.0 n) (verdict_with w) m q.2 in
    subst (HasFields kind.Verdict (made s a n w)) (sym v.2)
    (record { in_range = at_most n most_moves p.0; version = refl; kind = refl; stamp = refl; sender = who_has a q.0 q.1; number = refl; word = verdict_coded w v.0 v.1 })

fetch_has : (s : Stamp) (a n w : ℕ) (m : Message) → fetch_heard s a n w ≡ Some m → HasFields kind.Fetch (made s a n w) m
fetch_has s a n w m e =
    let p = kept (nat_le n most_moves && (nat_le 1 w && nat_le w most_wanted)) (option_map (λ who. Fetch s who n w) (who_with a)) m e in
    let tests = both (nat_le n most_moves) (nat_le 1 w && nat_le w most_wanted) p.0 in
    let wanted = both (nat_le 1 w) (nat_le w most_wanted) tests.1 in
    let q = mapped (λ who. Fetch s who n w) (who_with a) m p.1 in
    subst (HasFields kind.Fetch (made s a n w)) (sym q.2)
    (record { in_range = (at_most n most_moves tests.0, at_most 1 w wanted.0, at_most w most_wanted wanted.1); version = refl; kind = refl; stamp = refl; sender = who_has a q.0 q.1; number = refl; word = refl })

-- a message is heard where its fields stand
heard_back : (m : Message) → IsInRange m → heard_by (reader_of (version_of m) (message_kind m)) (stamp_in m) (sender_number (sender_of m)) (message_number m) (word_in m) ≡ Ok m
unfolding reader_of
heard_back (Move s Source n m) h = ap (λ (o : Option Moves). ok_or (option_map (Move s Source n) o) BadField) (word_back m h.1.from_board h.1.to_board)
heard_back (Move s (Arbiter a) n m) h =
    ap (λ (o : Option ArbiterId). ok_or (option_and_then (λ who. option_map (Move s (Arbiter who) n) (move_with (word_of m))) o) BadField) (who_back a)
    ∙ ap (λ (o : Option Moves). ok_or (option_map (Move s (Arbiter a) n) o) BadField) (word_back m h.1.from_board h.1.to_board)
heard_back (Ack s a n) h =
    ap (λ (o : Option Message). ok_or o BadField) (let_through _ _ _ (and_true _ _ (few n most_moves h) refl) (ap (option_map (λ who. Ack s who n)) (who_back a)))
heard_back (Verdict s a n v) h =
    ap (λ (o : Option Message). ok_or o BadField) (let_through _ _ _ (few n most_moves h)
    (ap (option_and_then (λ who. option_map (Verdict s who n) (verdict_with (verdict_code v)))) (who_back a) ∙ ap (option_map (Verdict s a n)) (verdict_back v)))
heard_back (Fetch s a n w) h =
    ap (λ (o : Option Message). ok_or o BadField)
    (let_through _ _ _ (and_true _ _ (few n most_moves h.0) (and_true _ _ (few 1 w h.1) (few w most_wanted h.2))) (ap (option_map (λ who. Fetch s who n w)) (who_back a)))

-- the whole, by its parts
abbrev head_test : ℕ → ℕ → ℕ → Bool
head_test x y v = x == 83 && (y == 65 && (v == 1 || v == 2))

abbrev whole : MessageFault → ℕ → ℕ → ℕ → ℕ → ℕ → Fields → Result Message MessageFault
whole e len x y v k f = cond (len == 27) (cond (head_test x y v) (heard_by (reader_of v k) f.stamp f.sender f.number f.word) (Err BadHead)) (Err e)

is_whole : (t : List ℕ) → heard_in t ≡ whole (length_fault t) (length t) (slice_index t 0) (slice_index t 1) (slice_index t 2) (slice_index t 3) (fields_at t)
unfolding heard_in fields_at
is_whole t = refl

whole_is : (e : MessageFault) (l l' x x' y y' v v' k k' : ℕ) (f f' : Fields) → l ≡ l' → x ≡ x' → y ≡ y' → v ≡ v' → k ≡ k' → f ≡ f' → whole e l x y v k f ≡ whole e l' x' y' v' k' f'
whole_is e l l' x x' y y' v v' k k' f f' el ex ey ev ek ef = λ i. whole e (el i) (ex i) (ey i) (ev i) (ek i) (ef i)

known : (v : ℕ) → (v ≡ 1) ⊎ (v ≡ 2) → head_test 83 65 v ≡ true
known v (inl one) = ap (head_test 83 65) one
known v (inr two) = ap (head_test 83 65) two

has_head : (x y v : ℕ) → (x ≡ 83) × (y ≡ 65) × ((v ≡ 1) ⊎ (v ≡ 2)) → head_test x y v ≡ true
has_head x y v h = ap (λ (n : ℕ). head_test n y v) h.0 ∙ ap (λ (n : ℕ). head_test 83 n v) h.1 ∙ known v h.2

pub heard : (t : List ℕ) (m : Message) → SpellsMessage t m → heard_in t ≡ Ok m
heard t m h =
    let p = laid_out t m h in
    let f = made (stamp_in m) (sender_number (sender_of m)) (message_number m) (word_in m) in
    let v = version_of m in
    let known_version : (v ≡ 1) ⊎ (v ≡ 2) = subst (λ (x : ℕ). (x ≡ 1) ⊎ (x ≡ 2)) p.version p.head.2 in
    is_whole t
    ∙ whole_is (length_fault t) _ 27 _ 83 _ 65 _ v _ (message_kind m) _ f p.len p.head.0 p.head.1 p.version p.kind p.fields
    ∙ ap (λ (b : Bool). cond b (heard_by (reader_of v (message_kind m)) f.stamp f.sender f.number f.word) (Err BadHead)) (known v known_version)
    ∙ heard_back m h.in_range

pub one_heard : (t : List ℕ) (m n : Message) → SpellsMessage t m → SpellsMessage t n → m ≡ n
one_heard t m n h l = let a = heard t m h in let b = heard t n l in cc

pub one_message : (t : List ℕ) (m n : Message) → SpellsMessage t m → SpellsMessage t n → m ≡ n
one_message = one_heard

pub same_verdict : (v w : Verdicts) → verdict_code v ≡ verdict_code w → v ≡ w
same_verdict v w e = let all : ◌≡◌ {A = Option Verdicts} (Some v) (Some w) = sym (verdict_back v) ∙ ap verdict_with e ∙ verdict_back w in cc

-- a version and a kind that are read, or are none
differ : (k n : ℕ) → (n == n) ≡ true → (k == n) ≡ false → k ≡ n → ⊥
differ k n same e is = let x : (k == n) ≡ (n == n) = ap (λ (y : ℕ). y == n) is in absurd cc

abbrev KindFound : ℕ → ℕ → Type 0
KindFound v k = ((reader_of v k ≡ None) × (IsKind v k → ⊥)) ⊎ ((kd : MessageKind) × (v ≡ version_number kd) × (k ≡ kind_number kd))

no_old : (k : ℕ) → (k ≡ 1 → ⊥) → (k ≡ 2 → ⊥) → (k ≡ 3 → ⊥) → IsKind 1 k → ⊥
no_old k a b c (inl h) = let low = h.1 in let high = h.2 in absurd (omega arith)
no_old k a b c (inr h) = let two : ◌≡◌ {A = ℕ} 1 2 = h.0 in absurd (omega arith)

no_new : (k : ℕ) → (k ≡ 1 → ⊥) → (k ≡ 4 → ⊥) → IsKind 2 k → ⊥
no_new k a b (inl h) = let one : ◌≡◌ {A = ℕ} 2 1 = h.0 in absurd (omega arith)
no_new k a b (inr h) = elim h.1 [ inl one ↦ a one | inr four ↦ b four ]

old_kinds : (k : ℕ) (a b c : Bool) → (k == 1) ≡ a → (k == 2) ≡ b → (k == 3) ≡ c → KindFound 1 k
unfolding reader_of
old_kinds k true b c ea eb ec = inr (kind.Move, refl, eqb-true k 1 ea)
old_kinds k false true c ea eb ec = inr (kind.Ack, refl, eqb-true k 2 eb)
old_kinds k false false true ea eb ec = inr (kind.Verdict, refl, eqb-true k 3 ec)
old_kinds k false false false ea eb ec = inl (rw (ea, eb, ec) refl, no_old k (differ k 1 refl ea) (differ k 2 refl eb) (differ k 3 refl ec))

new_kinds : (k : ℕ) (a b : Bool) → (k == 1) ≡ a → (k == 4) ≡ b → KindFound 2 k
unfolding reader_of
new_kinds k true b ea eb = inr (kind.Relayed, refl, eqb-true k 1 ea)
new_kinds k false true ea eb = inr (kind.Fetch, refl, eqb-true k 4 eb)
new_kinds k false false ea eb = inl (rw (ea, eb) refl, no_new k (differ k 1 refl ea) (differ k 4 refl eb))

kinds : (v k : ℕ) → (v ≡ 1) ⊎ (v ≡ 2) → KindFound v k
kinds v k (inl one) = subst (λ (x : ℕ). KindFound x k) (sym one) (old_kinds k (k == 1) (k == 2) (k == 3) refl refl refl)
kinds v k (inr two) = subst (λ (x : ℕ). KindFound x k) (sym two) (new_kinds k (k == 1) (k == 4) refl refl)

good : (o : Option Message) (m : Message) → ok_or o BadField ≡ Ok m → o ≡ Some m
good None m e = absurd cc
good (Some x) m e = cc

has_of : (kd : MessageKind) (s : Stamp) (a n w : ℕ) (m : Message) → n < 2 ^ 32 → heard_by (reader_of (version_number kd) (kind_number kd)) s a n w ≡ Ok m → HasFields kd (made s a n w) m
unfolding reader_of
has_of kind.Move s a n w m small e = move_has s a n w m small (good _ m e)
has_of kind.Ack s a n w m small e = ack_has s a n w m (good _ m e)
has_of kind.Verdict s a n w m small e = verdict_has s a n w m (good _ m e)
has_of kind.Relayed s a n w m small e = relayed_has s a n w m small (good _ m e)
has_of kind.Fetch s a n w m small e = fetch_has s a n w m (good _ m e)

below_word : (b : List ℕ) → IsBytes b → from_be_bytes w32 b < 2 ^ 32
below_word b fits = let a = fits 0 in let c = fits 1 in let d = fits 2 in let e = fits 3 in omega arith

small_number : (t : List ℕ) → IsBytes t → (fields_at t).number < 2 ^ 32
unfolding fields_at
small_number t fits = below_word (take 4 (drop 21 t)) (IsBytes-take 4 (drop 21 t) (IsBytes-drop 21 t fits))

-- the answer to bytes with a head
abbrev by_kind : ℕ → ℕ → Fields → Result Message MessageFault
by_kind v k f = heard_by (reader_of v k) f.stamp f.sender f.number f.word

record IsRight (t : List ℕ) (r : Result Message MessageFault) : Type 0 where
  good : (m : Message) → r ≡ Ok m → SpellsMessage t m
  bad : (fault : MessageFault) → r ≡ Err fault → ((m : Message) → SpellsMessage t m → ⊥) → IsFirstMessageFault t fault

only_fault : (a b : MessageFault) → ◌≡◌ {A = Result Message MessageFault} (Err a) (Err b) → a ≡ b
only_fault a b e = cc

one_error : (o : Option Message) (fault : MessageFault) → ok_or o BadField ≡ Err fault → BadField ≡ fault
one_error None fault e = only_fault _ _ e
one_error (Some m) fault e = absurd cc

field_error : (kd : MessageKind) (f : Fields) (fault : MessageFault) → by_kind (version_number kd) (kind_number kd) f ≡ Err fault → BadField ≡ fault
unfolding reader_of
field_error kind.Move f fault e = one_error _ fault e
field_error kind.Ack f fault e = one_error _ fault e
field_error kind.Verdict f fault e = one_error _ fault e
field_error kind.Relayed f fault e = one_error _ fault e
field_error kind.Fetch f fault e = one_error _ fault e

right_kind : (t : List ℕ) → IsBytes t → length t ≡ 27 → HasHead t → KindFound (slice_index t 2) (slice_index t 3) → IsRight t (by_kind (slice_index t 2) (slice_index t 3) (fields_at t))
right_kind t fits len head (inl none) =
    let f = fields_at t in
    let is : by_kind (slice_index t 2) (slice_index t 3) f ≡ Err BadKind = ap (λ o. heard_by o f.stamp f.sender f.number f.word) none.0 in
    subst (IsRight t) (sym is)
    (record { good = λ m e. absurd cc; bad = λ fault e _. subst (IsFirstMessageFault t) (only_fault _ _ e) (len, head, none.1) })
right_kind t fits len head (inr h) =
    let f = fields_at t in
    let is : by_kind (slice_index t 2) (slice_index t 3) f ≡ by_kind (version_number h.0) (kind_number h.0) f = λ i. by_kind (h.1 i) (h.2 i) f in
    let has : HasKind t = one_of_five t h.0 h.1 h.2 in
    subst (IsRight t) (sym is)
    (record {
      good = λ m e. found t h.0 m fits len head h.1 h.2 (has_of h.0 f.stamp f.sender f.number f.word m (small_number t fits) e);
      bad = λ fault e none. subst (IsFirstMessageFault t) (field_error h.0 f fault e) (len, head, has, none);
    })

either : (a b : Bool) → (a || b) ≡ true → (a ≡ true) ⊎ (b ≡ true)
either true b e = inl refl
either false b e = inr e

head_has : (x y v : ℕ) → head_test x y v ≡ true → (x ≡ 83) × (y ≡ 65) × ((v ≡ 1) ⊎ (v ≡ 2))
head_has x y v e =
    let p = both _ _ e in
    let q = both _ _ p.1 in
    (eqb-true x 83 p.0, eqb-true y 65 q.0, elim (either _ _ q.1) [ inl one ↦ inl (eqb-true v 1 one) | inr two ↦ inr (eqb-true v 2 two) ])

right_head : (t : List ℕ) → IsBytes t → length t ≡ 27 → (b : Bool) → head_test (slice_index t 0) (slice_index t 1) (slice_index t 2) ≡ b → IsRight t (cond b (by_kind (slice_index t 2) (slice_index t 3) (fields_at t)) (Err BadHead))
right_head t fits len true e = let head = head_has _ _ _ e in right_kind t fits len head (kinds _ _ head.2)
right_head t fits len false e =
    record {
      good = λ m e. absurd cc;
      bad = λ fault is _. subst (IsFirstMessageFault t) (only_fault _ _ is)
          (len, λ head. let yes : head_test (slice_index t 0) (slice_index t 1) (slice_index t 2) ≡ true = has_head _ _ _ head in absurd cc);
    }

-- bytes that are not 27 are those that stand for a missing tag, or have the wrong length
fault_of_length : (t : List ℕ) → (length t ≡ 27 → ⊥) → IsFirstMessageFault t (length_fault t)
fault_of_length t other = by_test (bytes_eq t no_tag) refl
  where
    by_test : (b : Bool) → bytes_eq t no_tag ≡ b → IsFirstMessageFault t (cond b NoTag BadLength)
    by_test true e = (bytes_eq-Decides t no_tag).0 e
    by_test false e = (λ is. let yes : bytes_eq t no_tag ≡ true = (bytes_eq-Decides t no_tag).1 is in absurd cc, other)

right_length : (t : List ℕ) → IsBytes t → (b : Bool) → (length t == 27) ≡ b → IsRight t (cond b (cond (head_test (slice_index t 0) (slice_index t 1) (slice_index t 2)) (by_kind (slice_index t 2) (slice_index t 3) (fields_at t)) (Err BadHead)) (Err (length_fault t)))
right_length t fits true e = right_head t fits (eqb-true _ 27 e) (head_test (slice_index t 0) (slice_index t 1) (slice_index t 2)) refl
right_length t fits false e =
    record { good = λ m e. absurd cc; bad = λ fault is _. subst (IsFirstMessageFault t) (only_fault _ _ is) (fault_of_length t (differ (length t) 27 refl e)) }

right : (t : List ℕ) → IsBytes t → IsRight t (heard_in t)
right t fits = subst (IsRight t) (sym (is_whole t)) (right_length t fits (length t == 27) refl)

told : (t : List ℕ) (r : Result Message MessageFault) (fault : MessageFault) → r ≡ heard_in t → IsRight t r → IsFirstMessageFault t fault → r ≡ Err fault
told t (Ok m) fault is h first = absurd (no_fault t m fault (h.good m refl) first)
told t (Err f) fault is h first =
    ap (λ (x : MessageFault). Err x) (one_fault t f fault (h.bad f refl (λ m spelled. let e = is ∙ heard t m spelled in absurd cc)) first)

-- the computed fault
pub heard_fault : (t : List ℕ) (fault : MessageFault) → IsBytes t → IsFirstMessageFault t fault → heard_in t ≡ Err fault
heard_fault t fault fits first = told t (heard_in t) fault refl (right t fits) first
