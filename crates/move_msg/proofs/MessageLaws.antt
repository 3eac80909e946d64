-- Bytes that are laid out as a message are the frame of their fields, and a frame has the fields that it frames.
use Rattle.std.proofs.Common.{◌≡◌, ℕ, suc, ◌+◌, ◌<◌, ◌≤◌, ◌^◌, List, ◌∷◌, ◌++◌, length, get_or, take, drop, slice_index, refl, sym, ap, ap₂, subst, ◌∙◌, arith, inl, inr, ◌⊎◌, drop-cons}
use Rattle.std.specs.Int.{w16, w32, to_be_bytes, from_be_bytes}
use Rattle.std.proofs.lemmas.Bool.{cases_lt}
use Rattle.std.proofs.lemmas.List.{take_at, drop_at, take-append-drop, drop-drop, get_or-append_right, length-append, length-take, length-drop, get_or-drop, get_or-take, get_or_past}
use Rattle.std.proofs.lemmas.Nat.{be_bytes_2, be_bytes_4, from_be_bytes-to_be_bytes_2, from_be_bytes-to_be_bytes_4}
use Rattle.move_msg.specs.declared.stamp.Stamp.{Stamp}
use Rattle.board_core.specs.declared.verdict.Verdict.{Verdict as Verdicts}
use Rattle.board_core.specs.declared.verdict.Verdict.TheVariants as verdict
use Rattle.move_msg.specs.declared.arbiter_id.ArbiterId.{ArbiterId}
use Rattle.move_msg.specs.declared.arbiter_id.Sender.{Sender}
use Rattle.move_msg.specs.declared.arbiter_id.Sender.TheVariants.{Source, Arbiter}
use Rattle.move_msg.specs.declared.message.Message.{Message}
use Rattle.move_msg.specs.declared.message.Message.TheVariants.{Move, Ack, Verdict, Fetch}
use Rattle.move_msg.specs.declared.message.MessageFault.{MessageFault}
use Rattle.move_msg.specs.declared.message.MessageFault.TheVariants.{NoTag, BadLength, BadHead, BadKind, BadField}
use Rattle.move_msg.specs.declared.coding.MessageKind.{MessageKind}
use Rattle.move_msg.specs.declared.coding.MessageKind.TheVariants as kind
use Rattle.move_msg.specs.declared.coding.Fields.{Fields}
use Rattle.move_msg.specs.Senders.{who_number, sender_number}
use Rattle.board_core.specs.Verdicts.{verdict_code}
use Rattle.move_msg.specs.Messages.{no_tag, SpellsMessage, IsInRange, IsFirstMessageFault, HasHead, HasKind, frame, version_by, version_of, message_kind, stamp_in, sender_of, message_number, word_in}
use Rattle.move_msg.specs.Inside.Layouts.{HasFields, fields_at, kind_number, version_number}
use Rattle.board_core.specs.declared.moves.Move.{Move as Moves}
use Rattle.move_msg.specs.Numbers.{most_moves, most_wanted}
use Rattle.move_msg.specs.Words.{SpellsWord}
use Rattle.move_msg.proofs.WordLaws.{word_below}

abbrev pub IsBytes : List ℕ → Type 0
IsBytes bytes = (i : ℕ) → get_or bytes i 0 < 256

pub IsBytes-drop : (n : ℕ) (bytes : List ℕ) → IsBytes bytes → IsBytes (drop n bytes)
IsBytes-drop n bytes h i = rw get_or-drop (h (n + i))

pub IsBytes-take : (n : ℕ) (bytes : List ℕ) → IsBytes bytes → IsBytes (take n bytes)
IsBytes-take n bytes h i =
    elim (cases_lt i n) [
      | inl lt ↦ rw (get_or-take n bytes i 0 lt) (h i)
      | inr le ↦ rw (get_or_past (take n bytes) i 0 (omega (arith, length-take n bytes))) (omega arith)
    ]

cons_is : (x y : ℕ) (xs ys : List ℕ) → x ≡ y → xs ≡ ys → x ∷ xs ≡ y ∷ ys
cons_is x y xs ys e f = ap₂ (λ (a : ℕ) (rest : List ℕ). a ∷ rest) e f

abbrev frame_at : List ℕ → List ℕ
frame_at t = frame (slice_index t 2) (slice_index t 3) (fields_at t).stamp (fields_at t).sender (fields_at t).number (fields_at t).word

is_frame : (t : List ℕ) → IsBytes t → length t ≡ 27 → HasHead t → t ≡ frame_at t
unfolding frame fields_at
is_frame t fits len head =
    let d : (i : ℕ) → i < 27 → drop i t ≡ slice_index t i ∷ drop (suc i) t = λ i lt. drop-cons t i 0 (omega (arith, len)) in
    let number : to_be_bytes w32 (from_be_bytes w32 (take 4 (drop 21 t))) ≡ take 4 (drop 21 t) =
    be_bytes_4 (take 4 (drop 21 t)) _ (omega (arith, length-take 4 (drop 21 t), length-drop 21 t, len))
    (IsBytes-take 4 (drop 21 t) (IsBytes-drop 21 t fits)) refl in
    let word : to_be_bytes w16 (from_be_bytes w16 (drop 25 t)) ≡ drop 25 t =
    be_bytes_2 (drop 25 t) _ (omega (arith, length-drop 25 t, len)) (IsBytes-drop 25 t fits) refl in
    let after21 : drop 21 t ≡ to_be_bytes w32 (from_be_bytes w32 (take 4 (drop 21 t))) ++ to_be_bytes w16 (from_be_bytes w16 (drop 25 t)) =
    sym (take-append-drop 4 (drop 21 t)) ∙ ap₂ (λ (x y : List ℕ). x ++ y) (sym number) (drop-drop 4 21 t ∙ sym word) in
    let after4 : drop 4 t ≡ take 16 (drop 4 t) ++ (slice_index t 20 ∷ drop 21 t) =
    sym (take-append-drop 16 (drop 4 t)) ∙ ap (λ (x : List ℕ). take 16 (drop 4 t) ++ x) (drop-drop 16 4 t ∙ d 20 (omega arith)) in
    let tail : drop 4 t ≡ take 16 (drop 4 t) ++ (slice_index t 20 ∷ (to_be_bytes w32 (from_be_bytes w32 (take 4 (drop 21 t))) ++ to_be_bytes w16 (from_be_bytes w16 (drop 25 t)))) =
    after4 ∙ ap (λ (x : List ℕ). take 16 (drop 4 t) ++ (slice_index t 20 ∷ x)) after21 in
    d 0 (omega arith) ∙ cons_is _ _ _ _ head.0 (d 1 (omega arith)
    ∙ cons_is _ _ _ _ head.1 (d 2 (omega arith)
    ∙ cons_is _ _ _ _ refl (d 3 (omega arith)
    ∙ ap (λ (x : List ℕ). slice_index t 3 ∷ x) tail)))

abbrev whole : ℕ → ℕ → List ℕ → ℕ → List ℕ → List ℕ → List ℕ
whole version kind stamp sender number word = 83 ∷ 65 ∷ version ∷ kind ∷ stamp ++ (sender ∷ number ++ word)

record HasParts (bytes stamp : List ℕ) (sender : ℕ) (number word : List ℕ) : Type 0 where
  stamp_is : take 16 (drop 4 bytes) ≡ stamp
  sender_is : slice_index bytes 20 ≡ sender
  number_is : take 4 (drop 21 bytes) ≡ number
  word_is : drop 25 bytes ≡ word

parts_back : (version kind : ℕ) (stamp : List ℕ) (sender : ℕ) (number word : List ℕ) → length stamp ≡ 16 → length number ≡ 4 → HasParts (whole version kind stamp sender number word) stamp sender number word
parts_back version kind stamp sender number word len four =
    let t : List ℕ = sender ∷ number ++ word in
    let at16 : drop 16 (stamp ++ t) ≡ t = drop_at stamp t 16 len in
    record {
      stamp_is = take_at stamp t 16 len;
      sender_is = get_or-append_right stamp t 16 16 0 len (omega arith);
      number_is = ap (take 4) (sym (drop-drop 1 16 (stamp ++ t)) ∙ ap (drop 1) at16) ∙ take_at number word 4 four;
      word_is = sym (drop-drop 5 16 (stamp ++ t)) ∙ ap (drop 5) at16 ∙ drop_at number word 4 four;
    }

abbrev made : List ℕ → ℕ → ℕ → ℕ → Fields
made s a n w = record { stamp = s; sender = a; number = n; word = w }

made_is : (s s' : List ℕ) (a a' n n' w w' : ℕ) → s ≡ s' → a ≡ a' → n ≡ n' → w ≡ w' → made s a n w ≡ made s' a' n' w'
made_is s s' a a' n n' w w' es ea en ew = cc

fields_back : (v k : ℕ) (s : List ℕ) (a n w : ℕ) → length s ≡ 16 → n < 2 ^ 32 → w < 2 ^ 16 → fields_at (frame v k s a n w) ≡ made s a n w
unfolding frame fields_at
fields_back v k s a n w len small_n small_w =
    let p = parts_back v k s a (to_be_bytes w32 n) (to_be_bytes w16 w) len refl in
    made_is _ s _ a _ n _ w p.stamp_is p.sender_is
    (ap (from_be_bytes w32) p.number_is ∙ from_be_bytes-to_be_bytes_4 n small_n)
    (ap (from_be_bytes w16) p.word_is ∙ from_be_bytes-to_be_bytes_2 w small_w)

length-frame : (v k : ℕ) (s : List ℕ) (a n w : ℕ) → length s ≡ 16 → length (frame v k s a n w) ≡ 27
unfolding frame
length-frame v k s a n w len = omega (arith, length-append s (a ∷ to_be_bytes w32 n ++ to_be_bytes w16 w), len)

head_back : (v k : ℕ) (s : List ℕ) (a n w : ℕ) → (slice_index (frame v k s a n w) 0 ≡ 83) × (slice_index (frame v k s a n w) 1 ≡ 65) × (slice_index (frame v k s a n w) 2 ≡ v) × (slice_index (frame v k s a n w) 3 ≡ k)
unfolding frame
head_back v k s a n w = (refl, refl, refl, refl)

pub code_below : (v : Verdicts) → verdict_code v ≤ 7
code_below verdict.WhiteMates = omega arith
code_below verdict.BlackMates = omega arith
code_below verdict.Stalemate = omega arith
code_below verdict.TableDraw = omega arith
code_below verdict.TableWhite = omega arith
code_below verdict.TableBlack = omega arith
code_below verdict.Stopped = omega arith

pub code_above : (v : Verdicts) → 1 ≤ verdict_code v
code_above verdict.WhiteMates = omega arith
code_above verdict.BlackMates = omega arith
code_above verdict.Stalemate = omega arith
code_above verdict.TableDraw = omega arith
code_above verdict.TableWhite = omega arith
code_above verdict.TableBlack = omega arith
code_above verdict.Stopped = omega arith

below : (m : Message) → IsInRange m → (message_number m < 2 ^ 32) × (word_in m < 2 ^ 16)
below (Move stamp sender number m) h = (h.0, let b = word_below _ m h.1 in omega arith)
below (Ack stamp a count) h = (omega arith, omega arith)
below (Verdict stamp a ply v) h = (omega arith, let b = code_below v in omega arith)
below (Fetch stamp a number wanted) h = (let b = h.0 in omega arith, let b = h.2 in omega arith)

-- a version and a kind of it
abbrev pub IsKind : ℕ → ℕ → Type 0
IsKind version kind = ((version ≡ 1) × (1 ≤ kind) × (kind ≤ 3)) ⊎ ((version ≡ 2) × ((kind ≡ 1) ⊎ (kind ≡ 4)))

kind_below : (m : Message) → IsKind (version_of m) (message_kind m)
kind_below (Move stamp Source number m) = inl (refl, omega arith, omega arith)
kind_below (Move stamp (Arbiter a) number m) = inr (refl, inl refl)
kind_below (Ack stamp a count) = inl (refl, omega arith, omega arith)
kind_below (Verdict stamp a ply v) = inl (refl, omega arith, omega arith)
kind_below (Fetch stamp a number wanted) = inr (refl, inr refl)

version_known : (m : Message) → (version_of m ≡ 1) ⊎ (version_of m ≡ 2)
version_known (Move stamp Source number m) = inl refl
version_known (Move stamp (Arbiter a) number m) = inr refl
version_known (Ack stamp a count) = inl refl
version_known (Verdict stamp a ply v) = inl refl
version_known (Fetch stamp a number wanted) = inr refl

pub one_of_five : (t : List ℕ) (k : MessageKind) → slice_index t 2 ≡ version_number k → slice_index t 3 ≡ kind_number k → HasKind t
one_of_five t kind.Move v is = inl (v, omega arith, omega arith)
one_of_five t kind.Ack v is = inl (v, omega arith, omega arith)
one_of_five t kind.Verdict v is = inl (v, omega arith, omega arith)
one_of_five t kind.Relayed v is = inr (v, inl is)
one_of_five t kind.Fetch v is = inr (v, inr is)

-- what a spelled message is read from
pub record IsLaidOut (t : List ℕ) (m : Message) : Type 0 where
  pub len : length t ≡ 27
  pub head : HasHead t
  pub version : slice_index t 2 ≡ version_of m
  pub kind : slice_index t 3 ≡ message_kind m
  pub fields : fields_at t ≡ made (stamp_in m) (sender_number (sender_of m)) (message_number m) (word_in m)

pub laid_out : (t : List ℕ) (m : Message) → SpellsMessage t m → IsLaidOut t m
laid_out t m h =
    let b = below m h.in_range in
    let s = (stamp_in m) in
    let a = sender_number (sender_of m) in
    let heads = head_back (version_of m) (message_kind m) s a (message_number m) (word_in m) in
    let version : slice_index t 2 ≡ version_of m = ap (λ (x : List ℕ). slice_index x 2) h.text ∙ heads.2 in
    record {
      len = ap length h.text ∙ length-frame (version_of m) (message_kind m) s a (message_number m) (word_in m) h.stamp;
      head = (
        ap (λ (x : List ℕ). slice_index x 0) h.text ∙ heads.0,
        ap (λ (x : List ℕ). slice_index x 1) h.text ∙ heads.1,
        subst (λ (n : ℕ). (n ≡ 1) ⊎ (n ≡ 2)) (sym version) (version_known m),
      );
      version = version;
      kind = ap (λ (x : List ℕ). slice_index x 3) h.text ∙ heads.3;
      fields = ap fields_at h.text ∙ fields_back (version_of m) (message_kind m) s a (message_number m) (word_in m) h.stamp b.0 b.1;
    }

-- its fields are those that its kind has
pub has_fields : (t : List ℕ) (k : MessageKind) (m : Message) → SpellsMessage t m → slice_index t 2 ≡ version_number k → slice_index t 3 ≡ kind_number k → HasFields k (fields_at t) m
has_fields t k m h version is =
    let p = laid_out t m h in
    record {
      in_range = h.in_range;
      version = sym p.version ∙ version;
      kind = sym p.kind ∙ is;
      stamp = sym (ap (λ (f : Fields). f.stamp) p.fields);
      sender = sym (ap (λ (f : Fields). f.sender) p.fields);
      number = sym (ap (λ (f : Fields). f.number) p.fields);
      word = sym (ap (λ (f : Fields). f.word) p.fields);
    }

pub frame_is : (v v' k k' : ℕ) (s s' : List ℕ) (a a' n n' w w' : ℕ) → v ≡ v' → k ≡ k' → s ≡ s' → a ≡ a' → n ≡ n' → w ≡ w' → frame v k s a n w ≡ frame v' k' s' a' n' w'
frame_is v v' k k' s s' a a' n n' w w' ev ek es ea en ew = cc

-- bytes that are laid out as a message with these fields spell it
pub found : (t : List ℕ) (k : MessageKind) (m : Message) → IsBytes t → length t ≡ 27 → HasHead t → slice_index t 2 ≡ version_number k → slice_index t 3 ≡ kind_number k → HasFields k (fields_at t) m → SpellsMessage t m
unfolding fields_at
found t k m fits len head version is f =
    let sixteen : length (take 16 (drop 4 t)) ≡ 16 = omega (arith, length-take 16 (drop 4 t), length-drop 4 t, len) in
    let stamp_is : (fields_at t).stamp ≡ (stamp_in m) = sym f.stamp in
    record {
      in_range = f.in_range;
      stamp = sym (ap length stamp_is) ∙ sixteen;
      text = is_frame t fits len head ∙ frame_is _ _ _ _ _ _ _ _ _ _ _ _ (version ∙ sym f.version) (is ∙ sym f.kind) stamp_is (sym f.sender) (sym f.number) (sym f.word);
    }

-- what stands for a missing tag has another length than a message
not_27 : (t : List ℕ) → t ≡ no_tag → length t ≡ 27 → ⊥
not_27 t e len = let long : length t ≡ 64 = ap length e in absurd (omega arith)

-- bytes that spell a message have no fault
pub no_fault : (t : List ℕ) (m : Message) (fault : MessageFault) → SpellsMessage t m → IsFirstMessageFault t fault → ⊥
no_fault t m NoTag h fault = let len = (laid_out t m h).len in not_27 t fault len
no_fault t m BadLength h fault = fault.1 (laid_out t m h).len
no_fault t m BadHead h fault = fault.1 (laid_out t m h).head
no_fault t m BadKind h fault =
    let p = laid_out t m h in
    fault.2 (subst (λ (x : ℕ). IsKind x (slice_index t 3)) (sym p.version) (subst (λ (x : ℕ). IsKind (version_of m) x) (sym p.kind) (kind_below m)))
no_fault t m BadField h fault = fault.3 m h

-- bytes have one first fault
pub one_fault : (t : List ℕ) (a b : MessageFault) → IsFirstMessageFault t a → IsFirstMessageFault t b → a ≡ b
one_fault t NoTag NoTag h l = refl
one_fault t NoTag BadLength h l = absurd (l.0 h)
one_fault t NoTag BadHead h l = absurd (not_27 t h l.0)
one_fault t NoTag BadKind h l = absurd (not_27 t h l.0)
one_fault t NoTag BadField h l = absurd (not_27 t h l.0)
one_fault t BadLength NoTag h l = absurd (h.0 l)
one_fault t BadLength BadLength h l = refl
one_fault t BadLength BadHead h l = absurd (h.1 l.0)
one_fault t BadLength BadKind h l = absurd (h.1 l.0)
one_fault t BadLength BadField h l = absurd (h.1 l.0)
one_fault t BadHead NoTag h l = absurd (not_27 t l h.0)
one_fault t BadHead BadLength h l = absurd (l.1 h.0)
one_fault t BadHead BadHead h l = refl
one_fault t BadHead BadKind h l = absurd (h.1 l.1)
one_fault t BadHead BadField h l = absurd (h.1 l.1)
one_fault t BadKind NoTag h l = absurd (not_27 t l h.0)
one_fault t BadKind BadLength h l = absurd (l.1 h.0)
one_fault t BadKind BadHead h l = absurd (l.1 h.1)
one_fault t BadKind BadKind h l = refl
one_fault t BadKind BadField h l = absurd (h.2 l.2)
one_fault t BadField NoTag h l = absurd (not_27 t l h.0)
one_fault t BadField BadLength h l = absurd (l.1 h.0)
one_fault t BadField BadHead h l = absurd (l.1 h.1)
one_fault t BadField BadKind h l = absurd (l.2 h.2)
one_fault t BadField BadField h l = refl

-- what each kind is written as
pub move_spelled : (t : List ℕ) (s : Stamp) (a : Sender) (k : MessageKind) (sender n w : ℕ) (m : Moves) → (length s ≡ 16) × (n < 2 ^ 32) → version_number k ≡ version_by a → kind_number k ≡ 1 → sender ≡ sender_number a → SpellsWord w m → t ≡ frame (version_number k) (kind_number k) s sender n w → SpellsMessage t (Move s a n m)
move_spelled t s a k sender n w m fits version is from word text =
    record {
      in_range = (fits.1, subst (λ (x : ℕ). SpellsWord x m) word.value word);
      stamp = fits.0;
      text = text ∙ frame_is _ _ _ _ _ _ _ _ _ _ _ _ version is refl from refl word.value;
    }

pub ack_spelled : (t : List ℕ) (s : Stamp) (a : ArbiterId) (sender count number : ℕ) → length s ≡ 16 → sender ≡ who_number a → number ≡ count → number ≤ most_moves → t ≡ frame 1 2 s sender number 0 → SpellsMessage t (Ack s a count)
ack_spelled t s a sender count number len is same few text =
    record {
      in_range = subst (λ (x : ℕ). x ≤ most_moves) same few;
      stamp = len;
      text = text ∙ frame_is _ _ _ _ _ _ _ _ _ _ _ _ refl refl refl is same refl;
    }

pub verdict_spelled : (t : List ℕ) (s : Stamp) (a : ArbiterId) (v : Verdicts) (sender ply number code : ℕ) → length s ≡ 16 → sender ≡ who_number a → number ≡ ply → number ≤ most_moves → code ≡ verdict_code v → t ≡ frame 1 3 s sender number code → SpellsMessage t (Verdict s a ply v)
verdict_spelled t s a v sender ply number code len is same few coded text =
    record {
      in_range = subst (λ (x : ℕ). x ≤ most_moves) same few;
      stamp = len;
      text = text ∙ frame_is _ _ _ _ _ _ _ _ _ _ _ _ refl refl refl is same coded;
    }

pub fetch_spelled : (t : List ℕ) (s : Stamp) (a : ArbiterId) (sender first number wanted many : ℕ) → length s ≡ 16 → sender ≡ who_number a → number ≡ first → number ≤ most_moves → many ≡ wanted → 1 ≤ many → many ≤ most_wanted → t ≡ frame 2 4 s sender number many → SpellsMessage t (Fetch s a first wanted)
fetch_spelled t s a sender first number wanted many len is same few many_is some most text =
    record {
      in_range = (subst (λ (x : ℕ). x ≤ most_moves) same few, subst (λ (x : ℕ). 1 ≤ x) many_is some, subst (λ (x : ℕ). x ≤ most_wanted) many_is most);
      stamp = len;
      text = text ∙ frame_is _ _ _ _ _ _ _ _ _ _ _ _ refl refl refl is same many_is;
    }
