-- A stream has one reading, and in whatever pieces it comes that one is given.
use Rattle.std.proofs.Common.{◌≡◌, ℕ, ◌+◌, ◌<◌, ◌≤◌, List, [], ◌∷◌, ◌++◌, length, take, drop, Option, Some, None, Ok, Err, refl, sym, ap, ap₂, subst, ◌∙◌, arith, inl, inr, ◌⊎◌, append_assoc, append-nil}
use Rattle.std.proofs.lemmas.List.{take_at, drop_at, length-append, take_all}
use Rattle.move_msg.specs.declared.message.Message.{Message}
use Rattle.move_msg.specs.declared.message.MessageFault.{MessageFault}
use Rattle.move_msg.specs.Messages.{SpellsMessage, IsFirstMessageFault}
use Rattle.move_msg.specs.Streams.{StreamAnswer, AnswersFor, BeginsBy, StreamCall, End, EndsSo, AfterMessage, Cut, AtFault, Feed, IsRunOfCalls, SpellsStream, end_at, message_in, messages_in, nothing_fed, taken_in}
use Rattle.move_msg.proofs.MessageLaws.{laid_out, no_fault, one_fault}
use Rattle.move_msg.proofs.HeardLaws.{one_message}

-- no message stands at the front
abbrev pub HasNoFirst : List ℕ → Type 0
HasNoFirst rest = (text tail : List ℕ) (m : Message) → rest ≡ text ++ tail → SpellsMessage text m → ⊥

pub short_none : (rest : List ℕ) → length rest < 27 → HasNoFirst rest
short_none rest short text tail m e h =
    let whole = (laid_out text m h).len in
    let all : length rest ≡ length text + length tail = ap length e ∙ length-append text tail in
    absurd (omega arith)

pub fault_none : (rest : List ℕ) (fault : MessageFault) → IsFirstMessageFault (take 27 rest) fault → HasNoFirst rest
fault_none rest fault first text tail m e h =
    let front : take 27 rest ≡ text = ap (take 27) e ∙ take_at text tail 27 (laid_out text m h).len in
    no_fault text m fault h (subst (λ (t : List ℕ). IsFirstMessageFault t fault) front first)

pub ends_none : (rest : List ℕ) (end : End) → EndsSo rest end → HasNoFirst rest
ends_none rest AfterMessage h = short_none rest (let none = ap length h in omega arith)
ends_none rest Cut h = short_none rest h.1
ends_none rest (AtFault fault) h = fault_none rest fault h.1

-- two readings up to where no message follows are one
pub one_front : (t : List ℕ) (ms ns : List Message) (r q : List ℕ) → BeginsBy t ms r → BeginsBy t ns q → HasNoFirst r → HasNoFirst q → (ms ≡ ns) × (r ≡ q)
one_front t [] [] r q h l rh ql = (refl, sym h ∙ l)
one_front t [] (n ∷ ns) r q h l rh ql = absurd (rh l.0 l.1 n (sym h ∙ l.2) l.3)
one_front t (m ∷ ms) [] r q h l rh ql = absurd (ql h.0 h.1 m (sym l ∙ h.2) h.3)
one_front t (m ∷ ms) (n ∷ ns) r q h l rh ql =
    let e : h.0 ++ h.1 ≡ l.0 ++ l.1 = sym h.2 ∙ l.2 in
    let a = (laid_out h.0 m h.3).len in
    let b = (laid_out l.0 n l.3).len in
    let text : h.0 ≡ l.0 = sym (take_at h.0 h.1 27 a) ∙ ap (take 27) e ∙ take_at l.0 l.1 27 b in
    let tail : h.1 ≡ l.1 = sym (drop_at h.0 h.1 27 a) ∙ ap (drop 27) e ∙ drop_at l.0 l.1 27 b in
    let head : m ≡ n = one_message l.0 m n (subst (λ (x : List ℕ). SpellsMessage x m) text h.3) l.3 in
    let rest = one_front l.1 ms ns r q (subst (λ (x : List ℕ). BeginsBy x ms r) tail h.4) l.4 rh ql in
    (ap₂ (λ (x : Message) (xs : List Message). x ∷ xs) head rest.0, rest.1)

abbrev faulty : MessageFault → Feed
faulty e = record { held = []; fault = Some e }

-- what is left of a stream: less than a message, which is held; or 27 bytes at fault
abbrev pub IsLeft : List ℕ → Feed → Type 0
IsLeft rest new = ((length rest < 27) × (new ≡ record { held = rest; fault = None }))
    ⊎ ((e : MessageFault) × (length rest ≡ 27) × IsFirstMessageFault rest e × (new ≡ faulty e))

abbrev fed : List ℕ → Option MessageFault → Feed
fed held fault = record { held = held; fault = fault }

feed_is : (a b : List ℕ) (x y : Option MessageFault) → a ≡ b → x ≡ y → fed a x ≡ fed b y
feed_is a b x y ea ex = cc

all_27 : (rest : List ℕ) → length rest ≡ 27 → take 27 rest ≡ rest
all_27 rest len = ap (λ (n : ℕ). take n rest) (sym len) ∙ take_all (length rest) rest (omega arith)

-- a stream ends in one way
same_end : (rest : List ℕ) (e f : End) → EndsSo rest e → EndsSo rest f → e ≡ f
same_end rest AfterMessage AfterMessage h l = refl
same_end rest AfterMessage Cut h l = absurd (let none = ap length h in let some = l.0 in omega arith)
same_end rest AfterMessage (AtFault b) h l = absurd (let none = ap length h in let some = l.0 in omega arith)
same_end rest Cut AfterMessage h l = absurd (let none = ap length l in let some = h.0 in omega arith)
same_end rest Cut Cut h l = refl
same_end rest Cut (AtFault b) h l = absurd (let short = h.1 in let long = l.0 in omega arith)
same_end rest (AtFault a) AfterMessage h l = absurd (let none = ap length l in let some = h.0 in omega arith)
same_end rest (AtFault a) Cut h l = absurd (let long = h.0 in let short = l.1 in omega arith)
same_end rest (AtFault a) (AtFault b) h l = ap AtFault (one_fault (take 27 rest) a b h.1 l.1)

pub one_reading : (t : List ℕ) (ms ns : List Message) (e f : End) → SpellsStream t ms e → SpellsStream t ns f → (ms ≡ ns) × (e ≡ f)
one_reading t ms ns e f h l =
    let same = one_front t ms ns h.rest l.rest h.messages l.messages (ends_none h.rest e h.ending) (ends_none l.rest f l.ending) in
    (same.0, same_end l.rest e f (subst (λ (r : List ℕ). EndsSo r e) same.1 h.ending) l.ending)

-- the bytes are these messages, and then what a feeder holds or has met a fault at
pub record ReadsTo (t : List ℕ) (ms : List Message) (new : Feed) : Type 0 where
  pub rest : List ℕ
  pub messages : BeginsBy t ms rest
  pub left : IsLeft rest new

reads_one : (bytes : List ℕ) (answer : StreamAnswer) (next new : Feed) (calls : List StreamCall) → AnswersFor bytes answer next → IsRunOfCalls next calls new →
    ((s : Feed) → s.fault ≡ None → length s.held < 27 → IsRunOfCalls s calls new → ReadsTo (s.held ++ taken_in calls) (messages_in calls) new) →
    ReadsTo (bytes ++ taken_in calls) (message_in answer ++ messages_in calls) new
reads_one bytes None next new calls h run on =
    let short : length next.held < 27 = subst (λ (s : Feed). length s.held < 27) (sym h.1) h.0 in
    subst (λ (s : Feed). ReadsTo (s.held ++ taken_in calls) (messages_in calls) new) h.1 (on next (ap (λ (s : Feed). s.fault) h.1) short run)
reads_one bytes (Some (Ok m)) next new calls h run on =
    let r = on nothing_fed refl (omega arith) (subst (λ (s : Feed). IsRunOfCalls s calls new) h.2 run) in
    record { rest = r.rest; messages = (bytes, taken_in calls, refl, h.1, r.messages); left = r.left }
reads_one bytes (Some (Err e)) next new [] h run on =
    record { rest = bytes; messages = append-nil bytes; left = inr (e, h.0, h.1, run ∙ h.2) }
reads_one bytes (Some (Err e)) next new (call ∷ calls) h run on =
    let bad : Some e ≡ None = sym (ap (λ (s : Feed). s.fault) h.2) ∙ run.1 in absurd cc

pub reads : (calls : List StreamCall) (old new : Feed) → old.fault ≡ None → length old.held < 27 → IsRunOfCalls old calls new → ReadsTo (old.held ++ taken_in calls) (messages_in calls) new
reads [] old new going short run =
    record { rest = old.held; messages = append-nil old.held; left = inl (short, run ∙ feed_is _ _ _ _ refl going) }
reads (call ∷ calls) old new going short run =
    let bytes = old.held ++ call.taken in
    subst (λ (t : List ℕ). ReadsTo t (message_in call.answer ++ messages_in calls) new) (append_assoc old.held call.taken (taken_in calls))
    (reads_one bytes call.answer run.0 new calls run.2 run.3 (λ s. reads calls s new))

left_none : (rest : List ℕ) (new : Feed) → IsLeft rest new → HasNoFirst rest
left_none rest new (inl h) = short_none rest h.0
left_none rest new (inr h) = fault_none rest h.0 (subst (λ (t : List ℕ). IsFirstMessageFault t h.0) (sym (all_27 rest h.1)) h.2)

same_left : (rest : List ℕ) (new end : Feed) → IsLeft rest new → IsLeft rest end → new ≡ end
same_left rest new end (inl h) (inl l) = h.1 ∙ sym l.1
same_left rest new end (inl h) (inr l) = absurd (let short = h.0 in let long = l.1 in omega arith)
same_left rest new end (inr h) (inl l) = absurd (let long = h.1 in let short = l.0 in omega arith)
same_left rest new end (inr h) (inr l) = h.3 ∙ ap (λ (e : MessageFault). faulty e) (one_fault rest h.0 l.0 h.2 l.2) ∙ sym l.3

pub pieces : (calls others : List StreamCall) (new end : Feed) → IsRunOfCalls nothing_fed calls new → IsRunOfCalls nothing_fed others end → taken_in calls ≡ taken_in others → (messages_in calls ≡ messages_in others) × (new ≡ end)
pieces calls others new end h l e =
    let p = reads calls nothing_fed new refl (omega arith) h in
    let q = reads others nothing_fed end refl (omega arith) l in
    let same = one_front (taken_in others) (messages_in calls) (messages_in others) p.rest q.rest (subst (λ (t : List ℕ). BeginsBy t (messages_in calls) p.rest) e p.messages) q.messages
    (left_none p.rest new p.left) (left_none q.rest end q.left) in
    (same.0, same_left q.rest new end (subst (λ (r : List ℕ). IsLeft r new) same.1 p.left) q.left)

held_ends : (held : List ℕ) → length held < 27 → EndsSo held (end_at held None)
held_ends [] short = refl
held_ends (byte ∷ bytes) short = (omega arith, short)

left_ends : (rest : List ℕ) (new : Feed) → IsLeft rest new → EndsSo rest (end_at new.held new.fault)
left_ends rest new (inl h) = subst (λ (s : Feed). EndsSo rest (end_at s.held s.fault)) (sym h.1) (held_ends rest h.0)
left_ends rest new (inr h) =
    let long : 27 ≤ length rest = let len = h.1 in omega arith in
    subst (λ (s : Feed). EndsSo rest (end_at s.held s.fault)) (sym h.3) (long, subst (λ (t : List ℕ). IsFirstMessageFault t h.0) (sym (all_27 rest h.1)) h.2)

pub reads_stream : (calls : List StreamCall) (new : Feed) → IsRunOfCalls nothing_fed calls new → SpellsStream (taken_in calls) (messages_in calls) (end_at new.held new.fault)
reads_stream calls new h =
    let p = reads calls nothing_fed new refl (omega arith) h in
    record { rest = p.rest; messages = p.messages; ending = left_ends p.rest new p.left }
