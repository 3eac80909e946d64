-- What comes in one try, and tries one after the other.
use Rattle.std.proofs.Common.{◌≡◌, ◌⊎◌, ℕ, true, false, List, [], ◌∷◌, ◌++◌, length, refl, sym, ap, subst, ◌∙◌, length-append, arith, inl, inr}
use Rattle.std.specs.List.{AllByRecursion}
use Rattle.board_core.specs.declared.moves.Move.{Move as Moves}
use Rattle.move_msg.specs.Messages.{SpellsMessage, message_text}
use Rattle.move_msg.specs.declared.stamp.Stamp.{Stamp}
use Rattle.source_core.specs.declared.known.Known.{Known}
use Rattle.source_core.specs.declared.known.Standing.{Standing}
use Rattle.source_core.specs.declared.known.Standing.TheVariants as standing
use Rattle.source_core.specs.declared.turn.Next.{Next}
use Rattle.source_core.specs.declared.turn.Next.TheVariants as next
use Rattle.source_core.specs.declared.turn.SendConfig.{SendConfig}
use Rattle.system_io.specs.Ports.{Passing, Came, Quiet}
use Rattle.source_core.specs.Reports.{Knows, StandsSo}
use Rattle.source_core.specs.Turns.{AllButLastWaited, ForAnswers, ForVerdicts, HasWaited, HasSpelling, IsWait, WaitsSoLong, move_message}
use Rattle.source_core.specs.Inside.Steps.{IsLast, IsWaitBy, is_ruled, wait_by}
use Rattle.source_core.proofs.ReportLaws.{is_acked, is_ruled_so, is_unsettled}

pub all_more : {A : Type 0} (P : A → Type 0) (xs : List A) (x : A) → AllByRecursion P xs → P x → AllByRecursion P (xs ++ x ∷ [])
all_more P [] x h p = (p, tt)
all_more P (y ∷ xs) x h p = (h.0, all_more P xs x h.1 p)

-- where a list is cut that one more was put behind: at the last, or before it
pub nothing_cut : {A : Type 0} (first rest : List A) (x : A) → [] ≡ first ++ x ∷ rest → ⊥
nothing_cut [] rest x is = cc
nothing_cut (y ∷ first) rest x is = let e : [] ≡ y ∷ (first ++ x ∷ rest) = is in cc

cut_later : {A : Type 0} (z : A) (zs first rest : List A) (y x : A) → ((first ≡ zs) × (x ≡ y)) ⊎ ((others : List A) × (zs ≡ first ++ x ∷ others)) → ((z ∷ first ≡ z ∷ zs) × (x ≡ y)) ⊎ ((others : List A) × (z ∷ zs ≡ (z ∷ first) ++ x ∷ others))
cut_later z zs first rest y x (inl (same, is)) = inl (ap (λ l. z ∷ l) same, is)
cut_later z zs first rest y x (inr (others, is)) = inr (others, ap (λ l. z ∷ l) is)

pub cut_at : {A : Type 0} (xs : List A) (y : A) (first rest : List A) (x : A) → xs ++ y ∷ [] ≡ first ++ x ∷ rest → ((first ≡ xs) × (x ≡ y)) ⊎ ((others : List A) × (xs ≡ first ++ x ∷ others))
cut_at [] y [] rest x is = let e : y ∷ [] ≡ x ∷ rest = is in let same : x ≡ y = cc in inl (refl, same)
cut_at [] y (z ∷ first) rest x is = let e : y ∷ [] ≡ z ∷ (first ++ x ∷ rest) = is in let none : [] ≡ first ++ x ∷ rest = cc in absurd (nothing_cut first rest x none)
cut_at (z ∷ zs) y [] rest x is = let e : z ∷ (zs ++ y ∷ []) ≡ x ∷ rest = is in let same : z ∷ zs ≡ x ∷ zs = cc in inr (zs, same)
cut_at {A} (z ∷ zs) y (w ∷ first) rest x is =
    let e : z ∷ (zs ++ y ∷ []) ≡ w ∷ (first ++ x ∷ rest) = is in
    let head : z ≡ w = cc in
    let tail : zs ++ y ∷ [] ≡ first ++ x ∷ rest = cc in
    subst (λ (v : A). ((v ∷ first ≡ z ∷ zs) × (x ≡ y)) ⊎ ((others : List A) × (z ∷ zs ≡ (v ∷ first) ++ x ∷ others))) head (cut_later z zs first rest y x (cut_at zs y first rest x tail))

-- ---- how long is waited

-- by what is known, and by what has passed
wait_so : (terms : SendConfig) (index number : ℕ) (all : List Passing) (known : Known) (nanos : ℕ) (s : Standing) → Knows terms.stamp all known → StandsSo known number s → nanos ≡ wait_by terms.wait index s → IsWait terms index number all nanos
wait_so terms index number all known nanos standing.Acked h stands is = ForVerdicts (is_acked terms.stamp number all known h stands) is
wait_so terms index number all known nanos (standing.Ruled r) h stands is = let ruled = is_ruled_so terms.stamp number all known r h stands in ForAnswers (λ acked. acked.open_yet _ r ruled.a) is
wait_so terms index number all known nanos standing.Open h stands is = let unsettled = is_unsettled terms.stamp number all known h stands in ForAnswers unsettled.not_acked is

-- nothing was waited for in vain
pub IsQuietless : List Passing → Type 0
IsQuietless came = (first rest : List Passing) (nanos : ℕ) → came ≡ first ++ Quiet nanos ∷ rest → ⊥

pub quietless_none : IsQuietless []
unfolding IsQuietless
quietless_none first rest nanos is = nothing_cut first rest (Quiet nanos) is

pub quietless_more : (came : List Passing) (p : Passing) (bytes : List ℕ) → IsQuietless came → p ≡ Came bytes → IsQuietless (came ++ p ∷ [])
unfolding IsQuietless
quietless_more came p bytes h one first rest nanos is = elim (cut_at came p first rest (Quiet nanos) is) [
  | inl (same, last) ↦ cc
  | inr (others, before) ↦ h first others nanos before
]

-- the wait of the last
last_quiet : (nanos n : ℕ) (p : Passing) (end : Next) → IsLast nanos p end → Quiet n ≡ p → n ≡ nanos
last_quiet nanos n p next.GoesOn (bytes, is) e = absurd cc
last_quiet nanos n p next.Waited is e = cc
last_quiet nanos n p (next.Clashed c) (bytes, is) e = absurd cc
last_quiet nanos n p next.PortLost is e = absurd cc

pub waits_last : (terms : SendConfig) (index number : ℕ) (before came : List Passing) (p : Passing) (known : Known) (nanos : ℕ) (end : Next) → IsQuietless came → IsLast nanos p end → Knows terms.stamp (before ++ came) known → IsWaitBy terms.wait index number known nanos → WaitsSoLong terms index number before (came ++ p ∷ [])
unfolding IsQuietless
waits_last terms index number before came p known nanos end h last k (s, stands, by) first rest n is = elim (cut_at came p first rest (Quiet n) is) [
  | inl (same, one) ↦
      let long : n ≡ nanos = last_quiet nanos n p end last one in
      subst (λ l. IsWait terms index number (before ++ l) n) (sym same) (wait_so terms index number (before ++ came) known n s k stands (long ∙ by))
  | inr (others, earlier) ↦ absurd (h first others n earlier)
]

pub waits_never : (terms : SendConfig) (index number : ℕ) (before came : List Passing) → IsQuietless came → WaitsSoLong terms index number before came
unfolding IsQuietless
waits_never terms index number before came h first rest n is = absurd (h first rest n is)

-- ---- tries one after the other

pub still_waited : (tries : List (List Passing)) (mid new : Known) (came : List Passing) → AllByRecursion HasWaited tries ⊎ (is_ruled mid ≡ true) → is_ruled mid ≡ false → HasWaited came ⊎ (is_ruled new ≡ true) → AllByRecursion HasWaited (tries ++ came ∷ []) ⊎ (is_ruled new ≡ true)
still_waited tries mid new came before open_yet now = elim before [
  | inl all ↦ elim now [ inl one ↦ inl (all_more HasWaited tries came all one) | inr ruled ↦ inr ruled ]
  | inr ruled ↦ absurd cc
]

pub all_waited : (tries : List (List Passing)) (known : Known) → AllByRecursion HasWaited tries ⊎ (is_ruled known ≡ true) → is_ruled known ≡ false → AllByRecursion HasWaited tries
all_waited tries known (inl all) open_yet = all
all_waited tries known (inr ruled) open_yet = absurd cc

all_there : (earlier later : List (List Passing)) (came : List Passing) → AllByRecursion HasWaited (earlier ++ came ∷ later) → HasWaited came
all_there [] later came all = all.0
all_there (first ∷ earlier) later came all = all_there earlier later came all.1

-- where all have waited and one more follows
pub all_but_last : (tries : List (List Passing)) (last : List Passing) → AllByRecursion HasWaited tries → AllButLastWaited (tries ++ last ∷ [])
all_but_last tries last all earlier later came next is = elim (cut_at tries last earlier (next ∷ later) came is) [
  | inl (same, one) ↦
      let long : length (tries ++ last ∷ []) ≡ length (earlier ++ came ∷ next ∷ later) = ap length is in
      let front : length earlier ≡ length tries = ap length same in
      absurd (omega (arith, long, front, length-append tries (last ∷ []), length-append earlier (came ∷ next ∷ later)))
  | inr (others, before) ↦ all_there earlier others came (subst (AllByRecursion HasWaited) before all)
]

-- ---- a whole turn

-- the spelling of the move
abbrev pub spelled_move : Stamp → ℕ → Moves → List ℕ
spelled_move stamp number m = message_text (move_message stamp number m)

-- what was spelled has that spelling
pub spelled_so : (stamp : Stamp) (number : ℕ) (m : Moves) (bytes : List ℕ) → SpellsMessage bytes (move_message stamp number m) → HasSpelling stamp number m
spelled_so stamp number m bytes h = subst (λ b. SpellsMessage b (move_message stamp number m)) h.text h
