-- A text with a line at fault is no schedule, and one line is the first at fault.
use Rattle.std.proofs.Common.{◌≡◌, ◌≤◌, ℕ, suc, List, [], ◌∷◌, length, sym, ap, ◌∙◌, subst, arith, inl, inr}
use Rattle.std.specs.Prelude.{◌⊎◌}
use Rattle.board_core.specs.declared.parts.Parts.{Parts}
use Rattle.board_core.specs.declared.moves.Move.{Move as Moves}
use Rattle.fen_text.specs.Cuts.{cut_at}
use Rattle.relay_world.specs.declared.event.Event.{Event}
use Rattle.relay_world.specs.declared.schedule.Schedule.{Schedule}
use Rattle.relay_world.specs.Texts.{IsNameLine, IsStartLine, IsMovesLine, AreEvents, SpellsSchedule, NeedsLine, IsBadEvent, IsFirstBadScheduleLine, HasAnyMove, TakesForFirst, ScheduleTakesMemory}
use Rattle.relay_world.proofs.Reading.{has_piece}

-- ---- none in a schedule

good_events : (number k : ℕ) (lines : List (List ℕ)) (events : List Event) → AreEvents lines events → IsBadEvent number k lines → ⊥
good_events number k [] events are bad = are
good_events number k (last ∷ []) [] are bad = bad.1 are
good_events number k (last ∷ []) (event ∷ events) are bad = are
good_events number k (line ∷ next ∷ lines) [] are bad = are
good_events number k (line ∷ next ∷ lines) (event ∷ events) are bad =
    elim bad [
      | inl here ↦ here.1 event are.0
      | inr later ↦ good_events (suc number) k (next ∷ lines) events are.1 later.1
    ]

-- a line that has to be there is good, and no later one is at fault
good_line : (IsGood : List ℕ → Type 0) (number k : ℕ) (Later : List (List ℕ) → Type 0) (line next : List ℕ) (lines : List (List ℕ)) → IsGood line → (Later (next ∷ lines) → ⊥) → NeedsLine IsGood number k Later (line ∷ next ∷ lines) → ⊥
good_line IsGood number k Later line next lines good none bad =
    elim bad [
      | inl here ↦ here.1 good
      | inr later ↦ none later.1
    ]

abbrev IsName : List ℕ → Type 0
IsName line = (name : List ℕ) × IsNameLine line name

abbrev IsStart : List ℕ → Type 0
IsStart line = (start : Parts) × IsStartLine line start

abbrev AreMoves : List ℕ → Type 0
AreMoves line = (moves : List Moves) × IsMovesLine line moves

-- the lines from the third on, and from the second on
abbrev FromMoves : ℕ → List (List ℕ) → Type 0
FromMoves k = NeedsLine AreMoves 3 k (IsBadEvent 4 k)

abbrev FromStart : ℕ → List (List ℕ) → Type 0
FromStart k = NeedsLine IsStart 2 k (FromMoves k)

good_text : (k : ℕ) (name start moves : List ℕ) (lines : List (List ℕ)) (s : Schedule) → IsNameLine name s.name.items → IsStartLine start s.start → IsMovesLine moves s.moves.items → AreEvents lines s.events.items → NeedsLine IsName 1 k (FromStart k) (name ∷ start ∷ moves ∷ lines) → ⊥
good_text k name start moves [] s name_is start_is moves_are events_are = λ bad. events_are
good_text k name start moves (line ∷ lines) s name_is start_is moves_are events_are =
    good_line IsName 1 k (FromStart k) name start (moves ∷ line ∷ lines) (s.name.items, name_is)
    (good_line IsStart 2 k (FromMoves k) start moves (line ∷ lines) (s.start, start_is)
    (good_line AreMoves 3 k (IsBadEvent 4 k) moves line lines (s.moves.items, moves_are)
    (good_events 4 k (line ∷ lines) s.events.items events_are)))

pub spells_none : (text : List ℕ) (k : ℕ) (s : Schedule) → IsFirstBadScheduleLine text k → SpellsSchedule text s → ⊥
spells_none text k s bad spells =
    good_text k spells.name spells.start spells.moves spells.events s spells.name_is spells.start_is spells.moves_are spells.events_are
    (subst (λ lines. NeedsLine IsName 1 k (FromStart k) lines) spells.lines bad)

-- ---- one first line

one_event : (number j k : ℕ) (lines : List (List ℕ)) → IsBadEvent number j lines → IsBadEvent number k lines → j ≡ k
one_event number j k [] a b = absurd a
one_event number j k (last ∷ []) a b = a.0 ∙ sym b.0
one_event number j k (line ∷ next ∷ lines) a b =
    elim a [
      | inl here ↦ elim b [
        | inl there ↦ here.0 ∙ sym there.0
        | inr later ↦ absurd (here.1 later.0.0 later.0.1)
      ]
      | inr later ↦ elim b [
        | inl there ↦ absurd (there.1 later.0.0 later.0.1)
        | inr other ↦ one_event (suc number) j k (next ∷ lines) later.1 other.1
      ]
    ]

one_line : (IsGood : List ℕ → Type 0) (number j k : ℕ) (J K : List (List ℕ) → Type 0) (lines : List (List ℕ)) → ((later : List (List ℕ)) → J later → K later → j ≡ k) → NeedsLine IsGood number j J lines → NeedsLine IsGood number k K lines → j ≡ k
one_line IsGood number j k J K [] one a b = absurd a
one_line IsGood number j k J K (last ∷ []) one a b = a ∙ sym b
one_line IsGood number j k J K (line ∷ next ∷ lines) one a b =
    elim a [
      | inl here ↦ elim b [
        | inl there ↦ here.0 ∙ sym there.0
        | inr later ↦ absurd (here.1 later.0)
      ]
      | inr later ↦ elim b [
        | inl there ↦ absurd (there.1 later.0)
        | inr other ↦ one (next ∷ lines) later.1 other.1
      ]
    ]

pub one_first : (text : List ℕ) (j k : ℕ) → IsFirstBadScheduleLine text j → IsFirstBadScheduleLine text k → j ≡ k
one_first text j k =
    one_line IsName 1 j k (FromStart j) (FromStart k) (cut_at 10 text) (λ later.
    one_line IsStart 2 j k (FromMoves j) (FromMoves k) later (λ later.
    one_line AreMoves 3 j k (IsBadEvent 4 j) (IsBadEvent 4 k) later (one_event 4 j k)))

-- ---- what is at fault where the first lines are good

late_event : (number k : ℕ) (lines : List (List ℕ)) → IsBadEvent number k lines → number ≤ k
late_event number k [] bad = absurd bad
late_event number k (last ∷ []) bad = let e = bad.0 in omega (arith, e)
late_event number k (line ∷ next ∷ lines) bad =
    elim bad [
      | inl here ↦ let e = here.0 in omega (arith, e)
      | inr later ↦ let l = late_event (suc number) k (next ∷ lines) later.1 in omega (arith, l)
    ]

late_line : (IsGood : List ℕ → Type 0) (number k : ℕ) (Later : List (List ℕ) → Type 0) (lines : List (List ℕ)) → ((later : List (List ℕ)) → Later later → number ≤ k) → NeedsLine IsGood number k Later lines → number ≤ k
late_line IsGood number k Later [] late bad = absurd bad
late_line IsGood number k Later (last ∷ []) late bad = omega (arith, bad)
late_line IsGood number k Later (line ∷ next ∷ lines) late bad =
    elim bad [
      | inl here ↦ let e = here.0 in omega (arith, e)
      | inr later ↦ late (next ∷ lines) later.1
    ]

-- after a line that has to be there and is good
past_line : (IsGood : List ℕ → Type 0) (number k least : ℕ) (Later : List (List ℕ) → Type 0) (line : List ℕ) (lines : List (List ℕ)) → 1 ≤ length lines → IsGood line → (Later lines → least ≤ k) → NeedsLine IsGood number k Later (line ∷ lines) → least ≤ k
past_line IsGood number k least Later line [] some good late bad = absurd (omega (arith, some))
past_line IsGood number k least Later line (next ∷ lines) some good late bad =
    elim bad [
      | inl here ↦ absurd (here.1 good)
      | inr later ↦ late later.1
    ]

-- where the first two lines are good, none before the third is at fault
pub third_or_later : (text one rest two more name : List ℕ) (start : Parts) → cut_at 10 text ≡ one ∷ cut_at 10 rest → IsNameLine one name → cut_at 10 rest ≡ two ∷ cut_at 10 more → IsStartLine two start → (k : ℕ) → IsFirstBadScheduleLine text k → 3 ≤ k
third_or_later text one rest two more name start a n b s k bad =
    past_line IsName 1 k 3 (FromStart k) one (cut_at 10 rest) (has_piece 10 rest) (name, n)
    (λ bad. past_line IsStart 2 k 3 (FromMoves k) two (cut_at 10 more) (has_piece 10 more) (start, s)
    (λ bad. late_line AreMoves 3 k (IsBadEvent 4 k) (cut_at 10 more) (λ later bad. let l = late_event 4 k later bad in omega (arith, l)) bad)
    (subst (FromStart k) b bad))
    (subst (NeedsLine IsName 1 k (FromStart k)) a bad)

-- where the first two lines are good, and what is told next takes memory
pub takes_memory : (text one rest two more three last name : List ℕ) (start : Parts) → cut_at 10 text ≡ one ∷ cut_at 10 rest → IsNameLine one name → cut_at 10 rest ≡ two ∷ cut_at 10 more → IsStartLine two start → cut_at 10 more ≡ three ∷ cut_at 10 last
    → HasAnyMove three ⊎ (((tells : List Moves) × IsMovesLine three tells) × (TakesForFirst (cut_at 10 last) ⊎ ((tells : List Event) × AreEvents (cut_at 10 last) tells))) → ScheduleTakesMemory text
takes_memory text one rest two more three last name start a n b s d takes = record {
  name = one;
  start = two;
  moves = three;
  events = cut_at 10 last;
  lines = a ∙ ap (λ (ls : List (List ℕ)). one ∷ ls) (b ∙ ap (λ (ls : List (List ℕ)). two ∷ ls) d);
  name_is = (name, n);
  start_is = (start, s);
  takes = takes;
}
