-- A log of changes leaves out no line of a game that doesn't stand in it already.
use Rattle.std.proofs.Common.{◌≡◌, ℕ, Bool, true, false, List, [], ◌∷◌, ◌++◌, length, Option, None, cond, arith, inl, inr, refl, sym, ap, subst, ⊎_elim, append_assoc, length-append}
use Rattle.std.specs.Prelude.{◌⊎◌, ◌==◌, is_none}
use Rattle.std.specs.List.{Contains}
use Rattle.std.specs.Str.{bytes_eq}
use Rattle.std.proofs.lemmas.Bool.{and_parts}
use Rattle.std.proofs.lemmas.List.{same_from_push}
use Rattle.std.proofs.lemmas.List.Elements.{Contains-append_left, Contains-append_right, Contains-push}
use Rattle.std.proofs.lemmas.Slice.Eq.{bytes_eq-Decides}
use Rattle.arbiter_core.proofs.Reach.{none_from}
use Rattle.board_core.proofs.ComputedLists.{Contains-first}
use Rattle.move_msg.specs.TextLines.{ended}
use Rattle.arbiter_server.specs.declared.line_log.LogForm.TheVariants as form
use Rattle.arbiter_server.specs.LineLogs.{changes_after, is_at, last_at, line_kind, picked, picked_by, remembered_place}
use Rattle.arbiter_server.specs.ServedLines.{heard_words}
use Rattle.arbiter_server.specs.Told.{stamped}
use Rattle.arbiter_server.proofs.LogKinds.{kind_behind}
use Rattle.arbiter_server.specs.Laws.{ChangesHideNothing, VerdictsAreLogged}

same_line : (a b : List ℕ) → ended a ≡ ended b → a ≡ b
same_line a b e = (same_from_push a b 10 10 e).0

-- the last line of a place is the latest one or was so before
latest_or : (t : Bool) (text before wanted : List ℕ) → cond t text before ≡ wanted → ((t ≡ true) × (text ≡ wanted)) ⊎ (before ≡ wanted)
latest_or true text before wanted e = inl (refl, e)
latest_or false text before wanted e = inr e

is_game : (text : List ℕ) (place : ℕ) → is_at place text ≡ true → line_kind text ≡ None
is_game text place e = none_from (line_kind text) (and_parts (is_none (line_kind text)) (remembered_place text == place) e).0

-- what is picked of a line of a game has it, or it was the last of its place
module _ (before : List (List ℕ)) (line : List ℕ) (none : line_kind (ended line) ≡ None) where
  by_last : (t : Bool) → bytes_eq (last_at (remembered_place (ended line)) before) (ended line) ≡ t → Contains (cond t [] (line ∷ [])) line ⊎ (last_at (remembered_place (ended line)) before ≡ ended line)
  by_last true e = inr ((bytes_eq-Decides (last_at (remembered_place (ended line)) before) (ended line)).0 e)
  by_last false e = inl (Contains-push [] line)

  is_picked : Contains (picked form.Changes before line) line ⊎ (last_at (remembered_place (ended line)) before ≡ ended line)
  is_picked = subst (λ (o : Option ℕ). Contains (picked_by before line o) line ⊎ (last_at (remembered_place (ended line)) before ≡ ended line)) (sym none) (by_last _ refl)

-- these lines have each that is the last of its place
abbrev HasLasts : List (List ℕ) → List (List ℕ) → Type 0
HasLasts told before = (place : ℕ) (line : List ℕ) → last_at place before ≡ ended line → Contains told line

module _ (told before : List (List ℕ)) (has : HasLasts told before) (first : List ℕ) where
  first_in : line_kind (ended first) ≡ None → Contains (told ++ picked form.Changes before first) first
  first_in none =
      ⊎_elim (λ there. Contains-append_right told (picked form.Changes before first) first there)
      (λ (last : last_at (remembered_place (ended first)) before ≡ ended first). Contains-append_left told (picked form.Changes before first) first (has (remembered_place (ended first)) first last)) (is_picked before first none)

  has_more : HasLasts (told ++ picked form.Changes before first) (ended first ∷ before)
  unfolding last_at
  has_more place line e =
      ⊎_elim (λ (h : (is_at place (ended first) ≡ true) × (ended first ≡ ended line)).
      subst (Contains (told ++ picked form.Changes before first)) (same_line first line h.1) (first_in (is_game (ended first) place h.0)))
      (λ (was : last_at place before ≡ ended line). Contains-append_left told (picked form.Changes before first) line (has place line was)) (latest_or (is_at place (ended first)) (ended first) (last_at place before) (ended line) e)

keeps_each : (lines told before : List (List ℕ)) → HasLasts told before → (line : List ℕ) → Contains lines line → line_kind (ended line) ≡ None → Contains (told ++ changes_after before lines) line
unfolding changes_after
keeps_each [] told before has line there none = let lt = there.1 in absurd (omega (arith, lt))
keeps_each (first ∷ lines) told before has line there none =
    let one = picked form.Changes before first in
    let rest = changes_after (ended first ∷ before) lines in
    subst (λ (ls : List (List ℕ)). Contains ls line) (append_assoc told one rest)
    (⊎_elim (λ (is : first ≡ line). Contains-append_left (told ++ one) rest line (subst (Contains (told ++ one)) is (first_in told before has first (subst (λ (l : List ℕ). line_kind (ended l) ≡ None) (sym is) none))))
    (λ later. keeps_each lines (told ++ one) (ended first ∷ before) (has_more told before has first) line later none) (Contains-first first lines line there))

nothing_last : HasLasts [] []
unfolding last_at
nothing_last place line e = absurd (let size : length (ended line) ≡ 0 = ap length (sym e) in omega (arith, size, length-append line (10 ∷ [])))

pub hides_nothing : ChangesHideNothing
hides_nothing lines line there none = keeps_each lines [] [] nothing_last line there none

-- a line that tells a count and a verdict is of a game
pub verdicts_logged : VerdictsAreLogged
verdicts_logged lines stamp count verdict size there =
    hides_nothing lines (stamped stamp (heard_words count verdict)) there (kind_behind stamp (heard_words count verdict) size)
