-- What a log of changes remembers after one more line.
use Rattle.std.proofs.Common.{◌≡◌, ◌≢◌, ◌∙◌, ◌+◌, ◌<◌, ℕ, Bool, true, false, List, [], ◌∷◌, length, get_or, set, Option, Some, None, cond, arith, refl, sym, ap, subst, ⊎_elim}
use Rattle.std.specs.Prelude.{min, ◌&&◌, ◌==◌, is_none}
use Rattle.std.specs.Str.{bytes_eq}
use Rattle.std.proofs.lemmas.Bool.{cases_eq, eq-eqb}
use Rattle.std.proofs.lemmas.Bool.Decides.{Decides-eqb}
use Rattle.std.proofs.lemmas.List.{length-set, get_or-set_same, get_or-set_other}
use Rattle.std.proofs.lemmas.Slice.Eq.{bytes_eq-Decides}
use Rattle.std.specs.Int.{is_power_of_two}
use Rattle.move_msg.specs.TextLines.{ended}
use Rattle.arbiter_server.specs.declared.last_lines.LastLines.{LastLines}
use Rattle.arbiter_server.specs.declared.line_log.LineLog.{LineLog}
use Rattle.arbiter_server.specs.declared.line_log.LineLog.TheVariants as logs
use Rattle.arbiter_server.specs.declared.line_log.LogForm.{LogForm}
use Rattle.arbiter_server.specs.declared.line_log.LogForm.TheVariants as form
use Rattle.arbiter_server.specs.LineLogs.{PicksChange, PicksLine, Remembers, RemembersAll, form_of, is_line_kind, kind_count, last_at, line_kind, line_with_count, most, one_more_line, picked, picked_by, picked_text, remembered_place}
use Rattle.arbiter_server.specs.Remembering.{Remembered}

-- a number counted on, of which no more than the most is kept
more_kept : (n : ℕ) → one_more_line (min n most) ≡ min (n + 1) most
more_kept n = omega arith

differs : (a b : ℕ) → a ≢ b → (a == b) ≡ false
differs a b ne = by_test (a == b) refl where
  by_test : (t : Bool) → (a == b) ≡ t → (a == b) ≡ false
  by_test false e = e
  by_test true e = absurd (ne ((Decides-eqb a b).0 e))

-- ---- a line of a kind

module _ (kind : ℕ) (text : List ℕ) (before : List (List ℕ)) (is : line_kind text ≡ Some kind) where
  counts_one : kind_count kind (text ∷ before) ≡ kind_count kind before + 1
  unfolding kind_count
  counts_one = ap (λ (o : Option ℕ). cond (is_line_kind kind o) (kind_count kind before + 1) (kind_count kind before)) is ∙ ap (λ (t : Bool). cond t (kind_count kind before + 1) (kind_count kind before)) (eq-eqb kind kind refl)

  counts_no_other : (other : ℕ) → other ≢ kind → kind_count other (text ∷ before) ≡ kind_count other before
  unfolding kind_count
  counts_no_other other ne =
      ap (λ (o : Option ℕ). cond (is_line_kind other o) (kind_count other before + 1) (kind_count other before)) is
      ∙ ap (λ (t : Bool). cond t (kind_count other before + 1) (kind_count other before)) (differs kind other (λ e. ne (sym e)))

  stays_last : (place : ℕ) → last_at place (text ∷ before) ≡ last_at place before
  unfolding last_at
  stays_last place = ap (λ (o : Option ℕ). cond (is_none o && (remembered_place text == place)) text (last_at place before)) is

  pub remembers_kind : (old new : Remembered) → RemembersAll old before → kind < 8 → new.counts ≡ set old.counts kind (one_more_line (get_or old.counts kind 0)) → new.lasts ≡ old.lasts → RemembersAll new (text ∷ before)
  remembers_kind old new had few counts lasts =
      let size = had.kinds in
      record {
        kinds = ap (λ (l : List ℕ). length l) counts ∙ length-set old.counts kind _ ∙ had.kinds;
        places = ap (λ (l : List (List ℕ)). length l) lasts ∙ had.places;
        counts = λ other lt. ap (λ (l : List ℕ). get_or l other 0) counts ∙ ⊎_elim (λ (e : other ≡ kind).
            subst (λ (k : ℕ). get_or (set old.counts kind (one_more_line (get_or old.counts kind 0))) k 0 ≡ min (kind_count k (text ∷ before)) most) (sym e)
            (get_or-set_same old.counts kind (one_more_line (get_or old.counts kind 0)) 0 (omega (arith, size, few)) ∙ ap one_more_line (had.counts kind few) ∙ more_kept (kind_count kind before) ∙ ap (λ n. min n most) (sym counts_one)))
            (λ (ne : other ≢ kind). get_or-set_other old.counts kind other _ 0 ne ∙ had.counts other lt ∙ ap (λ n. min n most) (sym (counts_no_other other ne))) (cases_eq other kind);
        lasts = λ place lt. ap (λ (l : List (List ℕ)). get_or l place []) lasts ∙ had.lasts place lt ∙ sym (stays_last place);
      }

-- ---- a line of none

module _ (text : List ℕ) (before : List (List ℕ)) (none : line_kind text ≡ None) where
  counts_none : (kind : ℕ) → kind_count kind (text ∷ before) ≡ kind_count kind before
  unfolding kind_count
  counts_none kind = ap (λ (o : Option ℕ). cond (is_line_kind kind o) (kind_count kind before + 1) (kind_count kind before)) none

  is_last : last_at (remembered_place text) (text ∷ before) ≡ text
  unfolding last_at
  is_last =
      ap (λ (o : Option ℕ). cond (is_none o && (remembered_place text == remembered_place text)) text (last_at (remembered_place text) before)) none
      ∙ ap (λ (t : Bool). cond t text (last_at (remembered_place text) before)) (eq-eqb (remembered_place text) (remembered_place text) refl)

  is_no_other : (place : ℕ) → place ≢ remembered_place text → last_at place (text ∷ before) ≡ last_at place before
  unfolding last_at
  is_no_other place ne =
      ap (λ (o : Option ℕ). cond (is_none o && (remembered_place text == place)) text (last_at place before)) none
      ∙ ap (λ (t : Bool). cond t text (last_at place before)) (differs (remembered_place text) place (λ e. ne (sym e)))

  -- another line than the last of its place
  pub remembers_new : (old new : Remembered) → RemembersAll old before → remembered_place text < 65536 → new.counts ≡ old.counts → new.lasts ≡ set old.lasts (remembered_place text) text → RemembersAll new (text ∷ before)
  remembers_new old new had few counts lasts =
      let size = had.places in
      record {
        kinds = ap (λ (l : List ℕ). length l) counts ∙ had.kinds;
        places = ap (λ (l : List (List ℕ)). length l) lasts ∙ length-set old.lasts (remembered_place text) text ∙ had.places;
        counts = λ kind lt. ap (λ (l : List ℕ). get_or l kind 0) counts ∙ had.counts kind lt ∙ ap (λ n. min n most) (sym (counts_none kind));
        lasts = λ place lt. ap (λ (l : List (List ℕ)). get_or l place []) lasts ∙ ⊎_elim (λ (e : place ≡ remembered_place text).
            subst (λ (p : ℕ). get_or (set old.lasts (remembered_place text) text) p [] ≡ last_at p (text ∷ before)) (sym e) (get_or-set_same old.lasts (remembered_place text) text [] (omega (arith, size, few)) ∙ sym is_last))
            (λ (ne : place ≢ remembered_place text). get_or-set_other old.lasts (remembered_place text) place text [] ne ∙ had.lasts place lt ∙ sym (is_no_other place ne)) (cases_eq place (remembered_place text));
      }

  -- the last of its place again
  pub remembers_again : (old new : Remembered) → RemembersAll old before → remembered_place text < 65536 → new.counts ≡ old.counts → new.lasts ≡ old.lasts → get_or old.lasts (remembered_place text) [] ≡ text → RemembersAll new (text ∷ before)
  remembers_again old new had few counts lasts again =
      record {
        kinds = ap (λ (l : List ℕ). length l) counts ∙ had.kinds;
        places = ap (λ (l : List (List ℕ)). length l) lasts ∙ had.places;
        counts = λ kind lt. ap (λ (l : List ℕ). get_or l kind 0) counts ∙ had.counts kind lt ∙ ap (λ n. min n most) (sym (counts_none kind));
        lasts = λ place lt. ap (λ (l : List (List ℕ)). get_or l place []) lasts ∙ ⊎_elim (λ (e : place ≡ remembered_place text).
            subst (λ (p : ℕ). get_or old.lasts p [] ≡ last_at p (text ∷ before)) (sym e) (again ∙ sym is_last))
            (λ (ne : place ≢ remembered_place text). had.lasts place lt ∙ sym (is_no_other place ne)) (cases_eq place (remembered_place text));
      }

-- ---- what is remembered at first

-- nothing
pub remembers_none : (new : Remembered) → length new.counts ≡ 8 → length new.lasts ≡ 65536 → ((kind : ℕ) → kind < 8 → get_or new.counts kind 0 ≡ 0) → ((place : ℕ) → place < 65536 → get_or new.lasts place [] ≡ []) → RemembersAll new []
unfolding kind_count last_at
remembers_none new kinds places counts lasts = record { kinds = kinds; places = places; counts = counts; lasts = lasts }

-- ---- what is picked

text_of : (t : Bool) (line : List ℕ) → cond t (Some (ended line)) None ≡ picked_text (cond t (line ∷ []) [])
text_of true line = refl
text_of false line = refl

module _ (before : List (List ℕ)) (line text : List ℕ) (is : text ≡ ended line) (old new : Remembered) (had : RemembersAll old before) where
  -- of a line of a kind
  pub picks_counted : (kind n : ℕ) → line_kind text ≡ Some kind → kind < 8 → n ≡ one_more_line (get_or old.counts kind 0) → new.counts ≡ set old.counts kind n → new.lasts ≡ old.lasts
      → (t : Bool) → is_power_of_two n ≡ t → (got : Option (List ℕ)) → got ≡ cond t (Some (ended (line_with_count line n))) None → PicksChange before new line got
  picks_counted kind n of few count counts lasts t power got got_is =
      let same : line_kind (ended line) ≡ Some kind = subst (λ (x : List ℕ). line_kind x ≡ Some kind) is of in
      let counted_so : n ≡ one_more_line (min (kind_count kind before) most) = count ∙ ap one_more_line (had.counts kind few) in
      let picks : cond t (line_with_count line n ∷ []) [] ≡ picked form.Changes before line =
      ap (λ (b : Bool). cond b (line_with_count line n ∷ []) []) (sym power)
      ∙ ap (λ (m : ℕ). cond (is_power_of_two m) (line_with_count line m ∷ []) []) counted_so
      ∙ ap (picked_by before line) (sym same) in
      record {
        is = got_is ∙ text_of t (line_with_count line n) ∙ ap picked_text picks;
        after = subst (λ (x : List ℕ). RemembersAll new (x ∷ before)) is (remembers_kind kind text before of old new had few (counts ∙ ap (λ (m : ℕ). set old.counts kind m) count) lasts);
      }

  module _ (none : line_kind text ≡ None) (few : remembered_place text < 65536) (counts : new.counts ≡ old.counts) where
    picks_by : (t : Bool) → bytes_eq (get_or old.lasts (remembered_place text) []) text ≡ t → cond t [] (line ∷ []) ≡ picked form.Changes before line
    picks_by t test =
        ap (λ (b : Bool). cond b [] (line ∷ [])) (sym test)
        ∙ ap (λ (x : List ℕ). cond (bytes_eq x text) [] (line ∷ [])) (had.lasts (remembered_place text) few)
        ∙ ap (λ (x : List ℕ). cond (bytes_eq (last_at (remembered_place x) before) x) [] (line ∷ [])) is
        ∙ ap (picked_by before line) (sym (subst (λ (x : List ℕ). line_kind x ≡ None) is none))

    -- of a line that is the last of its place
    pub picks_again : new.lasts ≡ old.lasts → bytes_eq (get_or old.lasts (remembered_place text) []) text ≡ true → PicksChange before new line None
    picks_again lasts test = record {
      is = ap picked_text (picks_by true test);
      after = subst (λ (x : List ℕ). RemembersAll new (x ∷ before)) is (remembers_again text before none old new had few counts lasts ((bytes_eq-Decides (get_or old.lasts (remembered_place text) []) text).0 test));
    }

    -- of another one
    pub picks_other : new.lasts ≡ set old.lasts (remembered_place text) text → bytes_eq (get_or old.lasts (remembered_place text) []) text ≡ false → (got : List ℕ) → got ≡ text → PicksChange before new line (Some got)
    picks_other lasts test got got_is = record {
      is = ap Some (got_is ∙ is) ∙ ap picked_text (picks_by false test);
      after = subst (λ (x : List ℕ). RemembersAll new (x ∷ before)) is (remembers_new text before none old new had few counts lasts);
    }

-- by a log of changes
pub picks_by_change : (before : List (List ℕ)) (log : LineLog) (was now : LastLines) (line : List ℕ) (text : Option (List ℕ)) → log ≡ logs.Changes was → PicksChange before now line text → PicksLine before log (logs.Changes now) line text
picks_by_change before log was now line text is picks = record {
  is = picks.is ∙ ap (λ (f : LogForm). picked_text (picked f before line)) (sym (ap form_of is));
  after = picks.after;
  same = sym (ap form_of is);
}

-- a log of all picks each line, and one of nothing none
pub picks_all : (before : List (List ℕ)) (log : LineLog) (line text : List ℕ) → log ≡ logs.All → text ≡ ended line → PicksLine before log log line (Some text)
picks_all before log line text is same = record {
  is = ap Some same ∙ ap (λ (f : LogForm). picked_text (picked f before line)) (sym (ap form_of is));
  after = subst (λ (l : LineLog). Remembers l (ended line ∷ before)) (sym is) tt;
  same = refl;
}

pub picks_nothing : (before : List (List ℕ)) (log : LineLog) (line : List ℕ) → log ≡ logs.Nothing → PicksLine before log log line None
picks_nothing before log line is = record {
  is = ap (λ (f : LogForm). picked_text (picked f before line)) (sym (ap form_of is));
  after = subst (λ (l : LineLog). Remembers l (ended line ∷ before)) (sym is) tt;
  same = refl;
}
