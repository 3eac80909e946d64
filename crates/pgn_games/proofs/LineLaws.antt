-- The lines of a text, one after another.
use Rattle.std.proofs.Common.{◌≡◌, ◌≢◌, ◌∙◌, ℕ, ◌<◌, ◌≤◌, ◌++◌, Bool, true, false, List, [], ◌∷◌, length, drop, Option, Some, None, cond, refl, sym, ap, subst, arith, inl, inr, append_assoc, append-nil}
use Rattle.std.specs.Prelude.{◌⊎◌}
use Rattle.std.specs.List.{flat_map}
use Rattle.std.specs.Io.KnownBytes.{Consumes, IsAtEnd}
use Rattle.std.proofs.lemmas.List.{drop_all}
use Rattle.std.proofs.lemmas.List.Elements.{All-head, All-tail}
use Rattle.system_io.specs.LineReaders.{ReadsIfAny, ReadsLine}
use Rattle.pgn_games.specs.declared.cursor.Cursor.{Cursor}
use Rattle.pgn_games.specs.declared.lines.Taken.{Taken}
use Rattle.pgn_games.specs.declared.lines.Taken.TheVariants.{Line, LongLine, Nothing}
use Rattle.pgn_games.specs.Lines.{lines_of_text, onto_first_line, read_text, text_of_line}
use Rattle.pgn_games.specs.Reading.{IfKnown}
use Rattle.pgn_games.specs.Inside.Lines.{OneLine}
use Rattle.pgn_games.specs.Inside.Steps.{BeginsAs, BeginsLine, TakesText, rest_with}
use Rattle.pgn_games.proofs.TokenLaws.{differs}

pub lines_by : (x : ℕ) (t : List ℕ) → x ≢ 10 → lines_of_text (x ∷ t) ≡ onto_first_line x (lines_of_text t)
unfolding lines_of_text
lines_by x t other = ap (λ (b : Bool). cond b ([] ∷ lines_of_text t) (onto_first_line x (lines_of_text t))) (differs x 10 other)

pub lines_feed : (t : List ℕ) → lines_of_text (10 ∷ t) ≡ [] ∷ lines_of_text t
unfolding lines_of_text
lines_feed t = refl

pub lines_nil : lines_of_text [] ≡ []
unfolding lines_of_text
lines_nil = refl

-- a line and the lines behind it
line_then : (line ys : List ℕ) → OneLine line → lines_of_text (line ++ 10 ∷ ys) ≡ line ∷ lines_of_text ys
line_then [] ys one = lines_feed ys
line_then (x ∷ line) ys one =
    lines_by x (line ++ 10 ∷ ys) (All-head (λ b. b ≢ 10) x line one) ∙ ap (onto_first_line x) (line_then line ys (All-tail (λ b. b ≢ 10) x line one))

-- a last line without a line feed
last_line : (x : ℕ) (line : List ℕ) → OneLine (x ∷ line) → lines_of_text (x ∷ line) ≡ (x ∷ line) ∷ []
last_line x [] one = lines_by x [] (All-head (λ b. b ≢ 10) x [] one) ∙ ap (onto_first_line x) lines_nil
last_line x (y ∷ line) one =
    lines_by x (y ∷ line) (All-head (λ b. b ≢ 10) x (y ∷ line) one) ∙ ap (onto_first_line x) (last_line y line (All-tail (λ b. b ≢ 10) x (y ∷ line) one))

pub text_of_lines : List (List ℕ) → List ℕ
text_of_lines lines = flat_map (λ line. 10 ∷ text_of_line line) lines

pub text_is : (bytes : List ℕ) → read_text bytes ≡ text_of_lines (lines_of_text bytes)
unfolding read_text text_of_lines
text_is bytes = refl

pub text_cons : (line : List ℕ) (lines : List (List ℕ)) → text_of_lines (line ∷ lines) ≡ 10 ∷ (text_of_line line ++ text_of_lines lines)
unfolding text_of_lines
text_cons line lines = refl

pub text_none : text_of_lines [] ≡ []
unfolding text_of_lines
text_none = refl

pub text_nil : read_text [] ≡ []
unfolding read_text lines_of_text
text_nil = refl

text_then : (line ys : List ℕ) → OneLine line → read_text (line ++ 10 ∷ ys) ≡ 10 ∷ (text_of_line line ++ read_text ys)
text_then line ys one =
    text_is (line ++ 10 ∷ ys) ∙ ap text_of_lines (line_then line ys one) ∙ text_cons line (lines_of_text ys) ∙ ap (λ (t : List ℕ). 10 ∷ (text_of_line line ++ t)) (sym (text_is ys))

text_last : (line : List ℕ) → OneLine line → 0 < length line → read_text line ≡ 10 ∷ (text_of_line line ++ read_text [])
text_last [] one some = absurd (omega arith)
text_last (x ∷ line) one some =
    text_is (x ∷ line) ∙ ap text_of_lines (last_line x line one) ∙ text_cons (x ∷ line) [] ∙ ap (λ (t : List ℕ). 10 ∷ (text_of_line (x ∷ line) ++ t)) (sym (text_is [] ∙ ap text_of_lines lines_nil))

begins_text : (lines : List (List ℕ)) → BeginsLine (text_of_lines lines)
unfolding text_of_lines
begins_text [] = tt
begins_text (line ∷ lines) = refl

-- a text begins with a line feed, or is empty
pub begins : (bytes : List ℕ) → BeginsLine (read_text bytes)
begins bytes = subst BeginsLine (sym (text_is bytes)) (begins_text (lines_of_text bytes))

taken_by : (o n line piece : List ℕ) → o ≡ piece ++ n → OneLine line → (piece ≡ line ++ 10 ∷ []) ⊎ ((piece ≡ line) × (0 < length line) × (n ≡ [])) → read_text o ≡ 10 ∷ (text_of_line line ++ read_text n)
taken_by o n line piece e one (inl p) =
    ap read_text (e ∙ ap (λ (x : List ℕ). x ++ n) p ∙ append_assoc line (10 ∷ []) n) ∙ text_then line n one
taken_by o n line piece e one (inr p) =
    ap read_text (e ∙ ap (λ (x : List ℕ). x ++ n) p.0 ∙ ap (λ (x : List ℕ). line ++ x) p.2 ∙ append-nil line) ∙ text_last line one p.1 ∙ ap (λ (x : List ℕ). 10 ∷ (text_of_line line ++ read_text x)) (sym p.2)

-- a line that was read of a text
line_taken : (o n line : List ℕ) → ReadsLine (Some o) (Some n) line → read_text o ≡ 10 ∷ (text_of_line line ++ read_text n)
line_taken o n line h = taken_by o n line h.piece h.taken h.one h.is

at_end_of : (old : Cursor) (more : List ℕ) → length old.line.items ≤ old.place → rest_with old more ≡ more
at_end_of old more past = ap (λ (x : List ℕ). x ++ more) (drop_all old.place old.line.items past)

line_begun : (o n : List ℕ) (old new : Cursor) (line : List ℕ) → length old.line.items ≤ old.place → read_text o ≡ 10 ∷ (text_of_line line ++ read_text n) → (taken : Taken) → BeginsAs line old.number new taken → TakesText old new taken o n
line_begun o n old new line past text Line h =
    let shown : drop new.place new.line.items ≡ text_of_line line = ap (λ (k : ℕ). drop k new.line.items) h.2 ∙ h.0 in
    (at_end_of old (read_text o) past ∙ text ∙ ap (λ (x : List ℕ). 10 ∷ (x ++ read_text n)) (sym shown), h.1, h.2)
line_begun o n old new line past text LongLine h =
    let none : drop new.place new.line.items ≡ [] = ap (λ (k : ℕ). drop k new.line.items) h.3 ∙ ap (drop 1) h.1 in
    (at_end_of old (read_text o) past ∙ text ∙ ap (λ (x : List ℕ). 10 ∷ (x ++ read_text n)) h.0 ∙ ap (λ (x : List ℕ). 10 ∷ 256 ∷ (x ++ read_text n)) (sym none), h.2, h.3)
line_begun o n old new line past text Nothing h = absurd h

pub line_known : (left behind : Option (List ℕ)) (old new : Cursor) (line : List ℕ) (taken : Taken) (some : Bool) → some ≡ true → length old.line.items ≤ old.place → ReadsIfAny left behind line some → BeginsAs line old.number new taken → IfKnown left behind (TakesText old new taken)
line_known left behind old new line taken true e past h begun = at left behind h
  where
    at : (left behind : Option (List ℕ)) → ReadsLine left behind line → IfKnown left behind (TakesText old new taken)
    at None behind h = tt
    at (Some o) None h = h.taken
    at (Some o) (Some n) h = line_begun o n old new line past (line_taken o n line h) taken begun
line_known left behind old new line taken false e past h begun = absurd (cc)

end_of : (o n : List ℕ) (old : Cursor) (items : List ℕ) → length old.line.items ≤ old.place → items ≡ [] → o ≡ [] → o ≡ [] ++ n → (rest_with old (read_text o) ≡ []) × (drop old.place items ++ read_text n ≡ [])
end_of o n old items past none end same =
    let n_nil : n ≡ [] = sym same ∙ end in
    let shown : drop old.place items ≡ [] = drop_all old.place items (subst (λ (x : List ℕ). length x ≤ old.place) (sym none) (omega arith)) in
    (at_end_of old (read_text o) past ∙ ap read_text end ∙ text_nil, ap (λ (x : List ℕ). x ++ read_text n) shown ∙ ap read_text n_nil ∙ text_nil)

pub end_known : (left behind : Option (List ℕ)) (old : Cursor) (items : List ℕ) (some : Bool) (line : List ℕ) → some ≡ false → length old.line.items ≤ old.place → items ≡ [] → ReadsIfAny left behind line some → IfKnown left behind (λ o n. (rest_with old (read_text o) ≡ []) × (drop old.place items ++ read_text n ≡ []))
end_known left behind old items false line e past none h = at left behind h.0 h.1
  where
    at : (left behind : Option (List ℕ)) → IsAtEnd left → Consumes left behind [] → IfKnown left behind (λ o n. (rest_with old (read_text o) ≡ []) × (drop old.place items ++ read_text n ≡ []))
    at None behind end taken = tt
    at (Some o) None end taken = taken
    at (Some o) (Some n) end taken = end_of o n old items past none end taken
end_known left behind old items true line e past none h = absurd (cc)

pub one_if_any : (left behind : Option (List ℕ)) (line : List ℕ) (some : Bool) → some ≡ true → ReadsIfAny left behind line some → OneLine line
one_if_any left behind line true e h = h.one
one_if_any left behind line false e h = absurd (cc)
