-- What is printed ply by ply and what is told of the whole game are one.
use Rattle.std.proofs.Common.{◌≡◌, ◌∙◌, sym, ap, subst, refl, inl, inr, ℕ, zero, suc, ◌+◌, ◌<◌, Bool, List, [], ◌∷◌, ◌++◌, length, take, Option, Some, None, IsSome, is_some, append-nil, append_assoc, ◌⊎◌, arith}
use Rattle.std.specs.Prelude.{slice_get, Ok}
use Rattle.std.specs.List.{flat_map}
use Rattle.std.specs.Option.{option_and_then}
use Rattle.std.specs.Io.KnownBytes.{IsAtEnd}
use Rattle.std.proofs.lemmas.List.{length-append, length-take, length-take-le, take_all, take-append-le, take-take}
use Rattle.board_core.specs.ComputedMoves.{position_after}
use Rattle.board_core.specs.declared.moves.Move.{Move as Moves}
use Rattle.board_core.specs.declared.parts.Parts.{Parts}
use Rattle.board_core.specs.declared.verdict.Verdict.{Verdict}
use Rattle.judge_core.specs.declared.game.GameOutcome.{GameOutcome}
use Rattle.judge_core.specs.declared.game.GameOutcome.TheVariants as outcome
use Rattle.judge_core.specs.Games.{IsGoing, IsIllegalAt, IsOutcome, IsUnruled, Rules, position_after_all, verdict_after}
use Rattle.judge_core.specs.MoreTables.{HasAll}
use Rattle.judge_core.specs.Tables.{Tables}
use Rattle.judge_core.specs.Words.{outcome_words}
use Rattle.judge_core.proofs.InWords.{looks_back}
use Rattle.judge_core.proofs.OneOutcome.{one_outcome}
use Rattle.judge_core.proofs.Plies.{goes_on}
use Rattle.line_events.specs.LineEvents.{input_stops}
use Rattle.answer_parts.specs.Printing.{printed}
use Rattle.line_teller.proofs.TellLaws.{read_front, read_one, reads_the_text}
use Rattle.move_msg.specs.TextLines.{lines_in}
use Rattle.move_notation.specs.Laws.{NamesOneMove}
use Rattle.move_notation.specs.Notations.{AreMovesIn, Spells}
use Rattle.system_io.specs.Inputs.{InputFacts}
use Rattle.system_io.specs.LineReaders.{ReadsLine}
use Rattle.system_io.specs.declared.reading.ReadFault.{ReadFault}
use Rattle.system_io.specs.declared.reading.ReadFault.TheVariants as read
use Rattle.timeline.specs.Events.{Event, Flushed, LineRead}
use Rattle.timeline.specs.declared.stream.Stream.TheVariants.{Output}
use Rattle.game_teller.specs.declared.following.FollowedGame.{FollowedGame}
use Rattle.game_teller.specs.declared.lines.Stop.{Stop}
use Rattle.game_teller.specs.declared.lines.Stop.TheVariants as stop
use Rattle.game_teller.specs.Plies.{ply_words, stop_words}
use Rattle.game_teller.specs.Followings.{ArePlyLines, ByAll, ComesTo, CountsNone, Follows, GoesOn, HasFollowed, IsNotBegun, IsPlyLine, NamesIllegal, NamesNoMove, NeedsBadFile, NeedsMemory, NotBegun, Open, Ply, ReadsNext, ReadsNone, Ruled, StartNeedsBadFile, StartNeedsMemory, Stopped, StopsAfter, Turn, goes_out, lines_printed, moves_read, ply_events, rules_by, stop_by, turn_events}
use Rattle.game_teller.specs.Agreements.{EndsAsGame, EndsWithLine, FollowedAsGame, IsCutShort, IsLastLine, WritesNoMore}
use Rattle.game_teller.specs.Judges.{JudgeFacts}
use Rattle.game_teller.proofs.FollowLaws.{none_before}
use Rattle.game_teller.proofs.NotationLaws.{first_move, same_moves, split_moves}

-- the last line of a game so far
last_write : (first : Ply) (turns : List Turn) → (before : List Event) × (words : List ℕ) × (front : List (List ℕ)) × (ply_events first ++ flat_map turn_events turns ≡ before ++ goes_out words) × (lines_printed first turns ≡ front ++ words ∷ [])
last_write first [] = (first.reading, first.words, [], append-nil (ply_events first), refl)
last_write first (t ∷ turns) =
    let r = last_write t.ply turns in (
      ply_events first ++ LineRead (Ok (Some t.line)) t.had_come ∷ r.0,
      r.1,
      first.words ∷ r.2,
      ap (λ (e : List Event). ply_events first ++ LineRead (Ok (Some t.line)) t.had_come ∷ e) r.3 ∙ sym (append_assoc (ply_events first) (LineRead (Ok (Some t.line)) t.had_come ∷ r.0) (goes_out r.1)),
      ap (λ (ls : List (List ℕ)). first.words ∷ ls) r.4,
    )

-- the last of some lines stands at their end
got_last : (front : List (List ℕ)) (words : List ℕ) (n : ℕ) → length (front ++ words ∷ []) ≡ n + 1 → slice_get (front ++ words ∷ []) n ≡ Some words
got_last [] words zero e = refl
got_last [] words (suc n) e = absurd (omega (arith, e))
got_last (x ∷ front) words zero e = let many = length-append front (words ∷ []) in absurd (omega (arith, e, many))
got_last (x ∷ front) words (suc n) e = got_last front words n (omega (arith, e))

last_ply : (rules : Rules) (moves : List Moves) (lines front : List (List ℕ)) (words : List ℕ) → ArePlyLines rules moves lines → lines ≡ front ++ words ∷ [] → IsPlyLine rules moves words
last_ply rules moves lines front words h is =
    let got = got_last front words (length moves) (ap length (sym is) ∙ h.count) in
    subst (λ (ms : List Moves). IsPlyLine rules ms words) (take_all (length moves) moves (omega arith)) (h.each (length moves) words (subst (λ (ls : List (List ℕ)). slice_get ls (length moves) ≡ Some words) (sym is) got))

-- the outcome of moves of which one is illegal depends on the moves to that one alone
illegal_back : (r : Rules) (moves others : List Moves) (k : ℕ) → take (k + 1) moves ≡ take (k + 1) others → IsIllegalAt r moves k → IsIllegalAt r others k
illegal_back r moves others k same h =
    let lt = h.within in
    let front : take k moves ≡ take k others = sym (take-take k (k + 1) moves (omega arith)) ∙ ap (take k) same ∙ take-take k (k + 1) others (omega arith) in
    let upto : length (take (k + 1) others) ≡ k + 1 = ap length (sym same) ∙ length-take-le (k + 1) moves (omega (arith, lt)) in
    record {
      within = longer others upto;
      legal = subst (λ (ms : List Moves). IsSome (position_after_all r.start ms)) front h.legal;
      illegal = ap (position_after_all r.start) (sym same) ∙ h.illegal;
      unruled = λ j low. ap (verdict_after r) (sym (take-take j (k + 1) others (omega (arith, low))) ∙ ap (take j) (sym same) ∙ take-take j (k + 1) moves (omega (arith, low))) ∙ h.unruled j low;
    }
  where
    longer : (ms : List Moves) → length (take (k + 1) ms) ≡ k + 1 → k < length ms
    longer ms e = omega (arith, e, length-take k ms, length-take (k + 1) ms)

-- a move that isn't legal, after moves of which none has a verdict
illegal_at : (rules : Rules) (moves : List Moves) (p : Parts) (m : Moves) → IsGoing rules moves → position_after_all rules.start moves ≡ Some p → position_after p m ≡ None → IsIllegalAt rules (moves ++ m ∷ []) (length moves)
illegal_at rules moves p m going there none =
    let many = length-append moves (m ∷ []) in
    let before : take (length moves) (moves ++ m ∷ []) ≡ moves = take-append-le (length moves) moves (m ∷ []) (omega arith) ∙ take_all (length moves) moves (omega arith) in
    let all : take (length moves + 1) (moves ++ m ∷ []) ≡ moves ++ m ∷ [] = take_all (length moves + 1) (moves ++ m ∷ []) (omega (arith, many)) in
    let some : IsSome (position_after_all rules.start moves) = ap is_some there in
    record {
      within = omega (arith, many);
      legal = subst (λ (ms : List Moves). IsSome (position_after_all rules.start ms)) (sym before) some;
      illegal = ap (position_after_all rules.start) all ∙ goes_on rules.start moves m ∙ ap (option_and_then (λ q. position_after q m)) there ∙ none;
      unruled = subst (IsUnruled rules (moves ++ m ∷ [])) many (none_before rules moves m going);
    }

-- ---- the last line

module _ (rules : Rules) where
  by_ruled : (moves all : List Moves) (words : List ℕ) (o : GameOutcome) (more : List Moves) (v : Verdict) → IsPlyLine rules moves words → IsOutcome rules moves (outcome.Ruled (length moves) v) → all ≡ moves ++ more → IsOutcome rules all o → IsLastLine rules all o words
  by_ruled moves all words o more v last out is h =
      let whole : take (length moves) moves ≡ moves = take_all (length moves) moves (omega arith) in
      let same : take (length moves) moves ≡ take (length moves) all = sym (take-append-le (length moves) moves more (omega arith)) ∙ ap (take (length moves)) (sym is) in
      let there = looks_back rules moves all (length moves) v same out in
      let one_out : o ≡ outcome.Ruled (length moves) v = one_outcome rules all o (outcome.Ruled (length moves) v) h there in
      let verdict : verdict_after rules moves ≡ Some v = ap (verdict_after rules) (sym whole) ∙ out.ruled in
      let line : IsLastLine rules all (outcome.Ruled (length moves) v) words = (last.0, ap (position_after_all rules.start) (sym same ∙ whole) ∙ last.1, last.2 ∙ ap (λ w. ply_words (length moves) w last.0) verdict) in
      subst (λ x. IsLastLine rules all x words) (sym one_out) line

  by_end : (moves : List Moves) (words : List ℕ) (o : GameOutcome) → IsPlyLine rules moves words → IsOutcome rules moves outcome.Going → IsOutcome rules moves o → IsLastLine rules moves o words
  by_end moves words o last out h =
      let one_out : o ≡ outcome.Going = one_outcome rules moves o outcome.Going h out in
      let verdict : verdict_after rules moves ≡ None = ap (verdict_after rules) (sym (take_all (length moves) moves (omega arith))) ∙ out.unruled (length moves) (omega arith) in
      let line : IsLastLine rules moves outcome.Going words = (last.0, last.1, last.2 ∙ ap (λ w. ply_words (length moves) w last.0) verdict) in
      subst (λ x. IsLastLine rules moves x words) (sym one_out) line

  illegal_line : (all : List Moves) (place : ℕ) → IsLastLine rules all (outcome.Illegal place) (stop_words (stop.Illegal place))
  unfolding outcome_words
  illegal_line all place = refl

  by_illegal : (moves all : List Moves) (o : GameOutcome) (m : Moves) (others : List Moves) → IsOutcome rules (moves ++ m ∷ []) (outcome.Illegal (length moves)) → all ≡ moves ++ m ∷ others → IsOutcome rules all o → IsLastLine rules all o (stop_words (stop.Illegal (length moves)))
  by_illegal moves all o m others out is h =
      let place = length moves in
      let many = length-append moves (m ∷ []) in
      let apart : moves ++ m ∷ others ≡ (moves ++ m ∷ []) ++ others = sym (append_assoc moves (m ∷ []) others) in
      let same : take (place + 1) (moves ++ m ∷ []) ≡ take (place + 1) all = sym (take-append-le (place + 1) (moves ++ m ∷ []) others (omega (arith, many))) ∙ ap (take (place + 1)) (sym (is ∙ apart)) in
      let there = illegal_back rules (moves ++ m ∷ []) all place same out in
      let one_out : o ≡ outcome.Illegal place = one_outcome rules all o (outcome.Illegal place) h there in
      subst (λ x. IsLastLine rules all x (stop_words (stop.Illegal place))) (sym one_out) (illegal_line all place)

-- where it is cut short
cut_by_fault : (fault : ReadFault) (why : Stop) → why ≡ stop_by fault → IsCutShort (stop_words why)
cut_by_fault read.Unreadable why is = inl (ap stop_words is)
cut_by_fault read.OutOfMemory why is = inr (inl (ap stop_words is))

cut_at_start : (game : FollowedGame) (judge : JudgeFacts) (why : Stop) (events : List Event) → IsNotBegun game judge why events → IsCutShort (stop_words why)
cut_at_start game judge why events (StartNeedsBadFile last refusal reads refused is) = inr (inr (refusal, ap stop_words is))
cut_at_start game judge why events (StartNeedsMemory last refused reads takes is) = inr (inl (ap stop_words is))

ends_by_stop : (events before asking : List Event) (why : Stop) (IsLine : List ℕ → Type 0) → events ≡ before ++ (asking ++ printed (stop_words why ∷ [])) → IsLine (stop_words why) → EndsWithLine events IsLine
ends_by_stop events before asking why IsLine made is = record {
  before = before ++ asking;
  words = stop_words why;
  after = [];
  made = made ∙ sym (append_assoc before asking (printed (stop_words why ∷ [])));
  last = inl refl;
  is_line = is;
}

module _ (one : NamesOneMove) (game : FollowedGame) (judge : JudgeFacts) (Stops : ReadFault → Type 0) (text : List ℕ) where
  abbrev Ends : List Event → Type 0
  Ends events = EndsWithLine events IsCutShort ⊎ ((opened : Tables) × judge.is_by opened × ByAll judge opened (EndsAsGame game text events))

  module _ (now : Option (List ℕ)) (moves : List Moves) (opened : Tables) (before : List Event) (has : HasFollowed game judge (Some text) now moves opened before) where
    -- the last ply of some moves that is printed
    ply_ends : (events rest : List Event) (tables : Tables) (IsLine : List ℕ → Type 0) → events ≡ before ++ rest → WritesNoMore (Flushed Output ∷ rest) → judge.is_by tables → HasAll opened tables → ((words : List ℕ) → IsPlyLine (rules_by game tables) moves words → IsLine words) → EndsWithLine events IsLine
    ply_ends events rest tables IsLine made none by all is =
        let w = last_write has.first has.turns in record {
          before = w.0;
          words = w.1;
          after = Flushed Output ∷ rest;
          made = made ∙ ap (λ (e : List Event). e ++ rest) (has.made ∙ w.3) ∙ append_assoc w.0 (goes_out w.1) rest;
          last = none;
          is_line = is w.1 (last_ply (rules_by game tables) moves (lines_printed has.first has.turns) w.2 w.1 (has.plies tables by all) w.4);
        }

    -- what is left of the text
    rest_of : (rest : List ℕ) × (now ≡ Some rest) × (lines_in text ≡ moves_read has.turns ++ lines_in rest)
    rest_of = read_front text (moves_read has.turns) now has.read.read

    -- the moves of the lines that were read are the first moves of the text
    fronts : (at : Parts) → position_after_all game.start moves ≡ Some at → (all : List Moves) → AreMovesIn game.notation game.start (lines_in text) all → (more : List Moves) × (all ≡ moves ++ more) × AreMovesIn game.notation at (lines_in rest_of.0) more
    fronts at there all spelled = split_moves one game.notation game.start at (moves_read has.turns) (lines_in rest_of.0) moves all there has.spelled (subst (λ (ls : List (List ℕ)). AreMovesIn game.notation game.start ls all) rest_of.2 spelled)

    -- of a line that is read next the move is the next of the text
    next_move : (line : List ℕ) (p : Parts) (all : List Moves) → ReadsNext game now moves line p → AreMovesIn game.notation game.start (lines_in text) all → (m : Moves) × (others : List Moves) × (all ≡ moves ++ m ∷ others) × Spells game.notation p line m
    next_move line p all next spelled =
        let f = fronts p next.at all spelled in
        let taken = read_one rest_of.0 next.after line (subst (λ (x : Option (List ℕ)). ReadsLine x next.after line) rest_of.1 next.read) in
        let n = first_move game.notation p line (lines_in taken.0) f.0 (subst (λ (ls : List (List ℕ)). AreMovesIn game.notation p ls f.0) taken.2 f.2) in
        (n.0, n.1, f.1 ∙ ap (λ (ms : List Moves). moves ++ ms) n.2, n.3)

    ruled_ends : (verdict : Verdict) → ComesTo game judge moves opened (outcome.Ruled (length moves) verdict) → Ends before
    ruled_ends verdict comes = inr (
      opened,
      has.there,
      λ tables by all ms o spelled h.
          let w = last_write has.first has.turns in
          let last = last_ply (rules_by game tables) moves (lines_printed has.first has.turns) w.2 w.1 (has.plies tables by all) w.4 in
          let f = fronts last.0 last.1 ms spelled in
          ply_ends before [] tables (IsLastLine (rules_by game tables) ms o) (sym (append-nil before)) (inr (inl refl)) by all (λ words line. by_ruled (rules_by game tables) moves ms words o f.0 verdict line (comes tables by all) f.1 h),
    )

    open_ends : (events : List Event) (had_come : Bool) → ComesTo game judge moves opened outcome.Going → IsAtEnd now → events ≡ before ++ LineRead (Ok None) had_come ∷ [] → Ends events
    open_ends events had_come comes end made = inr (
      opened,
      has.there,
      λ tables by all ms o spelled h.
          let w = last_write has.first has.turns in
          let last = last_ply (rules_by game tables) moves (lines_printed has.first has.turns) w.2 w.1 (has.plies tables by all) w.4 in
          let lines = subst (λ (ls : List (List ℕ)). AreMovesIn game.notation game.start ls ms) (sym (reads_the_text text (moves_read has.turns) now has.read.read end)) spelled in
          let same : ms ≡ moves = same_moves one game.notation game.start last.0 (moves_read has.turns) moves ms last.1 has.spelled lines in
          subst (λ (x : List Moves). EndsWithLine events (IsLastLine (rules_by game tables) x o)) (sym same) (
          ply_ends events (LineRead (Ok None) had_come ∷ []) tables (IsLastLine (rules_by game tables) moves o) made (inr (inr (had_come, refl))) by all (λ words line. by_end (rules_by game tables) moves words o line (comes tables by all) (subst (λ (x : List Moves). IsOutcome (rules_by game tables) x o) same h))
          ),
    )

    stop_ends : (events asking : List Event) (why : Stop) → ComesTo game judge moves opened outcome.Going → StopsAfter game judge Stops now moves opened why asking → events ≡ before ++ (asking ++ printed (stop_words why ∷ [])) → Ends events
    stop_ends events asking why comes (NamesNoMove line p had_come next none is read) made = inr (
      opened,
      has.there,
      λ tables by all ms o spelled h.
          let n = next_move line p ms next spelled in absurd (none n.0 n.3),
    )
    stop_ends events asking why comes (NamesIllegal line p m had_come next named none is read) made = inr (
      opened,
      has.there,
      λ tables by all ms o spelled h.
          let n = next_move line p ms next spelled in
          let same : n.0 ≡ m = one game.notation p line n.0 m n.3 named in
          let whole : ms ≡ moves ++ m ∷ n.1 = n.2 ∙ ap (λ (x : Moves). moves ++ x ∷ n.1) same in
          let line_is = by_illegal (rules_by game tables) moves ms o m n.1 (illegal_at (rules_by game tables) moves p m (comes tables by all) next.at none) whole h in
          ends_by_stop events before asking why (IsLastLine (rules_by game tables) ms o) made (subst (λ (x : Stop). IsLastLine (rules_by game tables) ms o (stop_words x)) (sym is) line_is),
    )
    stop_ends events asking why comes (NeedsBadFile line q had_come reading last refusal to reads refused is read) made = inl (ends_by_stop events before asking why IsCutShort made (inr (inr (refusal, ap stop_words is))))
    stop_ends events asking why comes (NeedsMemory line q had_come reading last refused to reads takes is read) made = inl (ends_by_stop events before asking why IsCutShort made (inr (inl (ap stop_words is))))
    stop_ends events asking why comes (ReadsNone fault had_come stops is read) made = inl (ends_by_stop events before asking why IsCutShort made (cut_by_fault fault why is))
    stop_ends events asking why comes (CountsNone many is read) made = inl (ends_by_stop events before asking why IsCutShort made (inl (ap stop_words is)))

  follows_as_game : (events : List Event) (status : ℕ) → Follows game judge Stops (Some text) events (Some status) → Ends events
  follows_as_game events status (Ruled now moves opened has verdict comes is) = ruled_ends now moves opened events has verdict comes
  follows_as_game events status (Open now moves opened before has comes end had_come made is) = open_ends now moves opened before has events had_come comes end made
  follows_as_game events status (Stopped now moves opened before asking has comes why stops made is) = stop_ends now moves opened before has events asking why comes stops made
  follows_as_game events status (NotBegun why reading none made is) = inl (ends_by_stop events [] reading why IsCutShort made (cut_at_start game judge why reading none))
  follows_as_game events status (GoesOn now moves opened has comes is) = absurd cc

pub followed_as_game : NamesOneMove → (judge : JudgeFacts) (input : InputFacts) → FollowedAsGame judge input
followed_as_game one judge input = λ game text events status h. follows_as_game one game judge (input_stops input) text events status h
