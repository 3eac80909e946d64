-- A game that is followed ply by ply as its moves come.
use Rattle.std.proofs.Common.{◌≡◌, ◌∙◌, sym, ap, subst, refl, ◌⊎◌, inl, inr, ℕ, zero, suc, Bool, ◌+◌, ◌-◌, ◌^◌, ◌<◌, ◌≤◌, List, [], ◌∷◌, ◌++◌, length, Option, Some, None, append-nil, arith}
use Rattle.std.specs.Prelude.{slice_get, Ok, Err}
use Rattle.std.specs.List.{flat_map}
use Rattle.std.proofs.lemmas.List.{flat_map_more, map-append, take_all, take-append-le, length-append}
use Rattle.std.proofs.lemmas.Option.{same_Some}
use Rattle.board_core.specs.declared.moves.Move.{Move as Moves}
use Rattle.board_core.specs.declared.parts.Parts.{Parts}
use Rattle.board_core.specs.declared.verdict.Verdict.{Verdict}
use Rattle.board_core.specs.ComputedMoves.{position_after}
use Rattle.judge_core.specs.Games.{IsGoing, IsUnruled, Rules, position_after_all, verdict_after}
use Rattle.judge_core.specs.declared.game.GameOutcome.TheVariants as outcome
use Rattle.judge_core.specs.MoreTables.{HasAll}
use Rattle.judge_core.specs.Standings.{IsAt, Reached}
use Rattle.judge_core.specs.Tables.{Tables}
use Rattle.judge_core.proofs.Plies.{starts}
use Rattle.judge_core.proofs.WholeGames.{is_first_at_end, is_going_at_end}
use Rattle.line_events.proofs.LineLaws.{are_lines}
use Rattle.answer_parts.specs.Printing.{printed}
use Rattle.line_teller.specs.ToldLines.{AreRead}
use Rattle.line_teller.proofs.TellLaws.{are_read_more}
use Rattle.move_notation.specs.Notations.{AreMovesIn, Spells}
use Rattle.system_io.specs.declared.reading.ReadFault.{ReadFault}
use Rattle.system_io.specs.LineReaders.{ReadsLine}
use Rattle.timeline.proofs.EventLaws.{adds_none}
use Rattle.timeline.specs.Events.{Event, LineRead}
use Rattle.timeline.specs.Outsides.{AddsSome, Outside}
use Rattle.game_teller.specs.declared.following.FollowState.{FollowState}
use Rattle.game_teller.specs.declared.following.FollowedGame.{FollowedGame}
use Rattle.game_teller.specs.declared.following.Step.{Step}
use Rattle.game_teller.specs.declared.following.Step.TheVariants as step
use Rattle.game_teller.specs.declared.lines.Stop.{Stop}
use Rattle.game_teller.specs.declared.lines.Stop.TheVariants as stop
use Rattle.game_teller.specs.Followings.{ArePlyLines, ByAll, ComesTo, CountsNone, Follows, GoesOn, HasFollowed, IsPlyLine, LeadsTo, NamesIllegal, NamesNoMove, NeedsBadFile, NeedsMemory, NotBegun, Open, OpensInTurn, Ply, ReadsNone, ReadsNext, Ruled, Stopped, StopsAfter, Turn, goes_out, lines_printed, moves_read, ply_events, rules_by, stop_by, turn_events}
use Rattle.game_teller.specs.Inside.Steps.{AtEnd, GivesNone, HasBegun, HasTurned, IsNoNext, IsNoTurn, IsPrinted, IsRefused, IsStopped, NoRoom, PrintsPly, SpellsNext, TakesTurn, Turned, TurnsRead, Unread}
use Rattle.game_teller.specs.Judges.{IsLater, JudgeFacts, JudgesOn, StandsBy, by_set}
use Rattle.game_teller.specs.Plies.{ply_words, stop_words}
use Rattle.game_teller.proofs.NotationLaws.{goes_first, spelled_more, spelled_none}

-- no ply before the one after a further move has a verdict
pub none_before : (r : Rules) (moves : List Moves) (m : Moves) → IsGoing r moves → IsUnruled r (moves ++ m ∷ []) (length (moves ++ m ∷ []))
none_before r moves m going j low =
    let within : j < length moves + 1 = subst (λ n. j < n) (length-append moves (m ∷ [])) low in
    ap (verdict_after r) (take-append-le j moves (m ∷ []) (omega (arith, within))) ∙ going.unruled j within

-- the last of some lines, or one of those before
got_more : (lines : List (List ℕ)) (last : List ℕ) (ply : ℕ) (words : List ℕ) → slice_get (lines ++ last ∷ []) ply ≡ Some words → (slice_get lines ply ≡ Some words) ⊎ ((ply ≡ length lines) × (words ≡ last))
got_more [] last zero words e = inr (refl, let f : Some last ≡ Some words = e in cc)
got_more [] last (suc ply) words e = let f : None ≡ Some words = e in absurd cc
got_more (t ∷ lines) last zero words e = inl e
got_more (t ∷ lines) last (suc ply) words e = elim (got_more lines last ply words e) [
  | inl h ↦ inl h
  | inr h ↦ inr (ap suc h.0, h.1)
]

-- a line that is there stands among the lines
got_within : (lines : List (List ℕ)) (ply : ℕ) (words : List ℕ) → slice_get lines ply ≡ Some words → ply < length lines
got_within [] ply words e = let f : None ≡ Some words = e in absurd cc
got_within (t ∷ lines) zero words e = omega arith
got_within (t ∷ lines) (suc ply) words e = let h = got_within lines ply words e in omega (arith, h)

-- ---- judges

-- a judge that stays, and one after another
pub later_same : (facts : JudgeFacts) → IsLater facts facts
later_same facts = record {
  kept = λ kind key t has. has;
  is_by = λ tables h. h;
  back = λ tables h more. h;
  reads = λ old new p refused events h. h;
  takes_memory = λ p h. h;
  refuses = λ p refusal h. h;
}

pub later_more : (a b c : JudgeFacts) → IsLater a b → IsLater b c → IsLater a c
later_more a b c first next = record {
  kept = λ kind key t has. next.kept kind key t (first.kept kind key t has);
  is_by = λ tables h. first.is_by tables (next.is_by tables h);
  back = λ tables h more. next.back tables (first.back tables h (λ kind key t has. more kind key t (next.kept kind key t has))) more;
  reads = λ old new p refused events h. first.reads old new p refused events (next.reads old new p refused events h);
  takes_memory = λ p h. first.takes_memory p (next.takes_memory p h);
  refuses = λ p refusal h. first.refuses p refusal (next.refuses p refusal h);
}

pub set_later : (old new : Tables) → new ≡ old → IsLater (by_set old) (by_set new)
set_later old new same = subst (λ tables. IsLater (by_set old) (by_set tables)) (sym same) (later_same (by_set old))

-- by a set of tables that stays
pub set_reads : {T P F K S L : Type 0} (o : Outside T P F K S L) (a : T) (old new : Tables) → new ≡ old → AddsSome o a a (λ events. (new ≡ old) × (events ≡ []))
set_reads o a old new same = ([], adds_none o a, (same, refl))

pub set_begun : (old new : Tables) (start : Parts) (s : Reached) → new ≡ old → ((rules : Rules) → rules.start ≡ start → rules.tables ≡ old → IsAt rules [] s) → StandsBy (by_set new) start [] s
set_begun old new start s same at = record {
  there = refl;
  stands = λ delay. at (record { start = start; tables = new; delay = delay }) refl same;
  at = λ rules from by. at rules from (by ∙ same);
}

pub set_on : (old new : Tables) (s : Reached) (q : Parts) (t : Reached) → new ≡ old → ((rules : Rules) (moves : List Moves) (m : Moves) → rules.tables ≡ old → IsAt rules moves s → position_after s.position m ≡ Some q → IsAt rules (moves ++ m ∷ []) t) → JudgesOn (by_set old) (by_set new) s q t
set_on old new s q t same on start moves m stood legal = record {
  there = refl;
  stands = λ delay. subst (λ tables. IsAt (record { start = start; tables = tables; delay = delay }) (moves ++ m ∷ []) t) (sym same) (on (record { start = start; tables = old; delay = delay }) moves m refl (stood delay) legal);
  at = λ rules from by.
      let stood_by : IsAt (record { start = start; tables = rules.tables; delay = rules.delay }) moves s = subst (λ tables. IsAt (record { start = start; tables = tables; delay = rules.delay }) moves s) (sym (by ∙ same)) (stood rules.delay) in
      on rules moves m (by ∙ same) (subst (λ p. IsAt (record { start = p; tables = rules.tables; delay = rules.delay }) moves s) (sym from) stood_by) legal;
}

-- ---- plies

plies_more : (rules : Rules) (moves : List Moves) (m : Moves) (lines : List (List ℕ)) (last : List ℕ) → ArePlyLines rules moves lines → IsPlyLine rules (moves ++ m ∷ []) last → ArePlyLines rules (moves ++ m ∷ []) (lines ++ last ∷ [])
plies_more rules moves m lines last h one = record {
  count = length-append lines (last ∷ []) ∙ ap (λ n. n + 1) h.count ∙ ap (λ n. n + 1) (sym (length-append moves (m ∷ [])));
  each = λ ply words e. elim (got_more lines last ply words e) [
    | inl got ↦ (
        let low : ply < length moves + 1 = subst (λ n. ply < n) h.count (got_within lines ply words got) in
        subst (λ (ms : List Moves). IsPlyLine rules ms words) (sym (take-append-le ply moves (m ∷ []) (omega (arith, low)))) (h.each ply words got))
    | inr got ↦ (
        let many : length (moves ++ m ∷ []) ≤ ply = let a = got.0 in let b = h.count in let c = length-append moves (m ∷ []) in omega (arith, a, b, c) in
        subst (λ (ms : List Moves). IsPlyLine rules ms words) (sym (take_all ply (moves ++ m ∷ []) many)) (subst (IsPlyLine rules (moves ++ m ∷ [])) (sym got.1) one))
  ];
}

first_line : (rules : Rules) (s : Reached) (v : Option Verdict) → IsAt rules [] s → v ≡ verdict_after rules [] → ArePlyLines rules [] (ply_words 0 v s.position ∷ [])
first_line rules s v at is = record {
  count = refl;
  each = λ ply words e. elim (got_more [] (ply_words 0 v s.position) ply words e) [
    | inl got ↦ (let f : None ≡ Some words = got in absurd cc)
    | inr got ↦ subst (λ (ms : List Moves). IsPlyLine rules ms words) (sym (take_all ply [] (omega arith))) (s.position, at.position, got.1 ∙ ap (λ w. ply_words 0 w s.position) is)
  ];
}

-- the tables of a further ply
opens_more : (judge : JudgeFacts) (old : Tables) (p : Parts) (ply : Ply) (moves : List Moves) (turns : List Turn) (mid : Tables) → OpensInTurn judge old p ply moves turns mid
    → (at : Parts) → position_after_all p moves ≡ Some at → (m : Moves) (q : Parts) → position_after at m ≡ Some q → (last : Tables) (t : Turn) → judge.reads mid q last (Ok None) t.ply.reading → OpensInTurn judge old p ply (moves ++ m ∷ []) (turns ++ t ∷ []) last
opens_more judge old p ply [] [] mid h at there m q legal last t reads =
    let same : at ≡ p = same_Some at p (sym there ∙ starts p) in
    (mid, q, h, subst (λ r. position_after r m ≡ Some q) same legal, reads)
opens_more judge old p ply [] (u ∷ turns) mid h at there m q legal last t reads = absurd h
opens_more judge old p ply (n ∷ moves) [] mid h at there m q legal last t reads = absurd h
opens_more judge old p ply (n ∷ moves) (u ∷ turns) mid (next, r, first, played, rest) at there m q legal last t reads =
    (next, r, first, played, opens_more judge next r u.ply moves turns mid rest at (sym (goes_first p r n moves played) ∙ there) m q legal last t reads)

-- ---- a game so far

-- the plies to this one are printed, and none before it has a verdict; this is its verdict
pub record IsAtPly (game : FollowedGame) (judge now : JudgeFacts) (left rest : Option (List ℕ)) (at : FollowState) (v : Option Verdict) (events : List Event) : Type 0 where
  pub moves : List Moves
  pub has : HasFollowed game judge left rest moves now.opened events
  pub stands : now.stands game.start moves at.standing
  pub is_at : ByAll judge now.opened (λ tables. IsAt (rules_by game tables) moves at.standing)
  pub before : ByAll judge now.opened (λ tables. IsUnruled (rules_by game tables) moves (length moves))
  pub verdict : ByAll judge now.opened (λ tables. v ≡ verdict_after (rules_by game tables) moves)
  pub count : length moves ≡ at.ply
  pub notation : at.notation ≡ game.notation
  pub delay : at.delay ≡ game.delay

read_none : (left : Option (List ℕ)) → AreRead left [] left
unfolding AreRead
read_none left = refl

-- the start is printed
pub at_start : (game : FollowedGame) (judge now : JudgeFacts) (at : FollowState) (left : Option (List ℕ)) (reading printing : List Event) (is : Option (Option Verdict)) → IsLater judge now → HasBegun judge now game at reading → (p : PrintsPly at printing is)
    → IsAtPly game judge now left left at p.verdict (reading ++ printing)
at_start game judge now at left reading printing is later h p =
    let by : ByAll judge now.opened (λ tables. IsAt (rules_by game tables) [] at.standing) = λ tables is_by has. h.stands.at (rules_by game tables) refl (later.back tables is_by has) in
    let verdict : ByAll judge now.opened (λ tables. p.verdict ≡ verdict_after (rules_by game tables) []) = λ tables is_by has. p.stands (rules_by game tables) [] (sym h.delay) (by tables is_by has) in
    let words = ply_words at.ply p.verdict at.standing.position in
    let first : ply_words 0 p.verdict at.standing.position ≡ words = ap (λ n. ply_words n p.verdict at.standing.position) (sym h.ply) in
    record {
      moves = [];
      has = record {
        first = record { reading = reading; words = words };
        turns = [];
        read = are_lines left [] left (read_none left);
        spelled = spelled_none game.notation game.start;
        opens = h.reads;
        there = later.is_by now.opened h.stands.there;
        plies = λ tables is_by has. subst (λ (w : List ℕ). ArePlyLines (rules_by game tables) [] (w ∷ [])) first (first_line (rules_by game tables) at.standing p.verdict (by tables is_by has) (verdict tables is_by has));
        made = ap (λ (e : List Event). reading ++ e) p.made ∙ sym (append-nil (reading ++ goes_out words));
      };
      stands = h.stands.stands;
      is_at = by;
      before = λ tables is_by has j low. absurd (omega (arith, low));
      verdict = verdict;
      count = sym h.ply;
      notation = h.notation;
      delay = h.delay;
    }

module _ (game : FollowedGame) (judge was : JudgeFacts) (left rest : Option (List ℕ)) (old : FollowState) (before : List Event) where
  -- where no ply has a verdict
  going : (h : IsAtPly game judge was left rest old None before) (tables : Tables) → judge.is_by tables → HasAll was.opened tables → IsGoing (rules_by game tables) h.moves
  going h tables is_by has = is_going_at_end (rules_by game tables) h.moves old.standing (h.is_at tables is_by has) (h.before tables is_by has) (sym (h.verdict tables is_by has))

  -- the position of the last ply
  last_position : (h : IsAtPly game judge was left rest old None before) → position_after_all game.start h.moves ≡ Some old.standing.position
  last_position h = (h.is_at was.opened h.has.there (λ kind key t has. has)).position

  -- a further ply is printed
  pub at_next : (now : JudgeFacts) (new : FollowState) (next : Option (List ℕ)) (line : List ℕ) (had_come : Bool) (reading printing : List Event) (is : Option (Option Verdict)) → IsLater judge was → IsLater was now → IsAtPly game judge was left rest old None before
      → ReadsLine rest next line → HasTurned was now old line new reading → (p : PrintsPly new printing is)
      → IsAtPly game judge now left next new p.verdict (before ++ LineRead (Ok (Some line)) had_come ∷ (reading ++ printing))
  at_next now new next line had_come reading printing is first second h read t p =
      let later = later_more judge was now first second in
      let m = t.spelled.0 in
      let legal = t.spelled.2 in
      let all = h.moves ++ m ∷ [] in
      let stood = t.on game.start h.moves m h.stands legal in
      let wider : (tables : Tables) → HasAll now.opened tables → HasAll was.opened tables = λ tables has kind key x had. has kind key x (second.kept kind key x had) in
      let by : ByAll judge now.opened (λ tables. IsAt (rules_by game tables) all new.standing) = λ tables is_by has. stood.at (rules_by game tables) refl (later.back tables is_by has) in
      let verdict : ByAll judge now.opened (λ tables. p.verdict ≡ verdict_after (rules_by game tables) all) = λ tables is_by has. p.stands (rules_by game tables) all (sym (t.delay ∙ h.delay)) (by tables is_by has) in
      let many : length all ≡ new.ply = length-append h.moves (m ∷ []) ∙ ap (λ n. n + 1) h.count ∙ sym t.ply in
      let words = ply_words new.ply p.verdict new.standing.position in
      let turn : Turn = record { line = line; had_come = had_come; ply = record { reading = reading; words = words } } in
      let asked = map-append (λ (u : Turn). u.line) h.has.turns (turn ∷ []) in
      let shown = map-append (λ (u : Turn). u.ply.words) h.has.turns (turn ∷ []) in
      let one : (tables : Tables) → judge.is_by tables → HasAll now.opened tables → IsPlyLine (rules_by game tables) all words = λ tables is_by has. (
        new.standing.position,
        (by tables is_by has).position,
        ap (λ n. ply_words n p.verdict new.standing.position) (sym many) ∙ ap (λ v. ply_words (length all) v new.standing.position) (verdict tables is_by has),
      ) in
      record {
        moves = all;
        has = record {
          first = h.has.first;
          turns = h.has.turns ++ turn ∷ [];
          read = are_lines left (moves_read (h.has.turns ++ turn ∷ [])) next (subst (λ (ls : List (List ℕ)). AreRead left ls next) (sym asked) (are_read_more left rest next (moves_read h.has.turns) line h.has.read.read read));
          spelled = subst (λ (ls : List (List ℕ)). AreMovesIn game.notation game.start ls all) (sym asked) (spelled_more game.notation game.start old.standing.position t.position (moves_read h.has.turns) h.moves line m h.has.spelled (last_position h) (subst (λ n. Spells n old.standing.position line m) h.notation t.spelled.1) legal);
          opens = opens_more judge judge.opened game.start h.has.first h.moves h.has.turns was.opened h.has.opens old.standing.position (last_position h) m t.position legal now.opened turn (first.reads was.opened now.opened t.position (Ok None) reading t.reads);
          there = later.is_by now.opened stood.there;
          plies = λ tables is_by has. subst (λ (ls : List (List ℕ)). ArePlyLines (rules_by game tables) all (h.has.first.words ∷ ls)) (sym shown) (plies_more (rules_by game tables) h.moves m (lines_printed h.has.first h.has.turns) words (h.has.plies tables is_by (wider tables has)) (one tables is_by has));
          made =
              ap (λ (e : List Event). e ++ LineRead (Ok (Some line)) had_come ∷ (reading ++ printing)) h.has.made
              ∙ ap (λ (e : List Event). (ply_events h.has.first ++ flat_map turn_events h.has.turns) ++ LineRead (Ok (Some line)) had_come ∷ (reading ++ e)) p.made
              ∙ flat_map_more turn_events (ply_events h.has.first) h.has.turns turn;
        };
        stands = stood.stands;
        is_at = by;
        before = λ tables is_by has. none_before (rules_by game tables) h.moves m (going h tables is_by (wider tables has));
        verdict = verdict;
        count = many;
        notation = t.notation ∙ h.notation;
        delay = t.delay ∙ h.delay;
      }

-- ---- how far it came

-- the status where the last ply has this verdict, if any
abbrev pub goes : Option Verdict → Option ℕ
goes None = None
goes (Some v) = Some 0

pub upto : (game : FollowedGame) (judge now : JudgeFacts) (Stops : ReadFault → Type 0) (left rest : Option (List ℕ)) (at : FollowState) (v : Option Verdict) (events : List Event) → IsAtPly game judge now left rest at v events → Follows game judge Stops left events (goes v)
upto game judge now Stops left rest at None events h = GoesOn rest h.moves now.opened h.has (going game judge now left rest at events h) refl
upto game judge now Stops left rest at (Some w) events h =
    Ruled rest h.moves now.opened h.has w (λ tables is_by has. is_first_at_end (rules_by game tables) h.moves at.standing (h.is_at tables is_by has) (h.before tables is_by has) w (sym (h.verdict tables is_by has))) refl

-- the status of what came of a line
abbrev pub status_by : Option Step → Option ℕ
status_by (Some (step.Printed v)) = goes v
status_by (Some step.Ended) = Some 0
status_by (Some step.Stopped) = Some 1
status_by None = None

same_printed : (w v : Option Verdict) → Some (step.Printed v) ≡ Some (step.Printed w) → w ≡ v
same_printed w v e = cc

module _ (game : FollowedGame) (judge was now : JudgeFacts) (Now Stops : ReadFault → Type 0) (back : (fault : ReadFault) → Now fault → Stops fault) (left rest : Option (List ℕ)) (old : FollowState) (before : List Event) (first : IsLater judge was) (h : IsAtPly game judge was left rest old None before) where
  ends_here : ComesTo game judge h.moves was.opened outcome.Going
  ends_here = going game judge was left rest old before h

  -- a line is read next
  reads_next : (next : Option (List ℕ)) (line : List ℕ) → ReadsLine rest next line → ReadsNext game rest h.moves line old.standing.position
  reads_next next line read = record { after = next; read = read; at = last_position game judge was left rest old before h }

  in_game : (line : List ℕ) (m : Moves) → Spells old.notation old.standing.position line m → Spells game.notation old.standing.position line m
  in_game line m spelled = subst (λ n. Spells n old.standing.position line m) h.notation spelled

  leads_to : (next : Option (List ℕ)) (line : List ℕ) (q : Parts) → ReadsLine rest next line → SpellsNext old line q → LeadsTo game rest h.moves line q
  leads_to next line q read (m, spelled, legal) = (old.standing.position, m, reads_next next line read, in_game line m spelled, legal)

  no_next : (next : Option (List ℕ)) (line : List ℕ) (had_come : Bool) (why : Stop) → ReadsLine rest next line → IsNoNext old.notation old.standing.position old.ply line why → StopsAfter game judge Stops rest h.moves was.opened why (LineRead (Ok (Some line)) had_come ∷ [])
  no_next next line had_come (stop.NotAMove place) read (is, bad) =
      NamesNoMove line old.standing.position had_come (reads_next next line read) (λ m spelled. bad m (subst (λ n. Spells n old.standing.position line m) (sym h.notation) spelled)) (ap stop.NotAMove (is ∙ sym h.count)) refl
  no_next next line had_come (stop.Illegal place) read (is, (m, spelled, none)) =
      NamesIllegal line old.standing.position m had_come (reads_next next line read) (in_game line m spelled) none (ap stop.Illegal (is ∙ sym h.count)) refl
  no_next next line had_come (stop.BadFile refusal) read bad = absurd bad
  no_next next line had_come stop.Unread read bad = absurd bad
  no_next next line had_come stop.OutOfMemory read bad = absurd bad

  stops_at : (next : Option (List ℕ)) (line : List ℕ) (had_come : Bool) (why : Stop) (reading : List Event) → ReadsLine rest next line → IsNoTurn was now old line why reading → StopsAfter game judge Stops rest h.moves was.opened why (LineRead (Ok (Some line)) had_come ∷ reading)
  stops_at next line had_come why reading read (GivesNone bad none) =
      subst (λ (e : List Event). StopsAfter game judge Stops rest h.moves was.opened why (LineRead (Ok (Some line)) had_come ∷ e)) (sym none) (no_next next line had_come why read bad)
  stops_at next line had_come why reading read (IsRefused q refusal to reads refused is) =
      NeedsBadFile line q had_come reading now.opened refusal (leads_to next line q read to) (first.reads was.opened now.opened q (Ok (Some refusal)) reading reads) (first.refuses q refusal refused) is refl
  stops_at next line had_come why reading read (NoRoom q e to reads takes is) =
      NeedsMemory line q had_come reading now.opened e (leads_to next line q read to) (first.reads was.opened now.opened q (Err e) reading reads) (first.takes_memory q takes) is refl

  stopped : (why : Stop) (asking : List Event) → StopsAfter game judge Stops rest h.moves was.opened why asking → Follows game judge Stops left (before ++ (asking ++ printed (stop_words why ∷ []))) (Some 1)
  stopped why asking stops = Stopped rest h.moves was.opened before asking h.has ends_here why stops refl refl

  pub too_many : 2 ^ 64 - 1 ≤ length h.moves → Follows game judge Stops left (before ++ printed (stop_words stop.Unread ∷ [])) (Some 1)
  too_many many = stopped stop.Unread [] (CountsNone many refl refl)

  -- what came of a line that was read, and of the next line
  read_upto : (new : FollowState) (next : Option (List ℕ)) (line : List ℕ) (had_come : Bool) (then : List Event) (is : Option Step) → IsLater was now → ReadsLine rest next line → TurnsRead was now old line new then is → Follows game judge Stops left (before ++ LineRead (Ok (Some line)) had_come ∷ then) (status_by is)
  read_upto new next line had_come then is second read (IsPrinted reading printing v turned prints e s) =
      let more = upto game judge now Stops left next new prints.verdict (before ++ LineRead (Ok (Some line)) had_come ∷ (reading ++ printing)) (at_next game judge was left rest old before now new next line had_come reading printing (Some v) first second h read turned prints) in
      let same : prints.verdict ≡ v = same_Some prints.verdict v (sym prints.is_it) in
      subst (λ (x : Option Step). Follows game judge Stops left (before ++ LineRead (Ok (Some line)) had_come ∷ then) (status_by x)) (sym s) (
      subst (λ (l : List Event). Follows game judge Stops left (before ++ LineRead (Ok (Some line)) had_come ∷ l) (goes v)) (sym e) (
      subst (λ (w : Option Verdict). Follows game judge Stops left (before ++ LineRead (Ok (Some line)) had_come ∷ (reading ++ printing)) (goes w)) same more
      )
      )
  read_upto new next line had_come then is second read (IsStopped reading why bad e s) =
      subst (λ (x : Option Step). Follows game judge Stops left (before ++ LineRead (Ok (Some line)) had_come ∷ then) (status_by x)) (sym s) (
      subst (λ (l : List Event). Follows game judge Stops left (before ++ LineRead (Ok (Some line)) had_come ∷ l) (Some 1)) (sym e) (stopped why (LineRead (Ok (Some line)) had_come ∷ reading) (stops_at next line had_come why reading read bad))
      )

  pub turn_upto : (new : FollowState) (next : Option (List ℕ)) (last : List Event) (is : Option Step) → IsLater was now → TakesTurn was now old new Now rest next last is → Follows game judge Stops left (before ++ last) (status_by is)
  turn_upto new next last is second (Turned line had_come then read turns e) =
      subst (λ (l : List Event). Follows game judge Stops left (before ++ l) (status_by is)) (sym e) (read_upto new next line had_come then is second read turns)
  turn_upto new next last is second (AtEnd had_come end e s) =
      subst (λ (x : Option Step). Follows game judge Stops left (before ++ last) (status_by x)) (sym s) (Open rest h.moves was.opened before h.has ends_here end had_come (ap (λ (l : List Event). before ++ l) e) refl)
  turn_upto new next last is second (Unread fault had_come stops e s) =
      subst (λ (x : Option Step). Follows game judge Stops left (before ++ last) (status_by x)) (sym s) (
      subst (λ (l : List Event). Follows game judge Stops left (before ++ l) (Some 1)) (sym e) (stopped (stop_by fault) (LineRead (Err fault) had_come ∷ []) (ReadsNone fault had_come (back fault stops) refl refl))
      )

  -- a ply that was printed
  pub next_ply : (new : FollowState) (next : Option (List ℕ)) (last : List Event) (v : Option Verdict) → IsLater was now → TakesTurn was now old new Now rest next last (Some (step.Printed v)) → IsAtPly game judge now left next new v (before ++ last)
  next_ply new next last v second (Turned line had_come then read (IsPrinted reading printing w turned prints e s) e') =
      let at = at_next game judge was left rest old before now new next line had_come reading printing (Some w) first second h read turned prints in
      let same : prints.verdict ≡ v = same_Some prints.verdict w (sym prints.is_it) ∙ same_printed w v s in
      subst (λ (l : List Event). IsAtPly game judge now left next new v (before ++ l)) (sym e') (
      subst (λ (l : List Event). IsAtPly game judge now left next new v (before ++ LineRead (Ok (Some line)) had_come ∷ l)) (sym e) (
      subst (λ (x : Option Verdict). IsAtPly game judge now left next new x (before ++ LineRead (Ok (Some line)) had_come ∷ (reading ++ printing))) same at
      )
      )
  next_ply new next last v second (Turned line had_come then read (IsStopped reading why bad e s) e') = absurd cc
  next_ply new next last v second (AtEnd had_come end e s) = absurd cc
  next_ply new next last v second (Unread fault had_come stops e s) = absurd cc

-- ---- other reasons why lines stop

after_so : (game : FollowedGame) (judge : JudgeFacts) (Now Stops : ReadFault → Type 0) → ((fault : ReadFault) → Now fault → Stops fault) → (now : Option (List ℕ)) (moves : List Moves) (opened : Tables) (why : Stop) (events : List Event) → StopsAfter game judge Now now moves opened why events → StopsAfter game judge Stops now moves opened why events
after_so game judge Now Stops back now moves opened why events (NamesNoMove line p had_come next none is made) = NamesNoMove line p had_come next none is made
after_so game judge Now Stops back now moves opened why events (NamesIllegal line p m had_come next spelled none is made) = NamesIllegal line p m had_come next spelled none is made
after_so game judge Now Stops back now moves opened why events (NeedsBadFile line q had_come reading last refusal to reads refused is made) = NeedsBadFile line q had_come reading last refusal to reads refused is made
after_so game judge Now Stops back now moves opened why events (NeedsMemory line q had_come reading last refused to reads takes is made) = NeedsMemory line q had_come reading last refused to reads takes is made
after_so game judge Now Stops back now moves opened why events (ReadsNone fault had_come stops is made) = ReadsNone fault had_come (back fault stops) is made
after_so game judge Now Stops back now moves opened why events (CountsNone many is made) = CountsNone many is made

pub stops_so : (game : FollowedGame) (judge : JudgeFacts) (Now Stops : ReadFault → Type 0) → ((fault : ReadFault) → Now fault → Stops fault) → (left : Option (List ℕ)) (events : List Event) (status : Option ℕ) → Follows game judge Now left events status → Follows game judge Stops left events status
stops_so game judge Now Stops back left events status (Ruled now moves opened has v comes is) = Ruled now moves opened has v comes is
stops_so game judge Now Stops back left events status (Open now moves opened before has comes end had_come made is) = Open now moves opened before has comes end had_come made is
stops_so game judge Now Stops back left events status (Stopped now moves opened before asking has comes why stops made is) = Stopped now moves opened before asking has comes why (after_so game judge Now Stops back now moves opened why asking stops) made is
stops_so game judge Now Stops back left events status (NotBegun why reading none made is) = NotBegun why reading none made is
stops_so game judge Now Stops back left events status (GoesOn now moves opened has comes is) = GoesOn now moves opened has comes is
