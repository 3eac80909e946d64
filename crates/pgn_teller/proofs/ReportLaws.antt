-- Games that are reported in turn, as events.
use Rattle.std.proofs.Common.{◌≡◌, ◌∙◌, ◌++◌, ◌==◌, ◌∷◌, [], ℕ, Bool, true, false, List, Option, Some, None, ap, append_assoc, inl, inr, refl, subst, sym}
use Rattle.std.specs.Prelude.{Result, Ok, Err, IfOk, if◌then◌else◌, option_map}
use Rattle.std.specs.declared.alloc.AllocError.{AllocError}
use Rattle.answer_parts.proofs.PrintLaws.{Front, Whole, cut_behind, cuts_one, does_so, then_does, writes_one}
use Rattle.answer_parts.specs.Printing.{AtFlush, AtWrite, IsCutIn, Performs, Prints, printed}
use Rattle.judge_core.specs.Tables.{Tables}
use Rattle.line_teller.specs.ToldLines.{cut_words, refused_memory}
use Rattle.move_msg.specs.TextLines.{ended}
use Rattle.pgn_games.proofs.LineReadLaws.{no_lines}
use Rattle.pgn_games.specs.declared.fault.GameFault.{GameFault}
use Rattle.pgn_games.specs.Games.{FaultRead, GameRead, GameTold, ReadingTold, ReadsGame}
use Rattle.pgn_games.specs.LineReads.{FailsToRead, NoRoomForLines, ReadsLines}
use Rattle.pgn_games.specs.Lines.{one_more}
use Rattle.pgn_games.specs.Reading.{IfKnown, tokens_left}
use Rattle.pgn_games.specs.Tokens.{Token, tokens_of}
use Rattle.pgn_games.specs.declared.reader.PgnReader.{PgnReader}
use Rattle.system_io.specs.declared.output.WriteFault.{WriteFault}
use Rattle.system_io.specs.declared.reading.ReadFault.{ReadFault}
use Rattle.system_io.specs.declared.reading.ReadFault.TheVariants.{OutOfMemory, Unreadable}
use Rattle.timeline.proofs.EventLaws.{adds_more, adds_none}
use Rattle.timeline.specs.Events.{Event, Flushed, Refused, Wrote, by_result}
use Rattle.timeline.specs.Outsides.{Adds, AddsSome, Outside}
use Rattle.timeline.specs.declared.stream.Stream.TheVariants.{Output}
use Rattle.pgn_teller.specs.declared.game_line.Form.{Form}
use Rattle.pgn_teller.specs.declared.reporting.GameText.{GameText}
use Rattle.pgn_teller.specs.declared.reporting.Step.{Step}
use Rattle.pgn_teller.specs.declared.reporting.Step.TheVariants as step
use Rattle.pgn_teller.specs.declared.sums.Mark.{Mark}
use Rattle.pgn_teller.specs.declared.sums.Sums.{Sums}
use Rattle.pgn_teller.specs.Inside.Steps.{GoesOut, IsCut, IsEnded, IsReported, IsTextOf, LineOf, MakesText, NoLine, ReportsNext, ReportsReading, WritesLast, WritesText, stage_of, text_out}
use Rattle.pgn_teller.specs.Ratings.{Ruling, RulingTold, RulesBy, RulesNoMore}
use Rattle.pgn_teller.specs.Reports.{AllReported, AreReported, GamesAlone, IsPgnLine, Line, NoRoomForLine, NoneYet, NotRead, OneMore, PrintsSums, ReadsNext, ReadsTables, ReportsGame, ReportsGames, ReportsPgn, Stage, SomeSoFar, StopsAt, StopsShort, Terms, Turn, WithSums, WithoutSums, begun, counted, gone_out, is_written, line_out, no_sums, pgn_sums_line, ruled_line, turn_events, unread_line}

-- what is written of a line
shown : (only by : Bool) (l : Line) (g : GameText) → only ≡ by → IsTextOf l g → text_out only g ≡ line_out by l
shown only by l g same is =
    ap (λ (o : Bool). if is_written o g.mark then gone_out g.text.items else []) same ∙ ap (λ (m : Mark). if is_written by m then gone_out g.text.items else []) is.1
    ∙ ap (λ (text : List ℕ). if is_written by l.mark then gone_out text else []) is.0

-- a reader of which nothing is read yet
pub begun_so : {K : Type 0} (bytes : Option (List ℕ)) (k : K) (reader : PgnReader) → tokens_left bytes reader ≡ option_map tokens_of bytes → stage_of bytes reader k ≡ begun bytes k
begun_so {K} bytes k reader is = subst (λ (tokens : Option (List Token)). ◌≡◌ {A = Stage K} (record { bytes = bytes; tokens = tokens_left bytes reader; known = k }) (record { bytes = bytes; tokens = tokens; known = k })) is refl

-- ---- another name for the same

stops_so : {K : Type 0} (Rules : Ruling K) (F G : Type 0) (at : Stage K) (words : List ℕ) (events : List Event) → (F → G) → StopsAt Rules F at words events → StopsAt Rules G at words events
stops_so Rules F G at words events back (NotRead fault cause fails is) = NotRead fault (λ e. back (cause e)) fails is
stops_so Rules F G at words events back (NoRoomForLine reading now lines tables reads for_line is e) = NoRoomForLine reading now lines tables reads for_line is e

-- rules that stay
pub rules_same : {K : Type 0} (Rules : Ruling K) → RulesNoMore Rules Rules
rules_same Rules k next game ruling events h = h

pub rules_more : {K : Type 0} (First Later Next : Ruling K) → RulesNoMore First Later → RulesNoMore Later Next → RulesNoMore First Next
rules_more First Later Next p q k next game ruling events h = p k next game ruling events (q k next game ruling events h)

pub rules_by : (d e : ℕ) (t u : Tables) → e ≡ d → u ≡ t → RulesNoMore (RulesBy d t) (RulesBy e u)
rules_by d e t u delay tables k next game ruling events h =
    subst (λ (n : ℕ). RulesBy n t k next game ruling events) delay (subst (λ (s : Tables). RulesBy e s k next game ruling events) tables h)

module _ {K : Type 0} (Rules Now : Ruling K) (so : RulesNoMore Rules Now) where
  line_so : (k next : K) (t : Terms) (number : ℕ) (reading : ReadingTold) (tables : List Event) (l : Line) → IsPgnLine Now k next t number reading tables l → IsPgnLine Rules k next t number reading tables l
  line_so k next t number (GameRead game) tables l (ruling, ruled, is) = (ruling, so k next game (Ok ruling) tables ruled, is)
  line_so k next t number (FaultRead fault) tables l h = h

  tables_so : (k : K) (reading : ReadingTold) (tables : List Event) → ReadsTables Now k reading tables → ReadsTables Rules k reading tables
  tables_so k (GameRead game) tables (next, ruling, ruled) = (next, ruling, so k next game ruling tables ruled)
  tables_so k (FaultRead fault) tables h = h

  stops_by : (F G : Type 0) (at : Stage K) (words : List ℕ) (events : List Event) → (F → G) → StopsAt Now F at words events → StopsAt Rules G at words events
  stops_by F G at words events back (NotRead fault cause fails is) = NotRead fault (λ e. back (cause e)) fails is
  stops_by F G at words events back (NoRoomForLine reading now lines tables reads for_line is e) = NoRoomForLine reading now lines tables reads (tables_so at.known reading tables for_line) is e

  next_so : (t : Terms) (F G : Type 0) (number : ℕ) (at now : Stage K) (events : List Event) (is : Option Step) → (F → G) → ReportsNext Now t F number at now events is → ReportsNext Rules t G number at now events is
  next_so t F G number at now events is back (IsReported g reports e s) =
      IsReported g (record { reads = reports.reads; line = line_so at.known now.known t number g.reading g.tables g.line reports.line }) e s
  next_so t F G number at now events is back (IsEnded reads s) = IsEnded reads s
  next_so t F G number at now events is back (IsCut words last stops e s) = IsCut words last (stops_by F G at words last back stops) e s

pgn_so : {K : Type 0} (Rules : Ruling K) (t : Terms) (F G : Type 0) (first : Stage K) (events : List Event) (is : Option (Option Sums)) → (F → G) → ReportsGames Rules t F first events is → ReportsGames Rules t G first events is
pgn_so Rules t F G first events is back (AllReported sums at now before last are none e s) = AllReported sums at now before last are none e s
pgn_so Rules t F G first events is back (StopsShort sums at before last words are stops e s) = StopsShort sums at before last words are (stops_so Rules F G at words last back stops) e s
pgn_so Rules t F G first events is back (SomeSoFar sums at are s) = SomeSoFar sums at are s

-- lines that fail only where what they are of does
pub pgn_back : {K : Type 0} (Rules : Ruling K) (t : Terms) (F G : Type 0) (first : Stage K) (events : List Event) (well : Option Bool) → (F → G) → ReportsPgn Rules t F first events well → ReportsPgn Rules t G first events well
pgn_back Rules t F G first events well back (WithSums sums games ends are prints e) = WithSums sums games ends (pgn_so Rules t F G first games (Some (Some sums)) back are) prints e
pgn_back Rules t F G first events well back (WithoutSums are s) = WithoutSums (pgn_so Rules t F G first events (Some None) back are) s
pgn_back Rules t F G first events well back (GamesAlone is are s) = GamesAlone is (pgn_so Rules t F G first events is back are) s

-- ---- what came of the next game

next_turn : {K : Type 0} (Rules : Ruling K) (t : Terms) (F : Type 0) (number : ℕ) (at now : Stage K) (events : List Event) (m : Mark) → ReportsNext Rules t F number at now events (Some (step.Reported m))
    → (g : Turn) × ReportsGame Rules t number at now g × (events ≡ turn_events t g) × (m ≡ g.line.mark)
next_turn Rules t F number at now events m (IsReported g reports e s) = (g, reports, e, cc)
next_turn Rules t F number at now events m (IsEnded reads s) = absurd cc
next_turn Rules t F number at now events m (IsCut words last stops e s) = absurd cc

next_ended : {K : Type 0} (Rules : Ruling K) (t : Terms) (F : Type 0) (number : ℕ) (at now : Stage K) (events : List Event) → ReportsNext Rules t F number at now events (Some step.Ended) → ReadsNext at now None events
next_ended Rules t F number at now events (IsReported g reports e s) = absurd cc
next_ended Rules t F number at now events (IsEnded reads s) = reads
next_ended Rules t F number at now events (IsCut words last stops e s) = absurd cc

next_cut : {K : Type 0} (Rules : Ruling K) (t : Terms) (F : Type 0) (number : ℕ) (at now : Stage K) (events : List Event) → ReportsNext Rules t F number at now events (Some step.Cut) → (words : List ℕ) × (last : List Event) × StopsAt Rules F at words last × (events ≡ last ++ printed (words ∷ []))
next_cut Rules t F number at now events (IsReported g reports e s) = absurd cc
next_cut Rules t F number at now events (IsEnded reads s) = absurd cc
next_cut Rules t F number at now events (IsCut words last stops e s) = (words, last, stops, e)

module _ {K : Type 0} (Rules : Ruling K) (t : Terms) (F : Type 0) (first : Stage K) where
  one_reported : (s sums : Sums) (number : ℕ) (mid at : Stage K) (before events : List Event) (g : Turn) → number ≡ one_more s.games → sums ≡ counted s g.line.mark → AreReported Rules t first s mid before → ReportsGame Rules t number mid at g → events ≡ turn_events t g
      → AreReported Rules t first sums at (before ++ events)
  one_reported s sums number mid at before events g nth counts h reports e =
      OneMore s mid before h g sums at (before ++ events) (subst (λ (n : ℕ). ReportsGame Rules t n mid at g) nth reports) counts (ap (λ (l : List Event). before ++ l) e)

  -- the games before, and what came of the next
  upto : (s : Sums) (number : ℕ) (mid at : Stage K) (before events : List Event) (is : Option Step) → number ≡ one_more s.games → AreReported Rules t first s mid before → ReportsNext Rules t F number mid at events is
      → (w : Option (Option Sums)) × ReportsGames Rules t F first (before ++ events) w
  upto s number mid at before events is nth h (IsReported g reports e i) =
      (None, SomeSoFar (counted s g.line.mark) at (one_reported s (counted s g.line.mark) number mid at before events g nth refl h reports e) refl)
  upto s number mid at before events is nth h (IsEnded reads i) = (Some (Some s), AllReported s mid at before events h reads refl refl)
  upto s number mid at before events is nth h (IsCut words last stops e i) = (Some None, StopsShort s mid before last words h stops (ap (λ (l : List Event). before ++ l) e) refl)

  -- no more can be counted
  too_many : (s : Sums) (at : Stage K) (before events : List Event) (is : Option Step) → AreReported Rules t first s at before → Prints (refused_memory ∷ []) step.Cut events is → ReportsGames Rules t F first (before ++ events) (Some None)
  too_many s at before events is h p =
      StopsShort s at before [] refused_memory h (NotRead OutOfMemory (λ e. absurd cc) (NoRoomForLines at.bytes (no_lines at.bytes) refl) refl) (ap (λ (l : List Event). before ++ l) p.0) refl

module _ {T P F K S L : Type 0} (o : Outside T P F K S L) where
  -- ---- one text

  pub gone : (a b c : T) (text : List ℕ) (f : Result (Unit {0}) WriteFault) → AddsSome o a b (Whole text) → Adds o b c (by_result f (λ _. Flushed Output) (Refused Output) ∷ []) → AddsSome o a c (Performs (GoesOut text) f)
  gone a b c text (Ok x) p q = (p.0 ++ Flushed Output ∷ [], adds_more o a b c p.0 _ p.1 q, ap (λ (e : List Event). e ++ Flushed Output ∷ []) p.2)
  gone a b c text (Err f) p q = (
    p.0 ++ Refused Output ∷ [],
    adds_more o a b c p.0 _ p.1 q,
    (gone_out text, None, refl, AtFlush (Wrote Output text ∷ []) [] refl (ap (λ (e : List Event). e ++ Refused Output ∷ []) p.2)),
  )

  pub lost : (a b : T) (text : List ℕ) (f : WriteFault) → AddsSome o a b (Front text) → AddsSome o a b (Performs (GoesOut text) (Err f))
  lost a b text f q = (q.0, q.1, (gone_out text, None, refl, AtWrite [] text (Flushed Output ∷ []) refl q.2.0 q.2.1))

  out_is : (only : Bool) (g : GameText) (written : Bool) → written ≡ is_written only g.mark → (if written then gone_out g.text.items else []) ≡ text_out only g
  out_is only g written is = ap (λ (w : Bool). if w then gone_out g.text.items else []) is

  pub not_written : (a : T) (only : Bool) (g : GameText) (written : Bool) → written ≡ is_written only g.mark → written ≡ false → AddsSome o a a (Performs (WritesText only g) (Ok (step.Reported g.mark)))
  not_written a only g true is so = absurd cc
  not_written a only g false is so = ([], adds_none o a, (out_is only g false is, refl))

  pub line_gone : (a b : T) (only : Bool) (g : GameText) (written : Bool) (x : Unit {0}) → written ≡ is_written only g.mark → written ≡ true → AddsSome o a b (Performs (GoesOut g.text.items) (Ok x)) → AddsSome o a b (Performs (WritesText only g) (Ok (step.Reported g.mark)))
  line_gone a b only g true x is so q = (q.0, q.1, (q.2 ∙ out_is only g true is, refl))
  line_gone a b only g false x is so q = absurd cc

  pub line_lost : (a b : T) (only : Bool) (g : GameText) (written : Bool) (e f : WriteFault) → written ≡ is_written only g.mark → written ≡ true → AddsSome o a b (Performs (GoesOut g.text.items) (Err e)) → AddsSome o a b (Performs (WritesText only g) (Err f))
  line_lost a b only g true e f is so q = let (all, i, h, cut) = q.2 in (q.0, q.1, (all, Some (step.Reported g.mark), (h ∙ out_is only g true is, refl), cut))
  line_lost a b only g false e f is so q = absurd cc

  -- ---- the sums

  pub last_written : (a b : T) (text : List ℕ) (well : Bool) → AddsSome o a b (Whole text) → AddsSome o a b (Performs (WritesLast text well) (Ok well))
  last_written a b text well q = writes_one o a b text (WritesLast text well) well (refl, refl) q

  pub last_lost : (a b : T) (text : List ℕ) (well : Bool) (f : WriteFault) → AddsSome o a b (Front text) → AddsSome o a b (Performs (WritesLast text well) (Err f))
  last_lost a b text well f q = cuts_one o a b text f (WritesLast text well) well (refl, refl) q

  pub sums_written : (a b : T) (form : Form) (s : Sums) (text : List ℕ) (r : Result Bool WriteFault) → text ≡ ended (pgn_sums_line form s) → AddsSome o a b (Performs (WritesLast text (s.faults == 0)) r) → AddsSome o a b (Performs (PrintsSums form s) r)
  sums_written a b form s text r is q = does_so o a b (WritesLast text (s.faults == 0)) (PrintsSums form s) r (λ events w h. inl (h.0 ∙ ap (λ (t : List ℕ). Wrote Output t ∷ []) is, h.1)) q

  pub no_sums_written : (a b : T) (form : Form) (s : Sums) (r : Result Bool WriteFault) → AddsSome o a b (Performs (Prints (refused_memory ∷ []) false) r) → AddsSome o a b (Performs (PrintsSums form s) r)
  no_sums_written a b form s r q = does_so o a b (Prints (refused_memory ∷ []) false) (PrintsSums form s) r (λ events w h. inr h) q

-- what is ruled by what is known
module _ {T P F K S L : Type 0} (o : Outside T P F K S L) {N : Type 0} (Rules : Ruling N) where
  -- ---- the text of a game

  pub game_made : (a b : T) (k next : N) (t : Terms) (number : ℕ) (game : GameTold) (ruling : RulingTold) (r : Result GameText AllocError) → AddsSome o a b (Rules k next game (Ok ruling)) → IfOk r (IsTextOf (ruled_line t number game ruling))
      → AddsSome o a b (MakesText Rules k next t number (GameRead game) r)
  game_made a b k next t number game ruling (Ok g) p is = (p.0, p.1, (ruled_line t number game ruling, (ruling, p.2, refl), is))
  game_made a b k next t number game ruling (Err e) p is = (p.0, p.1, (next, Ok ruling, p.2))

  pub game_unmade : (a b : T) (k next : N) (t : Terms) (number : ℕ) (game : GameTold) (e f : AllocError) → AddsSome o a b (Rules k next game (Err e)) → AddsSome o a b (MakesText Rules k next t number (GameRead game) (Err f))
  game_unmade a b k next t number game e f p = (p.0, p.1, (next, Err e, p.2))

  pub fault_made : (a : T) (k : N) (t : Terms) (number : ℕ) (fault : GameFault) (r : Result GameText AllocError) → IfOk r (IsTextOf (unread_line t number fault)) → AddsSome o a a (MakesText Rules k k t number (FaultRead fault) r)
  fault_made a k t number fault (Ok g) is = ([], adds_none o a, (unread_line t number fault, (refl, refl, refl), is))
  fault_made a k t number fault (Err e) is = ([], adds_none o a, refl)

  -- ---- one game

  pub reading_reported : (a b c : T) (k next : N) (t : Terms) (number : ℕ) (reading : ReadingTold) (g : GameText) (only : Bool) (r : Result Step WriteFault) → only ≡ t.only_differing → AddsSome o a b (MakesText Rules k next t number reading (Ok g)) → AddsSome o b c (Performs (WritesText only g) r)
      → AddsSome o a c (Performs (ReportsReading Rules k next t number reading) r)
  reading_reported a b c k next t number reading g only r same p q =
      let (l, line, is) = p.2 in
      then_does o a b c p.0 (WritesText only g) (ReportsReading Rules k next t number reading) r (λ events i h. LineOf p.0 l line (ap (λ (e : List Event). p.0 ++ e) (h.0 ∙ shown only t.only_differing l g same is)) (h.1 ∙ ap (λ (m : Mark). Some (step.Reported m)) is.1)) p.1 q

  pub reading_refused : (a b c : T) (k next : N) (t : Terms) (number : ℕ) (reading : ReadingTold) (r : Result Step WriteFault) → AddsSome o a b (ReadsTables Rules k reading) → AddsSome o b c (Performs (Prints (refused_memory ∷ []) step.Cut) r)
      → AddsSome o a c (Performs (ReportsReading Rules k next t number reading) r)
  reading_refused a b c k next t number reading r p q = then_does o a b c p.0 (Prints (refused_memory ∷ []) step.Cut) (ReportsReading Rules k next t number reading) r (λ events i h. NoLine p.0 p.2 (ap (λ (e : List Event). p.0 ++ e) h.0) h.1) p.1 q

  module _ (t : Terms) (Fails : Type 0) (number : ℕ) (at now : Stage N) where
    next_of : (reading : ReadingTold) (lines : List Event) → ReadsNext at now (Some reading) lines → (events : List Event) (is : Option Step) → ReportsReading Rules at.known now.known t number reading events is → ReportsNext Rules t Fails number at now (lines ++ events) is
    next_of reading lines reads events is (LineOf tables l line e s) =
        IsReported (record { lines = lines; reading = reading; tables = tables; line = l }) (record { reads = reads; line = line }) (ap (λ (l : List Event). lines ++ l) e) s
    next_of reading lines reads events is (NoLine tables for_line e s) =
        IsCut refused_memory (lines ++ tables) (NoRoomForLine reading now lines tables reads for_line refl refl) (ap (λ (l : List Event). lines ++ l) e ∙ sym (append_assoc lines tables (printed (refused_memory ∷ [])))) s

    pub next_reported : (a b c : T) (reading : ReadingTold) (r : Result Step WriteFault) → IfKnown at.tokens now.tokens (λ tokens behind. ReadsGame tokens (Some reading) behind) → AddsSome o a b (ReadsLines at.bytes now.bytes) → AddsSome o b c (Performs (ReportsReading Rules at.known now.known t number reading) r)
        → AddsSome o a c (Performs (ReportsNext Rules t Fails number at now) r)
    next_reported a b c reading r game p q = then_does o a b c p.0 (ReportsReading Rules at.known now.known t number reading) (ReportsNext Rules t Fails number at now) r (next_of reading p.0 (record { lines = p.2; game = game })) p.1 q

    pub next_none : (a b : T) → IfKnown at.tokens now.tokens (λ tokens behind. ReadsGame tokens None behind) → AddsSome o a b (ReadsLines at.bytes now.bytes) → AddsSome o a b (Performs (ReportsNext Rules t Fails number at now) (Ok step.Ended))
    next_none a b game p = (p.0, p.1, IsEnded (record { lines = p.2; game = game }) refl)

    pub next_unread : (a b c : T) (fault : ReadFault) (r : Result Step WriteFault) → (fault ≡ Unreadable → Fails) → AddsSome o a b (FailsToRead at.bytes fault) → AddsSome o b c (Performs (Prints (cut_words fault ∷ []) step.Cut) r)
        → AddsSome o a c (Performs (ReportsNext Rules t Fails number at now) r)
    next_unread a b c fault r cause p q = then_does o a b c p.0 (Prints (cut_words fault ∷ []) step.Cut) (ReportsNext Rules t Fails number at now) r (λ events i h. IsCut (cut_words fault) p.0 (NotRead fault cause p.2 refl) (ap (λ (e : List Event). p.0 ++ e) h.0) h.1) p.1 q

  -- by rules that say no more and terms that stay, from lines that fail only where those before do
  pub next_by : (Now : Ruling N) (u t : Terms) (F G : Type 0) (number : ℕ) (at now : Stage N) (a b : T) (x : Result Step WriteFault) → RulesNoMore Rules Now → u ≡ t → (F → G) → AddsSome o a b (Performs (ReportsNext Now u F number at now) x) → AddsSome o a b (Performs (ReportsNext Rules t G number at now) x)
  next_by Now u t F G number at now a b x same terms back p =
      let by_terms = subst (λ (v : Terms). AddsSome o a b (Performs (ReportsNext Now v F number at now) x)) terms p in
      does_so o a b (ReportsNext Now t F number at now) (ReportsNext Rules t G number at now) x (λ events is h. next_so Rules Now same t F G number at now events is back h) by_terms

  -- ---- games in turn

  pub none_reported : (a : T) (t : Terms) (first : Stage N) (sums : Sums) (at : Stage N) → sums ≡ no_sums → at ≡ first → AddsSome o a a (AreReported Rules t first sums at)
  none_reported a t first sums at none is = ([], adds_none o a, NoneYet sums at [] none is refl)

  module _ (t : Terms) (Fails : Type 0) (first : Stage N) (s : Sums) (number : ℕ) (mid at : Stage N) (nth : number ≡ one_more s.games) where
    pub more_reported : (a b c : T) (sums : Sums) (m : Mark) → sums ≡ counted s m → AddsSome o a b (AreReported Rules t first s mid) → AddsSome o b c (Performs (ReportsNext Rules t Fails number mid at) (Ok (step.Reported m))) → AddsSome o a c (AreReported Rules t first sums at)
    more_reported a b c sums m counts p q =
        let (g, reports, e, is) = next_turn Rules t Fails number mid at q.0 m q.2 in
        (p.0 ++ q.0, adds_more o a b c p.0 q.0 p.1 q.1, one_reported Rules t Fails first s sums number mid at p.0 q.0 g nth (counts ∙ ap (counted s) is) p.2 reports e)

    pub all_reported : (a b c : T) → AddsSome o a b (AreReported Rules t first s mid) → AddsSome o b c (Performs (ReportsNext Rules t Fails number mid at) (Ok step.Ended)) → AddsSome o a c (Performs (ReportsGames Rules t Fails first) (Ok (Some s)))
    all_reported a b c p q = (p.0 ++ q.0, adds_more o a b c p.0 q.0 p.1 q.1, AllReported s mid at p.0 q.0 p.2 (next_ended Rules t Fails number mid at q.0 q.2) refl refl)

    pub some_reported : (a b c : T) → AddsSome o a b (AreReported Rules t first s mid) → AddsSome o b c (Performs (ReportsNext Rules t Fails number mid at) (Ok step.Cut)) → AddsSome o a c (Performs (ReportsGames Rules t Fails first) (Ok None))
    some_reported a b c p q =
        let (words, last, stops, e) = next_cut Rules t Fails number mid at q.0 q.2 in
        (p.0 ++ q.0, adds_more o a b c p.0 q.0 p.1 q.1, StopsShort s mid p.0 last words p.2 stops (ap (λ (l : List Event). p.0 ++ l) e) refl)

    pub reports_lost : (a b c : T) (e f : WriteFault) → AddsSome o a b (AreReported Rules t first s mid) → AddsSome o b c (Performs (ReportsNext Rules t Fails number mid at) (Err e)) → AddsSome o a c (Performs (ReportsGames Rules t Fails first) (Err f))
    reports_lost a b c e f p q =
        let (all, is, next, cut) = q.2 in
        let (w, games) = upto Rules t Fails first s number mid at p.0 all is nth p.2 next in
        (p.0 ++ q.0, adds_more o a b c p.0 q.0 p.1 q.1, (p.0 ++ all, w, games, cut_behind p.0 all q.0 cut))

  module _ (t : Terms) (Fails : Type 0) (first : Stage N) where
    pub most_reported : (a b c : T) (s : Sums) (at : Stage N) (is : Step) → AddsSome o a b (AreReported Rules t first s at) → AddsSome o b c (Performs (Prints (refused_memory ∷ []) step.Cut) (Ok is)) → AddsSome o a c (Performs (ReportsGames Rules t Fails first) (Ok None))
    most_reported a b c s at is p q = (p.0 ++ q.0, adds_more o a b c p.0 q.0 p.1 q.1, too_many Rules t Fails first s at p.0 q.0 (Some is) p.2 q.2)

    pub most_lost : (a b c : T) (s : Sums) (at : Stage N) (e f : WriteFault) → AddsSome o a b (AreReported Rules t first s at) → AddsSome o b c (Performs (Prints (refused_memory ∷ []) step.Cut) (Err e)) → AddsSome o a c (Performs (ReportsGames Rules t Fails first) (Err f))
    most_lost a b c s at e f p q =
        let (all, is, prints, cut) = q.2 in
        (p.0 ++ q.0, adds_more o a b c p.0 q.0 p.1 q.1, (p.0 ++ all, Some None, too_many Rules t Fails first s at p.0 all is p.2 prints, cut_behind p.0 all q.0 cut))

    -- ---- all of it

    pub with_sums : (a b c : T) (sums : Sums) (form : Form) (r : Result Bool WriteFault) → form ≡ t.form → AddsSome o a b (Performs (ReportsGames Rules t Fails first) (Ok (Some sums))) → AddsSome o b c (Performs (PrintsSums form sums) r) → AddsSome o a c (Performs (ReportsPgn Rules t Fails first) r)
    with_sums a b c sums form r same p q = then_does o a b c p.0 (PrintsSums form sums) (ReportsPgn Rules t Fails first) r (λ events w h. WithSums sums p.0 events p.2 (subst (λ (f : Form). PrintsSums f sums events w) same h) refl) p.1 q

    pub without_sums : (a b : T) → AddsSome o a b (Performs (ReportsGames Rules t Fails first) (Ok None)) → AddsSome o a b (Performs (ReportsPgn Rules t Fails first) (Ok false))
    without_sums a b p = (p.0, p.1, WithoutSums p.2 refl)

    pub games_lost : (a b : T) (e f : WriteFault) → AddsSome o a b (Performs (ReportsGames Rules t Fails first) (Err e)) → AddsSome o a b (Performs (ReportsPgn Rules t Fails first) (Err f))
    games_lost a b e f p = let (all, is, games, cut) = p.2 in (p.0, p.1, (all, None, GamesAlone is games refl, cut))
