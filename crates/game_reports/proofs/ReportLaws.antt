-- Games that are read one after the other for a report.
use Rattle.std.proofs.Common.{◌≡◌, ◌∙◌, ◌≤◌, ◌<◌, ◌+◌, ◌^◌, ◌++◌, ◌∷◌, [], ℕ, Bool, true, List, Option, Some, None, append-nil, append_assoc, ap, drop, get_or, length, refl, subst, suc, sym, take}
use Rattle.std.proofs.lemmas.Grind.{flat_map-append}
use Rattle.std.proofs.lemmas.List.{take_all}
use Rattle.std.specs.Global.{Global}
use Rattle.std.specs.declared.alloc.AllocError.{AllocError}
use Rattle.std.specs.Prelude.{Result, Ok, Err, IfOk, Vec, codes, is_some}
use Rattle.json.specs.Json.{member}
use Rattle.json.specs.Lex.{tokens}
use Rattle.json.specs.Print.{print}
use Rattle.json.specs.Token.{begin_object, end_object}
use Rattle.json.specs.Tree.{json_tokens}
use Rattle.json.specs.Written.{Writes, Written}
use Rattle.answer_parts.proofs.PrintLaws.{then_does, then_prints}
use Rattle.answer_parts.specs.Printing.{Performs, Prints}
use Rattle.game_status.proofs.ObjectDepth.{status_shallow}
use Rattle.game_status.proofs.ObjectLaws.{both, braced, followed, no_tokens, one, reads_back}
use Rattle.game_status.proofs.TotalLaws.{few_found, totals_more}
use Rattle.game_status.specs.Inside.Objects.{games_tokens}
use Rattle.game_status.specs.Inside.Totalling.{AddsLook, CanAddOneMore}
use Rattle.game_status.specs.Metrics.{metrics_text}
use Rattle.game_status.specs.Reports.{Form, json_form, metrics_form}
use Rattle.game_status.specs.StatusObjects.{AddsMembers, AddsTokens, game_json, status_json, totals_json}
use Rattle.game_status.specs.Totals.{AreFound, FoundGame, totals_of}
use Rattle.game_status.specs.declared.status_lines.Look.{Look}
use Rattle.game_status.specs.declared.totals.Totals.{Totals}
use Rattle.line_teller.specs.ToldLines.{refused_memory}
use Rattle.move_msg.specs.TextLines.{ended}
use Rattle.system_io.specs.Disks.{DiskFacts}
use Rattle.system_io.specs.declared.output.WriteFault.{WriteFault}
use Rattle.timeline.proofs.EventLaws.{adds_more, adds_none}
use Rattle.timeline.specs.Events.{Event}
use Rattle.timeline.specs.Outsides.{AddsSome, Outside}
use Rattle.game_reports.proofs.EachLaws.{each_next, halved, parted}
use Rattle.game_reports.specs.Folders.{KnownFolders}
use Rattle.game_reports.specs.GameLooks.{ReadsLook}
use Rattle.game_reports.specs.Inside.Reporting.{AddsGames, AddsList, AddsStatus, Finds, IsText}
use Rattle.game_reports.specs.Statuses.{FindsFirst, FindsOne, NoRoomToReport, ReportPut, UpToGame, WithinGame, WritesReport}
use Rattle.game_reports.specs.Writing.{DoesEach, WritesText}

ok_same : {A E : Type 0} (x y : A) → ◌≡◌ {A = Result A E} (Ok x) (Ok y) → x ≡ y
ok_same x y e = cc

abbrev pub one_found : List ℕ → Look → FoundGame
one_found stamp l = record { stamp = stamp; look = l }

-- ---- what is found so far

abbrev pub FoundSoFar : {A : Type 0} → DiskFacts → KnownFolders → (List FoundGame → A → Type 0) → List (List ℕ) → A → List Event → Type 0
FoundSoFar disk f Says front x events = (found : List FoundGame) × DoesEach (FindsOne disk f) front found events × Says found x

abbrev Anything : List FoundGame → ℕ → Type 0
Anything found n = Unit {0}

module _ {T P F K S L : Type 0} (o : Outside T P F K S L) (f : KnownFolders) where
  pub none_found : {A : Type 0} (a : T) (Says : List FoundGame → A → Type 0) (x : A) → Says [] x → AddsSome o a a (FoundSoFar o.disk f Says [] x)
  none_found a Says x says = ([], adds_none o a, ([], refl, says))

  pub one_more : {A B : Type 0} (a b c : T) (Before : List FoundGame → A → Type 0) (After : List FoundGame → B → Type 0) (x : A) (y : B) (i : ℕ) (stamp d : List ℕ) (l : Look) → i < length f.stamps → stamp ≡ get_or f.stamps i d
      → ((found : List FoundGame) → Before found x → After (found ++ one_found stamp l ∷ []) y) → AddsSome o a b (FoundSoFar o.disk f Before (take i f.stamps) x) → AddsSome o b c (ReadsLook o.disk f stamp (Some l)) → AddsSome o a c (FoundSoFar o.disk f After (take (i + 1) f.stamps) y)
  one_more a b c Before After x y i stamp d l within at step (first, p, (found, each, says)) (last, q, reads) = (
    first ++ last,
    adds_more o a b c first last p q,
    (found ++ one_found stamp l ∷ [], each_next (FindsOne o.disk f) f.stamps i stamp d found (one_found stamp l) first last within at each (refl, reads), step found says),
  )

  -- memory is refused while the next one is read, or between two
  pub within : {A : Type 0} (a b c : T) (Says : List FoundGame → A → Type 0) (x : A) (i : ℕ) (stamp d : List ℕ) → i < length f.stamps → stamp ≡ get_or f.stamps i d → AddsSome o a b (FoundSoFar o.disk f Says (take i f.stamps) x) → AddsSome o b c (ReadsLook o.disk f stamp None) → AddsSome o a c (FindsFirst o.disk f)
  within a b c Says x i stamp d lt at (first, p, (found, each, says)) (last, q, reads) = (first ++ last, adds_more o a b c first last p q, WithinGame (take i f.stamps) (drop (suc i) f.stamps) stamp found first last (parted f.stamps i stamp d lt at) each reads refl)

  pub between : {A : Type 0} (a b : T) (Says : List FoundGame → A → Type 0) (x : A) (i : ℕ) → AddsSome o a b (FoundSoFar o.disk f Says (take i f.stamps) x) → AddsSome o a b (FindsFirst o.disk f)
  between a b Says x i (events, p, (found, each, says)) = (events, p, UpToGame (take i f.stamps) (drop i f.stamps) found (halved f.stamps i) each)

  pub after_one : {A : Type 0} (a b c : T) (Says : List FoundGame → A → Type 0) (x : A) (i : ℕ) (stamp d : List ℕ) (l : Look) → i < length f.stamps → stamp ≡ get_or f.stamps i d → AddsSome o a b (FoundSoFar o.disk f Says (take i f.stamps) x) → AddsSome o b c (ReadsLook o.disk f stamp (Some l)) → AddsSome o a c (FindsFirst o.disk f)
  after_one a b c Says x i stamp d l lt at p q = between a c Anything 0 (i + 1) (one_more a b c Says Anything x 0 i stamp d l lt at (λ found says. tt) p q)

  -- nothing was read
  pub nothing : (a : T) → AddsSome o a a (FindsFirst o.disk f)
  nothing a = ([], adds_none o a, UpToGame [] f.stamps [] refl refl)

  pub all_found : {A : Type 0} (a b : T) (Says : List FoundGame → A → Type 0) (x : A) (i : ℕ) → length f.stamps ≤ i → AddsSome o a b (FoundSoFar o.disk f Says (take i f.stamps) x) → AddsSome o a b (Finds {A = A} o.disk f Says (Ok x))
  all_found a b Says x i whole (events, p, (found, each, says)) = (events, p, (found, subst (λ (front : List (List ℕ)). DoesEach (FindsOne o.disk f) front found events) (take_all i f.stamps whole) each, says))

  -- ---- what is made of all

  pub made : {A B : Type 0} (a b : T) (Before : List FoundGame → A → Type 0) (After : List FoundGame → B → Type 0) (x : A) (y : B) → ((found : List FoundGame) → Before found x → After found y) → AddsSome o a b (Finds {A = A} o.disk f Before (Ok x)) → AddsSome o a b (Finds {A = B} o.disk f After (Ok y))
  made a b Before After x y step (events, p, (found, each, says)) = (events, p, (found, each, step found says))

  pub no_room : {A : Type 0} (a b : T) (Says : List FoundGame → A → Type 0) (x : A) → AddsSome o a b (Finds {A = A} o.disk f Says (Ok x)) → AddsSome o a b (FindsFirst o.disk f)
  no_room a b Says x (events, p, (found, each, says)) = (events, p, UpToGame f.stamps [] found (sym (append-nil f.stamps)) each)

  -- the same of a result of which all that is left is whether memory was refused
  pub last_step : {A B : Type 0} (a b : T) (Before : List FoundGame → A → Type 0) (After : List FoundGame → B → Type 0) (x : A) (r : Result B AllocError) → ((y : B) → r ≡ Ok y → (found : List FoundGame) → Before found x → After found y) → AddsSome o a b (Finds {A = A} o.disk f Before (Ok x)) → AddsSome o a b (Finds o.disk f After r)
  last_step a b Before After x (Ok y) step p = made a b Before After x y (step y refl) p
  last_step a b Before After x (Err e) step p = no_room a b Before x p

  -- ---- the text

  pub report_put : (a b c : T) (form : Form) (compares : Bool) (text : Vec ℕ Global) (r : Result ℕ WriteFault) → compares ≡ is_some f.other → AddsSome o a b (Finds o.disk f (IsText form compares) (Ok text)) → AddsSome o b c (Performs (WritesText text.items) r) → AddsSome o a c (Performs (WritesReport o.disk form f) r)
  report_put a b c form compares text r same (first, p, (found, each, whole)) q = then_does o a b c first (WritesText text.items) (WritesReport o.disk form f) r (λ events is h. ReportPut found text.items first each (subst (λ (x : Bool). form.Whole x found text.items true) same whole) (ap (λ (e : List Event). first ++ e) h.0) h.1) p q

  pub no_room_to_report : (a b c : T) (form : Form) (r : Result ℕ WriteFault) → AddsSome o a b (FindsFirst o.disk f) → AddsSome o b c (Performs (Prints (refused_memory ∷ []) 1) r) → AddsSome o a c (Performs (WritesReport o.disk form f) r)
  no_room_to_report a b c form r p q = then_prints o a b c p.0 (WritesReport o.disk form f) (refused_memory ∷ []) 1 r (NoRoomToReport p.0 p.2 refl refl) p.1 q

  -- ---- counts

  each_found : (stamps : List (List ℕ)) (found : List FoundGame) (events : List Event) → DoesEach (FindsOne o.disk f) stamps found events → AreFound (λ stamp l. Unit {0}) stamps found
  each_found [] [] events h = tt
  each_found [] (g ∷ found) events h = absurd h
  each_found (s ∷ stamps) [] events h = absurd h
  each_found (s ∷ stamps) (g ∷ found) events (one, rest, does, each, is) = ((does.0, tt), each_found stamps found rest each)

  pub can_add : {A : Type 0} (a b : T) (Says : List FoundGame → A → Type 0) (x : A) (t : Totals) (i : ℕ) → i < length f.stamps → length f.stamps < 2 ^ 63 → ((found : List FoundGame) → Says found x → t ≡ totals_of found) → AddsSome o a b (FoundSoFar o.disk f Says (take i f.stamps) x) → CanAddOneMore t
  can_add a b Says x t i lt small counted (events, p, (found, each, says)) = few_found (λ stamp l. Unit {0}) f.stamps i found t lt small (each_found (take i f.stamps) found events each) (counted found says)

-- ---- objects

pub none_added : (compares : Bool) (w : Written) (t : Totals) → t ≡ totals_of [] → AddsGames compares w w [] t
none_added compares w t is = (no_tokens w, is)

pub more_added : (compares : Bool) (stamp : List ℕ) (l : Look) (old mid new : Written) (s t : Totals) (found : List FoundGame) → AddsGames compares old mid found s → AddsTokens mid new (json_tokens (game_json compares (one_found stamp l))) → AddsLook s l t → AddsGames compares old new (found ++ one_found stamp l ∷ []) t
more_added compares stamp l old mid new s t found (written, counted) wrote adds =
    let g = one_found stamp l in
    let all = both old mid new (games_tokens compares found) (json_tokens (game_json compares g)) written wrote in (
      record {
        before = all.before;
        tokens = all.tokens ∙ ap (λ ts. old.tokens ++ (games_tokens compares found ++ ts)) (sym (append-nil (json_tokens (game_json compares g)))) ∙ ap (λ ts. old.tokens ++ ts) (sym (flat_map-append (λ x. json_tokens (game_json compares x)) found (g ∷ [])));
      },
      totals_more found g s t counted adds,
    )

-- an object with all games is written to a text that was empty, and a line feed
pub object_whole : (compares : Bool) (found : List FoundGame) (start text : Written) (line : List ℕ) → start.before ≡ [] → start.tokens ≡ [] → AddsStatus compares start text found → line ≡ text.before ++ ended (print text.tokens) → tokens (print text.tokens) ≡ text.tokens → json_form.Whole compares found line true
object_whole compares found start text line nothing empty h is same =
    let j = status_json compares found in
    let written : text.tokens ≡ json_tokens j = h.tokens ∙ ap (λ ts. ts ++ json_tokens j) empty in (
      is ∙ ap (λ front. front ++ ended (print text.tokens)) (h.before ∙ nothing) ∙ ap (λ ts. ended (print ts)) written,
      reads_back j (ap (λ ts. tokens (print ts)) (sym written) ∙ same ∙ written) (status_shallow compares found),
      refl,
    )

pub object_by : {E : Type 0} (compares : Bool) (start text : Written) (r : Result (Vec ℕ Global) E) → start.before ≡ [] → start.tokens ≡ [] → IfOk r (λ line. line.items ≡ text.before ++ ended (print text.tokens)) → tokens (print text.tokens) ≡ text.tokens
    → (line : Vec ℕ Global) → r ≡ Ok line → (found : List FoundGame) → AddsStatus compares start text found → IsText json_form compares found line
object_by compares start text (Ok x) nothing empty is same line e found h = object_whole compares found start text line.items nothing empty h (subst (λ (v : Vec ℕ Global). v.items ≡ text.before ++ ended (print text.tokens)) (ok_same x line e) is) same
object_by compares start text (Err x) nothing empty is same line e found h = absurd cc

pub metrics_by : {E : Type 0} (compares : Bool) (t : Totals) (r : Result (Vec ℕ Global) E) → IfOk r (λ text. text.items ≡ metrics_text compares t) → (text : Vec ℕ Global) → r ≡ Ok text → (found : List FoundGame) → t ≡ totals_of found → IsText metrics_form compares found text
metrics_by compares t (Ok x) is text e found counted = (subst (λ (v : Vec ℕ Global). v.items ≡ metrics_text compares t) (ok_same x text e) is ∙ ap (metrics_text compares) counted, refl)
metrics_by compares t (Err x) is text e found counted = absurd cc

-- the sums follow the list of games, and the object ends
pub status_added : {T P F K S L : Type 0} (o : Outside T P F K S L) (f : KnownFolders) (compares : Bool) (x y : T) (a b c d e : Written) (t : Totals) (r : Result (Unit {0}) AllocError) → AddsTokens a b (begin_object ∷ []) → AddsMembers c d (member (codes "sums") (totals_json compares t)) → Writes r d e end_object
    → AddsSome o x y (Finds {A = Totals} o.disk f (AddsList compares b c) (Ok t)) → AddsSome o x y (Finds {A = Unit {0}} o.disk f (λ found _. AddsStatus compares a e found) r)
status_added o f compares x y a b c d e t (Ok u) begins sums ends p =
    made o f x y (AddsList compares b c) (λ found _. AddsStatus compares a e found) t u
    (λ found h. braced a b d e _ begins (followed b c d _ _ h.0 (subst (λ (s : Totals). AddsMembers c d (member (codes "sums") (totals_json compares s))) h.1 sums)) (one u d e end_object ends)) p
status_added o f compares x y a b c d e t (Err u) begins sums ends p = no_room o f x y (AddsList compares b c) t p
