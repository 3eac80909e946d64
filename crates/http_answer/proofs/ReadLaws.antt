-- What is read for a request.
use Rattle.std.proofs.Common.{◌≡◌, ◌∙◌, ◌++◌, ◌∷◌, [], ℕ, List, Option, Some, None, ap, inl, inr, refl, subst, sym}
use Rattle.std.specs.Prelude.{Result}
use Rattle.answer_parts.specs.declared.answers.refusals.Refusal.{Refusal}
use Rattle.board_core.specs.declared.parts.Parts.{Parts}
use Rattle.board_core.specs.Position.{IsPosition}
use Rattle.fen_text.specs.Fen.{SpellsPosition}
use Rattle.game_reports.specs.Asked.{ReadsGame, ReadsReport}
use Rattle.game_reports.specs.declared.asked.GameFound.{GameFound}
use Rattle.game_status.specs.declared.report.ReportForm.{ReportForm}
use Rattle.http.specs.declared.request.Request.{Request}
use Rattle.http.specs.Request.{head_of}
use Rattle.table_folder.specs.Folders.{Folder, FolderOn}
use Rattle.table_folder.specs.declared.files.SystemFiles.{SystemFiles}
use Rattle.timeline.proofs.EventLaws.{adds_both, adds_none, adds_so}
use Rattle.timeline.specs.Events.{Event}
use Rattle.timeline.specs.Outsides.{AddsSome, Outside}
use Rattle.http_answer.specs.Games.{AskedOfGames, AsksOfGames, AsksOfThese, GamesByClock, GamesOn, path_of}
use Rattle.http_answer.specs.Places.{Action}
use Rattle.http_answer.specs.Reads.{AreTableReads, ForGames, ForTables, GamePaths, OfNothing, OfPosition, ReadsAGame, ReadsAReport, ReadsByAction, ReadsByMethod, ReadsForAsked, ReadsForGame, ReadsForGames, ReadsForReport, ReadsForRequest, ReadsForText, ReadsIn, ReadsOnceForGame, ReadsOver, ReadsTableFiles, paths_of, paths_on}
use Rattle.http_answer.specs.Replies.{Asked, asked}
use Rattle.http_answer.specs.Replies.Asked.{Page, Values, Mainline, NoText, ValuesOfEach, TooMany, Methods, OtherMethod, UnknownMethod, Elsewhere}
use Rattle.http_answer.proofs.OpenReadLaws.{no_reads, reads_then}
use Rattle.http_answer.proofs.TableReadLaws.{joined, none_read}

-- ---- events

both_none : (xs ys : List Event) → xs ≡ [] → ys ≡ [] → xs ++ ys ≡ []
both_none xs ys p q = ap (λ (l : List Event). l ++ ys) p ∙ q

pub text_reads : (folder : Folder) (text : List ℕ) (events : List Event) → ReadsForText folder text events → AreTableReads folder events
text_reads folder text events (OfPosition p spells is reads) = reads
text_reads folder text events (OfNothing none) = none_read folder events none

both_texts : (folder : Folder) (text : List ℕ) (xs ys : List Event) → ReadsForText folder text xs → ReadsForText folder text ys → ReadsForText folder text (xs ++ ys)
both_texts folder text xs ys (OfPosition p spells is reads) q = OfPosition p spells is (joined folder xs ys reads (text_reads folder text ys q))
both_texts folder text xs ys (OfNothing none) q = subst (λ (l : List Event). ReadsForText folder text (l ++ ys)) (sym none) q

both_asked : (folder : Folder) (what : Asked) (xs ys : List Event) → ReadsForAsked folder what xs → ReadsForAsked folder what ys → ReadsForAsked folder what (xs ++ ys)
both_asked folder Page xs ys p q = both_none xs ys p q
both_asked folder (Values text) xs ys p q = both_texts folder text xs ys p q
both_asked folder (Mainline text) xs ys p q = both_texts folder text xs ys p q
both_asked folder NoText xs ys p q = both_none xs ys p q
both_asked folder (ValuesOfEach texts) xs ys p q = joined folder xs ys p q
both_asked folder TooMany xs ys p q = both_none xs ys p q
both_asked folder (Methods place) xs ys p q = both_none xs ys p q
both_asked folder (OtherMethod place) xs ys p q = both_none xs ys p q
both_asked folder UnknownMethod xs ys p q = both_none xs ys p q
both_asked folder Elsewhere xs ys p q = both_none xs ys p q

none_asked : (folder : Folder) (what : Asked) → ReadsForAsked folder what []
none_asked folder Page = refl
none_asked folder (Values text) = OfNothing refl
none_asked folder (Mainline text) = OfNothing refl
none_asked folder NoText = refl
none_asked folder (ValuesOfEach texts) = tt
none_asked folder TooMany = refl
none_asked folder (Methods place) = refl
none_asked folder (OtherMethod place) = refl
none_asked folder UnknownMethod = refl
none_asked folder Elsewhere = refl

these_of : {G C : Type 0} (games : Option (GamesByClock G C)) (path : List ℕ) (a : AskedOfGames) → AsksOfThese (paths_of games) path a → AsksOfThese games path a
these_of None path a h = h
these_of (Some g) path a h = h

pub none_named : {G C : Type 0} (games : Option (GamesByClock G C)) (path : List ℕ) → games ≡ None → (a : AskedOfGames) → AsksOfThese games path a → ⊥
none_named {G} {C} games path is a asks = subst (λ (g : Option (GamesByClock G C)). AsksOfThese g path a) is asks

module _ {G T P F K S L : Type 0} (outside : G → Outside T P F K S L) where
  -- ---- for texts

  pub position_read : (tables : FolderOn (SystemFiles G)) (a b : T) (text : List ℕ) (p : Parts) → SpellsPosition text p → IsPosition p → ReadsTableFiles outside tables a b → ReadsOver outside tables a b (λ o folder. ReadsForText folder text)
  position_read tables a b text p spells is h = adds_so (outside tables.disk.system.now) a b (AreTableReads tables.folder) (ReadsForText tables.folder text) (λ events reads. OfPosition p spells is reads) h

  pub nothing_for : (x : G) (folder : Folder) (text : List ℕ) (a : T) → AddsSome (outside x) a a (ReadsForText folder text)
  nothing_for x folder text a = ([], adds_none (outside x) a, OfNothing refl)

  pub text_read : (tables : FolderOn (SystemFiles G)) (a b : T) (text : List ℕ) → ReadsOver outside tables a b (λ o folder. ReadsForText folder text) → ReadsTableFiles outside tables a b
  text_read tables a b text h = adds_so (outside tables.disk.system.now) a b (ReadsForText tables.folder text) (AreTableReads tables.folder) (text_reads tables.folder text) h

  -- ---- for what is asked of tables

  pub nothing_asked : (x : G) (folder : Folder) (what : Asked) (a : T) → AddsSome (outside x) a a (ReadsForAsked folder what)
  nothing_asked x folder what a = ([], adds_none (outside x) a, none_asked folder what)

  pub asked_so : (tables : FolderOn (SystemFiles G)) (a b : T) (what other : Asked) → what ≡ other → ReadsOver outside tables a b (λ o folder. ReadsForAsked folder what) → ReadsOver outside tables a b (λ o folder. ReadsForAsked folder other)
  asked_so tables a b what other same h = subst (λ (w : Asked). ReadsOver outside tables a b (λ o folder. ReadsForAsked folder w)) same h

  pub asked_again : (now first : FolderOn (SystemFiles G)) (a b c : T) (what other : Asked) → what ≡ other → now ≡ first → ReadsOver outside first a b (λ o folder. ReadsForAsked folder what)
      → ReadsOver outside now b c (λ o folder. ReadsForAsked folder what) → ReadsOver outside first a c (λ o folder. ReadsForAsked folder other)
  asked_again now first a b c what other is same p q =
      asked_so first a c what other is
      (adds_both (outside first.disk.system.now) a b c (ReadsForAsked first.folder what) (ReadsForAsked first.folder what) (ReadsForAsked first.folder what) (both_asked first.folder what) p
      (subst (λ (on : FolderOn (SystemFiles G)). ReadsOver outside on b c (λ o folder. ReadsForAsked folder what)) same q))

  -- ---- of games

  pub report_at : (x : G) (a b : T) (games : List ℕ) (other : Option (List ℕ)) (form : ReportForm) (report : Option (Result (List ℕ) Refusal)) → AddsSome (outside x) a b (ReadsReport (outside x) games other form report)
      → AddsSome (outside x) a b (ReadsAReport (outside x) (record { games = games; other = other }) form)
  report_at x a b games other form report p =
      adds_so (outside x) a b (ReadsReport (outside x) games other form report) (ReadsAReport (outside x) (record { games = games; other = other }) form) (λ events h. (report, h)) p

  pub game_at : (x : G) (a b : T) (games : List ℕ) (other : Option (List ℕ)) (stamp : List ℕ) (found : Option (Result (Option GameFound) Refusal)) → AddsSome (outside x) a b (ReadsGame (outside x) games other stamp found)
      → AddsSome (outside x) a b (ReadsAGame (outside x) (record { games = games; other = other }) stamp)
  game_at x a b games other stamp found p =
      adds_so (outside x) a b (ReadsGame (outside x) games other stamp found) (ReadsAGame (outside x) (record { games = games; other = other }) stamp) (λ events h. (found, h)) p

  pub report_again : (on : GamesOn G) (a : T) (form : ReportForm) → ReadsIn outside on a a (λ o folders. ReadsForReport o folders form)
  report_again on a form = ([], adds_none (outside on.system) a, inr refl)

  pub report_anew : (on : GamesOn G) (a b : T) (form : ReportForm) → ReadsIn outside on a b (λ o folders. ReadsAReport o folders form) → ReadsIn outside on a b (λ o folders. ReadsForReport o folders form)
  report_anew on a b form p = adds_so (outside on.system) a b (ReadsAReport (outside on.system) (paths_on on) form) (ReadsForReport (outside on.system) (paths_on on) form) (λ events h. inl h) p

  -- by what is on the system of the tables
  pub report_here : (on : GamesOn G) (tables : FolderOn (SystemFiles G)) (a b : T) (form : ReportForm) → on.system ≡ tables.disk.system.now → ReadsIn outside on a b (λ o folders. ReadsForReport o folders form)
      → ReadsOver outside tables a b (λ o folder. ReadsForReport o (paths_on on) form)
  report_here on tables a b form same p = subst (λ (x : G). AddsSome (outside x) a b (ReadsForReport (outside x) (paths_on on) form)) same p

  pub game_then : (on : GamesOn G) (now first : FolderOn (SystemFiles G)) (a b c : T) (stamp : List ℕ) → on.system ≡ first.disk.system.now → now ≡ first → ReadsIn outside on a b (λ o folders. ReadsAGame o folders stamp)
      → ReadsTableFiles outside now b c → ReadsOver outside first a c (λ o tables. ReadsOnceForGame o tables (paths_on on) stamp)
  game_then on now first a b c stamp one same p q =
      let o = outside first.disk.system.now in
      adds_both o a b c (ReadsAGame o (paths_on on) stamp) (AreTableReads first.folder) (ReadsOnceForGame o first.folder (paths_on on) stamp) (λ x y looks tells. (x, y, looks, tells, refl))
      (subst (λ (x : G). AddsSome (outside x) a b (ReadsAGame (outside x) (paths_on on) stamp)) one p)
      (subst (λ (at : FolderOn (SystemFiles G)). ReadsTableFiles outside at b c) same q)

  pub game_alone : (on : GamesOn G) (first : FolderOn (SystemFiles G)) (a b : T) (stamp : List ℕ) → on.system ≡ first.disk.system.now → ReadsIn outside on a b (λ o folders. ReadsAGame o folders stamp)
      → ReadsOver outside first a b (λ o tables. ReadsOnceForGame o tables (paths_on on) stamp)
  game_alone on first a b stamp one p = game_then on first first a b b stamp one refl p (no_reads outside first.disk.system.now first.folder b)

  pub game_once : (on : GamesOn G) (first : FolderOn (SystemFiles G)) (a b : T) (stamp : List ℕ) → ReadsOver outside first a b (λ o tables. ReadsOnceForGame o tables (paths_on on) stamp)
      → ReadsOver outside first a b (λ o tables. ReadsForGame o tables (paths_on on) stamp)
  game_once on first a b stamp p =
      let o = outside first.disk.system.now in
      adds_so o a b (ReadsOnceForGame o first.folder (paths_on on) stamp) (ReadsForGame o first.folder (paths_on on) stamp) (λ events h. inl h) p

  pub game_again : (on : GamesOn G) (now first : FolderOn (SystemFiles G)) (a b c : T) (stamp : List ℕ) → now ≡ first → ReadsOver outside first a b (λ o tables. ReadsOnceForGame o tables (paths_on on) stamp)
      → ReadsOver outside now b c (λ o tables. ReadsOnceForGame o tables (paths_on on) stamp) → ReadsOver outside first a c (λ o tables. ReadsForGame o tables (paths_on on) stamp)
  game_again on now first a b c stamp same p q =
      let o = outside first.disk.system.now in
      let Once = ReadsOnceForGame o first.folder (paths_on on) stamp in
      adds_both o a b c Once Once (ReadsForGame o first.folder (paths_on on) stamp) (λ x y one other. inr (x, y, one, other, refl)) p
      (subst (λ (at : FolderOn (SystemFiles G)). ReadsOver outside at b c (λ o tables. ReadsOnceForGame o tables (paths_on on) stamp)) same q)

  -- ---- by a method

  pub by_action : (x : G) (a b : T) (By : List Event → Type 0) (is action : Action) → is ≡ action → AddsSome (outside x) a b (ReadsByAction is By) → AddsSome (outside x) a b (ReadsByAction action By)
  by_action x a b By is action same p = subst (λ (act : Action). AddsSome (outside x) a b (ReadsByAction act By)) same p

  pub nothing_added : (x : G) (a : T) → AddsSome (outside x) a a (λ events. events ≡ [])
  nothing_added x a = ([], adds_none (outside x) a, refl)

  -- ---- for requests

  pub tables_asked : {C : Type 0} (tables : FolderOn (SystemFiles G)) (games : Option (GamesByClock G C)) (a b : T) (request : Request (List ℕ)) → ((what : AskedOfGames) → AsksOfThese games (path_of request) what → ⊥)
      → ReadsOver outside tables a b (λ o folder. ReadsForAsked folder (asked request)) → ReadsOver outside tables a b (λ o folder. ReadsForRequest o folder (paths_of games) request)
  tables_asked tables games a b request lacks p =
      let o = outside tables.disk.system.now in
      adds_so o a b (ReadsForAsked tables.folder (asked request)) (ReadsForRequest o tables.folder (paths_of games) request) (λ events h. ForTables (λ what asks. lacks what (these_of games (path_of request) what asks)) h) p

  pub games_asked : {C : Type 0} (tables : FolderOn (SystemFiles G)) (games : Option (GamesByClock G C)) (was : GamesByClock G C) (a b : T) (request : Request (List ℕ)) (method : List ℕ) (what : AskedOfGames) → games ≡ Some was
      → AsksOfGames (path_of request) what → method ≡ (head_of request).method → ReadsOver outside tables a b (λ o folder. ReadsByMethod method (ReadsForGames o folder (paths_on was.on) what))
      → ReadsOver outside tables a b (λ o folder. ReadsForRequest o folder (paths_of games) request)
  games_asked {C} tables games was a b request method what is asks same p =
      let o = outside tables.disk.system.now in
      adds_so o a b (ReadsByMethod method (ReadsForGames o tables.folder (paths_on was.on) what)) (ReadsForRequest o tables.folder (paths_of games) request)
      (λ events h. ForGames (paths_on was.on) (ap (λ (g : Option (GamesByClock G C)). paths_of g) is) what asks (subst (λ (m : List ℕ). ReadsByMethod m (ReadsForGames o tables.folder (paths_on was.on) what) events) same h)) p
