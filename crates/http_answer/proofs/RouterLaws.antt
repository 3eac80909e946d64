-- What is answered to a request that asks of games.
use Rattle.std.proofs.Common.{◌≡◌, ◌∙◌, ℕ, true, false, List, Option, Some, ap, sym, subst}
use Rattle.std.specs.Prelude.{Err, Ok, OnOk, Result, codes, is_ok, is_some}
use Rattle.std.specs.Str.{bytes_eq}
use Rattle.std.proofs.lemmas.Bool.{false≢true}
use Rattle.http_server.specs.declared.response.Response.{Response}
use Rattle.http_server.specs.Response.{IsResponse}
use Rattle.system_io.specs.Disks.{DiskFacts}
use Rattle.table_folder.specs.Folders.{Folder, FolderOn}
use Rattle.table_folder.specs.declared.files.SystemFiles.{SystemFiles}
use Rattle.timeline.specs.Outsides.{Outside}
use Rattle.game_status.specs.declared.report.ReportForm.TheVariants.{Json as AsJson, Metrics as AsMetrics}
use Rattle.game_reports.specs.declared.asked.GameFound.{GameFound}
use Rattle.http_answer.specs.Games.{AskedOfGames, AsksBelow, AsksOfGames, AsksOfThese, ForGames, ForMetrics, ForMore, ForWatch, Found, GamesOn, HasGame, IsFoundGame, fresh_json, is_games, is_watch}
use Rattle.http_answer.specs.Games.{GamesByClock, IsByAction, MayAnswer}
use Rattle.http_answer.specs.Games.AskedOfGames.{Games, Metrics, Game, NoStamp, Watch}
use Rattle.http_answer.specs.Inside.{IsGameText}
use Rattle.http_answer.specs.declared.router.Router.{Router}
use Rattle.http_answer.specs.Places.{Action}
use Rattle.http_answer.specs.Places.Action.{Reads, ListsMethods, IsRefused, IsUnknown}
use Rattle.http_answer.proofs.ReportLaws.{aged_stays}

-- a path that is none of these
pub not_asked : (path : List ℕ) → is_games path ≡ false → bytes_eq path (codes "/metrics") ≡ false → is_watch path ≡ false → ((a : AskedOfGames) → AsksBelow path a → ⊥) → (a : AskedOfGames) → AsksOfGames path a → ⊥
not_asked path games metrics watch lacks a (ForGames e is) = false≢true (sym games ∙ e)
not_asked path games metrics watch lacks a (ForMetrics e is) = false≢true (sym metrics ∙ e)
not_asked path games metrics watch lacks a (ForWatch e is) = false≢true (sym watch ∙ e)
not_asked path games metrics watch lacks a (ForMore x y z h) = lacks a h

-- the object of a game
pub game_found : {G T P F K S L : Type 0} (tables : DiskFacts) (folder : Folder) (outside : G → Outside T P F K S L) (on : GamesOn G) (stamp : List ℕ) (g : GameFound) (text : List ℕ) (r : Response) → IsFoundGame outside on stamp g
    → IsGameText tables folder (is_some on.other) stamp g text → IsResponse 200 fresh_json text r → HasGame tables folder outside on stamp r
game_found tables folder outside on stamp g text r found (ts, are, whole, back) has =
    Found text (record { found = g; is_found = found; plies = ts; are_plies = are; is_text = whole; reads_back = back }) has

-- a path that asks for no games
pub elsewhere : {G : Type 0} (games : Option G) (on : G) (path seen : List ℕ) → games ≡ Some on → seen ≡ path → ((a : AskedOfGames) → AsksOfGames seen a → ⊥) → (a : AskedOfGames) → AsksOfThese games path a → ⊥
elsewhere {G} games on path seen is at lacks a asks = lacks a (subst (λ (p : List ℕ). AsksOfGames p a) (sym at) (subst (λ (g : Option G). AsksOfThese g path a) is asks))

-- what is so where a call is well
pub ok_then : {T E P : Type 0} (r : Result T E) → is_ok r ≡ true → OnOk r P → P
ok_then (Ok x) e p = p
ok_then (Err y) e p = absurd (false≢true e)

-- ---- the folders of games stay

module _ {G C T P F K S L : Type 0} (outside : G → Outside T P F K S L) (says : C → Option ℕ → Type 0) (tables : FolderOn (SystemFiles G)) (was now : GamesByClock G C) (r : Response) where
  same_on : now ≡ was → now.on ≡ was.on
  same_on same = ap (λ (g : GamesByClock G C). g.on) same

  answered_stays : (a : AskedOfGames) → MayAnswer outside says tables a was now r → now.on ≡ was.on
  answered_stays Games (report, is, has, (time, said, at)) = aged_stays time AsJson was now report at
  answered_stays Metrics (report, is, has, (time, said, at)) = aged_stays time AsMetrics was now report at
  answered_stays (Game stamp) (has, same) = same_on same
  answered_stays NoStamp (has, same) = same_on same
  answered_stays Watch (has, same) = same_on same

  pub by_action_stays : (action : Action) (a : AskedOfGames) → IsByAction action (MayAnswer outside says tables a) was now r → now.on ≡ was.on
  by_action_stays Reads a h = answered_stays a h
  by_action_stays ListsMethods a (has, same) = same_on same
  by_action_stays IsRefused a (has, same) = same_on same
  by_action_stays IsUnknown a (has, same) = same_on same

-- ---- a router stays

module _ {G C T P F K S L : Type 0} (r : Router G C T P F K S L) where
  abbrev pub routed : FolderOn (SystemFiles G) → Option (GamesByClock G C) → Router G C T P F K S L
  routed answerer games = record { answerer = answerer; games = games }

  pub router_same : (a : FolderOn (SystemFiles G)) (g now : GamesByClock G C) → a ≡ r.answerer → now ≡ g → r.games ≡ Some g → routed a (Some now) ≡ r
  router_same a g now tables same is =
      ap (λ (x : FolderOn (SystemFiles G)). routed x (Some now)) tables ∙ ap (λ (x : GamesByClock G C). routed r.answerer (Some x)) same ∙ ap (routed r.answerer) (sym is)
