-- The positions after the moves of a position, one after another.
use Rattle.std.proofs.Common.{◌≡◌, ◌⊎◌, ◌<◌, ℕ, length, get_or, List, [], ◌∷◌, ◌++◌, Some, None, refl, sym, ap, ◌∙◌, subst, inl, inr}
use Rattle.std.specs.List.{Contains}
use Rattle.std.proofs.lemmas.List.Elements.{Contains-get_or, Contains-push_cases}
use Rattle.board_core.specs.declared.parts.Parts.{Parts}
use Rattle.board_core.specs.declared.moves.Move.{Move}
use Rattle.board_core.specs.ComputedMoves.{legal_moves, position_after}
use Rattle.system_io.specs.Disks.{DiskFacts}
use Rattle.judge_core.specs.MoreTables.{HasAll, MoreTablesAnswerTheSame, WhatIsMissingStaysMissing}
use Rattle.judge_core.specs.Tables.{Tables}
use Rattle.table_folder.specs.declared.fault.FileRefusal.{FileRefusal}
use Rattle.table_folder.specs.Folders.{AreOf, Folder}
use Rattle.table_folder.specs.Settled.{AddsOnlyMissed, AreSettled, IsAlone, IsSettled, IsWithMoves}
use Rattle.table_folder.proofs.Only.{adds_more, adds_none, adds_wider}
use Rattle.table_folder.proofs.Staying.{stays_settled}

-- the position and those after its first moves are settled
pub record HasDone (disk : DiskFacts) (folder : Folder) (old tables : Tables) (position : Parts) (done : List Move) : Type 0 where
  pub opened : AreOf disk folder tables
  pub kept : HasAll old tables
  pub only : AddsOnlyMissed disk folder (IsWithMoves position) old tables
  pub own : IsSettled folder tables position
  pub after : (m : Move) (p : Parts) → Contains done m → position_after position m ≡ Some p → IsSettled folder tables p

pub one_more_done : MoreTablesAnswerTheSame → WhatIsMissingStaysMissing → (new : Tables) {disk : DiskFacts} {folder : Folder} {old tables : Tables} {position : Parts} {done : List Move} (m : Move) → HasDone disk folder old tables position done → HasAll tables new → AddsOnlyMissed disk folder (IsWithMoves position) tables new → AreOf disk folder new → ((p : Parts) → position_after position m ≡ Some p → IsSettled folder new p) → HasDone disk folder old new position (done ++ m ∷ [])
one_more_done same missing new {disk = disk} {folder = folder} {old = old} {tables = tables} {position = position} {done = done} m has more only are settled = record {
  opened = are;
  kept = λ kind key t there. more kind key t (has.kept kind key t there);
  only = adds_more old tables new has.kept has.only only;
  own = stays_settled same missing disk folder tables new position more are has.own;
  after = λ other p among plays. elim (Contains-push_cases done m other among) [
    | inl before ↦ stays_settled same missing disk folder tables new p more are (has.after other p before plays)
    | inr last ↦ settled p (ap (position_after position) last ∙ plays)
  ];
}

-- what is opened for a position after a move is missed there
pub only_after : {disk : DiskFacts} {folder : Folder} {position : Parts} (moves : List Move) (i : ℕ) (m : Move) (next : Parts) (tables new : Tables) → moves ≡ legal_moves position → i < length moves → m ≡ get_or moves i m → position_after position m ≡ Some next → AddsOnlyMissed disk folder (IsAlone next) tables new → AddsOnlyMissed disk folder (IsWithMoves position) tables new
only_after moves i m next tables new is within at plays only =
    let among = subst (Contains moves) (sym at) (Contains-get_or moves i m within) in
    adds_wider tables new (λ _ p _ _ here. inr (m, subst (λ ms. Contains ms m) is among, plays ∙ ap (λ q. Some q) (sym here))) only

pub only_there : {disk : DiskFacts} {folder : Folder} {position : Parts} (tables new : Tables) → AddsOnlyMissed disk folder (IsAlone position) tables new → AddsOnlyMissed disk folder (IsWithMoves position) tables new
only_there tables new only = adds_wider tables new (λ _ p _ _ here. inl here) only

pub all_done : {disk : DiskFacts} {folder : Folder} {old tables : Tables} {position : Parts} (done : List Move) → done ≡ legal_moves position → HasDone disk folder old tables position done → AreSettled folder tables (IsWithMoves position)
all_done {folder = folder} {tables = tables} done is has p (inl here) = subst (IsSettled folder tables) (sym here) has.own
all_done {folder = folder} {tables = tables} done is has p (inr (m, among, plays)) = has.after m p (subst (λ ms. Contains ms m) (sym is) among) plays
