-- Folders of games, by what is read of them before any game is (this project's own).
use Rattle.std.specs.Prelude.{◌≡◌, ◌++◌, ℕ, List, [], ◌∷◌, Option, Some, None, Result, Ok, Err}
use Rattle.std.specs.List.Sorted.{IsStrictlySortedBy}
use Rattle.std.specs.Cmp.Lexicographic.{slice_cmp}
use Rattle.std.specs.Ordering.{nat_cmp}
use Rattle.answer_parts.specs.Printing.{printed}
use Rattle.arbiter_server.specs.StoreGames.{bytes_at}
use Rattle.game_status.specs.Listings.{AreStampsIn, game_ending, kept_ending}
use Rattle.game_status.specs.StoredDisks.{RecordBytes}
use Rattle.line_teller.specs.ToldLines.{refused_memory}
use Rattle.timeline.specs.Events.{Event}
use Rattle.timeline.specs.Outsides.{Outside}
use Rattle.game_reports.specs.StoreReads.{OpenedFolder, Opens}
use Rattle.game_reports.specs.Writing.{Doing}

-- ---- what is known

-- of a folder: its path, the stamps of the records that it lists as files, and the bytes of those in its store
pub record KnownFolder : Type 0 where
  pub path : List ℕ
  pub kept : List (List ℕ)
  pub records : RecordBytes

-- so much is known by the names in it and the records of its store
pub record IsKnownBy (opened : OpenedFolder) (f : KnownFolder) : Type 0 where
  pub is_at : f.path ≡ opened.path
  pub kept : AreStampsIn opened.names kept_ending f.kept
  pub records : (stamp : List ℕ) → f.records stamp ≡ bytes_at opened.records stamp

-- so it is with a second folder, if one is named
abbrev pub IsOtherKnownBy : Option OpenedFolder → Option KnownFolder → Type 0
IsOtherKnownBy None None = Unit {0}
IsOtherKnownBy None (Some f) = ⊥
IsOtherKnownBy (Some opened) None = ⊥
IsOtherKnownBy (Some opened) (Some f) = IsKnownBy opened f

abbrev pub names_in : Option OpenedFolder → List (List ℕ)
names_in None = []
names_in (Some opened) = opened.names

-- a folder and a second one, if it is named
pub record OpenedFolders : Type 0 where
  pub one : OpenedFolder
  pub other : Option OpenedFolder

-- what is known of both, and the stamps of all their games
pub record KnownFolders : Type 0 where
  pub one : KnownFolder
  pub other : Option KnownFolder
  pub stamps : List (List ℕ)

-- the stamps are those of the games' files of both, in rising order, each once
pub record AreKnownBy (opened : OpenedFolders) (f : KnownFolders) : Type 0 where
  pub one : IsKnownBy opened.one f.one
  pub other : IsOtherKnownBy opened.other f.other
  pub games : AreStampsIn (opened.one.names ++ names_in opened.other) game_ending f.stamps
  pub rising : IsStrictlySortedBy (slice_cmp nat_cmp) f.stamps

-- ---- what is read

-- a second folder is opened, if one is named
abbrev pub OpensOther : {T P F K S L : Type 0} → Outside T P F K S L → Option (List ℕ) → Result (Option OpenedFolder) (List ℕ) → List Event → Type 0
OpensOther o None result events = (result ≡ Ok None) × (events ≡ [])
OpensOther o (Some path) (Ok None) events = ⊥
OpensOther o (Some path) (Ok (Some opened)) events = Opens o path (Ok opened) events
OpensOther o (Some path) (Err words) events = Opens o path (Err words) events

-- a folder is opened, and then the second one; nothing is read after a refusal
pub data OpensBoth {T P F K S L : Type 0} (o : Outside T P F K S L) (folder : List ℕ) (other : Option (List ℕ)) (result : Result OpenedFolders (List ℕ)) (events : List Event) : Type 0 where
  BothOpened : (one : OpenedFolder) (two : Option OpenedFolder) (before after : List Event) → Opens o folder (Ok one) before → OpensOther o other (Ok two) after → result ≡ Ok (record { one = one; other = two }) → events ≡ before ++ after → OpensBoth o folder other result events
  FirstRefused : (words : List ℕ) → Opens o folder (Err words) events → result ≡ Err words → OpensBoth o folder other result events
  SecondRefused : (one : OpenedFolder) (words : List ℕ) (before after : List Event) → Opens o folder (Ok one) before → OpensOther o other (Err words) after → result ≡ Err words → events ≡ before ++ after → OpensBoth o folder other result events

-- they are opened, and this is known of them; or the words that refuse them
pub data OpensGames {T P F K S L : Type 0} (o : Outside T P F K S L) (folder : List ℕ) (other : Option (List ℕ)) (result : Result KnownFolders (List ℕ)) (events : List Event) : Type 0 where
  AreKnown : (opened : OpenedFolders) (f : KnownFolders) → OpensBoth o folder other (Ok opened) events → AreKnownBy opened f → result ≡ Ok f → OpensGames o folder other result events
  AreRefused : (words : List ℕ) → OpensBoth o folder other (Err words) events → result ≡ Err words → OpensGames o folder other result events
  NoRoomForGames : (opened : OpenedFolders) → OpensBoth o folder other (Ok opened) events → result ≡ Err refused_memory → OpensGames o folder other result events

-- they are opened, and then this is done by what is known of them; or what refuses them is written
pub data ByFolders {T P F K S L : Type 0} (o : Outside T P F K S L) (folder : List ℕ) (other : Option (List ℕ)) (Does : KnownFolders → Doing) (events : List Event) (status : Option ℕ) : Type 0 where
  OfFolders : (f : KnownFolders) (opening rest : List Event) → OpensGames o folder other (Ok f) opening → Does f rest status → events ≡ opening ++ rest → ByFolders o folder other Does events status
  FoldersRefused : (words : List ℕ) (opening : List Event) → OpensGames o folder other (Err words) opening → events ≡ opening ++ printed (words ∷ []) → status ≡ Some 1 → ByFolders o folder other Does events status
