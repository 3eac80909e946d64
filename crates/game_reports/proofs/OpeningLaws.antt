-- Folders that are opened one after the other, and what is done by them.
use Rattle.std.proofs.Common.{◌≡◌, ◌++◌, ◌∷◌, [], ℕ, List, Option, Some, None, ap, refl}
use Rattle.std.specs.Prelude.{Result, Ok, Err, is_some, option_map}
use Rattle.answer_parts.proofs.PrintLaws.{then_does, then_prints}
use Rattle.answer_parts.specs.Printing.{Performs, Prints}
use Rattle.line_teller.specs.ToldLines.{refused_memory}
use Rattle.system_io.specs.declared.output.WriteFault.{WriteFault}
use Rattle.timeline.proofs.EventLaws.{adds_more}
use Rattle.timeline.specs.Outsides.{AddsSome, Outside}
use Rattle.game_reports.specs.Folders.{AreKnown, AreKnownBy, AreRefused, BothOpened, ByFolders, FirstRefused, FoldersRefused, KnownFolders, NoRoomForGames, OfFolders, OpenedFolders, OpensBoth, OpensGames, OpensOther, SecondRefused}
use Rattle.game_reports.specs.Inside.Opening.{known_folder}
use Rattle.game_reports.specs.StoreReads.{OpenedFolder, Opens}
use Rattle.game_reports.specs.Writing.{Doing}
use Rattle.game_reports.specs.declared.folders.GameFolder.{GameFolder}

-- a second folder is known where one is
pub some_known : (other : Option GameFolder) → is_some other ≡ is_some (option_map known_folder other)
some_known None = refl
some_known (Some f) = refl

module _ {T P F K S L : Type 0} (o : Outside T P F K S L) (folder : List ℕ) (other : Option (List ℕ)) where
  abbrev pub both : OpenedFolder → Option OpenedFolder → OpenedFolders
  both one two = record { one = one; other = two }

  pub first_refused : (a b : T) (words : List ℕ) → AddsSome o a b (Opens o folder (Err words)) → AddsSome o a b (OpensBoth o folder other (Err words))
  first_refused a b words p = (p.0, p.1, FirstRefused words p.2 refl)

  pub both_opened : (a b c : T) (one : OpenedFolder) (two : Option OpenedFolder) → AddsSome o a b (Opens o folder (Ok one)) → AddsSome o b c (OpensOther o other (Ok two)) → AddsSome o a c (OpensBoth o folder other (Ok (both one two)))
  both_opened a b c one two p q = (p.0 ++ q.0, adds_more o a b c p.0 q.0 p.1 q.1, BothOpened one two p.0 q.0 p.2 q.2 refl refl)

  pub second_refused : (a b c : T) (one : OpenedFolder) (words : List ℕ) → AddsSome o a b (Opens o folder (Ok one)) → AddsSome o b c (OpensOther o other (Err words)) → AddsSome o a c (OpensBoth o folder other (Err words))
  second_refused a b c one words p q = (p.0 ++ q.0, adds_more o a b c p.0 q.0 p.1 q.1, SecondRefused one words p.0 q.0 p.2 q.2 refl refl)

  -- what is known of them
  pub games_known : (a b : T) (opened : OpenedFolders) (f : KnownFolders) → AreKnownBy opened f → AddsSome o a b (OpensBoth o folder other (Ok opened)) → AddsSome o a b (OpensGames o folder other (Ok f))
  games_known a b opened f known p = (p.0, p.1, AreKnown opened f p.2 known refl)

  pub games_refused : (a b : T) (words : List ℕ) → AddsSome o a b (OpensBoth o folder other (Err words)) → AddsSome o a b (OpensGames o folder other (Err words))
  games_refused a b words p = (p.0, p.1, AreRefused words p.2 refl)

  pub no_room_for_games : (a b : T) (opened : OpenedFolders) → AddsSome o a b (OpensBoth o folder other (Ok opened)) → AddsSome o a b (OpensGames o folder other (Err refused_memory))
  no_room_for_games a b opened p = (p.0, p.1, NoRoomForGames opened p.2 refl)

  -- what is done by that
  pub by_folders : (a b c : T) (Does : KnownFolders → Doing) (f : KnownFolders) (r : Result ℕ WriteFault) → AddsSome o a b (OpensGames o folder other (Ok f)) → AddsSome o b c (Performs (Does f) r) → AddsSome o a c (Performs (ByFolders o folder other Does) r)
  by_folders a b c Does f r p q = then_does o a b c p.0 (Does f) (ByFolders o folder other Does) r (λ events is h. OfFolders f p.0 events p.2 h refl) p.1 q

  pub folders_refused : (a b c : T) (Does : KnownFolders → Doing) (words : List ℕ) (r : Result ℕ WriteFault) → AddsSome o a b (OpensGames o folder other (Err words)) → AddsSome o b c (Performs (Prints (words ∷ []) 1) r) → AddsSome o a c (Performs (ByFolders o folder other Does) r)
  folders_refused a b c Does words r p q = then_prints o a b c p.0 (ByFolders o folder other Does) (words ∷ []) 1 r (FoldersRefused words p.0 p.2 refl refl) p.1 q
