-- The words of `send`: a game is told by words, or by its file.
use Rattle.std.proofs.Common.{◌≡◌, ◌++◌, ℕ, List, [], ◌∷◌, map, Option, Some, None, codes, sym, subst, ap, ◌∙◌, inl, inr}
use Rattle.std.proofs.lemmas.Option.{same_Some}
use Rattle.clap.specs.Words.{Text}
use Rattle.command_line.specs.declared.words.usage.Wanted.TheVariants as wanted
use Rattle.command_line.specs.Commands.Send.{file_faults, sent_faults, words_faults}
use Rattle.command_line.specs.GamePaths.{NamesGame}
use Rattle.command_line.specs.Misuses.{AreWell, Beside, Fault, Holds, IsFirstMisuse, Unfit, Untold, game_faults, text_or_empty, unfit_words}
use Rattle.command_line.proofs.MisuseLaws.{first_behind, first_in_front}

module _ (value : Text → Option Text) where
  untold_first : (faults : List Fault) (line : List ℕ) → value (codes "game") ≡ None → IsFirstMisuse value faults line → IsFirstMisuse value (map Untold faults) line
  untold_first [] line none h = absurd h
  untold_first (fault ∷ faults) line none h = elim h [
    | inl here ↦ inl ((none, here.0), here.1)
    | inr later ↦ inr (λ holds. later.0 holds.1, untold_first faults line none later.1)
  ]

  untold_well : (faults : List Fault) → AreWell value faults → AreWell value (map Untold faults)
  untold_well [] well = tt
  untold_well (fault ∷ faults) well = (λ holds. well.0 holds.1, untold_well faults well.1)

  -- with `--game` no word on a game is missed
  not_missed : (faults : List Fault) (path : Text) → value (codes "game") ≡ Some path → AreWell value (map Untold faults)
  not_missed [] path is = tt
  not_missed (fault ∷ faults) path is = (λ holds. let e : None ≡ Some path = sym holds.0 ∙ is in cc, not_missed faults path is)

  well_join : (front rest : List Fault) → AreWell value front → AreWell value rest → AreWell value (front ++ rest)
  well_join [] rest well more = more
  well_join (fault ∷ front) rest well more = (well.0, well_join front rest well.1 more)

  none_beside : (name : Text) → value (codes "game") ≡ None → Holds value (Beside name) → ⊥
  none_beside name none holds = let e : None ≡ Some holds.0.0 = sym none ∙ holds.0.1 in cc

  file_well : value (codes "game") ≡ None → AreWell value file_faults
  file_well none =
      (λ holds. let e : None ≡ Some holds.0 = sym none ∙ holds.1 in cc, (none_beside (codes "name") none, (none_beside (codes "start") none, (none_beside (codes "tables") none, (none_beside (codes "manifest") none, (none_beside (codes "delay") none, tt))))))

  pub told_well : value (codes "game") ≡ None → AreWell value game_faults → AreWell value sent_faults
  told_well none well = well_join words_faults file_faults (untold_well game_faults well) (file_well none)

  pub told_first : (line : List ℕ) → value (codes "game") ≡ None → IsFirstMisuse value game_faults line → IsFirstMisuse value sent_faults line
  told_first line none h = first_in_front value words_faults file_faults line (untold_first game_faults line none h)

  pub filed_well : (path : Text) → value (codes "game") ≡ Some path → AreWell value file_faults → AreWell value sent_faults
  filed_well path is well = well_join words_faults file_faults (not_missed game_faults path is) well

  pub filed_first : (path : Text) (line : List ℕ) → value (codes "game") ≡ Some path → IsFirstMisuse value file_faults line → IsFirstMisuse value sent_faults line
  filed_first path line is h = first_behind value words_faults file_faults line (not_missed game_faults path is) h

  pub unfit_first : (path : Text) (line : List ℕ) → value (codes "game") ≡ Some path → ((stamp : List ℕ) → NamesGame path stamp → ⊥) → line ≡ unfit_words wanted.GameFile path → IsFirstMisuse value file_faults line
  unfit_first path line is none at = inl ((path, is, none), at ∙ ap (λ o. unfit_words wanted.GameFile (text_or_empty o)) (sym is))

  pub not_unfit : (path stamp : List ℕ) → value (codes "game") ≡ Some path → NamesGame path stamp → Holds value (Unfit wanted.GameFile) → ⊥
  not_unfit path stamp is names (other, at, none) = none stamp (subst (λ p. NamesGame p stamp) (same_Some path other (sym is ∙ at)) names)

  pub alone_not : (name : Text) → value name ≡ None → Holds value (Beside name) → ⊥
  alone_not name none holds = let e : None ≡ Some holds.1.0 = sym none ∙ holds.1.1 in cc
