-- `audit` by its values: of folders of games, or of one game's files.
use Rattle.std.proofs.Common.{◌≡◌, List, Option, Some, None, refl, sym, subst, ap, true, false}
use Rattle.std.specs.Prelude.{ℕ, codes, is_some}
use Rattle.clap.specs.Words.{Text}
use Rattle.command_line.specs.Commands.Audit as one_game
use Rattle.command_line.specs.Commands.AuditGames.{LacksFolders, faults, faults_by}
use Rattle.command_line.specs.Misuses.{IsFirstMisuse}

some_not_none : (x : Text) → Some x ≡ None → ⊥
some_not_none x e = let f : true ≡ false = ap is_some e in cc

-- with a folder its faults are those that are told
pub of_folders : (value : Text → Option Text) (line : List ℕ) → (LacksFolders value → ⊥) → IsFirstMisuse value faults line → IsFirstMisuse value (faults_by (value (codes "games")) (value (codes "other"))) line
of_folders value line some h = by_both (value (codes "games")) (value (codes "other")) refl refl
  where
    by_both : (games other : Option Text) → value (codes "games") ≡ games → value (codes "other") ≡ other → IsFirstMisuse value (faults_by games other) line
    by_both None None e f = absurd (some (e, f))
    by_both None (Some path) e f = h
    by_both (Some path) other e f = h

-- without one they are those of one game
pub of_files : (value : Text → Option Text) (line : List ℕ) → LacksFolders value → IsFirstMisuse value one_game.faults line → IsFirstMisuse value (faults_by (value (codes "games")) (value (codes "other"))) line
of_files value line none h =
    subst (λ (games : Option Text). IsFirstMisuse value (faults_by games (value (codes "other"))) line) (sym none.0) (subst (λ (other : Option Text). IsFirstMisuse value (faults_by None other) line) (sym none.1) h)

-- a folder is named
pub has_some : (path : Text) (found : Option Text) → Some path ≡ found → found ≡ None → ⊥
has_some path found is none = some_not_none path (subst (λ (f : Option Text). Some path ≡ f) none is)
