use Rattle.std.proofs.Common.{◌≡◌, inl, inr, sym, subst, arith}
use Rattle.sqlite_trees.specs.Tree.{Trees}
use Rattle.sqlite_trees.specs.View.{doubt}
use Rattle.sqlite_trees.proofs.Doubt.{no_doubt}
use Rattle.sqlite_store.specs.FileStore.{view}
use Rattle.sqlite_store.specs.Laws.{settled_at}
use Rattle.sqlite.specs.Files.{file_state, image_of, over_files}
use Rattle.sqlite.specs.State.{HasCleanDisk}
use Rattle.game_store.specs.Shelves.{HoldsGames, committed}
use Rattle.game_store.proofs.FileLemmas.{finds_games, leaves_games}
use Rattle.game_store.proofs.files.Store+FileStore+D.open.Goals as goal

pub returns-in-Ok-over-clause-found : goal.returns-in-Ok-over-clause-found
returns-in-Ok-over-clause-found g c clean =
    let conn = c.in-Ok.conn in
    let early : HasCleanDisk (file_state conn) = omega (arith, c.in-Ok-over.ensures.crash.clean) in
    let finds = c.in-Ok.ensures.found early in
    finds_games (image_of g.D.Disk c.args.files) (file_state conn).committed.trees (committed over_files c.in-Ok-over.store) finds.reads finds.holds (c.in-Ok-over.ensures.found clean)

pub returns-in-Err-clause-refused : goal.returns-in-Err-clause-refused
returns-in-Err-clause-refused g c clean = leaves_games c.args.files c.in-Err.left (c.in-Err.ensures.unharmed clean)

pub returns-in-Err-over-clause-refused : goal.returns-in-Err-over-clause-refused
returns-in-Err-over-clause-refused g c clean found may db held games has =
    let conn = c.in-Ok.conn in
    let left = c.into_store.ensures.quiet in
    let last : doubt (view c.into_store.result).is_clean ≡ 0 = no_doubt _ clean in
    let late : HasCleanDisk (file_state c.in-Err-over.conn) = omega (arith, left.clean, last) in
    let early : HasCleanDisk (file_state conn) = omega (arith, c.in-Err-over.ensures.refused.clean, late) in
    let is_open = (c.in-Ok.ensures.opened early).0.is_open in
    let there : HoldsGames (file_state conn).committed.trees games = subst (λ (t : Trees). HoldsGames t games) (sym ((c.in-Ok.ensures.found early).holds db held)) has in
    elim (c.in-Err-over.ensures.refused.crash late found (left.outcomes found may)) [
      | inl before ↦ subst (λ (t : Trees). HoldsGames t games) (sym (settled_at conn.store g.met.D.Disk.seen_may_stay found is_open before)) there
      | inr made ↦ made is_open games there
    ]
