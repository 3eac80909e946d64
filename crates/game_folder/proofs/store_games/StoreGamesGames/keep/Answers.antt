use Rattle.std.proofs.Common.{◌≡◌, List, Option, [], None, Some, Ok, ℕ, ap, refl, subst, sym}
use Rattle.timeline.proofs.EventLaws.{adds_none}
use Rattle.game_folder.specs.Drafts.{DraftView, settled}
use Rattle.game_folder.specs.StoreGames.{Notes}
use Rattle.game_folder.proofs.StoreLaws.{in_no_file, keeps_noted}
use Rattle.game_folder.proofs.store_games.StoreGamesGames.keep.Goals as goal

unput : (draft : DraftView) → draft.to_put ≡ None → draft ≡ settled draft
unput draft none = ap (λ (put : Option (List ℕ)). record draft { to_put = put }) none

pub returns-in_default-clause-made : goal.returns-in_default-clause-made
returns-in_default-clause-made g c =
    let o = g.S.System.outside c.args.system.now in
    let game = c.args.game.now in
    let none : None ≡ game.draft.to_put = c.in_default.ensures in
    ([], adds_none o c.args._timeline.now, keeps_noted o c.args.self.now c.args.self.now game game (Ok tt) refl (in_no_file o (o.store_path c.args.self.now.store) game.file c.requires) refl (unput game.draft (sym none)) (subst (λ (put : Option (List ℕ)). Notes c.args.self.now game.stamp put (Ok tt) c.args.self.now) none refl))

pub returns-clause-made : goal.returns-clause-made
returns-clause-made g c =
    let o = g.S.System.outside c.args.system.now in
    let game = c.args.game.now in
    let some : Some c.in-Some.bytes.now ≡ game.draft.to_put = c.in-Some.ensures in
    let notes = subst (λ (put : Option (List ℕ)). Notes c.args.self.now game.stamp put c.add-done.result c.add-done.new.self) some c.add-done.ensures in
    ([], adds_none o c.args._timeline.now, keeps_noted o c.args.self.now c.add-done.new.self game _ c.add-done.result refl (in_no_file o (o.store_path c.args.self.now.store) game.file c.requires) refl c.settle.ensures notes)
