use Rattle.std.proofs.Common.{◌∙◌, List, [], ◌∷◌, ap}
use Rattle.system_io.specs.declared.record_store.Entry.{Entry}
use Rattle.timeline.specs.Events.{RecordSought, bytes_found}
use Rattle.timeline.proofs.EventLaws.{adds_none}
use Rattle.game_folder.specs.StoreGames.{last_noted}
use Rattle.game_folder.proofs.StoreLaws.{looks_up_noted, looks_up_stored}
use Rattle.game_folder.proofs.store_games.StoreGames.look_up.Goals as goal

pub returns-in-Some : goal.returns-in-Some
returns-in-Some g c =
    let o = g.S.System.outside c.args.system.now in
    let noted = c.in-Some.ensures ∙ ap (λ (es : List Entry). last_noted es c.args.stamp) (c.deref.ensures.value ∙ ap (λ v. v.noted) c.self.view_is) in
    ([], adds_none o c.args.timeline.now, looks_up_noted o c.args.self.now c.args.stamp c.requires.may c.in-Some.bytes.now noted c.game_with.result c.game_with.ensures.kept c.game_with.ensures.ok)

pub returns-in-None : goal.returns-in-None
returns-in-None g c =
    let o = g.S.System.outside c.args.system.now in
    let noted = c.in-None.ensures ∙ ap (λ (es : List Entry). last_noted es c.args.stamp) (c.deref.ensures.value ∙ ap (λ v. v.noted) c.self.view_is) in
    let got = bytes_found c.find.result in (
      RecordSought (o.store_path c.self.inside.store) c.stamp.inside.0 got ∷ [],
      c.find.ensures.made,
      looks_up_stored o c.args.self.now c.args.stamp c.requires.may noted c.self.inside.store c.stamp.inside.0 (ap (λ v. v.store) c.self.view_is) c.stamp.view_is got c.find.ensures.found c.game_with-in-None.result c.game_with-in-None.ensures.kept c.game_with-in-None.ensures.ok,
    )
