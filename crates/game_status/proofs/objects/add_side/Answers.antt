use Rattle.std.proofs.lemmas.Result.{on_ok_weaker}
use Rattle.game_status.proofs.NameLaws.{name_utf8}
use Rattle.game_status.proofs.ObjectLaws.{followed}
use Rattle.game_status.proofs.objects.add_side.Goals as goal

pub utf8_text-requires : goal.utf8_text-requires
utf8_text-requires c = rw c.as_slice.ensures.value (name_utf8 c.args.side.now.game.name.items c.requires)

pub returns : goal.returns
returns c =
    let name = rw (c.utf8_text.ensures, c.as_slice.ensures.value) at c.in_ok-add_text.ensures in
    let start = rw (c.as_str.ensures.value, c.write.ensures.text) at c.in_ok-add_text-2.ensures in
    on_ok_weaker c.add_record.result (λ h. followed _ _ _ _ _ (followed _ _ _ _ _ name start) h) c.add_record.ensures
