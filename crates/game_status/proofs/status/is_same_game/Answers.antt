use Rattle.std.proofs.Common.{rules, ◌≡◌, sym, ◌∙◌}
use Rattle.game_status.proofs.GameLaws.{same_so}
use Rattle.game_status.proofs.status.is_same_game.Goals as goal

pub returns : goal.returns
returns c =
    let named = sym c.as_slice.ensures.value ∙ c.is_same_text.ensures.0 c.if-not-is_same_text.false ∙ c.as_slice-2.ensures.value in
    let delays : c.args.one.now.delay ≡ c.args.other.now.delay = search rules in
    same_so c.args.one.now c.args.other.now c.is_same_start.result named delays c.is_same_start.ensures
