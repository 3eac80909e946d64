use Rattle.std.proofs.Common.{ap, refl}
use Rattle.game_folder.specs.OneGame.{one_game_facts}
use Rattle.game_folder.proofs.RecordLaws.{takes_by_file}
use Rattle.game_folder.proofs.one_game.OneGameGames.take.Goals as goal

pub returns-clause-made : goal.returns-clause-made
returns-clause-made g c =
    let o = g.S.System.outside c.args.system.now in
    let games = c.args.self.now in
    let h = c.take_file.ensures in
    (h.0, h.1, takes_by_file o (one_game_facts o) games games.at.path c.args.stamp c.take_file.result h.0 refl (λ got t k. (t, refl, k)) c.self.inside.path.now (ap (λ v. v.at.path) c.self.view_is) h.2)
