use Rattle.std.proofs.Common.{subst}
use Rattle.pgn_games.specs.Shown.{game_of}
use Rattle.table_folder.specs.declared.files.SystemFiles.{SystemFiles}
use Rattle.timeline.specs.Outsides.{AddsSome}
use Rattle.table_commands.specs.Pgn.{RulesIn}
use Rattle.table_commands.proofs.PgnLaws.{game_ruled, reads_on, rules_stay}
use Rattle.table_commands.proofs.pgn.FolderRulerGameRuler.rule.Goals as goal

pub returns-clause-made : goal.returns-clause-made
returns-clause-made g c =
    let o = g.S.System.outside c.args.self.now.folder.on.disk.system.now in
    let on = c.args.self.now.folder.on in
    let ruled = game_ruled o _ _ o.disk on.folder c.args.self.now.delay (game_of c.args.game.now) _ c.args.self.now.folder.tables c.ask-found.new.self.tables c.ask-found.result c.ruling_by.result c.deref.ensures.value c.ruling_by.ensures c.ask-found.ensures.made in
    subst (λ s. AddsSome (g.S.System.outside s) c.args.timeline.now c.ask-found.new.timeline (RulesIn c.args.self.now.delay o.disk on.folder c.args.self.now.folder.tables c.ask-found.new.self.tables (game_of c.args.game.now) c.ruling_by.result)) c.requires ruled

pub returns-clause-same : goal.returns-clause-same
returns-clause-same g c = rules_stay (λ (d : SystemFiles _). (g.S.System.outside d.system.now).disk) c.args.self.now.delay c.args.self.now.folder.on c.ask-found.new.self.on c.ask-found.ensures.on

pub returns-clause-still : goal.returns-clause-still
returns-clause-still g c = reads_on (λ (d : SystemFiles _). d.system.now) c.args.self.now.folder.on c.ask-found.new.self.on _ c.ask-found.ensures.on c.requires
