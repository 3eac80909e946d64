use Rattle.std.proofs.Common.{Err, refl}
use Rattle.table_commands.specs.Courses.{GameAsked}
use Rattle.table_commands.specs.Games.{SpellsGame}
use Rattle.table_commands.proofs.LineLaws.{outcome_found, outcome_lacked, outcome_refused}
use Rattle.table_commands.proofs.games.FolderGameJudge.judge.Goals as goal

pub returns-in-Ok-Ok-clause-told : goal.returns-in-Ok-Ok-clause-told
returns-in-Ok-Ok-clause-told g c =
    let self = c.args.self.now in
    let o = g.S.System.outside self.folder.on.disk.system.now in
    let game : GameAsked = record { start = c.args.start.now; moves = c.args.moves.now; delay = self.delay } in
    let spells : SpellsGame self.delay c.args.line.now game = (c.requires.spelled, c.requires.position, c.requires.moves, refl) in
    outcome_found o o.disk self.folder.on.folder self.folder.tables c.args.line.now self.delay game spells c.ask.new.self.tables _ _ c.in-Ok-Ok.outcome _ c.are_all_legal.result refl c.are_all_legal.ensures (rw c.in-Ok-Ok.field-0-is at c.in-Ok-Ok.ensures.made)

pub returns-in-Ok-Err-clause-told : goal.returns-in-Ok-Err-clause-told
returns-in-Ok-Err-clause-told g c =
    let self = c.args.self.now in
    let o = g.S.System.outside self.folder.on.disk.system.now in
    let game : GameAsked = record { start = c.args.start.now; moves = c.args.moves.now; delay = self.delay } in
    let spells : SpellsGame self.delay c.args.line.now game = (c.requires.spelled, c.requires.position, c.requires.moves, refl) in
    outcome_refused o o.disk self.folder.on.folder self.folder.tables c.args.line.now self.delay game spells c.ask.new.self.tables _ _ c.in-Ok-Err.refused (rw c.in-Ok-Err.field-0-is at c.in-Ok-Err.ensures.made)

pub returns-in-Err-clause-room : goal.returns-in-Err-clause-room
returns-in-Err-clause-room g c =
    let self = c.args.self.now in
    let o = g.S.System.outside self.folder.on.disk.system.now in
    let game : GameAsked = record { start = c.args.start.now; moves = c.args.moves.now; delay = self.delay } in
    let spells : SpellsGame self.delay c.args.line.now game = (c.requires.spelled, c.requires.position, c.requires.moves, refl) in
    outcome_lacked o o.disk self.folder.on.folder self.folder.tables c.args.line.now self.delay game spells c.ask.new.self.tables _ _ (Err c.in-Err.fault) c.in-Err.ensures.made
