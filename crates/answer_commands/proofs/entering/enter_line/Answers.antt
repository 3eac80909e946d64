use Rattle.std.proofs.Common.{refl}
use Rattle.arbiter_server.specs.GameFiles.{game_as_told}
use Rattle.answer_commands.specs.Inside.Entering.{place_of}
use Rattle.answer_commands.specs.declared.keeping.KeepFault.TheVariants as keep
use Rattle.answer_parts.specs.declared.answers.refusals.EntryFault.TheVariants as entry
use Rattle.answer_commands.proofs.EnterLaws.{entered_by, file_at_fault, line_at_fault, line_entered, no_room}
use Rattle.answer_commands.proofs.entering.enter_line.Goals as goal

pub returns-in-Err : goal.returns-in-Err
returns-in-Err g c = line_at_fault (g.S.System.outside c.args.system.now) (place_of c.args.place.now) _ c.args.line.now c.in-Err.fault _ c.in-Err.ensures.err

pub returns-in-Ok-keep_game : goal.returns-in-Ok-keep_game
returns-in-Ok-keep_game g c =
    let o = g.S.System.outside c.args.system.now in
    let p = place_of c.args.place.now in
    let game = game_as_told c.in-Ok.game.name c.in-Ok.game.start c.in-Ok.game.delay in
    let kept = entered_by o _ _ p game c.stamp-stamp.result c.write_game-text.result.items _ _ _ c.stamp-stamp.ensures c.write_game-text.ensures.spells (rw c.as_slice.ensures.value at c.in-Ok-keep_game.ensures) in
    line_entered o p _ _ c.args.line.now c.stamp-stamp.result game _ _ c.stamp-stamp.ensures c.in-Ok.ensures.ok kept

pub returns-in-Err-Keeper : goal.returns-in-Err-Keeper
returns-in-Err-Keeper g c =
    let o = g.S.System.outside c.args.system.now in
    let p = place_of c.args.place.now in
    let game = game_as_told c.in-Ok.game.name c.in-Ok.game.start c.in-Ok.game.delay in
    let kept = entered_by o _ _ p game c.stamp-stamp.result c.write_game-text.result.items _ _ _ c.stamp-stamp.ensures c.write_game-text.ensures.spells (rw c.as_slice.ensures.value at c.in-Err-Keeper.ensures) in
    file_at_fault o p _ _ c.args.line.now game _ keep.Keeper entry.Keeper _ _ c.in-Err-Keeper.field-0-is refl c.in-Ok.ensures.ok kept

pub returns-in-Err-Exists : goal.returns-in-Err-Exists
returns-in-Err-Exists g c =
    let o = g.S.System.outside c.args.system.now in
    let p = place_of c.args.place.now in
    let game = game_as_told c.in-Ok.game.name c.in-Ok.game.start c.in-Ok.game.delay in
    let kept = entered_by o _ _ p game c.stamp-stamp.result c.write_game-text.result.items _ _ _ c.stamp-stamp.ensures c.write_game-text.ensures.spells (rw c.as_slice.ensures.value at c.in-Err-Exists.ensures) in
    file_at_fault o p _ _ c.args.line.now game _ keep.Exists entry.Exists _ _ c.in-Err-Exists.field-0-is refl c.in-Ok.ensures.ok kept

pub returns-in-Err-OutOfMemory : goal.returns-in-Err-OutOfMemory
returns-in-Err-OutOfMemory g c =
    let o = g.S.System.outside c.args.system.now in
    let p = place_of c.args.place.now in
    let game = game_as_told c.in-Ok.game.name c.in-Ok.game.start c.in-Ok.game.delay in
    let kept = entered_by o _ _ p game c.stamp-stamp.result c.write_game-text.result.items _ _ _ c.stamp-stamp.ensures c.write_game-text.ensures.spells (rw c.as_slice.ensures.value at c.in-Err-OutOfMemory.ensures) in
    no_room o p _ _ c.args.line.now game _ _ _ c.in-Err-OutOfMemory.field-0-is c.in-Ok.ensures.ok kept
