use Rattle.std.proofs.Common.{◌∷◌, [], sym}
use Rattle.answer_parts.proofs.PrintLaws.{does_so}
use Rattle.answer_parts.specs.Lines.{refusal_words}
use Rattle.answer_parts.specs.Looks.{gathered}
use Rattle.answer_parts.specs.Printing.{Prints}
use Rattle.game_teller.specs.Followings.{FollowsInput}
use Rattle.game_teller.specs.Judges.{by_set}
use Rattle.line_teller.specs.ToldLines.{refused_memory}
use Rattle.table_commands.specs.Follow.{BadTables, ByTables, FollowsByAll, NoRoomForAll}
use Rattle.table_commands.proofs.follow.follow_by_all.Goals as goal

pub returns-in-Ok-Ok-clause-made : goal.returns-in-Ok-Ok-clause-made
returns-in-Ok-Ok-clause-made g c =
    let o = g.S.System.outside c.args.system.now in
    let tables = c.in-Ok-Ok.set.tables in
    let is = sym (rw c.in-Ok-Ok.field-0-is at c.in-Ok-Ok.ensures.tables) in
    does_so o _ _ (FollowsInput c.args.game.now (by_set tables) o.input) (FollowsByAll o.input (gathered c.args.sources.now) c.args.game.now) c.follow_game.result (λ events status h. ByTables tables is h) c.follow_game.ensures.made

pub returns-in-Ok-Err-clause-made : goal.returns-in-Ok-Err-clause-made
returns-in-Ok-Err-clause-made g c =
    let o = g.S.System.outside c.args.system.now in
    let words = refusal_words c.in-Ok-Err.refusal in
    let is = sym (rw c.in-Ok-Err.field-0-is at c.in-Ok-Err.ensures.tables) in
    does_so o _ _ (Prints (words ∷ []) 1) (FollowsByAll o.input (gathered c.args.sources.now) c.args.game.now) c.print_refusal.result (λ events status h. BadTables words is h) c.print_refusal.ensures.made

pub returns-in-Err-clause-made : goal.returns-in-Err-clause-made
returns-in-Err-clause-made g c =
    let o = g.S.System.outside c.args.system.now in
    does_so o _ _ (Prints (refused_memory ∷ []) 1) (FollowsByAll o.input (gathered c.args.sources.now) c.args.game.now) c.print_refusal-in-Err.result (λ events status h. NoRoomForAll h) c.print_refusal-in-Err.ensures.made
