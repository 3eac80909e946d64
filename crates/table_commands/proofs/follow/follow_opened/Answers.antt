use Rattle.answer_parts.proofs.PrintLaws.{does_so}
use Rattle.answer_parts.specs.Printing.{Prints}
use Rattle.std.proofs.Common.{◌∷◌, []}
use Rattle.game_teller.specs.Followings.{FollowsInput}
use Rattle.line_teller.specs.ToldLines.{refused_memory}
use Rattle.table_commands.specs.Follow.{ByItsTables, FollowsOpened, NoRoomForSet, by_folder}
use Rattle.table_commands.specs.FolderReads.{no_tables}
use Rattle.table_commands.proofs.follow.follow_opened.Goals as goal

pub returns-in-Ok-clause-made : goal.returns-in-Ok-clause-made
returns-in-Ok-clause-made g c =
    let o = g.S.System.outside c.args.system.now in
    let folder = c.args.folder.folder in
    let made = rw c.in-Ok.ensures.empty at rw c.requires at c.follow_game.ensures.made in
    does_so o _ _ (FollowsInput c.args.game.now (by_folder o.disk folder no_tables) o.input) (FollowsOpened o.disk o.input folder c.args.game.now) c.follow_game.result (λ events status h. ByItsTables h) made

pub returns-in-Err-clause-made : goal.returns-in-Err-clause-made
returns-in-Err-clause-made g c =
    let o = g.S.System.outside c.args.system.now in
    let folder = c.args.folder.folder in
    does_so o _ _ (Prints (refused_memory ∷ []) 1) (FollowsOpened o.disk o.input folder c.args.game.now) c.print_refusal.result (λ events status h. NoRoomForSet h) c.print_refusal.ensures.made
