use Rattle.std.proofs.Common.{◌∷◌, [], subst}
use Rattle.std.specs.Prelude.{not}
use Rattle.answer_parts.proofs.PrintLaws.{does_so}
use Rattle.answer_parts.specs.Lines.{refused_fen}
use Rattle.answer_parts.specs.Printing.{Prints}
use Rattle.command_line.specs.LazyFolders.{read_when_asked}
use Rattle.fen_text.specs.Fen.{IsFirstFenFault, SpellsPosition}
use Rattle.table_commands.specs.Follow.{BadStart, FollowsBy, FollowsGiven, FromStart, game_from}
use Rattle.table_commands.proofs.follow.follow_given.Goals as goal

pub returns-in-Err-clause-made : goal.returns-in-Err-clause-made
returns-in-Err-clause-made g c =
    let o = g.S.System.outside c.args.system.now in
    let fault = subst (λ text. IsFirstFenFault text c.in-Err.fault) c.as_bytes.ensures.value c.in-Err.ensures.err in
    does_so o _ _ (Prints (refused_fen c.in-Err.fault ∷ []) 1) (FollowsGiven o.disk o.input c.args.task.now c.args.sources.now) c.print_refusal.result (λ events status h. BadStart c.in-Err.fault fault h) c.print_refusal.ensures.made

pub returns-in-Ok-clause-made : goal.returns-in-Ok-clause-made
returns-in-Ok-clause-made g c =
    let o = g.S.System.outside c.args.system.now in
    let task = c.args.task.now in
    let start = c.in-Ok.start in
    let spelled = subst (λ text. SpellsPosition text start) c.as_bytes.ensures.value c.in-Ok.ensures.ok in
    let made = rw c.by_flag.ensures at c.follow_by.ensures.made in
    does_so o _ _ (FollowsBy o.disk o.input c.args.sources.now (read_when_asked (not task.all_tables) task.tables) (game_from task start)) (FollowsGiven o.disk o.input task c.args.sources.now) c.follow_by.result (λ events status h. FromStart start spelled c.in-Ok.ensures.position h) made
