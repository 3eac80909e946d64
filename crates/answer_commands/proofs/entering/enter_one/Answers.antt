use Rattle.std.proofs.Common.{◌∷◌, []}
use Rattle.answer_parts.specs.Lines.{refused_fen}
use Rattle.answer_commands.specs.Enter.{BadStart, ByManifest, EntersOne, FromStart, PutsGame, entered, placed}
use Rattle.answer_parts.specs.Printing.{Prints}
use Rattle.answer_parts.proofs.PrintLaws.{does_so}
use Rattle.answer_commands.proofs.entering.enter_one.Goals as goal

pub returns-in-Ok-clause-made : goal.returns-in-Ok-clause-made
returns-in-Ok-clause-made g c =
    let o = g.S.System.outside c.args.system.now in
    let task = c.args.task.now in
    let game = c.args.game.now in
    let start = c.in-Ok.start in
    does_so o _ _ (ByManifest o.disk task (λ manifest. PutsGame o (placed task manifest) (entered game start))) (EntersOne o task game) c.enter_from.result
    (λ events status h. FromStart start (rw c.as_bytes.ensures.value at c.in-Ok.ensures.ok) c.in-Ok.ensures.position h) c.enter_from.ensures.made

pub returns-in-Err-clause-made : goal.returns-in-Err-clause-made
returns-in-Err-clause-made g c =
    let o = g.S.System.outside c.args.system.now in
    does_so o _ _ (Prints (refused_fen c.in-Err.fault ∷ []) 1) (EntersOne o c.args.task.now c.args.game.now) c.print_refusal.result
    (λ events status h. BadStart c.in-Err.fault (rw c.as_bytes.ensures.value at c.in-Err.ensures.err) h) c.print_refusal.ensures.made
