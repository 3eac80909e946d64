use Rattle.std.proofs.Common.{◌∷◌, [], ap, inl, inr, refl}
use Rattle.answer_parts.specs.Lines.{refusal_words}
use Rattle.move_msg.specs.ToldBy.{told_by}
use Rattle.serve_core.proofs.ServeLaws.{folder_open, folder_refused, one_is_refused, refused_so, told_at}
use Rattle.serve_core.specs.Serve.{IsRefused, OfFolder, manifest_path}
use Rattle.serve_core.proofs.task.serve_task.Goals as goal

pub returns-in-Err-clause-made : goal.returns-in-Err-clause-made
returns-in-Err-clause-made g c = IsRefused (refused_so (g.S.System.outside c.args.by.now.system.now) c.args.task.now _ _ _ c.in-Err.refusal _ c.in-Err.ensures c.print_refusal.ensures.made)

pub returns-in-Err-clause-replied : goal.returns-in-Err-clause-replied
returns-in-Err-clause-replied g c = inr (refl, one_is_refused (g.S.System.outside c.args.by.now.system.now) _ _ (refusal_words c.in-Err.refusal ∷ []) c.print_refusal.result c.print_refusal.ensures.made)

pub serve_folder_if-requires : goal.serve_folder_if-requires
serve_folder_if-requires g c = ap (λ d. d.system.now) c.in-Ok-open.ensures.disk

pub returns-in-Ok-open-clause-made : goal.returns-in-Ok-open-clause-made
returns-in-Ok-open-clause-made g c =
    OfFolder c.in-Ok-open.folder.folder _ (folder_open (g.S.System.outside c.args.by.now.system.now) c.args.task.now _ _ _ c.in-Ok.manifest c.in-Ok-open.folder.folder c.in-Ok.ensures c.in-Ok-open.ensures.made) c.serve_folder_if.ensures.made

pub returns-in-Ok-open-clause-replied : goal.returns-in-Ok-open-clause-replied
returns-in-Ok-open-clause-replied g c =
    inl (
      c.in-Ok-open.folder,
      ap (λ d. d.system.now) c.in-Ok-open.ensures.disk,
      record {
        told = told_by c.in-Ok.manifest;
        is_told = told_at (g.S.System.outside c.args.by.now.system.now).disk (manifest_path c.args.task.now) c.in-Ok.manifest _ c.in-Ok.ensures.2.0;
        sound = c.in-Ok.ensures.2.1;
        is_at = c.in-Ok-open.ensures.folder;
      },
      c.serve_folder_if.ensures.replied,
    )

pub returns-clause-made : goal.returns-clause-made
returns-clause-made g c =
    let o = g.S.System.outside c.args.by.now.system.now in
    IsRefused (refused_so o c.args.task.now _ _ _ c.unread.result _
    (folder_refused o c.args.task.now _ _ _ c.in-Ok.manifest c.in-Err-open.fault c.unread.result c.unread.ensures.is c.in-Ok.ensures c.in-Err-open.ensures.made) c.print_refusal-in-Err-open.ensures.made)

pub returns-clause-replied : goal.returns-clause-replied
returns-clause-replied g c = inr (refl, one_is_refused (g.S.System.outside c.args.by.now.system.now) _ _ (refusal_words c.unread.result ∷ []) c.print_refusal-in-Err-open.result c.print_refusal-in-Err-open.ensures.made)
