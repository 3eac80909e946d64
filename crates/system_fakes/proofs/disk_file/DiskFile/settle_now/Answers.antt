use Rattle.std.proofs.Common.{◌∙◌, Some, ap, sym, subst}
use Rattle.system_fakes.specs.PowerLosses.{IsOnPlatter, shown_content}
use Rattle.system_fakes.proofs.DiskLaws.{settles}
use Rattle.system_fakes.proofs.disk_file.DiskFile.settle_now.Goals as goal

pub returns-else-is_lost-clause-same : goal.returns-else-is_lost-clause-same
returns-else-is_lost-clause-same c = λ a b h.
    settles c.args.self.now c.sync_names.new.self (Some c.on_platter.result) a b (c.sync_names.ensures.names c.if-self.false) c.sync_names.ensures.stands c.on_platter.ensures.synced (ap Some c.on_platter.ensures.bytes ∙ ap shown_content c.in-Some.ensures.value) h

pub returns-in-None-clause-same : goal.returns-in-None-clause-same
returns-in-None-clause-same c = λ a b h.
    settles c.args.self.now c.sync_names-in-None.new.self c.take.new.self a b (c.sync_names-in-None.ensures.names c.if-self.false) c.sync_names-in-None.ensures.stands (subst IsOnPlatter (sym c.take.ensures.after) tt) (ap shown_content c.take.ensures.after ∙ sym (ap shown_content (sym c.take.ensures.value ∙ c.in-None.is))) h
