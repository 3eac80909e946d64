use Rattle.std.proofs.Common.{subst}
use Rattle.sqlite.specs.Closing.{IsCopied}
use Rattle.sqlite.specs.Files.{file_state}
use Rattle.game_store.proofs.files.Store+FileStore+D.close.Goals as goal

pub returns-in-Ok-clause-seen : goal.returns-in-Ok-clause-seen
returns-in-Ok-clause-seen g c clean =
    let it = subst (λ h. IsCopied h c.in-Ok.files) c.into_connection.ensures.same (c.in-Ok.ensures.copied clean) in
    record { trees = (file_state c.args.self.conn).committed.trees; alone = it.seen; holds = c.into_connection.ensures.holds it.was_clean it.was_open }

pub returns-in-Ok-clause-left : goal.returns-in-Ok-clause-left
returns-in-Ok-clause-left g c clean image may =
    let it = subst (λ h. IsCopied h c.in-Ok.files) c.into_connection.ensures.same (c.in-Ok.ensures.copied clean) in
    record { trees = (file_state c.args.self.conn).committed.trees; alone = it.left image may; holds = c.into_connection.ensures.holds it.was_clean it.was_open }

pub returns-in-Err-clause-refused : goal.returns-in-Err-clause-refused
returns-in-Err-clause-refused g c clean db may = subst (λ h. (file_state h).may_leave db) c.into_connection.ensures.same (c.in-Err.ensures.err.0.quiet.outcomes db may)
