use Rattle.std.proofs.Common.{◌≡◌, ◌∙◌, [], inl, refl, sym}
use Rattle.std.proofs.lemmas.Bool.{false≢true}
use Rattle.system_io.specs.FileCalls.{Failed, Read, SyncedFolder}
use Rattle.system_io.specs.KeptFiles.{bytes_of}
use Rattle.system_io.specs.Traces.{AreOneOf}
use Rattle.system_io.proofs.CallSteps.{at_start, is_none, kept, only, read_again, still_says}
use Rattle.system_io.proofs.call_log.CallLogKeptFile.settle.Goals.{else-self-via-then-self+else-not-are_same, else-self-via-else-self}
use Rattle.system_io.proofs.call_log.CallLogKeptFile.settle.Goals as goal

pub returns-in-Err-clause-same : goal.returns-in-Err-clause-same
returns-in-Err-clause-same g c = λ a b h. still_says _ _ _ _ a b c.fail-in-Err.ensures.known c.fail-in-Err.ensures.stands c.fail-in-Err.ensures.earlier c.fail-in-Err.ensures.calls (kept a b _ _ Failed tt c.in-Err.ensures.made) h

pub returns-in-Err-sync_folder-clause-same : goal.returns-in-Err-sync_folder-clause-same
returns-in-Err-sync_folder-clause-same g c = λ a b h.
    still_says _ _ _ _ a b c.fail-in-Err-sync_folder.ensures.known c.fail-in-Err-sync_folder.ensures.stands c.fail-in-Err-sync_folder.ensures.earlier c.fail-in-Err-sync_folder.ensures.calls
    (λ k. kept a b _ _ Failed tt c.in-Err-sync_folder.ensures.made (kept a b _ _ (Read (bytes_of c.in-Ok.got)) tt c.in-Ok.ensures.made k)) h

pub returns-then-not-are_same-clause-same : goal.returns-then-not-are_same-clause-same
returns-then-not-are_same-clause-same g c = λ a b h.
    still_says _ _ _ _ a b c.fail-then-not-are_same.ensures.known c.fail-then-not-are_same.ensures.stands c.fail-then-not-are_same.ensures.earlier c.fail-then-not-are_same.ensures.calls
    (λ k. kept a b _ _ SyncedFolder tt c.in-Ok-sync_folder.ensures.made (kept a b _ _ (Read (bytes_of c.in-Ok.got)) tt c.in-Ok.ensures.made k)) h

pub returns-clause-settled : goal.returns-clause-settled
returns-clause-settled g c =
    let none : c.args.self.now.earlier.items ≡ [] = is_none c.args.self.now.earlier c.if-not-is_empty.ensures in
    record { known = refl; names = only _ _ _ refl none; by_calls = at_start _ _ (bytes_of c.in-Ok.got) _ _ _ c.in-Ok.ensures.made c.in-Ok-sync_folder.ensures.made (inl refl) }

pub returns-clause-same : goal.returns-clause-same
returns-clause-same g c = λ a b h.
    elim c.else-self.branch [
      | else-self-via-then-self+else-not-are_same w ↦
          let names : AreOneOf a b c.in-Ok.got c.args.self.now.earlier.items = read_again a b c.in-Ok.got c.args.self.now.stands c.args.self.now.earlier.items (w.if-not-are_same.ensures.0 refl) h.names in
          record { known = refl; names = names; by_calls = at_start a b (bytes_of c.in-Ok.got) _ _ _ c.in-Ok.ensures.made c.in-Ok-sync_folder.ensures.made names.now }
      | else-self-via-else-self w ↦ absurd (false≢true (sym w.if-self.false ∙ h.known))
    ]
