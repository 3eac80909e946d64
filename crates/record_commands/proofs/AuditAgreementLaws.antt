-- What `audit --games` tells is what `audit` tells of the record.
use Rattle.std.proofs.Common.{◌≡◌, ◌++◌, ◌∙◌, ℕ, List, false, Option, Some, None, length, codes, refl, sym, ap, subst, inl, inr}
use Rattle.std.specs.Prelude.{not}
use Rattle.hex.specs.Hex.{encode_lower}
use Rattle.board_core.specs.declared.parts.Parts.{Parts}
use Rattle.board_core.specs.declared.verdict.Verdict.{Verdict}
use Rattle.judge_core.specs.Tables.{Tables}
use Rattle.move_msg.specs.declared.record_bytes.Record.{Record as Records}
use Rattle.record_audit.specs.declared.auditing.Finding.{Finding}
use Rattle.record_audit.specs.declared.auditing.Finding.TheVariants as found
use Rattle.record_audit.specs.Findings.{IsFound, rules_with}
use Rattle.game_status.specs.declared.audit_lines.AuditLook.TheVariants.{Sound, Wrong}
use Rattle.game_status.specs.declared.audit_lines.Unsound.TheVariants as unsound
use Rattle.game_status.specs.declared.status_lines.Look.{Look}
use Rattle.game_status.specs.Comparisons.{mark_by, mark_of}
use Rattle.game_status.specs.GameAudits.{IsUntrue, IsWholeRecord, kept_finding, mark_of_look, sound_line}
use Rattle.game_status.specs.Tellings.{is_fault}
use Rattle.record_commands.specs.Audits.{IsAudited, One, audited_one}
use Rattle.record_commands.specs.AuditAgreements.{TellsAsAudit}

-- a record that is found so by its own delay
audited_so : (start : Parts) (tables : Tables) (delay : ℕ) (r : Records) (bytes : List ℕ) (finding : Finding) → r.delay ≡ delay → IsFound (rules_with start tables r) r.stamp bytes finding → IsAudited (record { start = start; tables = tables; delay = delay }) r.stamp bytes None (audited_one finding)
audited_so start tables delay r bytes finding same h = One finding refl (subst (λ (d : ℕ). IsFound (record { start = start; tables = tables; delay = d }) r.stamp bytes finding) same h) refl

no_fault : (verdict : Option Verdict) → is_fault (mark_by verdict) ≡ false
no_fault None = refl
no_fault (Some v) = refl

whole_is_no_fault : (kept : Option Records) (r : Records) → kept ≡ Some r → is_fault (mark_of kept) ≡ false
whole_is_no_fault kept r is = subst (λ (k : Option Records). is_fault (mark_of k) ≡ false) (sym is) (no_fault r.verdict)

pub tells_as_audit : TellsAsAudit
tells_as_audit manifest tables stamp side (Sound l) bytes r is spelled same h =
    let whole : Finding = found.Whole (length r.moves) r.verdict in
    let sound = subst (IsWholeRecord side.game.start tables) is h.1.1 in
    inr (
      whole,
      audited_so side.game.start tables side.game.delay r bytes whole same (sound bytes spelled),
      ap (λ (k : Look). sound_line stamp k) h.0 ∙ ap (λ (k : Option Records). encode_lower stamp ++ codes " " ++ kept_finding k) is,
      ap (λ (k : Look). is_fault (mark_of_look k)) h.0 ∙ whole_is_no_fault side.kept r is,
    )
tells_as_audit manifest tables stamp side (Wrong unsound.OtherGame) bytes r is spelled same h = inl refl
tells_as_audit manifest tables stamp side (Wrong (unsound.Record finding)) bytes r is spelled same h =
    let untrue = subst (λ (k : Option Records). IsUntrue side.game.start tables k finding) is h.1 in
    inr (
      finding,
      audited_so side.game.start tables side.game.delay r bytes finding same (untrue.1 bytes spelled),
      refl,
      sym (ap not untrue.0),
    )
tells_as_audit manifest tables stamp side (Wrong (unsound.OtherRecord finding)) bytes r is spelled same h = absurd h
