use Rattle.std.proofs.Common.{refl}
use Rattle.std.proofs.lemmas.Bool.{false≢true}
use Rattle.game_reports.proofs.GameRecordLaws.{short_by, stored_put, stored_refused}
use Rattle.game_reports.proofs.game_record.print_stored.Goals as goal

pub returns-then-is_too_long-clause-made : goal.returns-then-is_too_long-clause-made
returns-then-is_too_long-clause-made g c = stored_refused (g.S.System.outside c.args.system.now) _ _ c.args.bytes.now c.print_refusal.result (c.if-is_too_long.ensures.0 refl) c.print_refusal.ensures.made

pub returns-clause-made : goal.returns-clause-made
returns-clause-made g c = stored_put (g.S.System.outside c.args.system.now) _ _ c.args.bytes.now c.print_text.result (short_by c.args.bytes.now (λ long. false≢true (c.if-is_too_long.ensures.1 long))) c.print_text.ensures.made
