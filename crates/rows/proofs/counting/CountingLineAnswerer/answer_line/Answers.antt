use Rattle.line_events.proofs.WritingLaws.{no_room_at_once}
use Rattle.line_teller.proofs.FailLaws.{refused}
use Rattle.timeline.specs.declared.stream.Stream.TheVariants.{Output}
use Rattle.rows.proofs.CountLaws.{IsCount, counted, cut_count}
use Rattle.rows.proofs.counting.CountingLineAnswerer.answer_line.Goals as goal

pub returns-then-is_empty-clause-made : goal.returns-then-is_empty-clause-made
returns-then-is_empty-clause-made g c = no_room_at_once (g.S.System.outside c.args.system.now) IsCount (λ _. Unit {0}) _ c.args.line.now tt

pub returns-in-Ok-clause-made : goal.returns-in-Ok-clause-made
returns-in-Ok-clause-made g c = counted (g.S.System.outside c.args.system.now) _ _ c.args.line.now c.count_line.result c.is_complete.result tt c.count_line.ensures c.in-Ok.ensures.made

pub returns-in-Err-Io-clause-made : goal.returns-in-Err-Io-clause-made
returns-in-Err-Io-clause-made g c = cut_count (g.S.System.outside c.args.system.now) _ _ c.args.line.now c.count_line.result c.in-Err-Io.field-0 c.count_line.ensures c.in-Err-Io.ensures.made

pub returns-in-Err-Io-clause-cause : goal.returns-in-Err-Io-clause-cause
returns-in-Err-Io-clause-cause g c = λ _. refused (λ t. (g.S.System.outside c.args.system.now).output t Output) _ c.in-Err-Io.ensures.cause
