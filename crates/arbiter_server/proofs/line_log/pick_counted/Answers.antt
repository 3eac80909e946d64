use Rattle.std.proofs.Common.{◌∙◌, ap, false, refl, Some, sym, true}
use Rattle.arbiter_server.specs.Told.{line_words}
use Rattle.arbiter_server.proofs.Remembers.{picks_counted}
use Rattle.arbiter_server.proofs.line_log.pick_counted.Goals as goal

pub returns-then-is_power_of_two : goal.returns-then-is_power_of_two
returns-then-is_power_of_two c = λ before had.
    picks_counted before (line_words c.args.line) _ refl c.args.lines.now c.count-count.new.self had c.args.kind c.count-count.result c.requires.of c.requires.few c.count-count.ensures.count c.count-count.ensures.counts c.count-count.ensures.lasts
    true (sym c.is_power_of_two.ensures ∙ c.if-is_power_of_two.true) _ (ap Some (c.counted.ensures (line_words c.args.line) c.text.ensures))

pub returns-else-is_power_of_two : goal.returns-else-is_power_of_two
returns-else-is_power_of_two c = λ before had.
    picks_counted before (line_words c.args.line) _ refl c.args.lines.now c.count-count.new.self had c.args.kind c.count-count.result c.requires.of c.requires.few c.count-count.ensures.count c.count-count.ensures.counts c.count-count.ensures.lasts
    false (sym c.is_power_of_two.ensures ∙ c.if-is_power_of_two.false) _ refl
