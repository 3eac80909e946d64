use Rattle.std.proofs.Common.{◌∙◌, ap}
use Rattle.std.specs.Str.{bytes_eq}
use Rattle.move_msg.specs.Messages.{stamp_in}
use Rattle.move_msg.specs.declared.record_bytes.Record.{Record}
use Rattle.move_msg.specs.declared.stamp.Stamp.{Stamp}
use Rattle.arbiter_core.specs.Resting.{Rest}
use Rattle.arbiter_core.proofs.state.ArbiterState.is_own.Goals as goal

pub returns : goal.returns
returns c =
    c.eq.ensures ∙ ap (λ (r : Record). bytes_eq c.stamp.result r.stamp) c.as_record.ensures ∙ ap (λ (s : Stamp). bytes_eq s c.self.inside.played.record.stamp) c.stamp.ensures
    ∙ ap (λ (v : Rest). bytes_eq (stamp_in c.args.message.now) v.me.stamp) c.self.view_is
