use Rattle.std.proofs.Common.{◌∙◌, ◌∷◌, ◌/◌, [], List, Option, length, refl, subst}
use Rattle.std.specs.Prelude.{take}
use Rattle.system_io.proofs.HistoryLaws.{Passes-trans}
use Rattle.timeline.specs.Events.{Event, Passes, Refused, Wrote}
use Rattle.timeline_fakes.specs.Memories.{events_in}
use Rattle.timeline_fakes.proofs.memory_system.MemorySystemSystem.write.Goals as goal

pub returns-then-is_refusing-clause-made : goal.returns-then-is_refusing-clause-made
returns-then-is_refusing-clause-made c =
    let half = length c.args.bytes.now / 2 in
    let more : List Event = Wrote c.args.to (take half c.args.bytes.now) ∷ Refused c.args.to ∷ [] in
    let first = c.keep.ensures.events (Wrote c.args.to (take half c.args.bytes.now)) c.wrote-made.ensures in
    let second = c.keep-then-is_refusing.ensures.events (Refused c.args.to) refl in (
      more,
      subst (λ (t : Option (List Event)). Passes t (events_in c.keep-then-is_refusing.new.self) more) (c.is_refusing.ensures.events ∙ c.set_outlet.ensures.events) (Passes-trans _ _ _ _ _ first second),
      (half, refl),
    )
