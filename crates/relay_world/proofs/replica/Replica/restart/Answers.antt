use Rattle.std.proofs.Common.{◌≡◌, ◌≢◌, ◌∙◌, Ok, Err, ap, sym, subst}
use Rattle.arbiter_core.specs.declared.fault.OpenFault.{OpenFault}
use Rattle.arbiter_core.specs.declared.fault.OpenFault.TheVariants.{OutOfMemory}
use Rattle.arbiter_core.specs.Answering.{Identity}
use Rattle.arbiter_core.specs.Memory.{Memory, memory_facts}
use Rattle.arbiter_core.specs.Opens.{OpenResult, Opens}
use Rattle.arbiter_core.specs.Setups.{SetupView, IsGood, IsIdentity, rules_at, setup_view}
use Rattle.arbiter_core.specs.Views.{View}
use Rattle.relay_world.specs.Worlds.{restarted}
use Rattle.relay_world.specs.Inside.Fields.{place_view}
use Rattle.relay_world.specs.Inside.Seats.{SeatIs, SeatView, StandsForSide}
use Rattle.relay_world.proofs.Reopening.{reopened, setup_of}
use Rattle.relay_world.proofs.replica.Replica.restart.Goals as goal

answered : (v : View) → ◌≢◌ {A = OpenResult} (Ok v) (Err OutOfMemory)
answered v e = cc

refused : (f : OpenFault) → (f ≡ OutOfMemory → ⊥) → ◌≢◌ {A = OpenResult} (Err f) (Err OutOfMemory)
refused f n e = n cc

pub returns-in-Ok : goal.returns-in-Ok
returns-in-Ok c me setup side good is whole seat =
    let stands : StandsForSide me setup (place_view c.self.inside.place) c.self.inside.keeper side = subst (λ (s : SeatView). SeatIs me setup s side) (sym c.self.view_is) seat in
    let s : setup_view c.emptied.result ≡ setup = c.emptied.ensures ∙ setup_of me setup c.self.inside.place side stands.place_is in
    let told : OpenResult = Ok c.in-Ok.arbiter in
    reopened me setup (place_view c.self.inside.place) c.self.inside.keeper c.set.new.self c.open.new.keeper side c.args.keep told is whole stands (ap (λ (m : Memory). m.kept) c.set.ensures) (ap (λ (m : Memory). m.keep) c.set.ensures)
    (subst (λ (x : SetupView). IsGood x → (i : Identity) × IsIdentity x i × Opens memory_facts x i c.set.new.self c.open.new.keeper told) s c.in-Ok.ensures.good good)
    (answered c.in-Ok.arbiter)

pub returns : goal.returns
returns c me setup side good is whole seat =
    let stands : StandsForSide me setup (place_view c.self.inside.place) c.self.inside.keeper side = subst (λ (s : SeatView). SeatIs me setup s side) (sym c.self.view_is) seat in
    let s : setup_view c.emptied.result ≡ setup = c.emptied.ensures ∙ setup_of me setup c.self.inside.place side stands.place_is in
    let told : OpenResult = Err c.in-Err.refused.fault in
    subst (λ (x : SeatView). SeatIs me setup x (restarted (rules_at setup) c.args.keep side.kept)) (sym c.closed.ensures)
    (reopened me setup (place_view c.self.inside.place) c.self.inside.keeper c.set.new.self c.open.new.keeper side c.args.keep told is whole stands (ap (λ (m : Memory). m.kept) c.set.ensures) (ap (λ (m : Memory). m.keep) c.set.ensures)
    (subst (λ (x : SetupView). IsGood x → (i : Identity) × IsIdentity x i × Opens memory_facts x i c.set.new.self c.open.new.keeper told) s c.in-Err.ensures.good good)
    (refused c.in-Err.refused.fault c.in_default.not-OutOfMemory)
    (setup_view c.in-Err.refused.setup) (c.in-Err.ensures.back ∙ s))
