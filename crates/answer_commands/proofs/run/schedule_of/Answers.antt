use Rattle.std.proofs.Common.{◌≡◌, ◌⊎◌, ℕ, List, refl, sym, ap, ◌∙◌, subst, inl, inr}
use Rattle.relay_world.specs.declared.schedule.ScheduleFault.{ScheduleFault}
use Rattle.relay_world.specs.declared.schedule.ScheduleFault.TheVariants.{BadLine, OutOfMemory}
use Rattle.relay_world.specs.Texts.{IsFirstBadScheduleLine}
use Rattle.answer_commands.proofs.run.schedule_of.Goals as goal

abbrev number_of : ScheduleFault → ℕ
number_of (BadLine k) = k
number_of OutOfMemory = 0

bad_line : (text : List ℕ) (fault : ScheduleFault) (number : ℕ) → fault ≡ BadLine number → (fault ≡ OutOfMemory) ⊎ ((k : ℕ) × (fault ≡ BadLine k) × IsFirstBadScheduleLine text k) → IsFirstBadScheduleLine text number
bad_line text fault number is (inl e) = absurd (let f = sym is ∙ e in cc)
bad_line text fault number is (inr h) = subst (IsFirstBadScheduleLine text) (ap number_of (sym h.1 ∙ is)) h.2

pub returns-in-Err-BadLine-clause-err : goal.returns-in-Err-BadLine-clause-err
returns-in-Err-BadLine-clause-err c = (_, bad_line c.args.text.now _ c.in-Err-BadLine.number (cc) c.in-Err-BadLine.ensures.err, refl)
