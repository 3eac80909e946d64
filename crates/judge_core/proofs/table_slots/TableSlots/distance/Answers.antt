use Rattle.std.proofs.Common.{sym, ◌∙◌}
use Rattle.judge_core.proofs.Entries.{a_distance, no_distance}
use Rattle.judge_core.proofs.table_slots.TableSlots.distance.Goals as goal

pub returns-in_default-clause-is : goal.returns-in_default-clause-is
returns-in_default-clause-is c = no_distance _ _ _ (sym c.in_default.is ∙ c.read_from_marks.ensures.is)

pub returns-in-Ok-clause-is : goal.returns-in-Ok-clause-is
returns-in-Ok-clause-is c = a_distance _ _ c.requires.part.is _ _ _ (sym c.in-Some.is ∙ c.read_from_marks.ensures.is) c.in-Ok.ensures.found

pub returns-in-Err-clause-is : goal.returns-in-Err-clause-is
returns-in-Err-clause-is c = a_distance _ _ c.requires.part.is _ _ _ (sym c.in-Some.is ∙ c.read_from_marks.ensures.is) c.in-Err.ensures.damaged
