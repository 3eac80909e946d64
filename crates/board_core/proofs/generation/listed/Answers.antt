use Rattle.std.proofs.Common.{arith, rules, []}
use Rattle.board_core.specs.declared.parts.Parts.{Parts}
use Rattle.board_core.specs.declared.generation.Which.{Which}
use Rattle.board_core.specs.Inside.Search.{HasListedBelow}
use Rattle.board_core.proofs.Listing.{Lists-all}
use Rattle.board_core.proofs.Sweep.{Movers-below, Movers-none, Rests-without}
use Rattle.std.proofs.lemmas.Result.{IfOk-from_err}
use Rattle.board_core.proofs.Refused.{on_err}
use Rattle.board_core.proofs.Sweep.{Rests-begin}
use Rattle.board_core.proofs.generation.listed.Goals as goal

none_listed : (p : Parts) (which : Which) → HasListedBelow p which 0 []
none_listed p which = record { ordered = search rules; below = search rules; sound = search rules; complete = λ m l lt. absurd (omega arith) }

pub add_from-requires-clause-below : goal.add_from-requires-clause-below
add_from-requires-clause-below c = Movers-below _ _ _ _ _ _ (omega arith) c.loop-which.invariant.rests c.lowest-from.ensures.here c.lowest-from.ensures.first c.loop-which.invariant.below

pub loop-which-preserved : goal.loop-which-preserved
loop-which-preserved c = record {
  below = rw c.number-next.ensures.value c.in_ok-add_from.ensures.moves;
  rests = rw c.number-next.ensures.value (Rests-without _ _ _ _ _ (omega arith) c.loop-which.invariant.rests c.lowest-from.ensures.first c.lowest-from.ensures.here c.without-rest.ensures.gone c.without-rest.ensures.kept);
  known = c.add_from.ensures.known;
}

pub returns-clause-listed : goal.returns-clause-listed
returns-clause-listed c = Lists-all _ _ _ _ (Movers-none _ _ _ _ _ c.loop-which.invariant.rests (omega arith) c.loop-which.invariant.below) (omega arith)

pub survey_of-v-requires-clause-position : goal.survey_of-v-requires-clause-position
survey_of-v-requires-clause-position c = c.requires.position

pub survey_of-v-requires-clause-sides : goal.survey_of-v-requires-clause-sides
survey_of-v-requires-clause-sides c = c.requires.sides

pub loop-which-init : goal.loop-which-init
loop-which-init c = record {
  below = rw c.requires.empty (none_listed _ _);
  rests = Rests-begin _ _ (λ s b t. c.survey_of-v.ensures.own s b t);
  known = tt;
}

pub add_from-requires-clause-position : goal.add_from-requires-clause-position
add_from-requires-clause-position c = c.requires.position

pub add_from-requires-clause-survey : goal.add_from-requires-clause-survey
add_from-requires-clause-survey c = c.survey_of-v.ensures

pub add_from-requires-clause-known : goal.add_from-requires-clause-known
add_from-requires-clause-known c = c.loop-which.invariant.known

pub returns-in_err-add_from-clause-listed : goal.returns-in_err-add_from-clause-listed
returns-in_err-add_from-clause-listed c = IfOk-from_err _ _ c.from_residual.ensures.0

pub returns-in_err-add_from-clause-memory : goal.returns-in_err-add_from-clause-memory
returns-in_err-add_from-clause-memory c = on_err c.from_residual.result c.in_err-add_from.ensures.memory

pub returns-clause-memory : goal.returns-clause-memory
returns-clause-memory c = tt
