use Rattle.std.proofs.Common.{◌∙◌, sym, inl, inr, arith}
use Rattle.place_index.proofs.LookUp.TallyKeys.{key_of_tally, other_key}
use Rattle.place_index.proofs.finding.material_by_tally.Goals as goal

pub returns-in_default-clause-none : goal.returns-in_default-clause-none
returns-in_default-clause-none c key lt is = omega (arith, lt, c.key_by_tally.ensures, key_of_tally key c.args.tally lt (omega (arith, c.ranges.tally)) is, c.in_default.ensures.none)

pub returns-then-tally-own-clause-found : goal.returns-then-tally-own-clause-found
returns-then-tally-own-clause-found c = (c.in-Some.ensures.known, inl (c.if-tally-own.true ∙ c.tally-own.ensures))

pub returns-then-other-own-clause-found : goal.returns-then-other-own-clause-found
returns-then-other-own-clause-found c = (c.in-Some.ensures.known, inr (sym c.rotated-other.ensures ∙ c.if-other-own.true ∙ c.tally-own.ensures))

pub returns-else-other-own-clause-none : goal.returns-else-other-own-clause-none
returns-else-other-own-clause-none c key lt is =
    other_key key c.in-Some.material c.args.tally c.tally-own.result c.rotated-other.result
    (c.in-Some.ensures.is ∙ c.key_by_tally.ensures ∙ key_of_tally key c.args.tally lt (omega (arith, c.ranges.tally)) is)
    c.tally-own.ensures c.rotated-other.ensures c.if-tally-own.false c.if-other-own.false is
