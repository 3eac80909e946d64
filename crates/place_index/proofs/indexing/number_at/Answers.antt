use Rattle.std.proofs.Common.{◌∙◌, ◌+◌, ap, sym, subst, arith}
use Rattle.place_index.specs.Shape.{groups_of}
use Rattle.place_index.specs.Inside.TurnedMen.{AreBefore}
use Rattle.place_index.proofs.Indices.Numbering.{group_at}
use Rattle.place_index.proofs.indexing.number_at.Goals as goal

pub number_group-requires-clause-once : goal.number_group-requires-clause-once
number_group-requires-clause-once c =
    (group_at c.args.turned.now c.groups-groups.result.now c.index-groups-place.result c.args.place c.shape.ensures.turned (c.groups-groups.ensures ∙ ap groups_of c.shape.ensures.is) (λ e. omega (arith, e, c.requires.after_leading)) c.requires.place c.index-groups-place.is).once

pub number_group-requires-clause-room : goal.number_group-requires-clause-room
number_group-requires-clause-room c =
    (group_at c.args.turned.now c.groups-groups.result.now c.index-groups-place.result c.args.place c.shape.ensures.turned (c.groups-groups.ensures ∙ ap groups_of c.shape.ensures.is) (λ e. omega (arith, e, c.requires.after_leading)) c.requires.place c.index-groups-place.is).room
    c.args.earlier.now c.requires.before

pub returns-clause-number : goal.returns-clause-number
returns-clause-number c =
    c.number_group.ensures.number
    ∙ (group_at c.args.turned.now c.groups-groups.result.now c.index-groups-place.result c.args.place c.shape.ensures.turned (c.groups-groups.ensures ∙ ap groups_of c.shape.ensures.is) (λ e. omega (arith, e, c.requires.after_leading)) c.requires.place c.index-groups-place.is).number
    c.args.earlier.now c.requires.before

pub returns-clause-after : goal.returns-clause-after
returns-clause-after c =
    subst (AreBefore c.args.turned.now (c.args.place + 1)) (sym c.number_group.ensures.earlier)
    ((group_at c.args.turned.now c.groups-groups.result.now c.index-groups-place.result c.args.place c.shape.ensures.turned (c.groups-groups.ensures ∙ ap groups_of c.shape.ensures.is) (λ e. omega (arith, e, c.requires.after_leading)) c.requires.place c.index-groups-place.is).after
    c.args.earlier.now c.requires.before)
