use Rattle.std.proofs.Common.{◌∙◌, map, sym, ap}
use Rattle.std.proofs.lemmas.Simd.{map-map}
use Rattle.probe_api.specs.Boards.{shown}
use Rattle.probe_api.specs.Inside.{answer_by}
use Rattle.probe_api.proofs.batch.values_on.Goals as goal

pub returns-in-Ok-clause-are : goal.returns-in-Ok-clause-are
returns-in-Ok-clause-are c = record {
  probe = c.values_of.ensures.probe;
  are =
      c.in-Ok.ensures.each
      ∙ ap (map (answer_by c.args.search c.args.set.now.tables)) (c.deref.ensures.value ∙ sym c.in-Some.ensures.are)
      ∙ map-map (answer_by c.args.search c.args.set.now.tables) shown c.args.boards.now;
  sound = c.in-Some.ensures.sound;
}
