use Rattle.std.proofs.Common.{refl, inl, inr}
use Rattle.fen_text.specs.Coordinates.{SpellsMove}
use Rattle.probe_api.specs.Plays.{TellsMove}
use Rattle.probe_api.proofs.Telling.{of_move, of_none}
use Rattle.probe_api.proofs.game.tell_text.Goals as goal

pub returns-in-Some-clause-is : goal.returns-in-Some-clause-is
returns-in-Some-clause-is c = record {
  move = of_move (SpellsMove c.args.text.now) (λ x. TellsMove c.args.set.now.tables x c.args.game.now c.tell.result c.tell.new.game) c.read_move.result c.in-Some.m c.in-Some.is c.read_move.ensures.only c.tell.ensures.is;
  none = λ no. absurd (no c.in-Some.m c.in-Some.ensures.some);
  one = inl (c.in-Some.m, c.in-Some.ensures.some);
  kept = c.tell.ensures.is.kept;
}

pub returns-in-None-clause-is : goal.returns-in-None-clause-is
returns-in-None-clause-is c = record {
  move = of_none (SpellsMove c.args.text.now) (λ x. TellsMove c.args.set.now.tables x c.args.game.now c.refused.result c.args.game.now) c.read_move.result c.in-None.is c.read_move.ensures.only;
  none = λ _. (c.refused.ensures, refl);
  one = inr (of_none (SpellsMove c.args.text.now) (λ _. ⊥) c.read_move.result c.in-None.is c.read_move.ensures.only);
  kept = λ _. refl;
}
