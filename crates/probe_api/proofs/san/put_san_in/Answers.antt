use Rattle.std.proofs.Common.{refl, inl, inr}
use Rattle.probe_api.specs.Moves.{IsMoveOf}
use Rattle.probe_api.specs.Sans.{PutsSanOfMove}
use Rattle.probe_api.proofs.Telling.{of_move, of_none}
use Rattle.probe_api.proofs.san.put_san_in.Goals as goal

pub returns-in-Some : goal.returns-in-Some
returns-in-Some c = record {
  move = of_move (IsMoveOf c.args.numbers) (λ x. PutsSanOfMove c.args.position.now x c.args.room.now c.put_san_of_move.result c.put_san_of_move.new.room) c.to_move.result c.in-Some.m c.in-Some.is c.to_move.ensures.only c.put_san_of_move.ensures;
  none = λ no. absurd (no c.in-Some.m c.in-Some.ensures.some);
  one = inl (c.in-Some.m, c.in-Some.ensures.some);
}

pub returns-in-None : goal.returns-in-None
returns-in-None c = record {
  move = of_none (IsMoveOf c.args.numbers) (λ x. PutsSanOfMove c.args.position.now x c.args.room.now c.refused.result c.args.room.now) c.to_move.result c.in-None.is c.to_move.ensures.only;
  none = λ _. (c.refused.ensures, refl);
  one = inr (of_none (IsMoveOf c.args.numbers) (λ _. ⊥) c.to_move.result c.in-None.is c.to_move.ensures.only);
}
