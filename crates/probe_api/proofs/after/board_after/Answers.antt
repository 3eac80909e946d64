use Rattle.std.proofs.Common.{◌≡◌, inl, refl, subst}
use Rattle.probe_api.specs.Afters.{IsAfterMove}
use Rattle.probe_api.specs.Boards.{shown}
use Rattle.probe_api.specs.Moves.{IsMoveOf}
use Rattle.probe_api.specs.Replies.{position_status}
use Rattle.probe_api.proofs.Showing.{no_fault}
use Rattle.probe_api.proofs.Telling.{of_move, of_none}
use Rattle.probe_api.proofs.after.board_after.Goals as goal

pub returns-in-Some : goal.returns-in-Some
returns-in-Some c = record {
  move = λ m _ is. of_move (IsMoveOf c.args.numbers) (λ x. IsAfterMove (shown c.args.board.now) x c.after_move.result c.after_move.new.room) c.to_move.result c.in-Some.m c.in-Some.is c.to_move.ensures.only
      (subst (λ p. IsAfterMove p c.in-Some.m c.after_move.result c.after_move.new.room) c.in-Ok.ensures.ok.0 c.after_move.ensures.is) m is;
  none = λ _ no. absurd (no c.in-Some.m c.in-Some.ensures.some);
  fault = no_fault (shown c.args.board.now) c.position_on.result c.in-Ok.position c.in-Ok.is (c.position_on.ensures.only, c.position_on.ensures.only_fault) (λ f. c.after_move.result ≡ position_status f);
  one = inl c.in-Ok.ensures.ok.1;
  kept = c.after_move.ensures.kept;
}

pub returns-in-None : goal.returns-in-None
returns-in-None c = record {
  move = λ m _ is. of_none (IsMoveOf c.args.numbers) (λ x. IsAfterMove (shown c.args.board.now) x 85 c.args.room.now) c.to_move.result c.in-None.is c.to_move.ensures.only m is;
  none = λ _ _. refl;
  fault = no_fault (shown c.args.board.now) c.position_on.result c.in-Ok.position c.in-Ok.is (c.position_on.ensures.only, c.position_on.ensures.only_fault) (λ f. 85 ≡ position_status f);
  one = inl c.in-Ok.ensures.ok.1;
  kept = λ _. refl;
}
