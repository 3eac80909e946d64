use Rattle.std.proofs.Common.{◌≡◌, ◌∙◌, ap, inl, inr, refl, subst}
use Rattle.probe_api.specs.Boards.{shown}
use Rattle.probe_api.specs.Roots.{PutsRoot}
use Rattle.probe_api.specs.Replies.{refused, position_status}
use Rattle.probe_api.proofs.Showing.{no_fault, each_fault, no_position}
use Rattle.probe_api.proofs.root.root_of_board.Goals as goal

pub returns-in-Ok-clause-is : goal.returns-in-Ok-clause-is
returns-in-Ok-clause-is c = record {
  position = λ _. subst (λ p. PutsRoot c.args.ask c.args.set.now.tables p c.args.room.now c.put_root.result c.put_root.new.room) c.in-Ok.ensures.ok.0 c.put_root.ensures.is;
  fault = no_fault (shown c.args.board.now) c.position_on.result c.in-Ok.position c.in-Ok.is (c.position_on.ensures.only, c.position_on.ensures.only_fault) (λ f. (c.put_root.result ≡ refused (position_status f)) × (c.put_root.new.room ≡ c.args.room.now));
  one = inl c.in-Ok.ensures.ok.1;
}

pub returns-in-Err-clause-is : goal.returns-in-Err-clause-is
returns-in-Err-clause-is c = record {
  position = no_position (shown c.args.board.now) c.position_on.result c.in-Err.fault c.in-Err.is (c.position_on.ensures.only, c.position_on.ensures.only_fault) (PutsRoot c.args.ask c.args.set.now.tables (shown c.args.board.now) c.args.room.now c.refused.result c.args.room.now);
  fault = each_fault (shown c.args.board.now) c.position_on.result c.in-Err.fault c.in-Err.is (c.position_on.ensures.only, c.position_on.ensures.only_fault) (λ f. (c.refused.result ≡ refused (position_status f)) × (c.args.room.now ≡ c.args.room.now)) (c.refused.ensures ∙ ap refused c.position_status.ensures, refl);
  one = inr (c.in-Err.fault, c.in-Err.ensures.err);
}
