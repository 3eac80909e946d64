use Rattle.std.proofs.Common.{◌≡◌, ◌∙◌, ap, inl, inr, refl}
use Rattle.probe_api.specs.Roots.{PutsRoot}
use Rattle.probe_api.specs.Replies.{refused, fen_status}
use Rattle.probe_api.proofs.Texts.{each_position, no_fault, each_fault, no_position}
use Rattle.probe_api.proofs.root.root_of_text.Goals as goal

pub returns-in-Ok-clause-is : goal.returns-in-Ok-clause-is
returns-in-Ok-clause-is c = record {
  position = each_position c.args.text.now c.read.result c.in-Ok.position c.in-Ok.is (c.read.ensures.only, c.read.ensures.only_fault) (λ p. PutsRoot c.args.ask c.args.set.now.tables p c.args.room.now c.put_root.result c.put_root.new.room) c.put_root.ensures.is;
  fault = no_fault c.args.text.now c.read.result c.in-Ok.position c.in-Ok.is (c.read.ensures.only, c.read.ensures.only_fault) (λ f. (c.put_root.result ≡ refused (fen_status f)) × (c.put_root.new.room ≡ c.args.room.now));
  one = inl (c.in-Ok.position, c.in-Ok.ensures.position, c.in-Ok.ensures.ok);
}

pub returns-in-Err-clause-is : goal.returns-in-Err-clause-is
returns-in-Err-clause-is c = record {
  position = no_position c.args.text.now c.read.result c.in-Err.fault c.in-Err.is (c.read.ensures.only, c.read.ensures.only_fault) (λ p. PutsRoot c.args.ask c.args.set.now.tables p c.args.room.now c.refused.result c.args.room.now);
  fault = each_fault c.args.text.now c.read.result c.in-Err.fault c.in-Err.is (c.read.ensures.only, c.read.ensures.only_fault) (λ f. (c.refused.result ≡ refused (fen_status f)) × (c.args.room.now ≡ c.args.room.now)) (c.refused.ensures ∙ ap refused c.fen_status.ensures, refl);
  one = inr (c.in-Err.fault, c.in-Err.ensures.err);
}
