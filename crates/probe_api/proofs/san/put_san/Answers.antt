use Rattle.std.proofs.Common.{◌≡◌, ◌∙◌, ap, inl, inr, refl}
use Rattle.probe_api.specs.Replies.{refused, fen_status}
use Rattle.probe_api.specs.Sans.{PutsSan}
use Rattle.probe_api.proofs.Texts.{each_position, no_fault, each_fault, no_position}
use Rattle.probe_api.proofs.san.put_san.Goals as goal

pub returns-in-Ok : goal.returns-in-Ok
returns-in-Ok c = record {
  position = each_position c.args.fen.now c.read.result c.in-Ok.position c.in-Ok.is (c.read.ensures.only, c.read.ensures.only_fault) (λ p. PutsSan p c.args.numbers c.args.room.now c.put_san_in.result c.put_san_in.new.room) c.put_san_in.ensures;
  fault = no_fault c.args.fen.now c.read.result c.in-Ok.position c.in-Ok.is (c.read.ensures.only, c.read.ensures.only_fault) (λ f. (c.put_san_in.result ≡ refused (fen_status f)) × (c.put_san_in.new.room ≡ c.args.room.now));
  one = inl (c.in-Ok.position, c.in-Ok.ensures.position, c.in-Ok.ensures.ok);
}

pub returns-in-Err : goal.returns-in-Err
returns-in-Err c = record {
  position = no_position c.args.fen.now c.read.result c.in-Err.fault c.in-Err.is (c.read.ensures.only, c.read.ensures.only_fault) (λ p. PutsSan p c.args.numbers c.args.room.now c.refused.result c.args.room.now);
  fault = each_fault c.args.fen.now c.read.result c.in-Err.fault c.in-Err.is (c.read.ensures.only, c.read.ensures.only_fault) (λ f. (c.refused.result ≡ refused (fen_status f)) × (c.args.room.now ≡ c.args.room.now)) (c.refused.ensures ∙ ap refused c.fen_status.ensures, refl);
  one = inr (c.in-Err.fault, c.in-Err.ensures.err);
}
