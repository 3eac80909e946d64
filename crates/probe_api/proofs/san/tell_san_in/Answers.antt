use Rattle.std.proofs.Common.{◌≡◌, inl, inr, refl}
use Rattle.san_text.specs.San.{IsFirstSanFault, ReadsSan}
use Rattle.probe_api.specs.Moves.{plain_of}
use Rattle.probe_api.specs.Sans.{san_status}
use Rattle.probe_api.proofs.SanTexts.{each_move, each_san_fault, no_move, no_san_fault}
use Rattle.probe_api.proofs.san.tell_san_in.Goals as goal

pub returns-in-Ok : goal.returns-in-Ok
returns-in-Ok c = record {
  move = λ x h. (refl, each_move (ReadsSan c.args.position.now c.args.san.now) (IsFirstSanFault c.args.position.now c.args.san.now) c.read_san.result (c.read_san.ensures.only, c.read_san.ensures.only_fault) (λ y. c.of.result ≡ plain_of y) c.in-Ok.m c.in-Ok.is c.of.ensures x h);
  fault = no_san_fault (ReadsSan c.args.position.now c.args.san.now) (IsFirstSanFault c.args.position.now c.args.san.now) c.read_san.result (c.read_san.ensures.only, c.read_san.ensures.only_fault) (λ f. (0 ≡ san_status f) × (c.of.result ≡ c.args.room.now)) c.in-Ok.m c.in-Ok.is;
  one = inl (c.in-Ok.m, c.in-Ok.ensures.ok);
}

pub returns-in-Err : goal.returns-in-Err
returns-in-Err c = record {
  move = no_move (ReadsSan c.args.position.now c.args.san.now) (IsFirstSanFault c.args.position.now c.args.san.now) c.read_san.result (c.read_san.ensures.only, c.read_san.ensures.only_fault) (λ x. (c.san_status.result ≡ 0) × (c.args.room.now ≡ plain_of x)) c.in-Err.fault c.in-Err.is;
  fault = λ f first. (each_san_fault (ReadsSan c.args.position.now c.args.san.now) (IsFirstSanFault c.args.position.now c.args.san.now) c.read_san.result (c.read_san.ensures.only, c.read_san.ensures.only_fault) (λ g. c.san_status.result ≡ san_status g) c.in-Err.fault c.in-Err.is c.san_status.ensures f first, refl);
  one = inr (c.in-Err.fault, c.in-Err.ensures.err);
}
