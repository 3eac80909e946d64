use Rattle.std.proofs.Common.{◌≡◌, inl, inr, refl}
use Rattle.probe_api.specs.Afters.{board_of}
use Rattle.probe_api.specs.Replies.{fen_status}
use Rattle.probe_api.proofs.Texts.{each_position, no_fault, each_fault, no_position}
use Rattle.probe_api.proofs.after.put_board.Goals as goal

pub returns-in-Ok : goal.returns-in-Ok
returns-in-Ok c = record {
  position = each_position c.args.fen.now c.read.result c.in-Ok.position c.in-Ok.is (c.read.ensures.only, c.read.ensures.only_fault) (λ p. (0 ≡ 0) × (c.of.result ≡ board_of p)) (refl, c.of.ensures);
  fault = no_fault c.args.fen.now c.read.result c.in-Ok.position c.in-Ok.is (c.read.ensures.only, c.read.ensures.only_fault) (λ f. (0 ≡ fen_status f) × (c.of.result ≡ c.args.room.now));
  one = inl (c.in-Ok.position, c.in-Ok.ensures.position, c.in-Ok.ensures.ok);
}

pub returns-in-Err : goal.returns-in-Err
returns-in-Err c = record {
  position = no_position c.args.fen.now c.read.result c.in-Err.fault c.in-Err.is (c.read.ensures.only, c.read.ensures.only_fault) (λ p. (c.fen_status.result ≡ 0) × (c.args.room.now ≡ board_of p));
  fault = each_fault c.args.fen.now c.read.result c.in-Err.fault c.in-Err.is (c.read.ensures.only, c.read.ensures.only_fault) (λ f. (c.fen_status.result ≡ fen_status f) × (c.args.room.now ≡ c.args.room.now)) (c.fen_status.ensures, refl);
  one = inr (c.in-Err.fault, c.in-Err.ensures.err);
}
