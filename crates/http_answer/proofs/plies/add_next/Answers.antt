use Rattle.std.proofs.Common.{Some, ◌∙◌, refl, sym, ap}
use Rattle.fen_text.specs.Coordinates.{move_text}
use Rattle.san_text.specs.Written.{san_of}
use Rattle.game_status.proofs.ObjectLaws.{braced, followed, one}
use Rattle.http_answer.proofs.plies.add_next.Goals as goal

pub returns-clause-added : goal.returns-clause-added
returns-clause-added g c =
    let (l, says, adds) = c.in_ok-add_position.ensures.added in
    let moved = rw (c.as_str.ensures.value, c.in-Some-write_san.ensures.value) at c.in_ok-add_move.ensures in
    let p = c.args.position.now in
    let m = c.args.m.now in (
      record { uci = Some (move_text m); san = Some (san_of p m); position = c.in-Some.after; line = l },
      record { uci = refl; san = refl; position = sym c.in-Some.ensures.computed; line = says },
      refl,
      braced _ _ _ _ _ (one _ _ _ _ c.in_ok-begin_object.ensures) (followed _ _ _ _ _ moved adds) (one _ _ _ _ c.in_ok-end_object.ensures),
    )
