use Rattle.std.proofs.Common.{arith, rules, refl, sym}
use Rattle.board_core.proofs.Taken.{stands_if}
use Rattle.board_core.proofs.Outward.{along_reaches, along_within, inside}
use Rattle.board_core.proofs.attack.is_attacked_along.Goals as goal

pub returns-then-is_of : goal.returns-then-is_of
returns-then-is_of c = (
  λ t. record {
    from = c.along-from.result;
    kind = c.in-Some.man.kind;
    distance = c.loop-k.k;
    on_board = search rules;
    away = omega arith;
    along = c.along-from.ensures;
    clear = c.loop-k.invariant;
    stands = stands_if c.args.men.now c.args.by c.along-from.result c.in-Some.man (sym c.in-Some.ensures.man) (c.if-is_of.ensures.relation.0 refl);
    reaches = c.reaches.ensures.0 t;
  },
  λ h. c.reaches.ensures.1 (along_reaches _ _ _ _ _ _ c.in-Some.man h (omega arith) c.loop-k.invariant c.along-from.ensures (search rules)),
)

pub returns : goal.returns
returns c = (
  λ t. search rules,
  λ h.
      let within = inside c.args.direction h.distance c.args.to h.from (omega arith) h.on_board h.along in
      absurd (along_within _ _ _ _ _ h (omega (arith, (c.room-end.ensures.inside _).1 within)) c.loop-k.invariant),
)
