use Rattle.std.proofs.Common.{◌++◌, ◌∷◌, [], length, take, sym, ap, ◌∙◌, arith}
use Rattle.std.proofs.lemmas.List.{take_more, take_all, length-take-le}
use Rattle.std.proofs.lemmas.Str.{encode_ascii}
use Rattle.place_index.specs.Material.{name_at}
use Rattle.place_index.proofs.material.Material.name.Goals as goal

pub push-requires : goal.push-requires
push-requires c =
    omega (
      arith,
      ap length c.loop-i.invariant,
      ap length (encode_ascii c.letter-next.result c.letter-next.ensures.ascii),
      c.name_length-length.ensures.is,
      c.name_length-length.ensures.few,
      length-take-le c.loop-i.i (name_at c.args.self.now) (omega (arith, c.loop-i-test.true, c.name_length-length.ensures.is)),
    )

pub loop-i-preserved : goal.loop-i-preserved
loop-i-preserved c =
    c.push.ensures.ascii c.letter-next.ensures.ascii ∙ ap (λ l. l ++ c.letter-next.result ∷ []) c.loop-i.invariant
    ∙ ap (λ n. take c.loop-i.i (name_at c.args.self.now) ++ n ∷ []) c.letter-next.ensures.is
    ∙ sym (take_more (name_at c.args.self.now) c.loop-i.i 0 (omega (arith, c.loop-i-test.true, c.name_length-length.ensures.is)))

pub returns : goal.returns
returns c =
    c.loop-i.invariant ∙ take_all c.loop-i.i (name_at c.args.self.now) (omega (arith, c.loop-i-test.false, c.name_length-length.ensures.is))
