use Rattle.std.proofs.Common.{◌%◌, ◌≡◌, refl}
use Rattle.pair_dict.specs.Inside.Nodes.{node_parts}
use Rattle.pair_dict.specs.declared.nodes.Parts.TheVariants.{Equal}
use Rattle.pair_dict.proofs.nodes.Node.is_equal_to.Goals as goal

pub returns-then-self-other : goal.returns-then-self-other
returns-then-self-other c = λ is.
    let value = c.args.self.packed % 4096 in
    let here : node_parts c.args.self ≡ Equal value = rw is refl in
    (value, here, rw (← c.if-self-other.true) here)
