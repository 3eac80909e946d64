use Rattle.std.proofs.Common.{◌≡◌, ◌++◌, take}
use Rattle.pair_dict.specs.Inside.Words.{words_of_nodes}
use Rattle.pair_dict.proofs.words.add_nodes.Given as goal

abbrev pub invariant-loop-node : goal.invariant-loop-node
invariant-loop-node l = l.words.items ≡ l.fn.words.items ++ words_of_nodes (take l.node-index l.nodes)
