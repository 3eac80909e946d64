use Rattle.std.proofs.Common.{◌≡◌, ◌++◌, length, refl, ap, sym, ◌∙◌}
use Rattle.pair_dict.specs.Inside.Windows.{firsts_in, lowest_in}
use Rattle.pair_dict.specs.Inside.Words.{words_of_codes, words_of_nodes}
use Rattle.pair_dict.proofs.FirstLemmas.{length-firsts_in}
use Rattle.pair_dict.proofs.WordLists.{AreBehind, are_behind}
use Rattle.pair_dict.proofs.words.words_of.Goals as goal

behind : (c : goal.After-drop-codes-2) → AreBehind c.in_ok-codes.codes.items c.args.nodes.now (length c.args.firsts.now) c.add_nodes.new.words.items
behind c =
    let codes = c.in_ok-codes.codes.items in
    let len : length codes ≡ length c.args.firsts.now = sym (length-firsts_in codes) ∙ ap length c.in_ok-codes.ensures.firsts in
    let whole : c.add_nodes.new.words.items ≡ words_of_codes codes ++ words_of_nodes c.args.nodes.now = c.in_ok-add_nodes.ensures ∙ rw (c.in_ok-add_codes.ensures, c.in_ok-kept.ensures.items, c.deref.ensures.value) refl in
    are_behind codes c.args.nodes.now (length c.args.firsts.now) c.add_nodes.new.words.items len whole

pub returns-clause-all : goal.returns-clause-all
returns-clause-all c = (behind c).all

pub returns-clause-firsts : goal.returns-clause-firsts
returns-clause-firsts c = ap firsts_in (behind c).codes_there ∙ c.in_ok-codes.ensures.firsts

pub returns-clause-lowest : goal.returns-clause-lowest
returns-clause-lowest c = ap lowest_in (behind c).codes_there ∙ c.in_ok-codes.ensures.lowest

pub returns-clause-nodes : goal.returns-clause-nodes
returns-clause-nodes c = (behind c).nodes_there
