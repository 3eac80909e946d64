use Rattle.std.proofs.Common.{refl}
use Rattle.pair_dict.proofs.WordLists.{first_kept, lowest_kept}
use Rattle.pair_dict.proofs.codes.code_length.Goals as goal

pub returns-clause-first : goal.returns-clause-first
returns-clause-first c = first_kept c.args.search.lengths c.args.words.now c.args.i _ c.requires.all c.requires.known refl

pub returns-clause-lowest : goal.returns-clause-lowest
returns-clause-lowest c = lowest_kept c.args.search.lengths c.args.words.now c.args.i _ c.requires.all c.requires.known refl
