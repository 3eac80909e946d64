use Rattle.pair_dict.proofs.BlockValues.{left_first}
use Rattle.pair_dict.proofs.dictionary.Dictionary.value.Goals as goal

pub returns-clause-found : goal.returns-clause-found
returns-clause-found c = c.value_by_codes.ensures.found c.args.offset (left_first c.args.self.now c.args.block.now c.args.offset)

pub returns-clause-damaged : goal.returns-clause-damaged
returns-clause-damaged c = c.value_by_codes.ensures.damaged c.args.offset (left_first c.args.self.now c.args.block.now c.args.offset)

pub returns-then-has_runs-clause-found : goal.returns-then-has_runs-clause-found
returns-then-has_runs-clause-found c = c.value_from.ensures.found c.args.offset (c.skip_words.ensures.rest c.args.offset (left_first c.args.self.now c.args.block.now c.args.offset))

pub returns-then-has_runs-clause-damaged : goal.returns-then-has_runs-clause-damaged
returns-then-has_runs-clause-damaged c = c.value_from.ensures.damaged c.args.offset (c.skip_words.ensures.rest c.args.offset (left_first c.args.self.now c.args.block.now c.args.offset))
