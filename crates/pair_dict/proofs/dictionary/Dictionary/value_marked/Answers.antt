use Rattle.pair_dict.proofs.PlaceLemmas.{before_left}
use Rattle.pair_dict.proofs.dictionary.Dictionary.value_marked.Goals as goal

pub skip_marked-place-requires-clause-before : goal.skip_marked-place-requires-clause-before
skip_marked-place-requires-clause-before c = c.before-from.ensures.is c.args.self.now c.args.block.now c.requires.marks

pub returns-then-has_runs-clause-found : goal.returns-then-has_runs-clause-found
returns-then-has_runs-clause-found c =
    let before = c.before-from.ensures.is c.args.self.now c.args.block.now c.requires.marks in
    c.value_from.ensures.found c.args.offset (c.skip_marked-place.ensures.further.rest c.args.offset (before_left c.args.self.now c.args.block.now c.args.offset c.before-from.result before))

pub returns-then-has_runs-clause-damaged : goal.returns-then-has_runs-clause-damaged
returns-then-has_runs-clause-damaged c =
    let before = c.before-from.ensures.is c.args.self.now c.args.block.now c.requires.marks in
    c.value_from.ensures.damaged c.args.offset (c.skip_marked-place.ensures.further.rest c.args.offset (before_left c.args.self.now c.args.block.now c.args.offset c.before-from.result before))

pub value_by_codes-requires-clause-at : goal.value_by_codes-requires-clause-at
value_by_codes-requires-clause-at c = (c.before-from.ensures.is c.args.self.now c.args.block.now c.requires.marks).mark.within

pub returns-clause-found : goal.returns-clause-found
returns-clause-found c =
    let before = c.before-from.ensures.is c.args.self.now c.args.block.now c.requires.marks in
    c.value_by_codes.ensures.found c.args.offset (before_left c.args.self.now c.args.block.now c.args.offset c.before-from.result before)

pub returns-clause-damaged : goal.returns-clause-damaged
returns-clause-damaged c =
    let before = c.before-from.ensures.is c.args.self.now c.args.block.now c.requires.marks in
    c.value_by_codes.ensures.damaged c.args.offset (before_left c.args.self.now c.args.block.now c.args.offset c.before-from.result before)
