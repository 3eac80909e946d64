use Rattle.place_index.proofs.Counting.ChoiceTable.{choice_table}
use Rattle.place_index.proofs.choose.choices.Goals as goal

pub returns : goal.returns
returns c = choice_table c.args.things c.args.elements c.requires.things c.requires.elements
