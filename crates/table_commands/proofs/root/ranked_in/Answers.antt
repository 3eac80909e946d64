use Rattle.table_commands.proofs.root.ranked_in.Goals as goal

pub returns-then-json : goal.returns-then-json
returns-then-json g c = rw c.if-json.true c.json_in.ensures

pub returns-else-json : goal.returns-else-json
returns-else-json g c = rw c.if-json.false c.lines_by.ensures
