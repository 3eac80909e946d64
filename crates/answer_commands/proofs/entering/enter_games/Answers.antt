use Rattle.answer_commands.proofs.entering.enter_games.Goals as goal

pub returns-in-One-clause-made : goal.returns-in-One-clause-made
returns-in-One-clause-made g c = rw c.in-One.is (rw c.in-One.is at c.enter_one.ensures.made)

pub returns-in-From-clause-made : goal.returns-in-From-clause-made
returns-in-From-clause-made g c = rw c.in-From.is (rw c.in-From.is at c.enter_listed.ensures.made)
