use Rattle.answer_commands.proofs.by_tables.answer_by_tables.Goals as goal

pub returns-in-Judge-clause-made : goal.returns-in-Judge-clause-made
returns-in-Judge-clause-made g c = rw c.in-Judge.is c.make_reply.ensures.made

pub returns-in-Probe-clause-made : goal.returns-in-Probe-clause-made
returns-in-Probe-clause-made g c = rw c.in-Probe.is c.make_reply-in-Probe.ensures.made

pub returns-in-Probes-clause-made : goal.returns-in-Probes-clause-made
returns-in-Probes-clause-made g c = rw c.in-Probes.is c.answer_lines_of.ensures.made

pub returns-in-Root-clause-made : goal.returns-in-Root-clause-made
returns-in-Root-clause-made g c = rw c.in-Root.is c.rank_moves.ensures.made

pub returns-in-Game-clause-made : goal.returns-in-Game-clause-made
returns-in-Game-clause-made g c = rw c.in-Game.is c.make_reply-in-Game.ensures.made

pub returns-in-Games-clause-made : goal.returns-in-Games-clause-made
returns-in-Games-clause-made g c = rw c.in-Games.is c.answer_lines_of-in-Games.ensures.made

pub returns-in-Pgn-clause-made : goal.returns-in-Pgn-clause-made
returns-in-Pgn-clause-made g c = rw c.in-Pgn.is c.answer.ensures.made

pub returns-in-Follow-clause-made : goal.returns-in-Follow-clause-made
returns-in-Follow-clause-made g c = rw c.in-Follow.is c.answer-in-Follow.ensures.made
