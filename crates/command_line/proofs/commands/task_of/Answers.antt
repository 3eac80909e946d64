use Rattle.command_line.proofs.commands.task_of.Goals as goal

pub returns-in-Record : goal.returns-in-Record
returns-in-Record c = rw c.in-Record.is c.record_of.ensures

pub returns-in-Audit : goal.returns-in-Audit
returns-in-Audit c = rw c.in-Audit.is c.audit_of.ensures
