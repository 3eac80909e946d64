use Rattle.answer_commands.proofs.answering.answer_task.Goals as goal

pub returns-in-Show-clause-made : goal.returns-in-Show-clause-made
returns-in-Show-clause-made g c = rw c.in-Show.is c.show_input.ensures.made

pub returns-in-Moves-clause-made : goal.returns-in-Moves-clause-made
returns-in-Moves-clause-made g c = rw c.in-Moves.is c.print_moves.ensures.made

pub returns-in-Run-clause-made : goal.returns-in-Run-clause-made
returns-in-Run-clause-made g c = rw c.in-Run.is c.run_schedule.ensures.made

pub returns-in-Record-clause-made : goal.returns-in-Record-clause-made
returns-in-Record-clause-made g c = rw c.in-Record.is c.reply_to.ensures.made

pub returns-in-Audit-clause-made : goal.returns-in-Audit-clause-made
returns-in-Audit-clause-made g c = rw c.in-Audit.is c.reply_to-in-Audit.ensures.made

pub returns-in-List-clause-made : goal.returns-in-List-clause-made
returns-in-List-clause-made g c = rw c.in-List.is c.print_manifest.ensures.made

pub returns-in-Check-clause-made : goal.returns-in-Check-clause-made
returns-in-Check-clause-made g c = rw c.in-Check.is c.print_check.ensures.made

pub returns-in-Status-clause-made : goal.returns-in-Status-clause-made
returns-in-Status-clause-made g c = rw c.in-Status.is c.report_status.ensures.made

pub returns-in-GameRecord-clause-made : goal.returns-in-GameRecord-clause-made
returns-in-GameRecord-clause-made g c = rw c.in-GameRecord.is c.print_game_record.ensures.made

pub returns-in-AuditGames-clause-made : goal.returns-in-AuditGames-clause-made
returns-in-AuditGames-clause-made g c = rw c.in-AuditGames.is c.print_audit.ensures.made

pub returns-in-Table-clause-made : goal.returns-in-Table-clause-made
returns-in-Table-clause-made g c = rw c.in-Table.is c.answer_by_tables.ensures.made

pub returns-in-Version-clause-made : goal.returns-in-Version-clause-made
returns-in-Version-clause-made g c = rw c.in-Version.is c.print_version.ensures.made

pub returns-in-Enter-clause-made : goal.returns-in-Enter-clause-made
returns-in-Enter-clause-made g c = rw c.in-Enter.is c.enter_games.ensures.made

pub returns-in-Send-clause-made : goal.returns-in-Send-clause-made
returns-in-Send-clause-made g c = rw c.in-Send.is c.send.ensures.made

pub returns-in-Listen-clause-made : goal.returns-in-Listen-clause-made
returns-in-Listen-clause-made g c = rw c.in-Listen.is c.listen.ensures.made

pub returns-in-Host-clause-made : goal.returns-in-Host-clause-made
returns-in-Host-clause-made g c = rw c.in-Host.is (let h = c.host_games.ensures.made in (h.0, h.1, h.2.0))
