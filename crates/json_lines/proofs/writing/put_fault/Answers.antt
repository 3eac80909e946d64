use Rattle.json_lines.proofs.writing.put_fault.Goals as goal

pub returns-in-NotCovered : goal.returns-in-NotCovered
returns-in-NotCovered g c = rw c.in-NotCovered.is c.put_fault_of_table.ensures

pub returns-in-Damaged : goal.returns-in-Damaged
returns-in-Damaged g c = rw c.in-Damaged.is c.put_fault_of_table-in-Damaged.ensures
