use Rattle.table_file.proofs.Refusing.{refused_head, refused_parts}
use Rattle.table_file.proofs.MissingWhole.{first_of_head, first_of_parts}
use Rattle.table_file.proofs.table.open.Goals as goal

pub returns-in-Ok-clause-only : goal.returns-in-Ok-clause-only
returns-in-Ok-clause-only c =
    refused_parts c.reads_what_is_laid_out.ensures c.args.name.now c.args.file.now c.in-Ok.title.0 c.in-Ok.title.1 c.in-Ok.rest.now c.with_parts.result c.in-Ok.ensures.is c.with_parts.ensures

pub returns-in-Err-clause-only : goal.returns-in-Err-clause-only
returns-in-Err-clause-only c = refused_head c.reads_what_is_laid_out.ensures c.args.name.now c.args.file.now c.in-Err.fault c.in-Err.ensures.is

pub returns-in-Ok-clause-first : goal.returns-in-Ok-clause-first
returns-in-Ok-clause-first c =
    first_of_parts c.tells_first_fault.ensures c.args.name.now c.args.file.now c.in-Ok.title.0 c.in-Ok.title.1 c.in-Ok.rest.now c.with_parts.result c.in-Ok.ensures.is c.with_parts.ensures

pub returns-in-Err-clause-first : goal.returns-in-Err-clause-first
returns-in-Err-clause-first c = first_of_head c.tells_first_fault.ensures c.args.name.now c.args.file.now c.in-Err.fault c.in-Err.ensures.is
