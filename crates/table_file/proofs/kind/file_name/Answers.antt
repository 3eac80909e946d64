use Rattle.std.proofs.Common.{refl}
use Rattle.table_file.specs.Names.{file_name}
use Rattle.table_file.proofs.kind.file_name.Goals as goal

pub returns : goal.returns
unfolding file_name
returns c = rw (c.push_str-2.ensures.bytes, c.push_str.ensures.bytes, c.new-name.ensures, c.as_str.ensures.value, c.name-men.ensures, c.ending_of.ensures) refl
