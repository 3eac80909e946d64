use Rattle.place_index.specs.Material.{men_of}
use Rattle.table_file.specs.Files.{is_symmetric}
use Rattle.table_file.proofs.NameLemmas.{equal_by}
use Rattle.table_file.proofs.material.is_symmetric.Goals as goal

pub returns : goal.returns
unfolding is_symmetric
returns c = equal_by c.symmetric.result (men_of c.args.material.now).first (men_of c.args.material.now).second c.symmetric.ensures.0 c.symmetric.ensures.1
