use Rattle.std.proofs.Common.{◌≡◌, sym, ap, ◌∙◌}
use Rattle.std.proofs.lemmas.Bool.{false≢true}
use Rattle.place_index.specs.Material.{name_of, name_at}
use Rattle.place_index.specs.Inside.NameKeys.{key_by_name}
use Rattle.place_index.proofs.Materials.KeyTables.{place_table}
use Rattle.place_index.proofs.Materials.TableLaw.{table_is_numbered}
use Rattle.place_index.proofs.material.Material.from_name.Goals as goal

pub returns-else-is_name-clause-none : goal.returns-else-is_name-clause-none
returns-else-is_name-clause-none c m table named =
    let key = table_is_numbered m table in
    let is : name_at key.0 ≡ c.args.name.now = ap name_of key.2 ∙ named in
    let here : c.key_by_name.result ≡ key.0 = c.key_by_name.ensures.is ∙ ap key_by_name (sym is) ∙ place_table key.0 key.1 in
    false≢true (sym c.if-is_name.false ∙ c.is_name.ensures.1 (ap name_at here ∙ is))
