use Rattle.std.proofs.Common.{rules, tests, string_bytes}
use Rattle.std.specs.Str.{bytes_eq}
use Rattle.std.proofs.lemmas.Iterator.{YieldsList-from_slice}
use Rattle.std.proofs.lemmas.Iterator.Search.{any_from_yields_List}
use Rattle.game_status.proofs.StoreLaws.{named_among}
use Rattle.game_status.proofs.store_reading.has_name.Goals as goal

pub returns : goal.returns
returns c =
    let name = c.args.name.now in
    named_among c.args.names.now name c.any.result
    (any_from_yields_List (λ text. bytes_eq (string_bytes text) name) _ _ c.any.result c.any.ensures.ran (YieldsList-from_slice c.args.names.now cc) (λ x b q k. search (rules, tests)))
