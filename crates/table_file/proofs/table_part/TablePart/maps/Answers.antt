use Rattle.std.proofs.Common.{◌<◌, ◌∙◌, length, ap, arith}
use Rattle.std.specs.Prelude.{slice_index_or}
use Rattle.table_file.specs.Maps.{no_maps}
use Rattle.table_file.specs.Tables.{PartAt}
use Rattle.table_file.specs.Distances.{file_maps}
use Rattle.table_file.specs.Inside.KeptPart.{part_of_table}
use Rattle.table_file.proofs.PartPlaces.{one_side}
use Rattle.table_file.proofs.Views.{got_or}
use Rattle.table_file.proofs.table_part.TablePart.maps.Goals as goal

pub returns : goal.returns
returns c =
    let a = c.self.inside in
    let k = c.place-k.result in
    let kind = ap (λ (p : PartAt). p.table.kind) c.self.view_is ∙ c.requires.kind in
    let lt : k < length a.table.now.maps = omega (arith, c.place-k.ensures.known, c.maps.ensures.all kind) in
    got_or a.table.now.maps k c.index-maps-k.result no_maps lt (rw c.maps.ensures.is at c.index-maps-k.is)
    ∙ ap (λ n. slice_index_or a.table.now.maps n no_maps) (c.place-k.ensures.is ∙ one_side (part_of_table a) kind)
    ∙ ap (λ (p : PartAt). file_maps p) c.self.view_is
