use Rattle.std.proofs.Common.{◌∙◌, ap, List, ℕ}
use Rattle.std.specs.Prelude.{slice_get}
use Rattle.table_file.proofs.AtSpots.{among}
use Rattle.table_file.proofs.table_part.TablePart.value_among.Goals as goal

pub returns : goal.returns
returns c = λ index spot.
    c.value_at.ensures ∙ ap (λ (vs : List ℕ). slice_get vs c.args.offset) c.requires.values ∙ among c.args.self.now c.view-view.result c.view-view.ensures.part c.view-view.ensures.checked index c.args.block c.args.offset spot
