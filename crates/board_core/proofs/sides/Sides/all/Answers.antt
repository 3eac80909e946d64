use Rattle.std.proofs.Common.{ap, ◌∙◌, bit_or}
use Rattle.board_core.specs.declared.sides.Sides.{Sides}
use Rattle.board_core.proofs.SetBits.{both_sides}
use Rattle.board_core.proofs.sides.Sides.all.Goals as goal

pub returns : goal.returns
returns c = λ men e. rw (c.bitor.ensures ∙ ap (λ (x : Sides). bit_or x.white x.black) e) (both_sides men)
