use Rattle.std.proofs.Common.{◌+◌, ◌∙◌, ap, sym, ℕ, List, ◌∷◌, take}
use Rattle.std.specs.List.{slice_split}
use Rattle.fen_text.proofs.CutLaws.{rest_is, cut_none, cut_some}
use Rattle.move_msg.specs.GameTexts.{is_gap}
use Rattle.move_msg.proofs.game_text.cut_first.Goals as goal

pub returns-in-None-clause-none : goal.returns-in-None-clause-none
returns-in-None-clause-none c = cut_none is_gap c.args.text.now (sym c.in-None.ensures)

pub returns-in-Some-clause-some : goal.returns-in-Some-clause-some
returns-in-Some-clause-some c =
    cut_some is_gap c.args.text.now c.in-Some.i (sym c.in-Some.ensures)
    ∙ ap (λ (t : List ℕ). take c.in-Some.i c.args.text.now ∷ slice_split is_gap t) (sym (rest_is (c.in-Some.i + 1) c.args.text.now))
