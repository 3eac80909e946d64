use Rattle.std.proofs.Common.{◌∙◌, ◌+◌, ◌*◌, ap, slice_index, arith}
use Rattle.place_index.specs.declared.tables.TheConstants.{TURNED}
use Rattle.place_index.proofs.Turns.TurnTable.{turned_table, turned_small}
use Rattle.place_index.proofs.turn.Turn.square.Goals as goal

pub at-requires : goal.at-requires
at-requires c = turned_small (64 * c.number-turn.result + c.number.result) (omega (arith, c.number-turn.ensures.few, c.number.ensures.on_board))

pub returns : goal.returns
returns c =
    c.at.ensures ∙ ap (λ s. slice_index TURNED (64 * c.number-turn.result + s)) c.number.ensures.value
    ∙ ap (λ n. slice_index TURNED (64 * n + c.args.square)) c.number-turn.ensures.is
    ∙ turned_table c.args.self c.args.square (omega (arith, c.number.ensures.value, c.number.ensures.on_board))
