use Rattle.std.proofs.Common.{List, subst, sym}
use Rattle.std.specs.List.{All}
use Rattle.std.proofs.lemmas.Result.{IfOk-weaker}
use Rattle.board_core.specs.declared.moves.Move.{Move}
use Rattle.judge_core.specs.Tables.{Holding}
use Rattle.json_lines.specs.Inside.Playing.{IsPlayable}
use Rattle.json_lines.specs.Told.{AreMovesTold}
use Rattle.json_lines.proofs.Playing.{ordered_playable}
use Rattle.json_lines.proofs.told.root_told.Goals as goal

pub moves_told-requires : goal.moves_told-requires
moves_told-requires c =
    subst (λ (ms : List Move). All (IsPlayable c.args.position.now) ms) (sym c.deref.ensures.value)
    (ordered_playable c.args.ask c.args.set.now.tables c.args.position.now c.in_ok-moves.moves.items c.in_ok-moves.ensures.moves)

pub returns-clause-told : goal.returns-clause-told
returns-clause-told c =
    IfOk-weaker c.moves_told.result _ _ (λ ts h. record {
      moves = c.in_ok-moves.moves.items;
      ordered = c.in_ok-moves.ensures.moves;
      told = subst (λ (ms : List Move). AreMovesTold c.args.ask c.args.set.now.tables c.args.position.now ms ts.items) c.deref.ensures.value
          (subst (λ (s : Holding). AreMovesTold c.args.ask s.tables c.args.position.now c.deref.result.now ts.items) c.in_ok-moves.ensures.unchanged h);
    }) c.moves_told.ensures.told
