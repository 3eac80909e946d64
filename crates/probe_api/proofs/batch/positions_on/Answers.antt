use Rattle.std.proofs.Common.{◌≡◌, ◌++◌, ◌∷◌, ◌+◌, ◌∙◌, [], List, map, take, sym, ap, subst}
use Rattle.std.specs.Prelude.{All}
use Rattle.std.proofs.lemmas.List.{map-append, take_more}
use Rattle.std.proofs.lemmas.List.Elements.{All-push}
use Rattle.board_core.specs.declared.parts.Parts.{Parts}
use Rattle.probe_api.specs.declared.board.Board.{Board}
use Rattle.probe_api.specs.Boards.{shown}
use Rattle.probe_api.specs.Inside.{IsSound}
use Rattle.probe_api.proofs.Showing.{no_fault}
use Rattle.probe_api.proofs.batch.positions_on.Goals as goal

pub loop-place-preserved : goal.loop-place-preserved
loop-place-preserved c =
    let boards = c.args.boards.now in
    let i = c.loop-place.place in
    let b = c.board_at.result.now in
    let more : take (i + 1) boards ≡ take i boards ++ b ∷ [] = take_more boards i b c.loop-place-test.true ∙ ap (λ (x : Board). take i boards ++ x ∷ []) (c.board_at.ensures b) in
    record {
      are =
          ap (map shown) more
          ∙ map-append shown (take i boards) (b ∷ [])
          ∙ ap (λ (ps : List Parts). ps ++ shown b ∷ []) c.loop-place.invariant.are
          ∙ ap (λ (p : Parts). c.loop-place.positions.items ++ p ∷ []) (sym c.in-Ok-position_on.ensures.ok.0)
          ∙ sym c.in-Ok-push.ensures.items;
      sound =
          subst (All IsSound) (sym more)
          (All-push IsSound _ _ c.loop-place.invariant.sound (c.in-Ok-position_on.ensures.ok.1, no_fault (shown b) c.position_on.result c.in-Ok-position_on.position c.in-Ok-position_on.is (c.position_on.ensures.only, c.position_on.ensures.only_fault) (λ _. ⊥)));
    }
