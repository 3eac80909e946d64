use Rattle.std.proofs.Common.{◌≡◌, ◌∙◌, ◌+◌, ◌*◌, ◌-◌, cond, ap, sym, subst}
use Rattle.board_core.specs.Attack.{man_at}
use Rattle.probe_api.specs.Inside.{shows}
use Rattle.probe_api.proofs.Squares.{AreFound, none_found, next_found, none_shown, as_cond}
use Rattle.probe_api.proofs.after.squares.Goals as goal

pub loop-place-init : goal.loop-place-init
loop-place-init c = none_found (shows c.args.sought) c.args.position.now.men c.parts-parts.ensures.position.squares

pub loop-place-preserved : goal.loop-place-preserved
loop-place-preserved c =
    let e : c.from.result ≡ cond (shows c.args.sought (man_at c.args.position.now.men (63 - c.loop-place.place))) 1 0 =
    c.from.ensures ∙ as_cond c.shows.result ∙ ap (λ b. cond b 1 0) (c.shows.ensures ∙ ap (shows c.args.sought) (c.piece_at-man.ensures ∙ ap (man_at c.args.position.now.men) c.at.ensures)) in
    subst (λ n. AreFound (shows c.args.sought) c.args.position.now.men (c.loop-place.place + 1) (2 * c.loop-place.bits + n)) (sym e)
    (next_found (shows c.args.sought) (none_shown c.args.sought) c.args.position.now.men c.loop-place.place c.loop-place.bits c.loop-place-test.true c.loop-place.invariant)
