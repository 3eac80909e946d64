use Rattle.std.proofs.Common.{List, ℕ, ap, subst, sym, ◌∙◌}
use Rattle.fen_text.specs.Written.{fen_of}
use Rattle.move_msg.specs.Stamps.{IsGameName, stamp_of}
use Rattle.game_status.proofs.GameLaws.{none_so, own_so}
use Rattle.game_status.proofs.game_audit.is_own.Goals as goal

pub returns-in-Some : goal.returns-in-Some
returns-in-Some c =
    let g = c.args.game.now in
    let name = c.as_slice.ensures.value in
    let named = subst (λ (n : List ℕ). IsGameName n) name c.in-Some.ensures.some.0 in
    let is = c.in-Some.ensures.some.1 ∙ ap (λ (n : List ℕ). stamp_of n (fen_of g.start) c.args.manifest.now c.plies.result) name ∙ ap (stamp_of g.name.items (fen_of g.start) c.args.manifest.now) c.plies.ensures.value in
    own_so c.args.manifest.now c.args.stamp g.name.items g.start g.delay c.in-Some.own c.is_same_stamp.result named is c.is_same_stamp.ensures

pub returns-in-None : goal.returns-in-None
returns-in-None c =
    let g = c.args.game.now in
    none_so c.args.manifest.now c.args.stamp g.name.items g.start g.delay (λ named. c.in-None.ensures.none (subst (λ (n : List ℕ). IsGameName n) (sym c.as_slice.ensures.value) named))
