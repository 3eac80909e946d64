use Rattle.std.proofs.Common.{refl}
use Rattle.game_teller.specs.Plies.{ply_words}
use Rattle.game_teller.proofs.StepLaws.{standing_cut, standing_out}
use Rattle.game_teller.proofs.following.FollowState.print_standing.Goals as goal

pub returns-in-Ok-clause-made : goal.returns-in-Ok-clause-made
returns-in-Ok-clause-made g c =
    let at = c.args.self.now in
    let v = c.verdict-verdict.result in
    let made = rw c.position.ensures at c.in-Ok.ensures.made in
    standing_out (g.S.System.outside c.args.system.now) _ _ at (ply_words at.ply v at.standing.position) v _ (λ events is. record { verdict = v; stands = c.verdict-verdict.ensures; made = is; is_it = refl }) made

pub returns-in-Err-clause-made : goal.returns-in-Err-clause-made
returns-in-Err-clause-made g c =
    let at = c.args.self.now in
    let v = c.verdict-verdict.result in
    let made = rw c.position.ensures at c.in-Err.ensures.made in
    standing_cut (g.S.System.outside c.args.system.now) _ _ at (ply_words at.ply v at.standing.position) v c.in-Err.fault c.in-Err.fault (λ events is. record { verdict = v; stands = c.verdict-verdict.ensures; made = is; is_it = refl }) made
