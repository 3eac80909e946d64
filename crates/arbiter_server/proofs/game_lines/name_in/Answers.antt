use Rattle.std.proofs.Common.{subst}
use Rattle.std.proofs.lemmas.Bool.{false≢true}
use Rattle.move_msg.specs.Stamps.{IsGameName}
use Rattle.arbiter_server.proofs.OneLines.{name_one}
use Rattle.arbiter_server.proofs.game_lines.name_in.Goals as goal

pub returns-in_default-clause-none : goal.returns-in_default-clause-none
returns-in_default-clause-none c = λ name rest h. c.in_default.ensures.none name rest (record { has = h.1; one = name_one name h.0.2 })

pub returns-else-is_game_name-clause-none : goal.returns-else-is_game_name-clause-none
returns-else-is_game_name-clause-none c = λ name rest h.
    let same = c.in-Some.ensures.only name rest (record { has = h.1; one = name_one name h.0.2 }) in
    absurd (false≢true (c.if-is_game_name.ensures.1 (subst IsGameName same.0 h.0)))
