use Rattle.std.proofs.Common.{List, refl, subst}
use Rattle.std.specs.Prelude.{Err, true, false}
use Rattle.system_io.specs.declared.recipient.Recipient.{Recipient}
use Rattle.game_folder.specs.Holdings.{CommitsGames}
use Rattle.game_server.specs.Inside.Running.{ConcludesRound}
use Rattle.game_server.proofs.RunLaws.{memory_lost, port_lost, round_sent_on, round_withheld, store_lost}
use Rattle.game_server.proofs.running.round.Goals as goal

pub returns-then-not-gather-clause-made : goal.returns-then-not-gather-clause-made
returns-then-not-gather-clause-made g c = λ before had.
    port_lost (g.S.System.outside c.args.system.now) (g.G.Games.facts c.args.system.now) before c.args.most c.args.at.now _ c.args.port.now c.gather.new.replies.held c.args.timeline.now c.gather.new.timeline c.end.new.timeline c.end.result
    c.if-not-gather.ensures.gathers.made (c.end.ensures.made before had)

pub returns-in-Ok-clause-made : goal.returns-in-Ok-clause-made
returns-in-Ok-clause-made g c = λ before had.
    let o = g.S.System.outside c.args.system.now in
    let gathers = c.if-not-gather.ensures.gathers in
    let commits = c.in-Ok.ensures.made in
    round_sent_on o (g.G.Games.facts c.args.system.now) before c.args.most c.args.at.now _ c.args.port.now c.gather.new.server c.args.timeline.now c.gather.new.timeline c.commit.new.timeline c.conclude.new.timeline
    (record { common = record { config = refl; tables = refl }; seats = refl }) commits.0 commits.1 c.gather.new.replies.held gathers.made c.conclude.result commits.2
    (subst (λ (to : List Recipient). ConcludesRound o before to true c.gather.new.replies.held c.args.at.now.lines c.conclude.new.lines c.commit.new.timeline c.conclude.new.timeline c.conclude.result) c.if-not-gather.ensures.same.to (c.conclude.ensures.made before had))

pub returns-in-Err-OutOfMemory-clause-made : goal.returns-in-Err-OutOfMemory-clause-made
returns-in-Err-OutOfMemory-clause-made g c = λ before had.
    let o = g.S.System.outside c.args.system.now in
    let gathers = c.if-not-gather.ensures.gathers in
    let commits = c.in-Err-OutOfMemory.ensures.made in
    let after = c.conclude-in-Err-OutOfMemory in
    round_withheld o (g.G.Games.facts c.args.system.now) before c.args.most c.args.at.now _ c.args.port.now c.gather.new.server c.args.timeline.now c.gather.new.timeline c.commit.new.timeline after.new.timeline
    (record { common = record { config = refl; tables = refl }; seats = refl }) commits.0 commits.1 c.gather.new.replies.held gathers.made after.result (subst (λ f. CommitsGames (g.G.Games.facts c.args.system.now) {A = Unit {0}} c.gather.new.server.shared.games c.commit.new.self (Err f) commits.0) c.in-Err-OutOfMemory.field-0-is commits.2)
    (subst (λ (to : List Recipient). ConcludesRound o before to false c.gather.new.replies.held c.args.at.now.lines after.new.lines c.commit.new.timeline after.new.timeline after.result) c.if-not-gather.ensures.same.to (after.ensures.made before had))

pub returns-in-Err-StoreLost-clause-made : goal.returns-in-Err-StoreLost-clause-made
returns-in-Err-StoreLost-clause-made g c = λ before had.
    let o = g.S.System.outside c.args.system.now in
    let gathers = c.if-not-gather.ensures.gathers in
    let commits = c.in-Err-StoreLost.ensures.made in
    let after = c.end-in-Err-StoreLost in
    store_lost o (g.G.Games.facts c.args.system.now) before c.args.most c.args.at.now _ c.args.port.now c.gather.new.server c.args.timeline.now c.gather.new.timeline c.commit.new.timeline after.new.timeline
    (record { common = record { config = refl; tables = refl }; seats = refl }) commits.0 commits.1 c.gather.new.replies.held gathers.made after.result (subst (λ f. CommitsGames (g.G.Games.facts c.args.system.now) {A = Unit {0}} c.gather.new.server.shared.games c.commit.new.self (Err f) commits.0) c.in-Err-StoreLost.field-0-is commits.2) (after.ensures.made before had)

pub returns-in-Err-NotNoted-clause-made : goal.returns-in-Err-NotNoted-clause-made
returns-in-Err-NotNoted-clause-made g c = λ before had.
    let o = g.S.System.outside c.args.system.now in
    let gathers = c.if-not-gather.ensures.gathers in
    let commits = c.in-Err-NotNoted.ensures.made in
    let after = c.end-in-Err-NotNoted in
    memory_lost o (g.G.Games.facts c.args.system.now) before c.args.most c.args.at.now _ c.args.port.now c.gather.new.server c.args.timeline.now c.gather.new.timeline c.commit.new.timeline after.new.timeline
    (record { common = record { config = refl; tables = refl }; seats = refl }) commits.0 commits.1 c.gather.new.replies.held gathers.made after.result (subst (λ f. CommitsGames (g.G.Games.facts c.args.system.now) {A = Unit {0}} c.gather.new.server.shared.games c.commit.new.self (Err f) commits.0) c.in-Err-NotNoted.field-0-is commits.2) (after.ensures.made before had)
