use Rattle.std.proofs.Common.{List, ℕ, refl, subst, sym}
use Rattle.arbiter_server.specs.Games.{IsGameOf}
use Rattle.game_folder.specs.Holdings.{IsKeptIn}
use Rattle.game_server.proofs.Composing.{takes_none, takes_then}
use Rattle.game_server.proofs.seating.open_found.Goals as goal

pub returns-in-Ok : goal.returns-in-Ok
returns-in-Ok g c = record {
  made = takes_then (g.S.System.outside c.args.system.now) (g.G.Games.facts c.args.system.now) c.args.shared.now _ c.take.new.self c.args.game _ c.args.stamp c.in-Ok.kept c.args.timeline.now c.take.new.timeline c.open_over.new.timeline c.in-Ok.ensures.made c.open_over.ensures.made;
}

pub returns-in-Err : goal.returns-in-Err
returns-in-Err g c = record {
  made = takes_none (g.S.System.outside c.args.system.now) (g.G.Games.facts c.args.system.now) c.args.shared.now _ c.take.new.self c.args.game _ c.args.stamp c.in-Err.why c.args.timeline.now c.take.new.timeline refl refl c.in-Err.ensures.made;
}

pub open_over-requires-clause-game : goal.open_over-requires-clause-game
open_over-requires-clause-game g c = subst (λ (s : List ℕ). IsGameOf c.args.shared.now.config.manifest.now s c.args.game.name.items c.args.game.start c.args.game.delay) (sym c.in-Ok.ensures.made.2.ok.of) c.requires

pub open_over-requires-clause-within : goal.open_over-requires-clause-within
open_over-requires-clause-within g c =
    let o = g.S.System.outside c.args.system.now in
    let facts = (g.G.Games.facts c.args.system.now) in
    let ok = c.in-Ok.ensures.made.2.ok in
    subst (λ (s : List ℕ). IsKeptIn o (facts.places (facts.place c.take.new.self) s) c.in-Ok.kept.file) (sym ok.of) ok.within

pub open_over-requires-clause-clean : goal.open_over-requires-clause-clean
open_over-requires-clause-clean g c = c.in-Ok.ensures.made.2.ok.clean
