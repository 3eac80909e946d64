use Rattle.std.proofs.Common.{◌∙◌, List, ℕ, subst, sym}
use Rattle.std.proofs.lemmas.Bool.{false≢true}
use Rattle.std.specs.List.{Contains}
use Rattle.game_reports.specs.Inside.Opening.{known_folders}
use Rattle.game_reports.proofs.AskedLaws.{game_found, game_refused, no_room_to_look, not_listed}
use Rattle.game_reports.proofs.asked.read_game.Goals as goal

pub returns-in-Err-clause-made : goal.returns-in-Err-clause-made
returns-in-Err-clause-made g c = game_refused (g.S.System.outside c.args.system.now) _ _ _ _ c.args.stamp c.in-Err.refusal c.in-Err.ensures

pub returns-then-not-is_among-clause-made : goal.returns-then-not-is_among-clause-made
returns-then-not-is_among-clause-made g c =
    not_listed (g.S.System.outside c.args.system.now) _ _ _ _ c.args.stamp (known_folders c.in-Ok.folders)
    (λ h. false≢true (sym c.if-not-is_among.true ∙ c.is_among.ensures.1 (subst (λ (ss : List (List ℕ)). Contains ss c.args.stamp) (sym c.deref.ensures.value) h))) c.in-Ok.ensures

pub returns-in-Ok-look_twice-clause-made : goal.returns-in-Ok-look_twice-clause-made
returns-in-Ok-look_twice-clause-made g c =
    game_found (g.S.System.outside c.args.system.now) _ _ _ _ _ c.args.stamp (known_folders c.in-Ok.folders) c.in-Ok-look_twice.found
    (subst (λ (ss : List (List ℕ)). Contains ss c.args.stamp) c.deref.ensures.value (c.is_among.ensures.0 c.if-not-is_among.false)) c.in-Ok.ensures c.in-Ok-look_twice.ensures.made

pub returns-clause-made : goal.returns-clause-made
returns-clause-made g c =
    no_room_to_look (g.S.System.outside c.args.system.now) _ _ _ _ _ c.args.stamp (known_folders c.in-Ok.folders)
    (subst (λ (ss : List (List ℕ)). Contains ss c.args.stamp) c.deref.ensures.value (c.is_among.ensures.0 c.if-not-is_among.false)) c.in-Ok.ensures c.in-Err-look_twice.ensures.made
