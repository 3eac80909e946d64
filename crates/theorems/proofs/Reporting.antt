-- What comes of a game at a source is so.
use Rattle.std.proofs.Common.{◌≡◌, ◌+◌, ◌<◌, ◌≤◌, ℕ, List, [], ap, ◌∙◌, refl, arith, append-nil, subst}
use Rattle.system_io.specs.Ports.{Passing}
use Rattle.judge_core.specs.Games.{IsFirst}
use Rattle.move_msg.specs.declared.arbiter_id.ArbiterId.{ArbiterId}
use Rattle.move_msg.specs.declared.message.Message.TheVariants.{Ack, Verdict}
use Rattle.relay_world.specs.declared.event.Event.{Event}
use Rattle.relay_world.specs.Laws.{count_in, world_after}
use Rattle.relay_world.specs.Worlds.{Judged}
use Rattle.relay_world.proofs.Schedules.{acks, verdicts}
use Rattle.relay_world.proofs.Steps.{one_first}
use Rattle.source_core.specs.declared.report.Ruling.{Ruling}
use Rattle.source_core.specs.declared.known.Clash.{Clash}
use Rattle.source_core.specs.Reports.{HasAcknowledged, HasRuled, IsClash}
use Rattle.theorems.specs.Sources.{ComesOfWorld}

-- a verdict that came is the first of the game
pub first_of : (game : Judged) (events : List Event) (all : List Passing) (w : ArbiterId) (r : Ruling) → ComesOfWorld game events all → HasRuled game.stamp w r all → IsFirst game.rules game.moves r.ply r.verdict
first_of game events all w r comes h =
    let sent = comes (Verdict game.stamp w r.ply r.verdict) refl h in
    verdicts game events sent.0 game.stamp w r.ply r.verdict sent.1

pub same_ruling : (r s : Ruling) → r.ply ≡ s.ply → r.verdict ≡ s.verdict → r ≡ s
same_ruling r s p q = ap (λ n. record { ply = n; verdict = r.verdict }) p ∙ ap (λ v. record { ply = s.ply; verdict = v }) q

-- what was acknowledged is kept
pub kept_by : (game : Judged) (events : List Event) (all : List Passing) (w : ArbiterId) (n : ℕ) → ComesOfWorld game events all → HasAcknowledged game.stamp w (n + 1) all → n < count_in (world_after game events) w
kept_by game events all w n comes (count, came, more) =
    let sent = comes (Ack game.stamp w count) refl came in
    let at : count ≤ count_in (world_after game events) w = subst (λ es. count ≤ count_in (world_after game es) w) (append-nil events) (acks game events [] sent.0 game.stamp w count sent.1) in
    omega (arith, more, at)

pub no_two : (game : Judged) (events : List Event) (all : List Passing) (c : Clash) → ComesOfWorld game events all → IsClash game.stamp c all → ⊥
no_two game events all c comes h =
    let one = one_first game.rules game.moves c.first.ply c.second.ply c.first.verdict c.second.verdict (first_of game events all h.w c.first comes h.first) (first_of game events all h.v c.second comes h.second) in
    h.differ (same_ruling c.first c.second one.0 one.1)
