use Rattle.std.proofs.Common.{◌≡◌, ◌∙◌, ◌∷◌, List, ℕ, codes, refl, sym, ap, subst}
use Rattle.std.specs.Prelude.{IfOk, IfNone}
use Rattle.fen_text.specs.Cuts.{cut_at}
use Rattle.relay_world.specs.declared.event.Event.{Event}
use Rattle.relay_world.specs.Texts.{IsEvent}
use Rattle.relay_world.proofs.lines.read_event.Goals as goal

pub returns-then-is_word-4-clause-none : goal.returns-then-is_word-4-clause-none
returns-then-is_word-4-clause-none c =
    let words : cut_at 32 c.args.line.now ≡ codes "noise" ∷ cut_at 32 c.in-Some.rest.now = c.in-Some.ensures.some ∙ ap (λ (verb : List ℕ). verb ∷ cut_at 32 c.in-Some.rest.now) (c.if-is_word-4.ensures.0 refl) in
    subst (λ (ws : List (List ℕ)). IfOk c.read_noise.result (λ read. IfNone read ((event : Event) → IsEvent ws event → ⊥))) (sym words) c.read_noise.ensures.none
