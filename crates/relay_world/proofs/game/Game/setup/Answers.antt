use Rattle.std.proofs.Common.{rules, ◌≡◌, ◌∙◌, ℕ, ◌⊎◌, inl, inr, refl, sym, subst}
use Rattle.move_msg.specs.Senders.{who_number}
use Rattle.move_msg.specs.declared.arbiter_id.ArbiterId.{ArbiterId}
use Rattle.move_msg.specs.declared.arbiter_id.ArbiterId.TheVariants.{A, B}
use Rattle.move_msg.specs.Stamps.{IsGameName}
use Rattle.relay_world.proofs.game.Game.setup.Goals as goal

one_of_two : (who : ArbiterId) → (who_number who ≡ 1) ⊎ (who_number who ≡ 2)
one_of_two A = inl refl
one_of_two B = inr refl

pub returns-clause-good : goal.returns-clause-good
returns-clause-good c = record {
  name = subst IsGameName (sym (c.name_of.ensures ∙ c.deref.ensures.value)) c.self.invariant.name;
  me = subst (λ (n : ℕ). (n ≡ 1) ⊎ (n ≡ 2)) (sym c.number.ensures) (one_of_two c.args.me);
  delay = search rules;
}
