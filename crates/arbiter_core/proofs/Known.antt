-- Terms of which the stamp is known.
use Rattle.std.proofs.Common.{◌≡◌, ◌≤◌, ◌⊎◌, inl, inr, refl, List, ℕ}
use Rattle.board_core.specs.Delays.{most_delay}
use Rattle.fen_text.specs.Written.{fen_of}
use Rattle.judge_core.specs.Tables.{Holding}
use Rattle.move_msg.specs.Senders.{who_number}
use Rattle.move_msg.specs.Stamps.{IsGameName, stamp_of}
use Rattle.move_msg.specs.declared.arbiter_id.ArbiterId.{ArbiterId}
use Rattle.move_msg.specs.declared.arbiter_id.ArbiterId.TheVariants as who
use Rattle.arbiter_core.specs.declared.setup.Terms.{Terms}
use Rattle.arbiter_core.specs.Setups.{IsGood, IsIdentity, terms_with}
use Rattle.arbiter_core.specs.Inside.Starting.{identity_by}

number_is : (a : ArbiterId) → (who_number a ≡ 1) ⊎ (who_number a ≡ 2)
number_is who.A = inl refl
number_is who.B = inr refl

pub good_terms : (terms : Terms) (set : Holding) → IsGameName terms.name.items → terms.delay ≤ most_delay → IsGood (terms_with terms set)
good_terms terms set named short = record { name = named; me = number_is terms.me; delay = short }

pub stamped_terms : (terms : Terms) (set : Holding) (stamp : List ℕ) → stamp ≡ stamp_of terms.name.items (fen_of terms.start) terms.manifest.now terms.delay
    → IsIdentity (terms_with terms set) (identity_by terms stamp)
stamped_terms terms set stamp is = record { stamp = is; who = refl }
