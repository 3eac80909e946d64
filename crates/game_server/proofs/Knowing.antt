-- What is known of the records of games, from one moment to a later one.
use Rattle.std.proofs.Common.{◌≡◌, inl, inr, ◌++◌, ◌∷◌, [], ℕ, true, List, sym, subst}
use Rattle.std.proofs.lemmas.List.Elements.{Contains-append_right}
use Rattle.timeline.specs.Events.{Event, Committed}
use Rattle.game_folder.specs.Holdings.{GamesFacts, SendsNothing, StaysNoted, known}
use Rattle.game_folder.specs.Places.{InFile, InStore, KeptAt, WasKept}
use Rattle.game_server.proofs.Backing.{was_kept_later}

-- what was kept of late was kept
pub was_kept_after : (at : KeptAt) (before more : List Event) (stamp bytes : List ℕ) → WasKept at more stamp bytes → WasKept at (before ++ more) stamp bytes
was_kept_after (InFile path) before more stamp bytes h = elim h [
  | inl put ↦ inl (Contains-append_right before more _ put)
  | inr found ↦ inr (Contains-append_right before more _ found)
]
was_kept_after (InStore path) before more stamp bytes h = elim h [
  | inl put ↦ inl (record { records = put.records; its = put.its; done = Contains-append_right before more (Committed path put.records true) put.done; among = put.among; bytes_are = put.bytes_are })
  | inr found ↦ inr (Contains-append_right before more _ found)
]

module _ {G : Type 0} (facts : GamesFacts G) (g g' : G) (place : facts.place g' ≡ facts.place g) (stamp bytes : List ℕ) where
  -- what was known stays so
  pub known_on : StaysNoted facts g g' → (before more : List Event) → known facts g before stamp bytes → known facts g' (before ++ more) stamp bytes
  known_on noted before more (inl n) = inl (noted stamp bytes n)
  known_on noted before more (inr kept) = inr (subst (λ (p : facts.Place). WasKept (facts.places p stamp) (before ++ more) stamp bytes) (sym place) (was_kept_later (facts.places (facts.place g) stamp) before more stamp bytes kept))

  -- what is known by late events is known
  pub known_after : (before more : List Event) → known facts g' more stamp bytes → known facts g' (before ++ more) stamp bytes
  known_after before more (inl n) = inl n
  known_after before more (inr kept) = inr (was_kept_after (facts.places (facts.place g') stamp) before more stamp bytes kept)

-- ---- nothing is sent

pub quiet_join : (xs ys : List Event) → SendsNothing xs → SendsNothing ys → SendsNothing (xs ++ ys)
quiet_join [] ys p q = q
quiet_join (e ∷ xs) ys p q = (p.0, quiet_join xs ys p.1 q)
