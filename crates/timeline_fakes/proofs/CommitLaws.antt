-- A commit, as it is recorded.
use Rattle.std.proofs.Common.{◌≡◌, ◌∷◌, [], ℕ, Bool, List, Option, subst}
use Rattle.timeline.specs.Events.{Committed, Event, Passes}
use Rattle.timeline_fakes.specs.Memories.{Batch}

pub commit_so : (a b c : Option (List Event)) (path own : List ℕ) (all : Batch) (done is_done : Bool) → b ≡ a → path ≡ own → done ≡ is_done → Passes b c (Committed path all done ∷ []) → Passes a c (Committed own all is_done ∷ [])
commit_so a b c path own all done is_done same at is h =
    subst (λ (t : Option (List Event)). Passes t c (Committed own all is_done ∷ [])) same
    (subst (λ (p : List ℕ). Passes b c (Committed p all is_done ∷ [])) at (subst (λ (d : Bool). Passes b c (Committed path all d ∷ [])) is h))
