-- Games that a run begins, and those that earlier runs have begun (this project's own).
use Rattle.std.specs.Prelude.{◌≡◌, ◌≤◌, ◌<◌, ◌⊎◌, ℕ, Bool, true, false, List, Option, Some, None, codes}
use Rattle.std.specs.declared.net.socket_addr.SocketAddr.{SocketAddr}
use Rattle.std.specs.Net.Text.{socket_text}
use Rattle.move_msg.specs.declared.stamp.Stamp.{Stamp}
use Rattle.move_msg.specs.declared.arbiter_id.ArbiterId.{ArbiterId}
use Rattle.system_io.specs.Ports.{Passing}
use Rattle.source_core.specs.declared.report.Ruling.{Ruling}
use Rattle.source_core.specs.declared.origin.Origin.{Origin}
use Rattle.source_core.specs.declared.origin.Origin.TheVariants.{Any, New}
use Rattle.source_core.specs.declared.origin.Started.{Started}
use Rattle.source_core.specs.Reports.{HasAcknowledged, HasRuled}

-- new where it is said so
abbrev pub origin_by : Bool → Origin
origin_by true = New
origin_by false = Any

-- the arbiter has reported that it has so many moves at least: it has acknowledged them, or its verdict comes after them
abbrev pub HasMoves : Stamp → ArbiterId → ℕ → List Passing → Type 0
HasMoves stamp who n all = HasAcknowledged stamp who n all ⊎ ((r : Ruling) × HasRuled stamp who r all × (n ≤ r.ply))

-- no arbiter has reported more moves than so many, which were sent
abbrev pub RestsOnSent : Stamp → ℕ → List Passing → Type 0
RestsOnSent stamp sent all = (who : ArbiterId) (n : ℕ) → HasMoves stamp who n all → n ≤ sent

-- so it is where the game is new; of another game nothing is asked
abbrev pub IsOwn : Origin → Stamp → ℕ → List Passing → Type 0
IsOwn Any stamp sent all = Unit {0}
IsOwn New stamp sent all = RestsOnSent stamp sent all

-- an arbiter has reported more: this many, and no more
pub record IsStarted (stamp : Stamp) (sent : ℕ) (s : Started) (all : List Passing) : Type 0 where
  pub who : ArbiterId
  pub has : HasMoves stamp who s.count all
  pub most : (n : ℕ) → HasMoves stamp who n all → n ≤ s.count
  pub more : sent < s.count

-- which ends a run only where the game is new
abbrev pub EndsStarted : Origin → Stamp → ℕ → Started → List Passing → Type 0
EndsStarted origin stamp sent s all = (origin ≡ New) × IsStarted stamp sent s all

-- the text of an address, or `-` where none is known or it isn't shown
abbrev pub IsAddressText : Option SocketAddr → List ℕ → Type 0
IsAddressText None text = text ≡ codes "-"
IsAddressText (Some address) text = (text ≡ socket_text address) ⊎ (text ≡ codes "-")
