-- What arbiters have reported by the datagrams that came (this project's own).
use Rattle.std.specs.Prelude.{◌≡◌, ◌≢◌, ◌≤◌, ◌<◌, ◌+◌, ◌⊎◌, ℕ, max, List, Option, Some, None, IfSome}
use Rattle.std.specs.List.{Contains}
use Rattle.std.specs.declared.net.socket_addr.SocketAddr.{SocketAddr}
use Rattle.move_msg.specs.declared.stamp.Stamp.{Stamp}
use Rattle.move_msg.specs.declared.arbiter_id.ArbiterId.{ArbiterId}
use Rattle.move_msg.specs.declared.arbiter_id.ArbiterId.TheVariants.{A, B}
use Rattle.move_msg.specs.declared.message.Message.{Message}
use Rattle.move_msg.specs.declared.message.Message.TheVariants.{Ack, Verdict}
use Rattle.move_msg.specs.Messages.{SpellsMessage}
use Rattle.source_core.specs.declared.report.Ruling.{Ruling}
use Rattle.source_core.specs.declared.report.Report.{Report}
use Rattle.source_core.specs.declared.report.Report.TheVariants.{Acknowledges, Rules}
use Rattle.source_core.specs.declared.known.Reported.{Reported}
use Rattle.source_core.specs.declared.known.Known.{Known}
use Rattle.source_core.specs.declared.known.Clash.{Clash}
use Rattle.source_core.specs.declared.known.Standing.{Standing}
use Rattle.source_core.specs.declared.known.Standing.TheVariants as standing
use Rattle.system_io.specs.Ports.{Passing, Came}

-- the message by which an arbiter of the game reports something
abbrev pub message_of : Stamp → Report → Message
message_of stamp (Acknowledges who count) = Ack stamp who count
message_of stamp (Rules who ruling) = Verdict stamp who ruling.ply ruling.verdict

-- ---- what was reported, by what has passed

-- a datagram came that spells the message
abbrev pub HasCome : List Passing → Message → Type 0
HasCome all m = (bytes : List ℕ) × Contains all (Came bytes) × SpellsMessage bytes m

-- the arbiter of the game has acknowledged so many moves at least
abbrev pub HasAcknowledged : Stamp → ArbiterId → ℕ → List Passing → Type 0
HasAcknowledged stamp who n all = (count : ℕ) × HasCome all (message_of stamp (Acknowledges who count)) × (n ≤ count)

-- it has reported this verdict
abbrev pub HasRuled : Stamp → ArbiterId → Ruling → List Passing → Type 0
HasRuled stamp who r all = HasCome all (message_of stamp (Rules who r))

-- no two verdicts that were reported differ
abbrev pub IsAgreed : Stamp → List Passing → Type 0
IsAgreed stamp all = (w v : ArbiterId) (r s : Ruling) → HasRuled stamp w r all → HasRuled stamp v s all → r ≡ s

-- both have acknowledged the move with this number, and neither has reported a verdict
pub record IsAcked (stamp : Stamp) (number : ℕ) (all : List Passing) : Type 0 where
  pub a : HasAcknowledged stamp A (number + 1) all
  pub b : HasAcknowledged stamp B (number + 1) all
  pub open_yet : (w : ArbiterId) (r : Ruling) → HasRuled stamp w r all → ⊥

-- both have reported this verdict, and no other was reported
pub record IsRuled (stamp : Stamp) (r : Ruling) (all : List Passing) : Type 0 where
  pub a : HasRuled stamp A r all
  pub b : HasRuled stamp B r all
  pub only : (w : ArbiterId) (s : Ruling) → HasRuled stamp w s all → s ≡ r

-- two different verdicts were reported
pub record IsClash (stamp : Stamp) (c : Clash) (all : List Passing) : Type 0 where
  pub w : ArbiterId
  pub v : ArbiterId
  pub first : HasRuled stamp w c.first all
  pub second : HasRuled stamp v c.second all
  pub differ : c.first ≢ c.second

-- neither is so, and no two verdicts differ
pub record IsUnsettled (stamp : Stamp) (number : ℕ) (all : List Passing) : Type 0 where
  pub not_acked : IsAcked stamp number all → ⊥
  pub not_ruled : (r : Ruling) → IsRuled stamp r all → ⊥
  pub agreed : IsAgreed stamp all

-- ---- what a source knows of it

-- the greatest count that an arbiter has acknowledged, 0 where none, and its verdict if it has reported one
pub record IsReportedBy (stamp : Stamp) (who : ArbiterId) (all : List Passing) (reported : Reported) : Type 0 where
  pub counted : 0 < reported.count → HasAcknowledged stamp who reported.count all
  pub most : (n : ℕ) → HasAcknowledged stamp who n all → n ≤ reported.count
  pub ruled : IfSome reported.ruling (λ r. HasRuled stamp who r all)
  pub only : (r : Ruling) → HasRuled stamp who r all → reported.ruling ≡ Some r

pub record Knows (stamp : Stamp) (all : List Passing) (known : Known) : Type 0 where
  pub a : IsReportedBy stamp A all known.a
  pub b : IsReportedBy stamp B all known.b
  pub agreed : (r s : Ruling) → known.a.ruling ≡ Some r → known.b.ruling ≡ Some s → r ≡ s

abbrev pub reported_by : Known → ArbiterId → Reported
reported_by known A = known.a
reported_by known B = known.b

abbrev pub with_reported : Known → ArbiterId → Reported → Known
with_reported known A reported = record known { a = reported }
with_reported known B reported = record known { b = reported }

abbrev pub FitsRuling : Option Ruling → Ruling → Type 0
FitsRuling kept r = IfSome kept (λ s. s ≡ r)

-- what is known after a report that clashes with nothing and came from this address
abbrev pub AddsReport : Known → Report → Option SocketAddr → Known → Type 0
AddsReport old (Acknowledges who count) from new = new ≡ with_reported old who (record { count = max (reported_by old who).count count; ruling = (reported_by old who).ruling; from = from })
AddsReport old (Rules who r) from new = (new ≡ with_reported old who (record { count = (reported_by old who).count; ruling = Some r; from = from })) × FitsRuling old.a.ruling r × FitsRuling old.b.ruling r

-- the report clashes with what is known
abbrev pub Clashes : Known → Report → Clash → Type 0
Clashes old (Acknowledges who count) c = ⊥
Clashes old (Rules who r) c = (c.second ≡ r) × (c.first ≢ r) × ((old.a.ruling ≡ Some c.first) ⊎ (old.b.ruling ≡ Some c.first))

-- how the move with this number stands
abbrev pub StandsSo : Known → ℕ → Standing → Type 0
StandsSo known number standing.Acked = (number < known.a.count) × (number < known.b.count) × (known.a.ruling ≡ None) × (known.b.ruling ≡ None)
StandsSo known number (standing.Ruled r) = (known.a.ruling ≡ Some r) × ((s : Ruling) × (known.b.ruling ≡ Some s))
StandsSo known number standing.Open = ((number < known.a.count) → (number < known.b.count) → (known.a.ruling ≡ None) → (known.b.ruling ≡ None) → ⊥) × ((r s : Ruling) → known.a.ruling ≡ Some r → known.b.ruling ≡ Some s → ⊥)
