-- What is known of the moves that arbiters have, by what they have reported.
use Rattle.std.proofs.Common.{◌≡◌, ◌⊎◌, ℕ, ◌≤◌, ◌<◌, max, List, Option, Some, None, IfSome, sym, ap, subst, arith, inl, inr}
use Rattle.move_msg.specs.declared.stamp.Stamp.{Stamp}
use Rattle.move_msg.specs.declared.arbiter_id.ArbiterId.{ArbiterId}
use Rattle.move_msg.specs.declared.arbiter_id.ArbiterId.TheVariants.{A, B}
use Rattle.system_io.specs.Ports.{Passing}
use Rattle.source_core.specs.declared.report.Ruling.{Ruling}
use Rattle.source_core.specs.declared.origin.Origin.{Origin}
use Rattle.source_core.specs.declared.origin.Origin.TheVariants.{Any, New}
use Rattle.source_core.specs.declared.origin.Started.{Started}
use Rattle.source_core.specs.declared.known.Reported.{Reported}
use Rattle.source_core.specs.declared.known.Known.{Known}
use Rattle.source_core.specs.Reports.{HasAcknowledged, HasRuled, IsReportedBy, Knows}
use Rattle.source_core.specs.Origins.{HasMoves, IsOwn, IsStarted}
use Rattle.source_core.specs.Inside.Steps.{IsBeyond, IsWithin, moves_of, ply_of}

-- an arbiter has no more moves than are known of it
within : (stamp : Stamp) (who : ArbiterId) (all : List Passing) (told : Reported) (n : ℕ) → IsReportedBy stamp who all told → HasMoves stamp who n all → n ≤ moves_of told
within stamp who all told n h (inl acked) = let low = h.most n acked in omega arith
within stamp who all told n h (inr (r, ruled, le)) =
    let same : ply_of told.ruling ≡ r.ply = ap ply_of (h.only r ruled) in
    omega (arith, same, le)

-- and it has as many
ruled_at : (stamp : Stamp) (who : ArbiterId) (all : List Passing) (o : Option Ruling) (n : ℕ) → IfSome o (λ r. HasRuled stamp who r all) → 0 < n → n ≡ ply_of o → HasMoves stamp who n all
ruled_at stamp who all None n k more is = absurd (omega (arith, more, is))
ruled_at stamp who all (Some r) n k more is = inr (r, k, omega (arith, is))

has_moves : (stamp : Stamp) (who : ArbiterId) (all : List Passing) (told : Reported) → IsReportedBy stamp who all told → 0 < moves_of told → HasMoves stamp who (moves_of told) all
has_moves stamp who all told h more = elim (greatest told.count (ply_of told.ruling)) [
  | inl first ↦ inl (subst (λ n. HasAcknowledged stamp who n all) (sym first) (h.counted (subst (λ n. 0 < n) first more)))
  | inr second ↦ ruled_at stamp who all told.ruling (moves_of told) h.ruled more second
]
  where
    greatest : (m n : ℕ) → (max m n ≡ m) ⊎ (max m n ≡ n)
    greatest m n = grind arith

rests : (stamp : Stamp) (sent : ℕ) (all : List Passing) (known : Known) → Knows stamp all known → IsWithin New sent known → (who : ArbiterId) (n : ℕ) → HasMoves stamp who n all → n ≤ sent
rests stamp sent all known h le A n has = let most = within stamp A all known.a n h.a has in let few = le.0 in omega arith
rests stamp sent all known h le B n has = let most = within stamp B all known.b n h.b has in let few = le.1 in omega arith

pub is_own : (origin : Origin) (stamp : Stamp) (sent : ℕ) (all : List Passing) (known : Known) → Knows stamp all known → IsWithin origin sent known → IsOwn origin stamp sent all
is_own Any stamp sent all known h le = tt
is_own New stamp sent all known h le = rests stamp sent all known h le

started_by : (stamp : Stamp) (sent : ℕ) (all : List Passing) (who : ArbiterId) (told : Reported) (s : Started) → IsReportedBy stamp who all told → s.count ≡ moves_of told → sent < s.count → IsStarted stamp sent s all
started_by stamp sent all who told s h is more = record {
  who = who;
  has = subst (λ n. HasMoves stamp who n all) (sym is) (has_moves stamp who all told h (omega (arith, is, more)));
  most = λ n has. let most = within stamp who all told n h has in omega (arith, most, is);
  more = more;
}

pub is_started : (stamp : Stamp) (sent : ℕ) (all : List Passing) (known : Known) (s : Started) → Knows stamp all known → IsBeyond sent known s → IsStarted stamp sent s all
is_started stamp sent all known s h (A, is, more, at) = started_by stamp sent all A known.a s h.a is more
is_started stamp sent all known s h (B, is, more, at) = started_by stamp sent all B known.b s h.b is more
