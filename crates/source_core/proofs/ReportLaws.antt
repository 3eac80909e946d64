-- What is kept of what the arbiters told, as more passes.
use Rattle.std.proofs.Common.{◌≡◌, ◌≢◌, ◌⊎◌, ℕ, ◌+◌, ◌≤◌, ◌<◌, max, false, List, [], ◌∷◌, ◌++◌, Option, Some, None, IfSome, refl, sym, ap, subst, ◌∙◌, arith, inl, inr}
use Rattle.std.specs.Prelude.{◌&&◌, is_some}
use Rattle.std.specs.declared.net.socket_addr.SocketAddr.{SocketAddr}
use Rattle.std.proofs.lemmas.List.Elements.{Contains-append_left, Contains-push, Contains-push_cases}
use Rattle.std.proofs.lemmas.Option.{same_Some}
use Rattle.move_msg.specs.declared.stamp.Stamp.{Stamp}
use Rattle.move_msg.specs.declared.arbiter_id.ArbiterId.{ArbiterId}
use Rattle.move_msg.specs.declared.arbiter_id.ArbiterId.TheVariants.{A, B}
use Rattle.move_msg.specs.declared.message.Message.{Message}
use Rattle.move_msg.specs.Messages.{SpellsMessage}
use Rattle.source_core.specs.declared.report.Ruling.{Ruling}
use Rattle.source_core.specs.declared.report.Report.{Report}
use Rattle.source_core.specs.declared.report.Report.TheVariants.{Acknowledges, Rules}
use Rattle.source_core.specs.declared.known.Reported.{Reported}
use Rattle.source_core.specs.declared.known.Known.{Known}
use Rattle.source_core.specs.declared.known.Clash.{Clash}
use Rattle.source_core.specs.declared.known.Standing.TheVariants as standing
use Rattle.system_io.specs.Ports.{Passing, Came}
use Rattle.source_core.specs.Reports.{Clashes, FitsRuling, HasCome, HasAcknowledged, HasRuled, AddsReport, IsAcked, IsAgreed, IsClash, IsRuled, IsReportedBy, IsUnsettled, Knows, StandsSo, message_of}

pub come_still : (all more : List Passing) (m : Message) → HasCome all m → HasCome (all ++ more) m
come_still all more m (bytes, in', spells) = (bytes, Contains-append_left all more (Came bytes) in', spells)

-- what comes last says nothing of a record
abbrev pub ReportsNothing : Stamp → Passing → Type 0
ReportsNothing stamp p = (bytes : List ℕ) (s : Report) → p ≡ Came bytes → SpellsMessage bytes (message_of stamp s) → ⊥

come_before : (stamp : Stamp) (all : List Passing) (p : Passing) (s : Report) → ReportsNothing stamp p → HasCome (all ++ p ∷ []) (message_of stamp s) → HasCome all (message_of stamp s)
come_before stamp all p s none (bytes, in', spells) = elim (Contains-push_cases all p (Came bytes) in') [
  | inl before ↦ (bytes, before, spells)
  | inr is ↦ absurd (none bytes s is spells)
]

reported_still : (stamp : Stamp) (who : ArbiterId) (all : List Passing) (p : Passing) (told : Reported) → ReportsNothing stamp p → IsReportedBy stamp who all told → IsReportedBy stamp who (all ++ p ∷ []) told
reported_still stamp who all p told none h = record {
  counted = λ some. let c = h.counted some in (c.0, come_still all (p ∷ []) (message_of stamp (Acknowledges who c.0)) c.1, c.2);
  most = λ n c. h.most n (c.0, come_before stamp all p (Acknowledges who c.0) none c.1, c.2);
  ruled = ruled_still told.ruling h.ruled;
  only = λ r c. h.only r (come_before stamp all p (Rules who r) none c);
}
  where
    ruled_still : (o : Option Ruling) → IfSome o (λ r. HasRuled stamp who r all) → IfSome o (λ r. HasRuled stamp who r (all ++ p ∷ []))
    ruled_still None k = tt
    ruled_still (Some r) k = come_still all (p ∷ []) (message_of stamp (Rules who r)) k

pub knows_still : (stamp : Stamp) (all : List Passing) (p : Passing) (known : Known) → ReportsNothing stamp p → Knows stamp all known → Knows stamp (all ++ p ∷ []) known
knows_still stamp all p known none h = record { a = reported_still stamp A all p known.a none h.a; b = reported_still stamp B all p known.b none h.b; agreed = h.agreed }

-- ---- a datagram that says something

-- the bytes say this, and nothing else
pub record IsReport (stamp : Stamp) (bytes : List ℕ) (said : Report) : Type 0 where
  pub spells : SpellsMessage bytes (message_of stamp said)
  pub only : (s : Report) → SpellsMessage bytes (message_of stamp s) → said ≡ s

came_or_said : (stamp : Stamp) (all : List Passing) (bytes : List ℕ) (said s : Report) → IsReport stamp bytes said → HasCome (all ++ Came bytes ∷ []) (message_of stamp s) → HasCome all (message_of stamp s) ⊎ (said ≡ s)
came_or_said stamp all bytes said s says (its, in', spells) = elim (Contains-push_cases all (Came bytes) (Came its) in') [
  | inl before ↦ inl (its, before, spells)
  | inr is ↦ let same : its ≡ bytes = cc in inr (says.only s (subst (λ b. SpellsMessage b (message_of stamp s)) same spells))
]

said_now : (stamp : Stamp) (all : List Passing) (bytes : List ℕ) (said : Report) → IsReport stamp bytes said → HasCome (all ++ Came bytes ∷ []) (message_of stamp said)
said_now stamp all bytes said says = (bytes, Contains-push all (Came bytes), says.spells)

ruled_still : (stamp : Stamp) (who : ArbiterId) (all more : List Passing) (o : Option Ruling) → IfSome o (λ r. HasRuled stamp who r all) → IfSome o (λ r. HasRuled stamp who r (all ++ more))
ruled_still stamp who all more None k = tt
ruled_still stamp who all more (Some r) k = come_still all more (message_of stamp (Rules who r)) k

-- of another arbiter
untouched : (stamp : Stamp) (who : ArbiterId) (all : List Passing) (bytes : List ℕ) (said : Report) (told : Reported) → IsReport stamp bytes said → ((n : ℕ) → said ≡ Acknowledges who n → ⊥) → ((r : Ruling) → said ≡ Rules who r → ⊥) → IsReportedBy stamp who all told → IsReportedBy stamp who (all ++ Came bytes ∷ []) told
untouched stamp who all bytes said told says not_counts not_rules h = record {
  counted = λ some. let c = h.counted some in (c.0, come_still all (Came bytes ∷ []) (message_of stamp (Acknowledges who c.0)) c.1, c.2);
  most = λ n c. elim (came_or_said stamp all bytes said (Acknowledges who c.0) says c.1) [ inl before ↦ h.most n (c.0, before, c.2) | inr is ↦ absurd (not_counts c.0 is) ];
  ruled = ruled_still stamp who all (Came bytes ∷ []) told.ruling h.ruled;
  only = λ r c. elim (came_or_said stamp all bytes said (Rules who r) says c) [ inl before ↦ h.only r before | inr is ↦ absurd (not_rules r is) ];
}

counts_now : (stamp : Stamp) (who : ArbiterId) (all : List Passing) (bytes : List ℕ) (count : ℕ) (told : Reported) (from : Option SocketAddr) → IsReport stamp bytes (Acknowledges who count) → IsReportedBy stamp who all told → IsReportedBy stamp who (all ++ Came bytes ∷ []) (record { count = max told.count count; ruling = told.ruling; from = from })
counts_now stamp who all bytes count told from says h = record {
  counted = λ some. elim (greatest told.count count) [
    | inl first ↦ let more : 0 < told.count = subst (λ n. 0 < n) first some in let c = h.counted more in (c.0, come_still all (Came bytes ∷ []) (message_of stamp (Acknowledges who c.0)) c.1, subst (λ n. n ≤ c.0) (sym first) c.2)
    | inr second ↦ (count, said_now stamp all bytes (Acknowledges who count) says, omega (arith, second))
  ];
  most = λ n c. elim (came_or_said stamp all bytes (Acknowledges who count) (Acknowledges who c.0) says c.1) [
    | inl before ↦ let old = h.most n (c.0, before, c.2) in omega arith
    | inr is ↦ let same : count ≡ c.0 = cc in let low = c.2 in omega arith
  ];
  ruled = ruled_still stamp who all (Came bytes ∷ []) told.ruling h.ruled;
  only = λ r c. elim (came_or_said stamp all bytes (Acknowledges who count) (Rules who r) says c) [ inl before ↦ h.only r before | inr is ↦ absurd cc ];
}
  where
    greatest : (m n : ℕ) → (max m n ≡ m) ⊎ (max m n ≡ n)
    greatest m n = grind arith

rules_now : (stamp : Stamp) (who : ArbiterId) (all : List Passing) (bytes : List ℕ) (r : Ruling) (told : Reported) (from : Option SocketAddr) → IsReport stamp bytes (Rules who r) → FitsRuling told.ruling r → IsReportedBy stamp who all told → IsReportedBy stamp who (all ++ Came bytes ∷ []) (record { count = told.count; ruling = Some r; from = from })
rules_now stamp who all bytes r told from says fits h = record {
  counted = λ some. let c = h.counted some in (c.0, come_still all (Came bytes ∷ []) (message_of stamp (Acknowledges who c.0)) c.1, c.2);
  most = λ n c. elim (came_or_said stamp all bytes (Rules who r) (Acknowledges who c.0) says c.1) [ inl before ↦ h.most n (c.0, before, c.2) | inr is ↦ absurd cc ];
  ruled = said_now stamp all bytes (Rules who r) says;
  only = λ s c. elim (came_or_said stamp all bytes (Rules who r) (Rules who s) says c) [
    | inl before ↦ kept told.ruling s fits (h.only s before)
    | inr is ↦ let same : r ≡ s = cc in ap Some same
  ];
}
  where
    kept : (o : Option Ruling) (s : Ruling) → FitsRuling o r → o ≡ Some s → Some r ≡ Some s
    kept None s f e = absurd cc
    kept (Some x) s f e = ap Some (sym f) ∙ e

fits_some : (o : Option Ruling) (r s : Ruling) → FitsRuling o r → o ≡ Some s → s ≡ r
fits_some None r s f e = absurd cc
fits_some (Some x) r s f e = sym (same_Some x s e) ∙ f

pub knows_now : (stamp : Stamp) (all : List Passing) (bytes : List ℕ) (said : Report) (from : Option SocketAddr) (old new : Known) → IsReport stamp bytes said → AddsReport old said from new → Knows stamp all old → Knows stamp (all ++ Came bytes ∷ []) new
knows_now stamp all bytes (Acknowledges A count) from old new says adds h = subst (λ k. Knows stamp (all ++ Came bytes ∷ []) k) (sym adds) (record {
  a = counts_now stamp A all bytes count old.a from says h.a;
  b = untouched stamp B all bytes (Acknowledges A count) old.b says (λ n e. cc) (λ r e. cc) h.b;
  agreed = h.agreed;
})
knows_now stamp all bytes (Acknowledges B count) from old new says adds h = subst (λ k. Knows stamp (all ++ Came bytes ∷ []) k) (sym adds) (record {
  a = untouched stamp A all bytes (Acknowledges B count) old.a says (λ n e. cc) (λ r e. cc) h.a;
  b = counts_now stamp B all bytes count old.b from says h.b;
  agreed = h.agreed;
})
knows_now stamp all bytes (Rules A r) from old new says (is, fits_a, fits_b) h = subst (λ k. Knows stamp (all ++ Came bytes ∷ []) k) (sym is) (record {
  a = rules_now stamp A all bytes r old.a from says fits_a h.a;
  b = untouched stamp B all bytes (Rules A r) old.b says (λ n e. cc) (λ s e. cc) h.b;
  agreed = λ x s e f. sym (same_Some r x e) ∙ sym (fits_some old.b.ruling r s fits_b f);
})
knows_now stamp all bytes (Rules B r) from old new says (is, fits_a, fits_b) h = subst (λ k. Knows stamp (all ++ Came bytes ∷ []) k) (sym is) (record {
  a = untouched stamp A all bytes (Rules B r) old.a says (λ n e. cc) (λ s e. cc) h.a;
  b = rules_now stamp B all bytes r old.b from says fits_b h.b;
  agreed = λ x s e f. fits_some old.a.ruling r x fits_a e ∙ same_Some r s f;
})

pub ruled_by : (stamp : Stamp) (who : ArbiterId) (all : List Passing) (o : Option Ruling) (r : Ruling) → IfSome o (λ s. HasRuled stamp who s all) → o ≡ Some r → HasRuled stamp who r all
ruled_by stamp who all None r k e = absurd cc
ruled_by stamp who all (Some s) r k e = subst (λ t. HasRuled stamp who t all) (same_Some s r e) k

pub clash_now : (stamp : Stamp) (all : List Passing) (bytes : List ℕ) (said : Report) (old : Known) (c : Clash) → IsReport stamp bytes said → Clashes old said c → Knows stamp all old → IsClash stamp c (all ++ Came bytes ∷ [])
clash_now stamp all bytes (Acknowledges who count) old c says clashes h = absurd clashes
clash_now stamp all bytes (Rules who r) old c says (second, differ, first) h =
    let now : HasRuled stamp who c.second (all ++ Came bytes ∷ []) = subst (λ s. HasRuled stamp who s (all ++ Came bytes ∷ [])) (sym second) (said_now stamp all bytes (Rules who r) says) in
    let apart : c.first ≢ c.second = λ e. differ (e ∙ second) in
    elim first [
      | inl by_a ↦ record { w = A; v = who; first = come_still all (Came bytes ∷ []) (message_of stamp (Rules A c.first)) (ruled_by stamp A all old.a.ruling c.first h.a.ruled by_a); second = now; differ = apart }
      | inr by_b ↦ record { w = B; v = who; first = come_still all (Came bytes ∷ []) (message_of stamp (Rules B c.first)) (ruled_by stamp B all old.b.ruling c.first h.b.ruled by_b); second = now; differ = apart }
    ]

-- ---- how a move stands

none_ruled : (stamp : Stamp) (who : ArbiterId) (all : List Passing) (told : Reported) (r : Ruling) → IsReportedBy stamp who all told → told.ruling ≡ None → HasRuled stamp who r all → ⊥
none_ruled stamp who all told r h none ruled = let some = h.only r ruled in cc

more_counted : (stamp : Stamp) (who : ArbiterId) (all : List Passing) (told : Reported) (number : ℕ) → IsReportedBy stamp who all told → number < told.count → HasAcknowledged stamp who (number + 1) all
more_counted stamp who all told number h lt = let c = h.counted (omega arith) in let low = c.2 in (c.0, c.1, omega arith)

pub is_acked : (stamp : Stamp) (number : ℕ) (all : List Passing) (known : Known) → Knows stamp all known → StandsSo known number standing.Acked → IsAcked stamp number all
is_acked stamp number all known h (lt_a, lt_b, none_a, none_b) = record {
  a = more_counted stamp A all known.a number h.a lt_a;
  b = more_counted stamp B all known.b number h.b lt_b;
  open_yet = unruled;
}
  where
    unruled : (w : ArbiterId) (r : Ruling) → HasRuled stamp w r all → ⊥
    unruled A r = none_ruled stamp A all known.a r h.a none_a
    unruled B r = none_ruled stamp B all known.b r h.b none_b

pub is_ruled_so : (stamp : Stamp) (number : ℕ) (all : List Passing) (known : Known) (r : Ruling) → Knows stamp all known → StandsSo known number (standing.Ruled r) → IsRuled stamp r all
is_ruled_so stamp number all known r h (is_a, other) = record {
  a = ruled_by stamp A all known.a.ruling r h.a.ruled is_a;
  b = ruled_by stamp B all known.b.ruling r h.b.ruled (other.1 ∙ ap Some (sym (h.agreed r other.0 is_a other.1)));
  only = only;
}
  where
    only : (w : ArbiterId) (t : Ruling) → HasRuled stamp w t all → t ≡ r
    only A t ruled = same_Some t r (sym (h.a.only t ruled) ∙ is_a)
    only B t ruled = same_Some t other.0 (sym (h.b.only t ruled) ∙ other.1) ∙ sym (h.agreed r other.0 is_a other.1)

pub all_agreed : (stamp : Stamp) (all : List Passing) (known : Known) → Knows stamp all known → IsAgreed stamp all
all_agreed stamp all known h A A r s p q = same_Some r s (sym (h.a.only r p) ∙ h.a.only s q)
all_agreed stamp all known h A B r s p q = h.agreed r s (h.a.only r p) (h.b.only s q)
all_agreed stamp all known h B A r s p q = sym (h.agreed s r (h.a.only s q) (h.b.only r p))
all_agreed stamp all known h B B r s p q = same_Some r s (sym (h.b.only r p) ∙ h.b.only s q)

unruled_none : (stamp : Stamp) (who : ArbiterId) (all : List Passing) (o : Option Ruling) → IfSome o (λ r. HasRuled stamp who r all) → ((r : Ruling) → HasRuled stamp who r all → ⊥) → o ≡ None
unruled_none stamp who all None k none = refl
unruled_none stamp who all (Some r) k none = absurd (none r k)

pub is_unsettled : (stamp : Stamp) (number : ℕ) (all : List Passing) (known : Known) → Knows stamp all known → StandsSo known number standing.Open → IsUnsettled stamp number all
is_unsettled stamp number all known h (not_acked, not_ruled) = record {
  not_acked = λ acked. not_acked (let low = h.a.most (number + 1) acked.a in omega arith) (let low = h.b.most (number + 1) acked.b in omega arith) (unruled_none stamp A all known.a.ruling h.a.ruled (acked.open_yet A)) (unruled_none stamp B all known.b.ruling h.b.ruled (acked.open_yet B));
  not_ruled = λ r ruled. not_ruled r r (h.a.only r ruled.a) (h.b.only r ruled.b);
  agreed = all_agreed stamp all known h;
}

-- nothing has passed
pub knows_nothing : (stamp : Stamp) → Knows stamp [] (record { a = record { count = 0; ruling = None; from = None }; b = record { count = 0; ruling = None; from = None } })
knows_nothing stamp = record { a = none A; b = none B; agreed = λ r s e f. absurd cc }
  where
    none : (who : ArbiterId) → IsReportedBy stamp who [] (record { count = 0; ruling = None; from = None })
    none who = record {
      counted = λ some. absurd (omega arith);
      most = λ n c. let lt = c.1.1.1 in absurd (omega arith);
      ruled = tt;
      only = λ r c. let lt = c.1.1 in absurd (omega arith);
    }

pub not_both : (a b : Option Ruling) → ((r s : Ruling) → a ≡ Some r → b ≡ Some s → ⊥) → (is_some a && is_some b) ≡ false
not_both None b none = refl
not_both (Some r) None none = refl
not_both (Some r) (Some s) none = absurd (none r s refl refl)

pub reports_this : (stamp : Stamp) (bytes : List ℕ) (said : Report) → SpellsMessage bytes (message_of stamp said) → ((s : Report) → SpellsMessage bytes (message_of stamp s) → Some said ≡ Some s) → IsReport stamp bytes said
reports_this stamp bytes said spells only = record { spells = spells; only = λ s h. same_Some said s (only s h) }

pub reports_none : (stamp : Stamp) (bytes : List ℕ) → ((s : Report) → SpellsMessage bytes (message_of stamp s) → ⊥) → ReportsNothing stamp (Came bytes)
reports_none stamp bytes none its s is spells =
    let same : its ≡ bytes = cc in
    none s (subst (λ b. SpellsMessage b (message_of stamp s)) same spells)
