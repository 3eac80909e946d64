-- What a UDP port receives, one try after another.
use Rattle.std.proofs.Common.{◌≡◌, ◌∙◌, ◌+◌, ◌++◌, ℕ, List, [], ◌∷◌, Option, Some, None, ap, refl, subst, sym, append_assoc, take}
use Rattle.std.specs.Prelude.{Result, Ok, IfOk}
use Rattle.std.proofs.lemmas.List.{replicate-append-replicate}
use Rattle.system_io.proofs.HistoryLaws.{Passes-nil, Passes-trans}
use Rattle.system_io.specs.Histories.{Passes}
use Rattle.system_io.specs.Sockets.{SocketCall, Arrived, NoneCame}
use Rattle.system_io.specs.UdpPorts.{Hears, HearsNothing, HearsOrNothing, UdpFacts, none_came}

-- where nothing was done, nothing came
pub nothing_yet : (a : UdpFacts) → HearsNothing a a
nothing_yet a = record { tries = 0; calls = Passes-nil a.calls; sender = refl; to = refl }

pub nothing_since : (a b c : UdpFacts) → HearsNothing a b → c ≡ b → HearsNothing a c
nothing_since a b c h same = subst (λ (x : UdpFacts). HearsNothing a x) (sym same) h

pub nothing_more : (a b c : UdpFacts) → HearsNothing a b → HearsNothing b c → HearsNothing a c
nothing_more a b c h k = record {
  tries = h.tries + k.tries;
  calls = subst (λ (l : List SocketCall). Passes a.calls c.calls l) (replicate-append-replicate h.tries k.tries NoneCame) (Passes-trans a.calls b.calls c.calls (none_came h.tries) (none_came k.tries) h.calls k.calls);
  sender = k.sender ∙ h.sender;
  to = k.to ∙ h.to;
}

pub hears_after : (a b c : UdpFacts) (bytes : List ℕ) → HearsNothing a b → Hears b c bytes → Hears a c bytes
hears_after a b c bytes h k =
    let came : List SocketCall = Arrived k.from k.datagram ∷ [] in
    let joined : none_came h.tries ++ (none_came k.before ++ came) ≡ none_came (h.tries + k.before) ++ came = sym (append_assoc (none_came h.tries) (none_came k.before) came) ∙ ap (λ (l : List SocketCall). l ++ came) (replicate-append-replicate h.tries k.before NoneCame) in
    record {
      from = k.from;
      datagram = k.datagram;
      before = h.tries + k.before;
      calls = subst (λ (l : List SocketCall). Passes a.calls c.calls l) joined (Passes-trans a.calls b.calls c.calls (none_came h.tries) (none_came k.before ++ came) h.calls k.calls);
      is = k.is;
      sender = k.sender;
      to = k.to ∙ h.to;
    }

pub hears_from : (a b c : UdpFacts) (bytes : List ℕ) → b ≡ a → Hears b c bytes → Hears a c bytes
hears_from a b c bytes same h = subst (λ (x : UdpFacts). Hears x c bytes) same h

pub nothing_from : (a b c : UdpFacts) → b ≡ a → HearsNothing b c → HearsNothing a c
nothing_from a b c same h = subst (λ (x : UdpFacts). HearsNothing x c) same h

pub either_after : (a b c : UdpFacts) (buffer : List ℕ) (got : Option ℕ) → HearsNothing a b → HearsOrNothing b c buffer got → HearsOrNothing a c buffer got
either_after a b c buffer (Some n) h k = hears_after a b c (take n buffer) h k
either_after a b c buffer None h k = nothing_more a b c h k

-- by the result of a call
pub by_result : {E : Type 0} (a b c : UdpFacts) (buffer : List ℕ) (r : Result (Option ℕ) E) (got : Option ℕ) → HearsNothing a b → r ≡ Ok got → IfOk r (HearsOrNothing b c buffer) → HearsOrNothing a c buffer got
by_result {E} a b c buffer r got h is k = either_after a b c buffer got h (subst (λ (x : Result (Option ℕ) E). IfOk x (HearsOrNothing b c buffer)) is k)
