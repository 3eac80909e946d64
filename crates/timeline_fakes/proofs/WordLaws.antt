-- The words of a port, one after another.
use Rattle.std.proofs.Common.{◌≡◌, ◌∙◌, ◌<◌, ◌+◌, ◌++◌, ◌∷◌, [], ℕ, List, Option, ap, get_or, length, map, subst, sym, take}
use Rattle.std.specs.Borrow.{Bor}
use Rattle.std.specs.declared.net.socket_addr.SocketAddr.{SocketAddr}
use Rattle.std.proofs.lemmas.List.{map-append, take_more}
use Rattle.system_io.specs.Recipients.{Names}
use Rattle.system_io.specs.declared.recipient.Recipient.{Recipient}
use Rattle.timeline.specs.Outsides.{AreNamed}
use Rattle.timeline.proofs.NamedLaws.{named_push}

abbrev text : Bor (List ℕ) → List ℕ
text word = word.now

-- one more is named
pub named_more : (own : Option SocketAddr) (words : List (Bor (List ℕ))) (n : ℕ) (d : Bor (List ℕ)) (all more : List Recipient) (who : Recipient) → more ≡ all ++ who ∷ [] → n < length words → Names own (get_or words n d).now who
    → AreNamed own (map (λ s. s.now) (take n words)) all → AreNamed own (map (λ s. s.now) (take (n + 1) words)) more
named_more own words n d all more who is some names before =
    let next : map text (take (n + 1) words) ≡ map text (take n words) ++ (get_or words n d).now ∷ [] = ap (map text) (take_more words n d some) ∙ map-append text (take n words) (get_or words n d ∷ []) in
    subst (λ (ws : List (List ℕ)). AreNamed own ws more) (sym next)
    (subst (λ (rs : List Recipient). AreNamed own (map text (take n words) ++ (get_or words n d).now ∷ []) rs) (sym is) (named_push own (map text (take n words)) all (get_or words n d).now who before names))
