-- A law of the system's ports and kept files.
use Rattle.std.proofs.Common.{◌∙◌, sym}
use Rattle.system_io.specs.Hosts.{PlacesOne}
use Rattle.system_io.specs.Premises.{system_host}

pub places_one : {C S W X Y Z : Type 0} → PlacesOne (system_host {C = C} {S = S} {W = W} {X = X} {Y = Y} {Z = Z})
places_one = record {
  address = λ port a b to others p q. sym p.at ∙ q.at;
  to = λ port a b to others p q. sym p.sends ∙ q.sends;
  own = λ port a b p q. p ∙ sym q;
  path = λ file a b p q. sym p ∙ q;
}
