-- What is found by a stamp after an entry is taken out.
use Rattle.std.proofs.Common.{◌≡◌, ℕ, cond, List, None}
use Rattle.std.specs.List.{IsDistinct}
use Rattle.std.specs.Map.{remove_entry, keys_of}
use Rattle.std.specs.Str.{bytes_eq}
use Rattle.std.specs.Cmp.Lexicographic.{nat_list_eq_equiv}
use Rattle.std.proofs.lemmas.Map.{lookup-remove_entry}
use Rattle.arbiter_server.specs.Room.{at_stamp}

module _ {S : Type 0} where
  pub taken : (es : List (List ℕ × S)) (stamp other : List ℕ) → IsDistinct bytes_eq (keys_of es) → at_stamp (remove_entry (bytes_eq stamp) es) other ≡ cond (bytes_eq stamp other) None (at_stamp es other)
  taken es stamp other apart =
      lookup-remove_entry nat_list_eq_equiv (bytes_eq stamp) (λ x y same. nat_list_eq_equiv.congr stamp x y same) other es apart
