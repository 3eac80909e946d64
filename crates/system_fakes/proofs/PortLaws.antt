-- What a port gives out, address by address.
use Rattle.std.proofs.Common.{◌∷◌, [], ℕ, ◌+◌, List, Option, sym, subst, add-one}
use Rattle.system_io.specs.Histories.{Passes}
use Rattle.system_io.specs.Ports.{Passing, Handed, to_each}
use Rattle.system_io.proofs.HistoryLaws.{Passes-nil, Passes-trans}

-- given out for no address so far
pub to_none : (a : Option (List Passing)) (bytes : List ℕ) → Passes a a (to_each 0 bytes)
unfolding to_each
to_none a bytes = Passes-nil a

-- given out for one more
pub to_one_more : (a b c : Option (List Passing)) (n : ℕ) (bytes : List ℕ) → Passes a b (to_each n bytes) → Passes b c (Handed n bytes ∷ []) → Passes a c (to_each (n + 1) bytes)
unfolding to_each
to_one_more a b c n bytes p q = subst (λ (k : ℕ). Passes a c (to_each k bytes)) (sym (add-one n)) (Passes-trans a b c (to_each n bytes) (Handed n bytes ∷ []) p q)
