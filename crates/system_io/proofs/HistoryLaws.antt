-- What came to pass, one thing after another.
use Rattle.std.proofs.Common.{◌++◌, [], List, Option, Some, None, sym, ap, ◌∙◌, append_assoc, append-nil}
use Rattle.system_io.specs.Histories.{Passes}

pub Passes-nil : {A : Type 0} (a : Option (List A)) → Passes a a []
Passes-nil None = tt
Passes-nil (Some x) = sym (append-nil x)

pub Passes-trans : {A : Type 0} (a b c : Option (List A)) (x y : List A) → Passes a b x → Passes b c y → Passes a c (x ++ y)
Passes-trans None None None x y p q = tt
Passes-trans None None (Some c) x y p q = absurd q
Passes-trans None (Some b) c x y p q = absurd p
Passes-trans (Some a) None None x y p q = tt
Passes-trans (Some a) None (Some c) x y p q = absurd q
Passes-trans (Some a) (Some b) None x y p q = tt
Passes-trans {A} (Some a) (Some b) (Some c) x y p q = q ∙ ap (λ (l : List A). l ++ y) p ∙ append_assoc a x y
