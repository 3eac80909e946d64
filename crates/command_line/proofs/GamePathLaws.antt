-- A path in its parts.
use Rattle.std.proofs.Common.{◌≡◌, ◌<◌, ◌++◌, ℕ, List, [], ◌∷◌, length, codes, Option, Some, None, arith, length-append, refl, sym, subst, ap, ◌∙◌}
use Rattle.std.specs.Prelude.{IfNone}
use Rattle.hex.specs.Hex.{encode_lower, lower_digits}
use Rattle.hex.proofs.HexLemmas.{length-encode_with}
use Rattle.move_msg.specs.Stamps.{IsStamp}
use Rattle.command_line.specs.GamePaths.{IsFolderFront, NamesGame}

same_parts : (a x b y : List ℕ) → length a ≡ length x → a ++ b ≡ x ++ y → (a ≡ x) × (b ≡ y)
same_parts [] [] b y same e = (refl, e)
same_parts [] (d ∷ x) b y same e = absurd (omega (arith, same))
same_parts (c ∷ a) [] b y same e = absurd (omega (arith, same))
same_parts (c ∷ a) (d ∷ x) b y same e =
    let both : c ∷ (a ++ b) ≡ d ∷ (x ++ y) = e in
    let tails : a ++ b ≡ x ++ y = cc in
    let heads : c ≡ d = cc in
    let rest = same_parts a x b y (omega (arith, same)) tails in
    (ap (λ h. h ∷ a) heads ∙ ap (λ t. d ∷ t) rest.0, rest.1)

-- by what stands behind
same_behind : (a x b y : List ℕ) → length b ≡ length y → a ++ b ≡ x ++ y → (a ≡ x) × (b ≡ y)
same_behind a x b y same e =
    let lengths : length (a ++ b) ≡ length (x ++ y) = ap length e in
    same_parts a x b y (omega (arith, same, lengths, length-append a b, length-append x y)) e

digits_long : (stamp : List ℕ) → IsStamp stamp → length (encode_lower stamp) ≡ 32
digits_long stamp is = let size = is.0 in let twice = length-encode_with lower_digits stamp in omega (arith, size, twice)

-- the path without its ending
rest_of : (rest stamp : List ℕ) (n : NamesGame (rest ++ codes ".game") stamp) → rest ≡ n.front ++ encode_lower stamp
rest_of rest stamp n = (same_behind rest (n.front ++ encode_lower stamp) (codes ".game") (codes ".game") refl n.is).0

pub too_short : (rest stamp : List ℕ) → length rest < 32 → NamesGame (rest ++ codes ".game") stamp → ⊥
too_short rest stamp short n =
    let parts : length rest ≡ length (n.front ++ encode_lower stamp) = ap length (rest_of rest stamp n) in
    let digits = digits_long stamp n.size in
    omega (arith, short, parts, digits, length-append n.front (encode_lower stamp))

-- of a path whose last name has 32 digits
pub record HasDigits (front digits stamp : List ℕ) : Type 0 where
  pub folder : IsFolderFront front
  pub size : IsStamp stamp
  pub is : digits ≡ encode_lower stamp

pub has_digits : (path front digits stamp : List ℕ) → path ≡ front ++ digits → length digits ≡ 32 → NamesGame (path ++ codes ".game") stamp → HasDigits front digits stamp
has_digits path front digits stamp parts long n =
    let same = same_behind front n.front digits (encode_lower stamp) (long ∙ sym (digits_long stamp n.size)) (sym parts ∙ rest_of path stamp n) in
    record { folder = subst IsFolderFront (sym same.0) n.folder; size = n.size; is = same.1 }

pub none_there : {A : Type 0} (o : Option A) (P Q : Type 0) → (P → Q) → IfNone o P → IfNone o Q
none_there None P Q f h = f h
none_there (Some x) P Q f h = tt

-- a path that ends otherwise
pub ends_otherwise : (path rest ending stamp : List ℕ) → path ≡ rest ++ ending → length ending ≡ 5 → NamesGame path stamp → ending ≡ codes ".game"
ends_otherwise path rest ending stamp parts long n =
    (same_behind rest (n.front ++ encode_lower stamp) ending (codes ".game") long (sym parts ∙ n.is)).1

pub too_short_to_end : (path stamp : List ℕ) → length path < 5 → NamesGame path stamp → ⊥
too_short_to_end path stamp short n =
    let parts : length path ≡ length (n.front ++ encode_lower stamp ++ codes ".game") = ap length n.is in
    omega (arith, short, parts, length-append (n.front ++ encode_lower stamp) (codes ".game"))
