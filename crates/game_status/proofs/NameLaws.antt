-- Texts that are ASCII.
use Rattle.std.proofs.Common.{◌≡◌, ◌<◌, ℕ, Bool, true, List, [], ◌∷◌, Result, Ok, Err, refl, arith}
use Rattle.std.specs.Prelude.{IsOk, IsUtf8, MatchResult, nat_lt}
use Rattle.std.specs.List.{list_all}
use Rattle.std.specs.Str.{IsAscii}
use Rattle.std.proofs.lemmas.Bool.{and_parts}
use Rattle.std.proofs.lemmas.Bool.Decides.{nat_tests}
use Rattle.std.proofs.lemmas.Str.{IsUtf8-from_ascii}
use Rattle.std.proofs.lemmas.Str.Ascii.{IsAscii-cons, IsAscii-nil}
use Rattle.hex.specs.Hex.{encode_lower, lower_digits}
use Rattle.hex.proofs.HexLemmas.{IsAscii-encode_with}
use Rattle.move_msg.specs.Stamps.{IsGameName, is_printable}

-- what is read as UTF-8, since it is
pub read_ok : {T E U : Type 0} (P : T → Type 0) (Q : E → Type 0) (r : Result T E) → MatchResult r P (λ e. (U → ⊥) × Q e) → U → IsOk r
read_ok P Q (Ok x) m u = search
read_ok P Q (Err e) m u = absurd (m.0 u)

-- bytes that pass a test of ASCII
ascii_by : (test : ℕ → Bool) → ((b : ℕ) → test b ≡ true → b < 128) → (bs : List ℕ) → list_all test bs ≡ true → IsAscii bs
ascii_by test small [] h = IsAscii-nil
ascii_by test small (b ∷ bs) h = let (first, others) = and_parts _ _ h in IsAscii-cons b bs (small b first) (ascii_by test small bs others)

-- ---- names and stamps

printable_small : (b : ℕ) → is_printable b ≡ true → b < 128
printable_small b h = grind (arith, nat_tests)

pub name_utf8 : (name : List ℕ) → IsGameName name → IsUtf8 name
name_utf8 name h = IsUtf8-from_ascii name (ascii_by is_printable printable_small name h.2)

below_small : (b : ℕ) → nat_lt b 128 ≡ true → b < 128
below_small b h = grind (arith, nat_tests)

pub stamp_utf8 : (stamp : List ℕ) → IsUtf8 (encode_lower stamp)
stamp_utf8 stamp = IsUtf8-from_ascii _ (IsAscii-encode_with lower_digits stamp (ascii_by (λ b. nat_lt b 128) below_small lower_digits refl))
