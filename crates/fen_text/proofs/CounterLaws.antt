-- What `decimal` writes is text that `parse` reads.
use Rattle.std.proofs.Common.{◌≡◌, ◌<◌, ◌^◌, ℕ, List, Result, Ok, sym, subst, arith}
use Rattle.std.specs.Str.{IsUtf8}
use Rattle.std.specs.Str.Parse.{ParsesUnsigned}
use Rattle.std.proofs.lemmas.Str.{IsUtf8-from_ascii}
use Rattle.std.proofs.lemmas.Fmt.{IsAscii-decimal, parse-decimal}
use Rattle.fen_text.specs.Numbers.{SpellsNumber}

pub number_utf8 : (most : ℕ) (t : List ℕ) (n : ℕ) → most < 2 ^ 32 → SpellsNumber most t n → IsUtf8 t
number_utf8 most t n lt h = subst IsUtf8 (sym h.text) (IsUtf8-from_ascii _ (IsAscii-decimal n (omega (arith, lt, h.small))))

pub number_parsed : {E : Type 0} (most : ℕ) (t word : List ℕ) (n : ℕ) (r : Result ℕ E) → most < 2 ^ 32 → SpellsNumber most t n → word ≡ t → ParsesUnsigned 32 10 word r → r ≡ Ok n
number_parsed most t word n r lt h e parsed = parse-decimal 32 n word r (omega (arith, lt, h.small)) (omega (arith, lt, h.small)) (rw e h.text) parsed
