-- One line that was read.
use Rattle.std.proofs.Common.{◌≡◌, ◌≢◌, ℕ, ◌+◌, ◌-◌, ◌<◌, Bool, true, false, All, List, [], ◌∷◌, ◌++◌, length, take, get_or, cond, Option, Some, None, IfSome, refl, sym, ap, ◌∙◌, arith, inl, inr, take_all, length-append, ap₂, lt-ltb, eq-eqb}
use Rattle.std.specs.Prelude.{◌&&◌}
use Rattle.std.proofs.lemmas.List.{get_or_default, take_more}
use Rattle.std.proofs.BufReadLemmas.{take_through-append, take_through-nil}
use Rattle.std.proofs.Transfers.{All-of_StopsAt}
use Rattle.std.specs.Io.{StopsAt}
use Rattle.std.specs.Io.KnownBytes.{Consumes, IsAtEnd}
use Rattle.std.specs.Io.BufRead.{ends_with_byte, strip_last, take_through}
use Rattle.system_io.specs.LineReaders.{ReadsLine}

no_more : (part ys : List ℕ) → All (λ b. b ≢ 10) part → part ≡ take_through 10 (part ++ ys) → ys ≡ []
no_more part ys none e =
    let joined : part ≡ part ++ take_through 10 ys = e ∙ take_through-append 10 part ys none in
    take_through-nil 10 ys (omega (arith, ap length joined, length-append part (take_through 10 ys)))

at_end : (a c : Option (List ℕ)) (part : List ℕ) → Consumes a c part → All (λ b. b ≢ 10) part → IfSome a (λ xs. part ≡ take_through 10 xs) → IfSome a (λ bytes. IsAtEnd c)
at_end None c part taken none e = tt
at_end (Some xs) None part taken none e = absurd taken
at_end (Some xs) (Some ys) part taken none e = no_more part ys none (e ∙ ap (take_through 10) taken)

pub line_read : (a c : Option (List ℕ)) (part : List ℕ) → Consumes a c part → StopsAt part 10 → 0 < length part → IfSome a (λ xs. part ≡ take_through 10 xs) → ReadsLine a c (strip_last 10 part)
line_read a c part taken stops some e = at (ends_with_byte 10 part) refl
  where
    at : (b : Bool) → ends_with_byte 10 part ≡ b → ReadsLine a c (cond b (take (length part - 1) part) part)
    at true is =
        let last : get_or part (length part - 1) 0 ≡ 10 = grind arith in
        let whole : part ≡ take (length part - 1) part ++ 10 ∷ [] =
        sym (take_all (length part - 1 + 1) part (omega arith)) ∙ take_more part (length part - 1) 0 (omega arith) ∙ ap (λ y. take (length part - 1) part ++ y ∷ []) last in
        record { piece = part; taken = taken; one = stops; is = inl whole }
    at false is =
        let other : get_or part (length part - 1) 0 ≢ 10 = λ last.
        let both : ends_with_byte 10 part ≡ true = ap₂ (λ a b. a && b) (lt-ltb 0 (length part) some) (eq-eqb (get_or part (length part - 1) 0) 10 last) in
        absurd cc in
        let within : length part - 1 < length part = omega arith in
        let none : All (λ b. b ≢ 10) part = All-of_StopsAt part 10 (length part) (get_or part (length part - 1) 0) refl (omega arith) (get_or_default part (length part - 1) 0 (get_or part (length part - 1) 0) within) other stops in
        record { piece = part; taken = taken; one = none; is = inr (refl, some, at_end a c part taken none e) }

-- what is read of a known input is read too where no more is told of it
pub if_known : (hidden : Bool) (old new line : List ℕ) → ReadsLine (Some old) (Some new) line → ReadsLine (cond hidden None (Some old)) (cond hidden None (Some new)) line
if_known false old new line h = h
if_known true old new line h = record { piece = h.piece; taken = tt; one = h.one; is = elim h.is [ inl p ↦ inl p | inr p ↦ inr (p.0, p.1, tt) ] }
