-- Games that are told one by one and counted.
use Rattle.std.proofs.Common.{◌≡◌, ◌≤◌, ◌+◌, ◌++◌, ◌∙◌, ℕ, Bool, true, false, cond, List, [], ◌∷◌, length, refl, sym, ap, length-append, arith}
use Rattle.std.specs.Prelude.{filter}
use Rattle.std.specs.List.{AllZip}
use Rattle.std.proofs.lemmas.List.Elements.{filter-append}
use Rattle.game_status.specs.declared.telling.Mark.{Mark}
use Rattle.game_status.specs.declared.telling.Sums.{Sums}
use Rattle.game_status.specs.declared.telling.GameTold.{GameTold}
use Rattle.game_status.specs.Tellings.{count_marked, is_apart, is_fault, is_ruled_mark, sums_of}
use Rattle.game_status.specs.Inside.Counting.{AddsMark}

pub at_most : (test : Mark → Bool) (told : List GameTold) → count_marked test told ≤ length told
at_most test [] = omega arith
at_most test (t ∷ told) = by_test (test t.mark) refl (at_most test told)
  where
    by_test : (b : Bool) → test t.mark ≡ b → count_marked test told ≤ length told → length (cond (test t.mark) (t ∷ filter (λ x. test x.mark) told) (filter (λ x. test x.mark) told)) ≤ length (t ∷ told)
    by_test true e h = rw e (omega (arith, h))
    by_test false e h = rw e (omega (arith, h))

pub count_more : (test : Mark → Bool) (told : List GameTold) (t : GameTold) → count_marked test (told ++ t ∷ []) ≡ count_marked test told + cond (test t.mark) 1 0
count_more test told t =
    ap length (filter-append (λ x. test x.mark) told (t ∷ [])) ∙ length-append (filter (λ x. test x.mark) told) (filter (λ x. test x.mark) (t ∷ [])) ∙ ap (λ n. count_marked test told + n) (one (test t.mark))
  where
    one : (b : Bool) → length (cond b (t ∷ []) []) ≡ cond b 1 0
    one true = refl
    one false = refl

same_made : (a b c d a' b' c' d' : ℕ) → a ≡ a' → b ≡ b' → c ≡ c' → d ≡ d' → ◌≡◌ {A = Sums} (record { games = a; ruled = b; faults = c; differ = d }) (record { games = a'; ruled = b'; faults = c'; differ = d' })
same_made a b c d a' b' c' d' e f g h = cc

same_sums : (a b : Sums) → a.games ≡ b.games → a.ruled ≡ b.ruled → a.faults ≡ b.faults → a.differ ≡ b.differ → a ≡ b
same_sums a b e f g h = same_made a.games a.ruled a.faults a.differ b.games b.ruled b.faults b.differ e f g h

pub sums_more : (told : List GameTold) (t : GameTold) (s new : Sums) → s ≡ sums_of told → AddsMark s t.mark new → new ≡ sums_of (told ++ t ∷ [])
sums_more told t s new is h = same_sums new (sums_of (told ++ t ∷ []))
    (h.games ∙ ap (λ (x : Sums). x.games + 1) is ∙ sym (length-append told (t ∷ [])))
    (h.ruled ∙ ap (λ (x : Sums). x.ruled + cond (is_ruled_mark t.mark) 1 0) is ∙ sym (count_more is_ruled_mark told t))
    (h.faults ∙ ap (λ (x : Sums). x.faults + cond (is_fault t.mark) 1 0) is ∙ sym (count_more is_fault told t))
    (h.differ ∙ ap (λ (x : Sums). x.differ + cond (is_apart t.mark) 1 0) is ∙ sym (count_more is_apart told t))

pub zip_more : {A B : Type 0} (R : A → B → Type 0) (xs : List A) (ys : List B) (x : A) (y : B) → AllZip R xs ys → R x y → AllZip R (xs ++ x ∷ []) (ys ++ y ∷ [])
zip_more R [] [] x y h k = (k, tt)
zip_more R [] (b ∷ ys) x y h k = absurd h
zip_more R (a ∷ xs) [] x y h k = absurd h
zip_more R (a ∷ xs) (b ∷ ys) x y h k = (h.0, zip_more R xs ys x y h.1 k)
