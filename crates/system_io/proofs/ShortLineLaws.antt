-- What is given of long lines, one byte after another.
use Rattle.std.proofs.Common.{arith, refl, ◌≡◌, ◌∙◌, ◌≤◌, ◌<◌, ◌+◌, ◌-◌, ◌++◌, ◌∷◌, [], ℕ, List, Option, Some, None, ap, sym, drop, get_or, length, take}
use Rattle.std.proofs.lemmas.List.{drop-drop, get_or-drop, take_more}
use Rattle.std.specs.Prelude.{option_map}
use Rattle.std.specs.Io.KnownBytes.{Consumes, IsAtEnd, Keeps}
use Rattle.system_io.specs.ShortLines.{given_for, in_front, short_lines, unended_after, unended_after_all}

-- what is given for something is put in front of the rest
pub front_then : (given : Option ℕ) (xs ys : List ℕ) → in_front given (xs ++ ys) ≡ in_front given xs ++ ys
front_then None xs ys = refl
front_then (Some byte) xs ys = refl

-- bytes are given one after another
pub given_then : (came : ℕ) (xs ys : List ℕ) → short_lines came (xs ++ ys) ≡ short_lines came xs ++ short_lines (unended_after_all came xs) ys
unfolding short_lines unended_after_all
given_then came [] ys = refl
given_then came (x ∷ xs) ys = ap (in_front (given_for came x)) (given_then (unended_after came x) xs ys) ∙ front_then (given_for came x) (short_lines (unended_after came x) xs) (short_lines (unended_after_all (unended_after came x) xs) ys)

pub opened_then : (came : ℕ) (xs ys : List ℕ) → unended_after_all came (xs ++ ys) ≡ unended_after_all (unended_after_all came xs) ys
unfolding unended_after_all
opened_then came [] ys = refl
opened_then came (x ∷ xs) ys = opened_then (unended_after came x) xs ys

-- what is alike from a place on is alike from a later one on
pub drop_later : (m n : ℕ) (xs ys : List ℕ) → m ≤ n → drop m xs ≡ drop m ys → drop n xs ≡ drop n ys
drop_later m n xs ys le same =
    let k : n ≡ m + (n - m) = omega arith in
    ap (λ i. drop i xs) k ∙ sym (drop-drop (n - m) m xs) ∙ ap (drop (n - m)) same ∙ drop-drop (n - m) m ys ∙ ap (λ i. drop i ys) (sym k)

-- the byte at a place is the first one from there on
pub read_at : (place : ℕ) (xs : List ℕ) → get_or xs place 0 ≡ get_or (drop place xs) 0 0
read_at place xs =
    let here : place + 0 ≡ place = omega arith in
    sym (get_or-drop place xs 0 0 ∙ ap (λ k. get_or xs k 0) here)

-- one more byte of a buffer whose front is given already, and which is as it was from its place on
pub given_more : (came place : ℕ) (old now front : List ℕ) → place < length old → drop place now ≡ drop place old → front ≡ short_lines came (take place old) → front ++ in_front (given_for (unended_after_all came (take place old)) (get_or now place 0)) [] ≡ short_lines came (take (place + 1) old)
unfolding short_lines
given_more came place old now front some same is =
    let byte : get_or now place 0 ≡ get_or old place 0 = read_at place now ∙ ap (λ (l : List ℕ). get_or l 0 0) same ∙ sym (read_at place old) in
    ap (λ (l : List ℕ). l ++ in_front (given_for (unended_after_all came (take place old)) (get_or now place 0)) []) is
    ∙ ap (λ (b : ℕ). short_lines came (take place old) ++ in_front (given_for (unended_after_all came (take place old)) b) []) byte
    ∙ sym (ap (short_lines came) (take_more old place 0 some) ∙ given_then came (take place old) (get_or old place 0 ∷ []))

pub opened_more : (came place : ℕ) (old now : List ℕ) → place < length old → drop place now ≡ drop place old → unended_after (unended_after_all came (take place old)) (get_or now place 0) ≡ unended_after_all came (take (place + 1) old)
unfolding unended_after_all
opened_more came place old now some same =
    let byte : get_or now place 0 ≡ get_or old place 0 = read_at place now ∙ ap (λ (l : List ℕ). get_or l 0 0) same ∙ sym (read_at place old) in
    ap (unended_after (unended_after_all came (take place old))) byte ∙ sym (ap (unended_after_all came) (take_more old place 0 some) ∙ opened_then came (take place old) (get_or old place 0 ∷ []))

-- what is consumed is given so
pub consumed : (came : ℕ) (old new : Option (List ℕ)) (bytes : List ℕ) → Consumes old new bytes → Consumes (option_map (short_lines came) old) (option_map (short_lines (unended_after_all came bytes)) new) (short_lines came bytes)
consumed came None new bytes h = tt
consumed came (Some xs) None bytes h = absurd h
consumed came (Some xs) (Some ys) bytes h = ap (short_lines came) h ∙ given_then came bytes ys

pub kept : (came : ℕ) (old new : Option (List ℕ)) → Keeps old new → Keeps (option_map (short_lines came) old) (option_map (short_lines came) new)
kept came None new h = tt
kept came (Some xs) None h = absurd h
kept came (Some xs) (Some ys) h = ap (short_lines came) h

pub none_consumed : (old new : Option (List ℕ)) → Consumes old new [] → Keeps old new
none_consumed None new h = tt
none_consumed (Some xs) None h = absurd h
none_consumed (Some xs) (Some ys) h = sym h

pub at_end : (came : ℕ) (left : Option (List ℕ)) → IsAtEnd left → IsAtEnd (option_map (short_lines came) left)
unfolding short_lines
at_end came None h = tt
at_end came (Some xs) h = ap (short_lines came) h
