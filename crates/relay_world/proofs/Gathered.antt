-- Tables that are gathered one after the other.
use Rattle.std.proofs.Common.{◌≡◌, ◌<◌, ◌+◌, ℕ, suc, List, [], ◌∷◌, map, drop, length, get_or, Result, Ok, Err, refl, sym, ap, ◌∙◌, arith}
use Rattle.std.proofs.lemmas.List.{at_drop_more}
use Rattle.judge_core.specs.Tables.{Tables}
use Rattle.table_file.specs.declared.fault.TableFault.{TableFault}
use Rattle.table_file.specs.Tables.{Contents}
use Rattle.move_msg.specs.Files.{File}
use Rattle.relay_world.specs.declared.fault.WorldFault.{WorldFault}
use Rattle.relay_world.specs.Gathering.{and_then, with_table, tables_from, found_in}

abbrev Found : Type 0
Found = Result Contents TableFault

one_more : (tables more : Tables) (place : ℕ) (found : Found) (others : List Found) → with_table tables place found ≡ Ok more → tables_from tables place (found ∷ others) ≡ tables_from more (suc place) others
unfolding tables_from
one_more tables more place found others h = ap (λ r. and_then r (λ t. tables_from t (suc place) others)) h

one_refused : (tables : Tables) (fault : WorldFault) (place : ℕ) (found : Found) (others : List Found) → with_table tables place found ≡ Err fault → tables_from tables place (found ∷ others) ≡ Err fault
unfolding tables_from
one_refused tables fault place found others h = ap (λ r. and_then r (λ t. tables_from t (suc place) others)) h

pub none_left : (tables : Tables) (place : ℕ) → tables_from tables place [] ≡ Ok tables
unfolding tables_from
none_left tables place = refl

by_first : (xs : List File) (i : ℕ) (x : File) → i < length xs → x ≡ get_or xs i x → (tables : Tables) → tables_from tables i (map found_in (drop i xs)) ≡ tables_from tables i (found_in x ∷ map found_in (drop (i + 1) xs))
by_first xs i x within is tables =
    at_drop_more (λ ys. tables_from tables i (map found_in ys)) xs i x within
    ∙ ap (λ y. tables_from tables i (map found_in (y ∷ drop (i + 1) xs))) (sym is)

pub goes_on : (xs : List File) (i : ℕ) (x : File) → i < length xs → x ≡ get_or xs i x → (tables more : Tables) (found : Found) (total : Result Tables WorldFault) → found ≡ found_in x → Ok more ≡ with_table tables i found → tables_from tables i (map found_in (drop i xs)) ≡ total → tables_from more (i + 1) (map found_in (drop (i + 1) xs)) ≡ total
goes_on xs i x within is tables more found total same step all =
    ap (λ n. tables_from more n (map found_in (drop (i + 1) xs))) {x = i + 1} {y = suc i} (omega arith)
    ∙ sym (one_more tables more i (found_in x) (map found_in (drop (i + 1) xs)) (sym (step ∙ ap (with_table tables i) same)))
    ∙ sym (by_first xs i x within is tables) ∙ all

pub is_refused : (xs : List File) (i : ℕ) (x : File) → i < length xs → x ≡ get_or xs i x → (tables : Tables) (fault : WorldFault) (found : Found) (total : Result Tables WorldFault) → found ≡ found_in x → Err fault ≡ with_table tables i found → tables_from tables i (map found_in (drop i xs)) ≡ total → Err fault ≡ total
is_refused xs i x within is tables fault found total same step all =
    sym (one_refused tables fault i (found_in x) (map found_in (drop (i + 1) xs)) (sym (step ∙ ap (with_table tables i) same)))
    ∙ sym (by_first xs i x within is tables) ∙ all
