-- Tables that are gathered one after the other.
use Rattle.std.proofs.Common.{◌≡◌, ◌<◌, ◌+◌, ℕ, ◌&&◌, List, [], ◌∷◌, ◌++◌, map, drop, take, length, get_or, Result, Ok, Err, refl, sym, ap, ◌∙◌}
use Rattle.std.specs.List.{list_all}
use Rattle.std.specs.Result.{is_ok}
use Rattle.std.proofs.lemmas.List.{at_drop_more, map-append, take_more}
use Rattle.std.proofs.lemmas.List.Folds.{list_all-map, list_all_more}
use Rattle.judge_core.specs.Tables.{Tables}
use Rattle.table_folder.specs.Folders.{Found}
use Rattle.answer_parts.specs.Looks.{Look, ◌>>=◌, are_tables, tables_from_looks, with_found}

-- one look more
one_more : (tables more : Tables) (look : Look) (looks : List Look) → with_found tables look.name look.found ≡ Ok more → tables_from_looks tables (look ∷ looks) ≡ tables_from_looks more looks
unfolding tables_from_looks
one_more tables more look looks h = ap (λ r. r >>= (λ t. tables_from_looks t looks)) h

one_refused : (tables : Tables) (line : List ℕ) (look : Look) (looks : List Look) → with_found tables look.name look.found ≡ Err line → tables_from_looks tables (look ∷ looks) ≡ Err line
unfolding tables_from_looks
one_refused tables line look looks h = ap (λ r. r >>= (λ t. tables_from_looks t looks)) h

pub none_left : (tables : Tables) → tables_from_looks tables [] ≡ Ok tables
unfolding tables_from_looks
none_left tables = refl

-- the looks at a list, each by what is seen of it
abbrev pub looks_of : {X Y : Type 0} → (X → Y) → (Y → Look) → List X → List Look
looks_of view look xs = map look (map view xs)

-- what comes of the rest, by its first
by_first : {X Y : Type 0} (view : X → Y) (look : Y → Look) (xs : List X) (i : ℕ) (x : X) → i < length xs → x ≡ get_or xs i x → (tables : Tables) → tables_from_looks tables (looks_of view look (drop i xs)) ≡ tables_from_looks tables (look (view x) ∷ looks_of view look (drop (i + 1) xs))
by_first view look xs i x within is tables =
    at_drop_more (λ ys. tables_from_looks tables (looks_of view look ys)) xs i x within
    ∙ ap (λ y. tables_from_looks tables (looks_of view look (y ∷ drop (i + 1) xs))) (sym is)

pub goes_on : {X Y : Type 0} (view : X → Y) (look : Y → Look) (xs : List X) (i : ℕ) (x : X) → i < length xs → x ≡ get_or xs i x → (tables more : Tables) (found : Found) (total : Result Tables (List ℕ)) → found ≡ (look (view x)).found → Ok more ≡ with_found tables (look (view x)).name found → tables_from_looks tables (looks_of view look (drop i xs)) ≡ total → tables_from_looks more (looks_of view look (drop (i + 1) xs)) ≡ total
goes_on view look xs i x within is tables more found total same step all =
    sym (one_more tables more (look (view x)) (looks_of view look (drop (i + 1) xs)) (sym (step ∙ ap (with_found tables (look (view x)).name) same)))
    ∙ sym (by_first view look xs i x within is tables) ∙ all

pub is_refused : {X Y : Type 0} (view : X → Y) (look : Y → Look) (xs : List X) (i : ℕ) (x : X) → i < length xs → x ≡ get_or xs i x → (tables : Tables) (line : List ℕ) (found : Found) (total : Result Tables (List ℕ)) → found ≡ (look (view x)).found → Err line ≡ with_found tables (look (view x)).name found → tables_from_looks tables (looks_of view look (drop i xs)) ≡ total → Err line ≡ total
is_refused view look xs i x within is tables line found total same step all =
    sym (one_refused tables line (look (view x)) (looks_of view look (drop (i + 1) xs)) (sym (step ∙ ap (with_found tables (look (view x)).name) same)))
    ∙ sym (by_first view look xs i x within is tables) ∙ all

-- ---- what was found so far

-- the looks with one more
pub looks_more : {X Y : Type 0} (view : X → Y) (look : Y → Look) (xs : List X) (i : ℕ) (x : X) → i < length xs → x ≡ get_or xs i x → looks_of view look (take (i + 1) xs) ≡ looks_of view look (take i xs) ++ look (view x) ∷ []
looks_more view look xs i x within is =
    ap (looks_of view look) (take_more xs i x within ∙ ap (λ y. take i xs ++ y ∷ []) (sym is))
    ∙ ap (map look) (map-append view (take i xs) (x ∷ []))
    ∙ map-append look (map view (take i xs)) (view x ∷ [])

all_of : {X Y : Type 0} (view : X → Y) (look : Y → Look) (xs : List X) → are_tables (looks_of view look xs) ≡ list_all (λ x. is_ok (look (view x)).found) xs
all_of view look xs = list_all-map (λ l. is_ok l.found) look (map view xs) ∙ list_all-map (λ y. is_ok (look y).found) view xs

-- and whether all of them are tables
pub all_more : {X Y : Type 0} (view : X → Y) (look : Y → Look) (xs : List X) (i : ℕ) (x : X) → i < length xs → x ≡ get_or xs i x → are_tables (looks_of view look (take (i + 1) xs)) ≡ (are_tables (looks_of view look (take i xs)) && is_ok (look (view x)).found)
all_more view look xs i x within is =
    all_of view look (take (i + 1) xs)
    ∙ list_all_more (λ y. is_ok (look (view y)).found) xs i x within
    ∙ ap (λ y. list_all (λ z. is_ok (look (view z)).found) (take i xs) && is_ok (look (view y)).found) (sym is)
    ∙ ap (λ b. b && is_ok (look (view x)).found) (sym (all_of view look (take i xs)))
