-- Every set can be completed: a missing WDL table by one in which every position is a draw.
use Rattle.std.proofs.Common.{◌≡◌, ◌∙◌, sym, ap, refl, ℕ, zero, suc, ◌+◌, ◌*◌, ◌-◌, ◌%◌, ◌<◌, ◌≤◌, nat_lt, Bool, true, false, cond, List, [], ◌∷◌, get_or, replicate, Option, Some, None, Ok, arith}
use Rattle.std.proofs.lemmas.Bool.{ltb-true, ltb-false}
use Rattle.std.proofs.lemmas.List.{get_or-replicate}
use Rattle.std.proofs.lemmas.Option.{slice_get-get_or}
use Rattle.std.specs.Prelude.{option_and_then}
use Rattle.board_core.specs.declared.parts.Parts.{Parts}
use Rattle.board_core.specs.declared.piece.Side.{Side}
use Rattle.board_core.specs.declared.piece.Side.TheVariants.{White, Black}
use Rattle.place_index.specs.Shape.{has_pawns, layout}
use Rattle.place_index.specs.Men.{exchanged}
use Rattle.board_core.specs.Side.{other}
use Rattle.place_index.specs.Square.{file, left_file}
use Rattle.place_index.specs.Turning.{lead_file, lead_pawn}
use Rattle.place_index.specs.Placed.{Placement, men_on, side_number}
use Rattle.place_index.specs.declared.man.Man.{Man}
use Rattle.table_file.specs.declared.kind.TableKind.TheVariants.{Wdl}
use Rattle.table_file.specs.declared.parts.Part.{Part}
use Rattle.table_file.specs.declared.size_record.Coding.TheVariants.{Single}
use Rattle.table_file.specs.Files.{side_count, is_symmetric}
use Rattle.place_index.specs.Index.{index_of}
use Rattle.table_file.specs.Expansion.{expansion, expanded_part, entry_at}
use Rattle.table_file.specs.Tables.{Contents, part_for, part_of, part_place, shape_in, lengths_of, blocks_of}
use Rattle.judge_core.specs.declared.wdl.Wdl.{Wdl as Value}
use Rattle.judge_core.specs.declared.wdl.Wdl.TheVariants.{Draw}
use Rattle.judge_core.specs.LookUp.{material_of, placed_of, is_exchanged, placement}
use Rattle.judge_core.specs.Values.{of_points}
use Rattle.judge_core.specs.Tables.{Tables, table_at, table_value, value_of, value_in, value_or_damaged, entry_in, placed_entry}
use Rattle.judge_core.specs.Determined.{Completes}
use Rattle.judge_core.specs.DeterminedLaws.{CompletionsExist, DeterminedValueIsOne, DeterminedDistanceIsOne}
use Rattle.judge_core.proofs.TwoSteps.{known_key}

-- ---- a table in which every position is a draw

blank : Part
blank = record { shape = layout 0 [] 0 0 0; size_record = record { flags = 0; coding = Single 2 } }

filler : ℕ → Contents
filler key = record { kind = Wdl; material = key; parts = replicate 8 blank; maps = []; entries = []; lengths = []; blocks = [] }

left_few : (s : ℕ) → left_file s ≤ 3
left_few s = step (nat_lt (file s) 4) refl
  where
    step : (b : Bool) → nat_lt (file s) 4 ≡ b → cond b (file s) (7 - file s) ≤ 3
    step true e = (let below = ltb-true (file s) 4 e in omega (arith, below))
    step false e = (let above = ltb-false (file s) 4 e in omega (arith, above))

lead_few : (key : ℕ) (men : List Man) → lead_file key men ≤ 3
unfolding lead_file
lead_few key men = step (has_pawns key)
  where
    step : (b : Bool) → cond b (left_file (lead_pawn key men)) 0 ≤ 3
    step true = left_few (lead_pawn key men)
    step false = omega arith

placed_few : (key : ℕ) (p : Parts) → (placed_of key p).file ≤ 3
unfolding placed_of
placed_few key p = step (is_exchanged key p)
  where
    step : (b : Bool) → (cond b (placement key (exchanged (men_on p.men)) (other p.side)) (placement key (men_on p.men) p.side)).file ≤ 3
    step true = lead_few key _
    step false = lead_few key _

few_places : (key : ℕ) (side : Side) (f : ℕ) → f ≤ 3 → part_place (part_for (filler key) side f) < 8
unfolding side_count is_symmetric filler
few_places key side f few = step (has_pawns key) (is_symmetric key) side
  where
    step : (pawns same : Bool) (side : Side) → cond pawns f 0 * cond same 1 2 + side_number side % cond same 1 2 < 8
    step true true White = omega (arith, few)
    step true true Black = omega (arith, few)
    step true false White = omega (arith, few)
    step true false Black = omega (arith, few)
    step false true White = omega arith
    step false true Black = omega arith
    step false false White = omega arith
    step false false Black = omega arith

part_there : (key : ℕ) (side : Side) (f : ℕ) → f ≤ 3 → part_of (part_for (filler key) side f) ≡ Some blank
unfolding filler
part_there key side f few =
    let below = few_places key side f few in
    slice_get-get_or (replicate 8 blank) (part_place (part_for (filler key) side f)) blank below
    ∙ ap (λ (x : Part). Some x) (get_or-replicate 8 (part_place (part_for (filler key) side f)) blank blank below)

entry_two : (key : ℕ) (placed : Placement) → placed.file ≤ 3 → entry_in (filler key) placed ≡ Some 2
unfolding entry_in expansion blank
entry_two key placed few =
    let part = part_for (filler key) placed.side placed.file in
    let there = part_there key placed.side placed.file few in
    ap (λ (o : Option Part). placed_entry (shape_in o) part placed) there
    ∙ ap (λ (o : Option Part). entry_at (expanded_part o (lengths_of part) (blocks_of part)) (index_of blank.shape placed.men)) there

drawn : (key : ℕ) (p : Parts) → value_in (Some (filler key)) key p ≡ Ok Draw
drawn key p = ap (λ (o : Option ℕ). value_or_damaged key (option_and_then of_points o)) (entry_two key (placed_of key p) (placed_few key p))

-- ---- a set with no WDL table missing

-- the table, or else that one
or_filler : ℕ → Option Contents → Contents
or_filler key (Some t) = t
or_filler key None = filler key

-- so many slots from this key on, and then the others
fill : ℕ → ℕ → Tables → Tables
fill zero key tables = tables
fill (suc n) key [] = Some (filler key) ∷ fill n (suc key) []
fill (suc n) key (o ∷ tables) = Some (or_filler key o) ∷ fill n (suc key) tables

filled : (n key : ℕ) (tables : Tables) (k : ℕ) → k < n → get_or (fill n key tables) k None ≡ Some (or_filler (key + k) (get_or tables k None))
unfolding fill or_filler filler
filled zero key tables k lt = absurd (omega (arith, lt))
filled (suc n) key [] zero lt = (let e : key ≡ key + 0 = omega arith in ap (λ (x : ℕ). Some (or_filler x None)) e)
filled (suc n) key (o ∷ tables) zero lt = (let e : key ≡ key + 0 = omega arith in ap (λ (x : ℕ). Some (or_filler x o)) e)
filled (suc n) key [] (suc k) lt =
    let e : suc key + k ≡ key + suc k = omega arith in
    filled n (suc key) [] k (omega (arith, lt)) ∙ ap (λ (x : ℕ). Some (or_filler x None)) e
filled (suc n) key (o ∷ tables) (suc k) lt =
    let e : suc key + k ≡ key + suc k = omega arith in
    filled n (suc key) tables k (omega (arith, lt)) ∙ ap (λ (x : ℕ). Some (or_filler x (get_or tables k None))) e

kept : (n key : ℕ) (tables : Tables) (i : ℕ) → n ≤ i → get_or (fill n key tables) i None ≡ get_or tables i None
unfolding fill
kept zero key tables i le = refl
kept (suc n) key tables zero le = absurd (omega (arith, le))
kept (suc n) key [] (suc i) le = kept n (suc key) [] i (omega (arith, le))
kept (suc n) key (o ∷ tables) (suc i) le = kept n (suc key) tables i (omega (arith, le))

whole : Tables → Tables
whole tables = fill 145 0 tables

same_there : (key : ℕ) (t : Contents) (p : Parts) → Completes (value_in (Some t) key p) (value_in (Some t) key p)
same_there key t p = step (option_and_then of_points (entry_in t (placed_of key p)))
  where
    step : (o : Option Value) → Completes (value_or_damaged key o) (value_or_damaged key o)
    step None = refl
    step (Some v) = refl

completes_at : (key : ℕ) (o : Option Contents) (p : Parts) → Completes (value_in o key p) (value_in (Some (or_filler key o)) key p)
unfolding or_filler
completes_at key None p = rw (drawn key p) refl
completes_at key (Some t) p = same_there key t p

completes_for : (tables : Tables) (p : Parts) (o : Option ℕ) → material_of p ≡ o → Completes (value_of tables o p) (value_of (whole tables) o p)
unfolding whole
completes_for tables p None e = refl
completes_for tables p (Some key) e =
    let same : 0 + key ≡ key = omega arith in
    let there : get_or (fill 145 0 tables) key None ≡ Some (or_filler key (get_or tables key None)) = filled 145 0 tables key (known_key p key e) ∙ ap (λ (x : ℕ). Some (or_filler x (get_or tables key None))) same in
    rw there (completes_at key (table_at tables Wdl key) p)

pub completions_exist : CompletionsExist
unfolding table_value whole
completions_exist tables = (
  whole tables,
  record {
    values = λ p. completes_for tables p (material_of p) refl;
    distances = λ key t e. kept 145 0 tables (145 + key) (omega arith) ∙ e;
  },
)

-- ---- only one is determined

pub one_value : DeterminedValueIsOne
one_value tables p u v a b =
    let more = completions_exist tables in
    let same : Ok u ≡ Ok v = sym (a (table_value more.0) more.1.values) ∙ b (table_value more.0) more.1.values in
    cc

pub one_distance : DeterminedDistanceIsOne
one_distance tables p c d a b =
    let more = completions_exist tables in
    let same : Ok c ≡ Ok d = sym (a more.0 more.1) ∙ b more.0 more.1 in
    cc
