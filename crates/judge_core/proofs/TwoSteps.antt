-- The distance of a position meets its rules: after a quiet move the table has the other side.
use Rattle.std.proofs.Common.{◌≡◌, ◌∙◌, sym, ap, refl, ℕ, zero, suc, ◌+◌, ◌%◌, ◌<◌, nat_le, nat_lt, Bool, true, false, eqb, ◌||◌, List, [], ◌∷◌, Option, Some, None, option_map, filter, Result, Ok, Err, arith, if◌then◌else◌}
use Rattle.std.proofs.lemmas.Bool.{eqb-false, eq-eqb, false≢true}
use Rattle.std.proofs.Math.Bool.{or-false}
use Rattle.board_core.specs.declared.parts.Parts.{Parts}
use Rattle.board_core.specs.declared.moves.Move.{Move}
use Rattle.board_core.specs.Position.{IsPosition}
use Rattle.board_core.specs.ComputedMoves.{position_after, legal_moves, count_of_men}
use Rattle.std.specs.Prelude.{find}
use Rattle.std.specs.List.{range_with_len}
use Rattle.board_core.specs.declared.piece.Side.{Side}
use Rattle.board_core.specs.declared.piece.Side.TheVariants.{White, Black}
use Rattle.board_core.specs.Side.{other}
use Rattle.place_index.specs.Placed.{men_on, side_number}
use Rattle.table_file.specs.declared.kind.TableKind.TheVariants.{Dtz}
use Rattle.table_file.specs.declared.outcome.Outcome.{Outcome}
use Rattle.table_file.specs.Files.{is_symmetric}
use Rattle.table_file.specs.Tables.{Contents, part_for}
use Rattle.table_file.specs.Distances.{stores, file_flags}
use Rattle.judge_core.specs.declared.wdl.Wdl.{Wdl}
use Rattle.judge_core.specs.declared.found.CaptureSearch.{CaptureSearch}
use Rattle.judge_core.specs.declared.fault.ValueFault.{ValueFault}
use Rattle.judge_core.specs.declared.distance.Distance.TheVariants.{Draw}
use Rattle.judge_core.specs.LookUp.{is_material, material_of, placed_of}
use Rattle.judge_core.specs.Tables.{Tables, AreFiled, table_at, part_asked}
use Rattle.judge_core.specs.Asked.{asked, fault_in, unless}
use Rattle.judge_core.specs.Probing.{searched_by, wdl_of, worth}
use Rattle.board_core.specs.Castling.{has_any_right}
use Rattle.judge_core.specs.Ruling.{is_out_of_scope}
use Rattle.judge_core.specs.Distances.{Reach, zeroing, towards, is_by_capture, is_quiet, move_counts, by_counts, by_quiet_moves, by_table, by_material, by_own_table, by_moves, by_outcome, dtz_from_search, dtz_by, dtz_to, dtz_of}
use Rattle.judge_core.proofs.SameTable.{quiet_after, material_kept, other_side_asked}

-- ---- what doesn't ask the positions after quiet moves is the same whatever they are

-- the table that is asked stores the side to move
abbrev IsStored : Tables → Parts → Type 0
IsStored tables p = (key : ℕ) (t : Contents) → material_of p ≡ Some key → table_at tables Dtz key ≡ Some t → stores (part_asked t (placed_of key p)) ≡ true

-- two ways to tell a distance agree after each quiet move
abbrev Agree : (Parts → Reach) → (Parts → Reach) → Parts → Type 0
Agree f g p = (m : Move) (q : Parts) → is_quiet p m ≡ true → position_after p m ≡ Some q → f q ≡ g q

same_count : (outcome : Outcome) (f g : Parts → Reach) (q : Parts) → f q ≡ g q → move_counts outcome f q ≡ move_counts outcome g q
unfolding move_counts
same_count outcome f g q e = rw e refl

same_answer : (outcome : Outcome) (f g : Parts → Reach) (o : Option Parts) → ((q : Parts) → o ≡ Some q → f q ≡ g q) → option_map (move_counts outcome f) o ≡ option_map (move_counts outcome g) o
same_answer outcome f g None h = refl
same_answer outcome f g (Some q) h = ap (λ (r : Result (Option ℕ) ValueFault). Some r) (same_count outcome f g q (h q refl))

same_counts : (outcome : Outcome) (f g : Parts → Reach) (p : Parts) → Agree f g p → (ms : List Move) → asked (move_counts outcome f) p (filter (is_quiet p) ms) ≡ asked (move_counts outcome g) p (filter (is_quiet p) ms)
same_counts outcome f g p agree [] = refl
same_counts outcome f g p agree (m ∷ ms) = step (same_counts outcome f g p agree ms) (is_quiet p m) refl
  where
    step : asked (move_counts outcome f) p (filter (is_quiet p) ms) ≡ asked (move_counts outcome g) p (filter (is_quiet p) ms) → (b : Bool) → is_quiet p m ≡ b → asked (move_counts outcome f) p (filter (is_quiet p) (m ∷ ms)) ≡ asked (move_counts outcome g) p (filter (is_quiet p) (m ∷ ms))
    step rest true e = rw (e, same_answer outcome f g (position_after p m) (λ q. agree m q e), rest) refl
    step rest false e = rw e rest

same_quiet : (key : ℕ) (outcome : Outcome) (f g : Parts → Reach) (p : Parts) → Agree f g p → by_quiet_moves key outcome f p ≡ by_quiet_moves key outcome g p
unfolding by_quiet_moves
same_quiet key outcome f g p agree = ap (λ counts. unless (fault_in counts) (by_counts key outcome counts)) (same_counts outcome f g p agree (legal_moves p))

-- stored, or the two agree
abbrev IsEither : Tables → (Parts → Reach) → (Parts → Reach) → Parts → Type 0
IsEither tables f g p = (key : ℕ) (t : Contents) → material_of p ≡ Some key → table_at tables Dtz key ≡ Some t → stores (part_asked t (placed_of key p)) ≡ false → Agree f g p

same_table : (tables : Tables) (f g : Parts → Reach) (p : Parts) (outcome : Outcome) (key : ℕ) (o : Option Contents) → ((t : Contents) → o ≡ Some t → stores (part_asked t (placed_of key p)) ≡ false → Agree f g p) → by_table o key f p outcome ≡ by_table o key g p outcome
same_table tables f g p outcome key None h = refl
same_table tables f g p outcome key (Some t) h = by_side (stores (part_asked t (placed_of key p))) refl
  where
    by_side : (b : Bool) → stores (part_asked t (placed_of key p)) ≡ b → by_table (Some t) key f p outcome ≡ by_table (Some t) key g p outcome
    by_side true e = rw e refl
    by_side false e = rw e (same_quiet key outcome f g p (h t refl e))

same_own : (tables : Tables) (f g : Parts → Reach) (p : Parts) → IsEither tables f g p → (outcome : Outcome) → by_own_table tables f p outcome ≡ by_own_table tables g p outcome
unfolding by_own_table
same_own tables f g p h outcome = by_key (material_of p) refl
  where
    by_key : (o : Option ℕ) → material_of p ≡ o → by_material tables o f p outcome ≡ by_material tables o g p outcome
    by_key None e = refl
    by_key (Some key) e = same_table tables f g p outcome key (table_at tables Dtz key) (λ t. h key t e)

same_moves : (tables : Tables) (f g : Parts → Reach) (p : Parts) (v : Wdl) (outcome : Outcome) → by_own_table tables f p outcome ≡ by_own_table tables g p outcome → by_moves tables f p v outcome ≡ by_moves tables g p v outcome
unfolding by_moves
same_moves tables f g p v outcome e = rw e refl

same_outcome : (tables : Tables) (f g : Parts → Reach) (p : Parts) (w : CaptureSearch) → ((outcome : Outcome) → by_own_table tables f p outcome ≡ by_own_table tables g p outcome) → (o : Option Outcome) → by_outcome tables f p w o ≡ by_outcome tables g p w o
same_outcome tables f g p w h None = refl
same_outcome tables f g p w h (Some outcome) = ap (λ (r : Reach). if is_by_capture w then Ok (towards outcome (zeroing outcome)) else r) (same_moves tables f g p (worth w) outcome (h outcome))

same_searched : (tables : Tables) (f g : Parts → Reach) (p : Parts) → ((outcome : Outcome) → by_own_table tables f p outcome ≡ by_own_table tables g p outcome) → (w : Result CaptureSearch ValueFault) → dtz_from_search tables f p w ≡ dtz_from_search tables g p w
same_searched tables f g p h (Err fault) = refl
same_searched tables f g p h (Ok w) = same_outcome tables f g p w h _

same_rules : (tables : Tables) (f g : Parts → Reach) (p : Parts) → IsEither tables f g p → dtz_by tables f p ≡ dtz_by tables g p
same_rules tables f g p h = ap (λ (r : Reach). if nat_le (count_of_men p) 2 then Ok Draw else r) (same_searched tables f g p (same_own tables f g p h) (searched_by tables (wdl_of tables) p))

-- ---- one of the sides is stored

other_number : (n : ℕ) (side : Side) → eqb (n % 2) (side_number side) ≡ false → n % 2 ≡ side_number (other side)
other_number n White e = let apart = eqb-false (n % 2) 0 e in omega (arith, apart)
other_number n Black e = let apart = eqb-false (n % 2) 1 e in omega (arith, apart)

other_stored : (t : Contents) (side : Side) (file : ℕ) → stores (part_for t side file) ≡ false → (stores (part_for t (other side) file) ≡ true) × (is_symmetric t.material ≡ false)
unfolding stores
other_stored t side file e = by_flag (is_symmetric t.material) e
  where
    flags : ℕ
    flags = file_flags (part_for t side file)

    or_true : (a : Bool) → (a || true) ≡ false → ⊥
    or_true true h = false≢true (sym h)
    or_true false h = false≢true (sym h)

    by_flag : (b : Bool) → (eqb (flags % 2) (side_number side) || b) ≡ false → ((eqb (flags % 2) (side_number (other side)) || b) ≡ true) × (b ≡ false)
    by_flag true h = absurd (or_true (eqb (flags % 2) (side_number side)) h)
    by_flag false h = (
      or-false (eqb (flags % 2) (side_number (other side))) ∙ eq-eqb (flags % 2) (side_number (other side)) (other_number flags side (sym (or-false (eqb (flags % 2) (side_number side))) ∙ h)),
      refl,
    )

found_below : (f : ℕ → Bool) (from n k : ℕ) → find f (range_with_len from n) ≡ Some k → k < from + n
found_below f from zero k e = absurd (cc)
found_below f from (suc n) k e = by_first (λ h. found_below f (from + 1) n k h) (f from) refl
  where
    by_first : (find f (range_with_len (from + 1) n) ≡ Some k → k < from + 1 + n) → (b : Bool) → f from ≡ b → k < from + suc n
    by_first rest true h = let here : Some from ≡ Some k = rw h at e in let same : from ≡ k = cc in omega arith
    by_first rest false h = let later = rest (rw h at e) in omega arith

pub known_key : (p : Parts) (key : ℕ) → material_of p ≡ Some key → key < 145
unfolding material_of
known_key p key e = found_below (is_material (men_on p.men)) 0 145 key e

-- ---- the law

module _ (tables : Tables) (filed : AreFiled tables) (p : Parts) (position : IsPosition p) (rights : has_any_right p.rights ≡ false) where
  module _ (key : ℕ) (t : Contents) (m : material_of p ≡ Some key) (at : table_at tables Dtz key ≡ Some t) (unstored : stores (part_asked t (placed_of key p)) ≡ false) (move : Move) (q : Parts) (quiet : is_quiet p move ≡ true) (e : position_after p move ≡ Some q) where
    unsymmetric : is_symmetric key ≡ false
    unsymmetric = ap is_symmetric (sym (filed Dtz key t (known_key p key m) at).1) ∙ (other_stored t (placed_of key p).side (placed_of key p).file unstored).1

    stored_there : stores (part_asked t (placed_of key q)) ≡ true
    stored_there =
        let asked = other_side_asked p q move position (quiet_after p q move rights quiet e) key unsymmetric in
        ap (λ (s : Side). stores (part_for t s (placed_of key q).file)) asked.1 ∙ ap (λ (f : ℕ). stores (part_for t (other (placed_of key p).side) f)) asked.0 ∙ (other_stored t (placed_of key p).side (placed_of key p).file unstored).0

    stored_after : (f g : Parts → Reach) → IsEither tables f g q
    stored_after f g key' t' m' at' unstored' =
        let kept = material_kept p q move position (quiet_after p q move rights quiet e) in
        let keys : Some key' ≡ Some key = sym m' ∙ kept ∙ m in
        let same : key' ≡ key = cc in
        let contents : Some t' ≡ Some t = sym at' ∙ ap (table_at tables Dtz) same ∙ at in
        let same_t : t' ≡ t = cc in
        absurd (false≢true (sym unstored' ∙ ap (λ (x : Contents). stores (part_asked x (placed_of key' q))) same_t ∙ ap (λ n. stores (part_asked t (placed_of n q))) same ∙ stored_there))

    one_is_enough : dtz_to tables 1 q ≡ dtz_of tables q
    unfolding dtz_of dtz_to
    one_is_enough = same_rules tables (dtz_to tables 0) (dtz_to tables 1) q (stored_after (dtz_to tables 0) (dtz_to tables 1))

  pub meets_rules : dtz_of tables p ≡ dtz_by tables (dtz_of tables) p
  unfolding dtz_of dtz_to
  meets_rules = same_rules tables (dtz_to tables 1) (dtz_of tables) p (λ key t m at unstored move q quiet e. one_is_enough key t m at unstored move q quiet e)

no_rights : (p : Parts) → is_out_of_scope p ≡ false → has_any_right p.rights ≡ false
unfolding is_out_of_scope
no_rights p e = by_right (has_any_right p.rights) (nat_lt 5 (count_of_men p)) e
  where
    by_right : (a b : Bool) → (a || b) ≡ false → a ≡ false
    by_right true b h = h
    by_right false b h = refl

pub in_scope : (tables : Tables) (p : Parts) → AreFiled tables → IsPosition p → is_out_of_scope p ≡ false → dtz_of tables p ≡ dtz_by tables (dtz_of tables) p
in_scope tables p filed position scope = meets_rules tables filed p position (no_rights p scope)
