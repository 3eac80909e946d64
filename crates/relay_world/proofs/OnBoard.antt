-- What a game comes to that is judged without tables.
use Rattle.std.proofs.Common.{◌≡◌, ℕ, ◌-◌, ◌<◌, ◌≤◌, Bool, true, false, ◌||◌, ◌&&◌, not, List, [], ◌∷◌, ◌++◌, length, take, replicate, Option, Some, None, Result, Ok, sym, refl, ap, ◌∙◌, subst, arith, ⊎_elim, inl, inr, true≢false}
use Rattle.std.specs.Prelude.{IfSome, IsSome, IsTrue, ◌⊎◌, fold, option_and_then, nat_lt, slice_index_or}
use Rattle.std.specs.Option.{option_or}
use Rattle.std.proofs.lemmas.Bool.{cases_lt, le-ltb, ltb-false}
use Rattle.std.proofs.lemmas.List.{get_or-replicate, get_or_past, length-replicate}
use Rattle.board_core.specs.declared.parts.Parts.{Parts}
use Rattle.board_core.specs.declared.moves.Move.{Move as Moves}
use Rattle.board_core.specs.declared.piece.Side.{Side}
use Rattle.board_core.specs.declared.piece.Side.TheVariants.{White, Black}
use Rattle.board_core.specs.declared.verdict.Verdict.{Verdict as Ruling}
use Rattle.board_core.specs.declared.verdict.Verdict.TheVariants.{Stalemate, TableDraw}
use Rattle.board_core.specs.Castling.{has_any_right}
use Rattle.board_core.specs.Computed.{is_in_check}
use Rattle.board_core.specs.ComputedMoves.{position_after, legal_moves, legal_captures, count_of_men}
use Rattle.board_core.specs.Ends.{has_no_move, is_checkmate, is_stalemate}
use Rattle.board_core.specs.Position.{IsPosition}
use Rattle.place_index.specs.Covered.{FewMenHaveTables}
use Rattle.table_file.specs.declared.kind.TableKind.TheVariants.{Wdl}
use Rattle.table_file.specs.Tables.{Contents}
use Rattle.judge_core.specs.Asked.{fault_in, first, missing_or_damaged, not_covered, unless}
use Rattle.judge_core.specs.Distances.{dtz_of}
use Rattle.judge_core.specs.Games.{Rules, is_end, judged_after, position_after_all, verdict_after}
use Rattle.judge_core.specs.Laws.{FirstVerdictInWords, IsLeastRuled, IsRuledAt}
use Rattle.judge_core.specs.LookUp.{material_of}
use Rattle.judge_core.specs.Probing.{values_after, searched_by, searched_where, wdl_of}
use Rattle.judge_core.specs.Ruling.{end_of, is_out_of_scope, mate_of, ruling, ruling_by}
use Rattle.judge_core.specs.Tables.{Tables, slot, table_at, table_value, value_in, value_of}
use Rattle.judge_core.specs.Values.{Reading}
use Rattle.judge_core.proofs.LookUp.{material_found}
use Rattle.judge_core.proofs.Rule.{bare, still, searched}
use Rattle.move_msg.specs.declared.arbiter_id.ArbiterId.{ArbiterId}
use Rattle.arbiter_core.specs.Recording.{Recorded, move_count}
use Rattle.arbiter_core.proofs.Reach.{reach_within}
use Rattle.relay_world.specs.declared.fault.WorldFault.{WorldFault}
use Rattle.relay_world.specs.declared.event.Event.{Event}
use Rattle.relay_world.specs.Gathering.{tables_of, tables_from}
use Rattle.relay_world.specs.Laws.{KeepsAfter}
use Rattle.relay_world.specs.NoTables.{EndsAt, checkmate, stalemate, bare_kings, HasBareKings, HasNoTable, IsBareKings, IsFirstEnd}
use Rattle.relay_world.specs.Worlds.{Judged}
use Rattle.relay_world.proofs.Steps.{count_at, first_from, start_legal}
use Rattle.relay_world.proofs.Whole.{kept_is}

-- ---- no table is known

-- what a table that is missing tells of a position
abbrev no_table : ℕ → Parts → Reading
no_table key p = value_in None key p

-- it is told of a list that ends by it
first_some : (rs : List Reading) (p : Parts) (key : ℕ) → (k : ℕ) × (first not_covered (rs ++ no_table key p ∷ []) ≡ Some k)
first_some [] p key = (key, refl)
first_some (r ∷ rs) p key = by_first (not_covered r) (first not_covered (rs ++ no_table key p ∷ [])) (first_some rs p key)
  where
    by_first : (o rest : Option ℕ) → (k : ℕ) × (rest ≡ Some k) → (k : ℕ) × (option_or o rest ≡ Some k)
    by_first None rest h = h
    by_first (Some k) rest h = (k, refl)

missing : (rs : List Reading) (p : Parts) (key : ℕ) → (k : ℕ) × (fault_in (rs ++ no_table key p ∷ []) ≡ missing_or_damaged (Some k) None)
missing rs p key =
    let f = first_some rs p key in
    (f.0, rw f.1 refl)

few_enough : (p : Parts) → is_out_of_scope p ≡ false → count_of_men p ≤ 5
unfolding is_out_of_scope
few_enough p e = by_right (has_any_right p.rights) e
  where
    by_right : (a : Bool) → (a || nat_lt 5 (count_of_men p)) ≡ false → count_of_men p ≤ 5
    by_right true h = absurd (true≢false h)
    by_right false h = ltb-false 5 (count_of_men p) h

no_value : (tables : Tables) (p : Parts) (key : ℕ) → HasNoTable tables → material_of p ≡ Some key → table_value tables p ≡ no_table key p
unfolding table_value
no_value tables p key none m = ap (λ o. value_of tables o p) m ∙ rw (none Wdl key) refl

not_searched : (tables : Tables) (value : Parts → Reading) (p : Parts) (key : ℕ) → table_value tables p ≡ no_table key p → (k : ℕ) × (searched_by tables value p ≡ unless (missing_or_damaged (Some k) None) (searched_by tables value p))
unfolding searched_by searched_where
not_searched tables value p key e =
    let f = missing (values_after value p (legal_captures p)) p key in
    (f.0, rw (e, f.1) refl)

unknown : FewMenHaveTables → (tables : Tables) (p : Parts) → HasNoTable tables → IsPosition p → is_out_of_scope p ≡ false → 2 < count_of_men p → (k : ℕ) × (wdl_of tables p ≡ no_table k p)
unknown few tables p none position scope many =
    let found = few.0 p position (omega (arith, many)) (few_enough p scope) in
    let m : material_of p ≡ Some found.0 = sym (material_found p found.0 found.1 found.2) in
    let w = not_searched tables (wdl_of tables) p found.0 (no_value tables p found.0 none m) in
    (w.0, sym (searched tables p (unless (missing_or_damaged (Some w.0) None) (searched_by tables (wdl_of tables) p)) position many (sym w.1)))

-- ---- the ruling on a position

-- what the board says of a position
data OnBoard (p : Parts) (v : Ruling) : Type 0 where
  mated : IsTrue (is_checkmate p) → v ≡ mate_of p.side → OnBoard p v
  stuck : IsTrue (is_stalemate p) → v ≡ Stalemate → OnBoard p v
  kings : IsBareKings p → v ≡ TableDraw → OnBoard p v

some_one : {X : Type 0} (x y : X) → Some x ≡ Some y → x ≡ y
some_one x y e = cc

ended : (p : Parts) (v : Ruling) → has_no_move (legal_moves p) ≡ true → (b : Bool) → is_in_check p.men p.side ≡ b → end_of p ≡ v → OnBoard p v
ended p v over true c e = mated (rw (c, over) refl) (sym e ∙ rw c refl)
ended p v over false c e = stuck (rw (c, over) refl) (sym e ∙ rw c refl)

no_right : (p : Parts) → is_out_of_scope p ≡ false → has_any_right p.rights ≡ false
unfolding is_out_of_scope
no_right p e = by_right (has_any_right p.rights) e
  where
    by_right : (a : Bool) → (a || nat_lt 5 (count_of_men p)) ≡ false → a ≡ false
    by_right true h = absurd (true≢false h)
    by_right false h = refl

in_scope : (p : Parts) → count_of_men p ≤ 2 → has_any_right p.rights ≡ false → is_out_of_scope p ≡ false
unfolding is_out_of_scope
in_scope p few none = rw none (le-ltb _ _ (omega (arith, few)))

ruling_end : (tables : Tables) (p : Parts) → has_no_move (legal_moves p) ≡ true → ruling tables p ≡ Some (end_of p)
unfolding ruling
ruling_end tables p over = rw over refl

ruling_out : (tables : Tables) (p : Parts) → has_no_move (legal_moves p) ≡ false → is_out_of_scope p ≡ true → ruling tables p ≡ None
unfolding ruling
ruling_out tables p over out = rw (over, out) refl

ruling_in : (tables : Tables) (p : Parts) → has_no_move (legal_moves p) ≡ false → is_out_of_scope p ≡ false → ruling tables p ≡ ruling_by p (wdl_of tables p) (dtz_of tables p)
unfolding ruling
ruling_in tables p over out = rw (over, out) refl

ruled_on : FewMenHaveTables → (tables : Tables) (p : Parts) (v : Ruling) → HasNoTable tables → IsPosition p → ruling tables p ≡ Some v → OnBoard p v
ruled_on few tables p v none position e = by_moves (has_no_move (legal_moves p)) refl
  where
    by_men : has_no_move (legal_moves p) ≡ false → is_out_of_scope p ≡ false → OnBoard p v
    by_men over out =
        ⊎_elim
        (λ (many : 2 < count_of_men p).
        let u = unknown few tables p none position out many in
        let nothing : ruling tables p ≡ None = ruling_in tables p over out ∙ ap (λ r. ruling_by p r (dtz_of tables p)) u.1 in
        absurd (not_both (ruling tables p) nothing e))
        (λ (two : count_of_men p ≤ 2).
        let draw : ruling tables p ≡ Some TableDraw = ruling_in tables p over out ∙ ap (λ r. ruling_by p r (dtz_of tables p)) (sym (bare tables p position two)) in
        kings (record { two = two; a_move = over; no_right = no_right p out }) (some_one v TableDraw (sym e ∙ draw)))
        (cases_lt 2 (count_of_men p))
      where
        not_both : (o : Option Ruling) → o ≡ None → o ≡ Some v → ⊥
        not_both o a b = cc

    by_scope : has_no_move (legal_moves p) ≡ false → (b : Bool) → is_out_of_scope p ≡ b → OnBoard p v
    by_scope over true out = let n = ruling_out tables p over out in absurd cc
    by_scope over false out = by_men over out

    by_moves : (b : Bool) → has_no_move (legal_moves p) ≡ b → OnBoard p v
    by_moves true over = ended p v over (is_in_check p.men p.side) refl (some_one (end_of p) v (sym (ruling_end tables p over) ∙ e))
    by_moves false over = by_scope over (is_out_of_scope p) refl

both : (a b : Bool) → (a && b) ≡ true → (a ≡ true) × (b ≡ true)
both true b h = (refl, h)
both false b h = absurd (true≢false (sym h))

not_so : (a : Bool) → not a ≡ true → a ≡ false
not_so true h = absurd (true≢false (sym h))
not_so false h = refl

board_rules : (tables : Tables) (p : Parts) (v : Ruling) → IsPosition p → OnBoard p v → ruling tables p ≡ Some v
board_rules tables p v position (mated m e) =
    let h = both (is_in_check p.men p.side) (has_no_move (legal_moves p)) m in
    ruling_end tables p h.1 ∙ ap Some (rw h.0 (sym e))
board_rules tables p v position (stuck s e) =
    let h = both (not (is_in_check p.men p.side)) (has_no_move (legal_moves p)) s in
    ruling_end tables p h.1 ∙ ap Some (rw (not_so (is_in_check p.men p.side) h.0) (sym e))
board_rules tables p v position (kings k e) =
    ruling_in tables p k.a_move (in_scope p k.two k.no_right)
    ∙ ap (λ r. ruling_by p r (dtz_of tables p)) (sym (bare tables p position k.two)) ∙ ap Some (sym e)

-- ---- a ply

-- each position of a game that begins in one is one
positions : (o : Option Parts) (moves : List Moves) → IfSome o IsPosition → IfSome (fold (λ position m. option_and_then (λ p. position_after p m) position) o moves) IsPosition
positions o [] h = h
positions None (m ∷ moves) h = positions None moves h
positions (Some p) (m ∷ moves) h = positions (position_after p m) moves (one_on (position_after p m) refl)
  where
    one_on : (o : Option Parts) → position_after p m ≡ o → IfSome o IsPosition
    one_on None e = tt
    one_on (Some q) e = still p q m h e

reached_position : (start p : Parts) (moves : List Moves) → IsPosition start → position_after_all start moves ≡ Some p → IsPosition p
unfolding position_after_all
reached_position start p moves h e = subst (λ o. IfSome o IsPosition) e (positions (Some start) moves h)

record IsJudged (tables : Tables) (start : Parts) (moves : List Moves) (v : Ruling) : Type 0 where
  p : Parts
  stands : position_after_all start moves ≡ Some p
  ruled : ruling tables p ≡ Some v

judged : (tables : Tables) (start : Parts) (moves : List Moves) (v : Ruling) → judged_after tables start moves ≡ Some v → IsJudged tables start moves v
unfolding judged_after
judged tables start moves v e = by_position (position_after_all start moves) refl e
  where
    by_position : (o : Option Parts) → position_after_all start moves ≡ o → option_and_then (ruling tables) o ≡ Some v → IsJudged tables start moves v
    by_position None s e = cc
    by_position (Some p) s e = record { p = p; stands = s; ruled = e }

judged_by : (tables : Tables) (start p : Parts) (moves : List Moves) → position_after_all start moves ≡ Some p → judged_after tables start moves ≡ ruling tables p
unfolding judged_after
judged_by tables start p moves s = ap (option_and_then (ruling tables)) s

mate_ends : (side : Side) → mate_of side ≡ TableDraw → ⊥
mate_ends White e = cc
mate_ends Black e = cc

module _ (few : FewMenHaveTables) (r : Rules) (none : HasNoTable r.tables) (position : IsPosition r.start) (moves : List Moves) where
  board_at : (k : ℕ) (p : Parts) (v : Ruling) → position_after_all r.start (take k moves) ≡ Some p → ruling r.tables p ≡ Some v → OnBoard p v
  board_at k p v s e = ruled_on few r.tables p v none (reached_position r.start p (take k moves) position s) e

  rules_at : (k : ℕ) (p : Parts) (v : Ruling) → position_after_all r.start (take k moves) ≡ Some p → OnBoard p v → judged_after r.tables r.start (take k moves) ≡ Some v
  rules_at k p v s b = judged_by r.tables r.start p (take k moves) s ∙ board_rules r.tables p v (reached_position r.start p (take k moves) position s) b

  bare_at : (k : ℕ) → judged_after r.tables r.start (take k moves) ≡ Some TableDraw → HasBareKings r moves k
  bare_at k e =
      let j = judged r.tables r.start (take k moves) TableDraw e in
      by_board j.p j.stands (board_at k j.p TableDraw j.stands j.ruled)
    where
      by_board : (p : Parts) → position_after_all r.start (take k moves) ≡ Some p → OnBoard p TableDraw → HasBareKings r moves k
      by_board p s (mated m e) = absurd (mate_ends p.side (sym e))
      by_board p s (stuck t e) = cc
      by_board p s (kings b e) = record { position = p; stands = s; bare = b }

  bare_rules : (k : ℕ) → HasBareKings r moves k → judged_after r.tables r.start (take k moves) ≡ Some TableDraw
  bare_rules k b = rules_at k b.position TableDraw b.stands (kings b.bare refl)

  -- the ruling holds at a ply exactly where the game ends there
  to_end : (k : ℕ) (v : Ruling) → IsRuledAt r moves k v → EndsAt r moves k v
  to_end k v h =
      let j = judged r.tables r.start (take k moves) v h.ruling in
      by_board j.p j.stands (board_at k j.p v j.stands j.ruled)
    where
      for_long : (w : Ruling) → v ≡ w → w ≡ TableDraw → (IsTrue (is_end w) ⊎ ((r.delay ≤ k) × ((j : ℕ) → k - r.delay ≤ j → j ≤ k → judged_after r.tables r.start (take j moves) ≡ Some w))) → EndsAt r moves k v
      for_long w is d (inl e) = let bad : is_end TableDraw ≡ true = subst (λ x. is_end x ≡ true) d e in cc
      for_long w is d (inr held) = bare_kings held.0 (λ j a b. bare_at j (subst (λ x. judged_after r.tables r.start (take j moves) ≡ Some x) d (held.1 j a b))) (is ∙ d)

      by_board : (p : Parts) → position_after_all r.start (take k moves) ≡ Some p → OnBoard p v → EndsAt r moves k v
      by_board p s (mated m e) = checkmate s m e
      by_board p s (stuck t e) = stalemate s t e
      by_board p s (kings b e) = for_long v refl e h.holds

  from_end : (k : ℕ) (v : Ruling) → EndsAt r moves k v → IsRuledAt r moves k v
  from_end k v (checkmate {p = p} s m e) = record { ruling = rules_at k p v s (mated m e); holds = inl (subst (λ x. is_end x ≡ true) (sym e) (ends p.side)) }
    where
      ends : (side : Side) → is_end (mate_of side) ≡ true
      ends White = refl
      ends Black = refl
  from_end k v (stalemate {p = p} s t e) = record { ruling = rules_at k p v s (stuck t e); holds = inl (subst (λ x. is_end x ≡ true) (sym e) refl) }
  from_end k v (bare_kings long held e) = rw e (record { ruling = bare_rules k (held k (omega arith) (omega arith)); holds = inr (long, λ j a b. bare_rules j (held j a b)) })

pub first_end : FirstVerdictInWords → FewMenHaveTables → (game : Judged) (events : List Event) (who : ArbiterId) (kept : Recorded) (v : Ruling) → IsPosition game.rules.start → HasNoTable game.rules.tables → KeepsAfter game events who kept → (kept.verdict ≡ Some v → IsFirstEnd game.rules game.moves (move_count kept) v) × (IsFirstEnd game.rules game.moves (move_count kept) v → kept.verdict ≡ Some v)
first_end words few game events who kept v position none e =
    let r : Rules = game.rules in
    let h = kept_is game events who kept e in
    let c = count_at r game.moves kept h in (
      (λ is. (let l = (words r game.moves (move_count kept) v).0 (first_from r game.moves kept v h is) in record {
        ends = to_end few r none position game.moves (move_count kept) v l.ruled;
        first = λ k other lt end. l.least k other lt (from_end few r none position game.moves k other end);
      })),
      (λ f.
          let l : IsLeastRuled r game.moves (move_count kept) v = record {
            within = subst (λ n. n ≤ length game.moves) (sym c) (reach_within r game.moves h.ply h.reached);
            legal = subst (λ n. IsSome (position_after_all r.start (take n game.moves))) (sym c) (start_legal r game.moves h.ply h.reached);
            ruled = from_end few r none position game.moves (move_count kept) v f.ends;
            least = λ k other lt ruled. f.first k other lt (to_end few r none position game.moves k other ruled);
          } in
          ap (λ (k : Recorded). k.verdict) h.is ∙ ap (λ n. verdict_after r (take n game.moves)) (sym c) ∙ ((words r game.moves (move_count kept) v).1 l).ruled),
    )

-- ---- no files are no table

abbrev no_slot : Option Contents
no_slot = None

nothing_at : (n : ℕ) → slice_index_or (replicate 290 no_slot) n no_slot ≡ no_slot
nothing_at n =
    ⊎_elim (λ (lt : n < 290). get_or-replicate 290 n no_slot no_slot lt)
    (λ (ge : 290 ≤ n). get_or_past (replicate 290 no_slot) n no_slot (subst (λ k. k ≤ n) (sym (length-replicate 290 no_slot)) ge)) (cases_lt n 290)

pub no_files : (tables : Tables) → tables_of [] ≡ Ok tables → HasNoTable tables
unfolding tables_from
no_files tables e kind key = subst (λ (ts : Tables). table_at ts kind key ≡ None) (one_ok _ _ e) (nothing_at (slot kind key))
  where
    one_ok : (x y : Tables) → ◌≡◌ {A = Result Tables WorldFault} (Ok x) (Ok y) → x ≡ y
    one_ok x y e = cc
