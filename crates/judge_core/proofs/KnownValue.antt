-- The value as soon as it is known: its rule, and that it is the value of the tables where they have one.
use Rattle.std.proofs.Common.{◌≡◌, ◌∙◌, sym, ap, refl, subst, ℕ, zero, suc, ◌<◌, ◌≤◌, nat_le, Bool, true, false, ◌||◌, cond, List, [], ◌∷◌, ◌++◌, Option, Some, None, filter, Result, Ok, Err, inl, inr, arith}
use Rattle.std.specs.List.{Contains, list_any}
use Rattle.std.proofs.lemmas.Bool.{false≢true, le-leb, lt-leb}
use Rattle.std.proofs.lemmas.List.{append_assoc, append-nil}
use Rattle.std.proofs.lemmas.List.Elements.{Contains-append_cases, Contains-append_right}
use Rattle.std.proofs.lemmas.List.Folds.{list_any-append}
use Rattle.board_core.specs.declared.parts.Parts.{Parts}
use Rattle.board_core.specs.declared.moves.Move.{Move}
use Rattle.board_core.specs.Position.{IsPosition}
use Rattle.board_core.specs.ComputedMoves.{position_after, is_capture, legal_moves, legal_captures, captures_after, count_of_men}
use Rattle.board_core.proofs.ComputedMen.{men_of_position}
use Rattle.judge_core.specs.declared.wdl.Wdl.{Wdl}
use Rattle.judge_core.specs.declared.wdl.Wdl.TheVariants.{Loss, BlessedLoss, Draw, CursedWin, Win}
use Rattle.judge_core.specs.declared.fault.ValueFault.{ValueFault}
use Rattle.judge_core.specs.declared.found.CaptureSearch.{CaptureSearch}
use Rattle.judge_core.specs.declared.found.Found.{Found}
use Rattle.judge_core.specs.Values.{Reading, points, opposite_reading}
use Rattle.judge_core.specs.Tables.{Tables, table_value}
use Rattle.judge_core.specs.Distances.{is_value}
use Rattle.judge_core.specs.declared.fault.ProbeFault.{ProbeFault}
use Rattle.judge_core.specs.Answers.{as_probe}
use Rattle.judge_core.specs.Asked.{not_covered}
use Rattle.judge_core.specs.Ruling.{is_out_of_scope}
use Rattle.judge_core.specs.MoreTables.{HasAll}
use Rattle.judge_core.specs.Probing.{values_after, searched_where, searched_by, wdl_from_search, wdl_to, wdl_where, wdl_of, worth, worth_in}
use Rattle.judge_core.specs.Inside.Found.{lands_empty, found_by_captures, found_unless_won, found_with, nothing_found}
use Rattle.judge_core.specs.Known.{wins_by_capture, known_by, known_to, known_where, known_of, known_answer, IsKnownProbe, KnownMeetsItsRule, ValueIsKnown, KnownStaysKnown}
use Rattle.judge_core.proofs.Asking.{asked-append}
use Rattle.judge_core.proofs.Captures.{falls}
use Rattle.judge_core.proofs.Firm.{OnlyWdl, Under, own_firm}
use Rattle.judge_core.proofs.Kept.{Keeps, unless_ok, last_there, kept_all, keeps-turned, searched_kept}
use Rattle.judge_core.proofs.Looking.{returned}
use Rattle.judge_core.proofs.Readings.{all_come, found-nothing, found-step}
use Rattle.judge_core.proofs.Rising.{points_most, same_points}
use Rattle.judge_core.proofs.RootCaptures.{only_there, worth_most}
use Rattle.judge_core.proofs.Rule.{Agree, same_all, same_searched, still}

-- ---- captures that win

module _ (value : Parts → Reading) (p : Parts) where
  -- one of these moves wins
  abbrev pub wins_in : List Move → Bool
  wins_in moves = list_any (is_value Win) (values_after value p moves)

  pub wins-append : (xs ys : List Move) → wins_in (xs ++ ys) ≡ (wins_in xs || wins_in ys)
  wins-append xs ys =
      ap (list_any (is_value Win)) (asked-append (λ q. opposite_reading (value q)) p xs ys)
      ∙ list_any-append (is_value Win) (values_after value p xs) (values_after value p ys)

  -- so much has been found up to the last capture, and none of these captures wins; what comes after it is still to come
  pub record IsUnwon (found : Found) (last : Option Move) : Type 0 where
    pub done : List Move
    pub so_far : found ≡ found_by_captures value p done
    pub whole : done ++ captures_after p last ≡ legal_captures p
    pub unwon : wins_in done ≡ false

-- ---- the rule

same_rule : (own f g : Parts → Reading) (p : Parts) → Agree f g p → known_by own f p ≡ known_by own g p
same_rule own f g p agree = rw (same_all f g p agree (legal_moves p), same_searched f g p agree own) refl

-- more captures in a row than men are the same as so many
enough : (own : Parts → Reading) (n k : ℕ) (p : Parts) → IsPosition p → count_of_men p ≤ n → count_of_men p ≤ k → known_to own n p ≡ known_to own k p
unfolding known_to
enough own zero k p position a b = absurd (let two = men_of_position p position in omega arith)
enough own (suc n) zero p position a b = absurd (let two = men_of_position p position in omega arith)
enough own (suc n) (suc k) p position a b =
    same_rule own (known_to own n) (known_to own k) p (λ m q c e. (let less = falls p q m position c e in enough own n k q (still p q m position e) (omega arith) (omega arith)))

step_in : (own : Parts → Reading) (n : ℕ) (p : Parts) → IsPosition p → n ≡ count_of_men p → known_to own n p ≡ known_by own (known_where own) p
unfolding known_to known_where
step_in own zero p position e = absurd (let two = men_of_position p position in omega arith)
step_in own (suc n) p position e =
    same_rule own (known_to own n) (known_where own) p (λ m q c a. (let less = falls p q m position c a in enough own n (count_of_men q) q (still p q m position a) (omega arith) (omega arith)))

opened : (own : Parts → Reading) (p : Parts) → known_where own p ≡ known_to own (count_of_men p) p
unfolding known_where
opened own p = refl

pub known_meets_rule : KnownMeetsItsRule
unfolding known_of
known_meets_rule tables p position = opened (table_value tables) p ∙ step_in (table_value tables) (count_of_men p) p position refl

-- ---- a capture that wins

-- among these moves, with the position after it
pub record WinsBy (value : Parts → Reading) (p : Parts) (moves : List Move) : Type 0 where
  pub move : Move
  pub next : Parts
  pub there : Contains moves move
  pub leads : position_after p move ≡ Some next
  pub wins : opposite_reading (value next) ≡ Ok Win

module _ (value : Parts → Reading) (p : Parts) where
  later : (m : Move) (moves : List Move) → WinsBy value p moves → WinsBy value p (m ∷ moves)
  later m moves by = record {
    move = by.move;
    next = by.next;
    there = Contains-append_right (m ∷ []) moves by.move by.there;
    leads = by.leads;
    wins = by.wins;
  }

  winner : (moves : List Move) → wins_in value p moves ≡ true → WinsBy value p moves
  winner [] e = absurd (false≢true e)
  winner (m ∷ moves) e = by_position (winner moves) (position_after p m) refl e
    where
      by_value : (wins_in value p moves ≡ true → WinsBy value p moves) → (q : Parts) (r : Reading) → position_after p m ≡ Some q → opposite_reading (value q) ≡ r
          → (is_value Win r || wins_in value p moves) ≡ true → WinsBy value p (m ∷ moves)
      by_value rest q (Ok Win) after is e = record { move = m; next = q; there = (0, omega arith, refl); leads = after; wins = is }
      by_value rest q (Ok Loss) after is e = later m moves (rest e)
      by_value rest q (Ok BlessedLoss) after is e = later m moves (rest e)
      by_value rest q (Ok Draw) after is e = later m moves (rest e)
      by_value rest q (Ok CursedWin) after is e = later m moves (rest e)
      by_value rest q (Err fault) after is e = later m moves (rest e)

      by_position : (wins_in value p moves ≡ true → WinsBy value p moves) → (o : Option Parts) → position_after p m ≡ o → wins_in value p (m ∷ moves) ≡ true → WinsBy value p (m ∷ moves)
      by_position rest None after e = later m moves (rest (rw after at e))
      by_position rest (Some q) after e = by_value rest q (opposite_reading (value q)) after refl (rw after at e)

  pub won_by : (m : Move) (q : Parts) (moves more : List Move) → position_after p m ≡ Some q → is_value Win (opposite_reading (value q)) ≡ true → wins_in value p (moves ++ m ∷ more) ≡ true
  won_by m q moves more after won = wins-append value p moves (m ∷ more) ∙ step (wins_in value p moves)
    where
      head : wins_in value p (m ∷ more) ≡ true
      head = rw (after, won) refl

      step : (b : Bool) → (b || wins_in value p (m ∷ more)) ≡ true
      step true = refl
      step false = head

  there_wins : (m : Move) (q : Parts) (moves : List Move) → Contains moves m → position_after p m ≡ Some q → opposite_reading (value q) ≡ Ok Win → wins_in value p moves ≡ true
  there_wins m q [] has after won = absurd (let lt = has.1 in omega (arith, lt))
  there_wins m q (x ∷ moves) has after won = elim (Contains-append_cases (x ∷ []) moves m has) [
    | inl here ↦ (let same = only_there x m here in won_by x q [] moves (ap (position_after p) same ∙ after) (ap (is_value Win) won))
    | inr there ↦ behind (there_wins m q moves there after won)
  ]
    where
      behind : wins_in value p moves ≡ true → wins_in value p (x ∷ moves) ≡ true
      behind e = wins-append value p (x ∷ []) moves ∙ step (wins_in value p (x ∷ []))
        where
          step : (b : Bool) → (b || wins_in value p moves) ≡ true
          step true = refl
          step false = e

-- an item that passed a test is there, and passes it
filtered : {X : Type 0} (t : X → Bool) (xs : List X) (x : X) → Contains (filter t xs) x → Contains xs x × (t x ≡ true)
filtered t [] x has = absurd (let lt = has.1 in omega (arith, lt))
filtered t (y ∷ ys) x has = step (filtered t ys x) (t y) refl has
  where
    behind : Contains ys x × (t x ≡ true) → Contains (y ∷ ys) x × (t x ≡ true)
    behind found = (Contains-append_right (y ∷ []) ys x found.0, found.1)

    step : (Contains (filter t ys) x → Contains ys x × (t x ≡ true)) → (b : Bool) → t y ≡ b → Contains (filter t (y ∷ ys)) x → Contains (y ∷ ys) x × (t x ≡ true)
    step rest false e has = behind (rest (rw e at has))
    step rest true e has = elim (Contains-append_cases (y ∷ []) (filter t ys) x (rw e at has)) [
      | inl here ↦ (let same = only_there y x here in ((0, omega arith, same), ap t (sym same) ∙ e))
      | inr there ↦ behind (rest there)
    ]

-- a legal capture is a legal move, and a capture
legal_capture : (p : Parts) (m : Move) → Contains (legal_captures p) m → Contains (legal_moves p) m × (is_capture p m ≡ true)
legal_capture p m has = filtered (is_capture p) (legal_moves p) m has

-- ---- where one way to tell values keeps those of another

worth_there : (w : Result CaptureSearch ValueFault) (v : Wdl) → worth_in w ≡ Ok v → (s : CaptureSearch) × (w ≡ Ok s) × (worth s ≡ v)
worth_there (Ok s) v e = (s, refl, cc)
worth_there (Err fault) v e = absurd (cc)

-- what is searched, field by field
abbrev made : Wdl → Wdl → Wdl → Bool → Result CaptureSearch ValueFault
made c e own forced = Ok (record { capture = c; passant = e; own = own; forced = forced })

fields : (c e own : Wdl) (forced : Bool) (w : CaptureSearch) → made c e own forced ≡ Ok w → (w.capture ≡ c) × (w.passant ≡ e) × (w.forced ≡ forced)
fields c e own forced w same =
    let is : record { capture = c; passant = e; own = own; forced = forced } ≡ w = cc in
    (ap (λ (x : CaptureSearch). x.capture) (sym is), ap (λ (x : CaptureSearch). x.passant) (sym is), ap (λ (x : CaptureSearch). x.forced) (sym is))

module _ (f g own own' : Parts → Reading) (p : Parts) (keeps : (m : Move) (q : Parts) → is_capture p m ≡ true → position_after p m ≡ Some q → Keeps (f q) (g q)) (own_keeps : Keeps (own p) (own' p)) where
  -- without a fault the same captures win
  wins_same : (w : CaptureSearch) → searched_where own f p ≡ Ok w → wins_by_capture f p ≡ wins_by_capture g p
  unfolding searched_where
  wins_same w e =
      let there = last_there (values_after f p (legal_captures p)) (own p) (unless_ok _ _ w e).0 in
      ap (list_any (is_value Win))
      (kept_all (λ q. opposite_reading (f q)) (λ q. opposite_reading (g q)) p (is_capture p) (λ m q c a. keeps-turned (f q) (g q) (keeps m q c a)) (legal_moves p) there.0)

  win_kept : wins_by_capture f p ≡ true → wins_by_capture g p ≡ true
  win_kept e =
      let by = winner f p (legal_captures p) e in
      let takes = (legal_capture p by.move by.there).1 in
      there_wins g p by.move by.next (legal_captures p) by.there by.leads (keeps-turned (f by.next) (g by.next) (keeps by.move by.next takes by.leads) Win by.wins)

  no_win_kept : (v : Wdl) → wins_by_capture f p ≡ false → worth_in (searched_where own f p) ≡ Ok v → cond (wins_by_capture g p) (Ok Win) (worth_in (searched_where own' g p)) ≡ Ok v
  no_win_kept v none e =
      let there = worth_there (searched_where own f p) v e in
      let same : wins_by_capture g p ≡ false = sym (wins_same there.0 there.1) ∙ none in
      rw (same, searched_kept f g own own' p keeps own_keeps there.0 there.1) (ap (λ (x : Wdl). Ok x) there.2)

  pub known_kept : Keeps (known_by own f p) (known_by own' g p)
  known_kept = by_men (nat_le (count_of_men p) 2)
    where
      by_win : (b : Bool) → wins_by_capture f p ≡ b → Keeps (cond b (Ok Win) (worth_in (searched_where own f p))) (cond (wins_by_capture g p) (Ok Win) (worth_in (searched_where own' g p)))
      by_win true won v e = rw (win_kept won) e
      by_win false none v e = no_win_kept v none e

      by_men : (b : Bool) → Keeps (cond b (Ok Draw) (cond (wins_by_capture f p) (Ok Win) (worth_in (searched_where own f p)))) (cond b (Ok Draw) (cond (wins_by_capture g p) (Ok Win) (worth_in (searched_where own' g p))))
      by_men true v e = e
      by_men false v e = by_win (wins_by_capture f p) refl v e

  -- a capture that wins is worth most
  most : (w : CaptureSearch) → searched_where own f p ≡ Ok w → wins_by_capture f p ≡ true → worth w ≡ Win
  unfolding searched_where
  most w e won =
      let by = winner f p (legal_captures p) won in
      let legal = legal_capture p by.move by.there in
      let is = fields _ _ _ _ w (unless_ok _ _ w e).1 in
      let high : points Win ≤ points (worth w) = worth_most f p by.move by.next Win legal.0 legal.1 by.leads by.wins w is.0 is.1 is.2 in
      same_points (worth w) Win (let low = points_most (worth w) in omega (arith, high, low))

  pub value_known : Keeps (wdl_from_search p (searched_where own f p)) (known_by own' g p)
  value_known = by_men (nat_le (count_of_men p) 2)
    where
      by_win : (v : Wdl) → worth_in (searched_where own f p) ≡ Ok v → (b : Bool) → wins_by_capture f p ≡ b → cond (wins_by_capture g p) (Ok Win) (worth_in (searched_where own' g p)) ≡ Ok v
      by_win v e true won =
          let there = worth_there (searched_where own f p) v e in
          rw (win_kept won) (ap (λ (x : Wdl). Ok x) (sym (most there.0 there.1 won) ∙ there.2))
      by_win v e false none = no_win_kept v none e

      by_men : (b : Bool) → Keeps (cond b (Ok Draw) (worth_in (searched_where own f p))) (cond b (Ok Draw) (cond (wins_by_capture g p) (Ok Win) (worth_in (searched_where own' g p))))
      by_men true v e = e
      by_men false v e = by_win v e (wins_by_capture f p) refl

-- ---- laws

value_known_to : (own : Parts → Reading) (n : ℕ) (p : Parts) → Keeps (wdl_to own n p) (known_to own n p)
unfolding wdl_to known_to
value_known_to own zero p v e = e
value_known_to own (suc n) p v e = value_known (wdl_to own n) (known_to own n) own own p (λ m q c a. value_known_to own n q) (λ v e. e) v e

pub value_is_known : ValueIsKnown
unfolding wdl_of wdl_where known_of known_where
value_is_known tables p v e = value_known_to (table_value tables) (count_of_men p) p v e

known_kept_to : (own own' : Parts → Reading) → ((p : Parts) → Keeps (own p) (own' p)) → (n : ℕ) (p : Parts) → Keeps (known_to own n p) (known_to own' n p)
unfolding known_to
known_kept_to own own' keeps zero p v e = e
known_kept_to own own' keeps (suc n) p v e = known_kept (known_to own n) (known_to own' n) own own' p (λ m q c a. known_kept_to own own' keeps n q) (keeps p) v e

own_kept : (tables more : Tables) → HasAll tables more → (p : Parts) → Keeps (table_value tables p) (table_value more p)
own_kept tables more all p v e = subst (λ (r : Reading). Under tables OnlyWdl (not_covered r) (λ t. table_value t p ≡ r)) e (own_firm tables p) more all

pub known_stays_known : KnownStaysKnown
unfolding known_of known_where
known_stays_known tables more p v all e = known_kept_to (table_value tables) (table_value more) (own_kept tables more all) (count_of_men p) p v e

-- ---- the code's walk over captures

pub unwon-begins : (value : Parts → Reading) (p : Parts) (found : Found) → found ≡ nothing_found → IsUnwon value p found None
unfolding captures_after
unwon-begins value p found e = record {
  done = [];
  so_far = e ∙ found-nothing value p;
  whole = all_come (legal_captures p);
  unwon = refl;
}

-- the captures so far, where none of them wins
module _ (value : Parts → Reading) (p : Parts) (found found' : Found) (last : Option Move) (m : Move) (w : IsUnwon value p found last) where
  pub unwon-passes : captures_after p last ≡ captures_after p (Some m) → found' ≡ found → IsUnwon value p found' (Some m)
  unwon-passes next e = record {
    done = w.done;
    so_far = e ∙ w.so_far;
    whole = ap (λ ms. w.done ++ ms) (sym next) ∙ w.whole;
    unwon = w.unwon;
  }

  module _ (q : Parts) (r : Reading) (next : captures_after p last ≡ m ∷ captures_after p (Some m)) (after : position_after p m ≡ Some q) (er : r ≡ opposite_reading (value q)) where
    pub unwon-goes_on : (passant : Bool) → is_value Win r ≡ false → passant ≡ lands_empty p m → found' ≡ found_with found r passant → IsUnwon value p found' (Some m)
    unwon-goes_on passant loses ep g = record {
      done = w.done ++ m ∷ [];
      so_far = rw (found-step value p w.done m, after, ← w.so_far, ← er, ← ep) g;
      whole = append_assoc w.done (m ∷ []) (captures_after p (Some m)) ∙ ap (λ ms. w.done ++ ms) (sym next) ∙ w.whole;
      unwon = wins-append value p w.done (m ∷ []) ∙ rw (w.unwon, after, ← er, loses) refl;
    }

    pub unwon-won : is_value Win r ≡ true → (o : Option Found) → o ≡ None → o ≡ found_unless_won value p
    unwon-won wins o none =
        let all : wins_by_capture value p ≡ true =
        ap (wins_in value p) (sym w.whole ∙ ap (λ ms. w.done ++ ms) next) ∙ won_by value p m q w.done (captures_after p (Some m)) after (sym (ap (is_value Win) er) ∙ wins) in
        rw all none

pub unwon-ends : (value : Parts → Reading) (p : Parts) (found : Found) (last : Option Move) (o : Option Found) → IsUnwon value p found last → captures_after p last ≡ [] → o ≡ Some found → o ≡ found_unless_won value p
unwon-ends value p found last o w none e =
    let all : w.done ≡ legal_captures p = sym (append-nil w.done) ∙ ap (λ ms. w.done ++ ms) (sym none) ∙ w.whole in
    let unwon : wins_by_capture value p ≡ false = ap (wins_in value p) (sym all) ∙ w.unwon in
    rw unwon (e ∙ ap (λ (f : Found). Some f) (w.so_far ∙ ap (found_by_captures value p) all))

-- a position without captures
pub unwon_without : (value : Parts → Reading) (p : Parts) (found : Found) (o : Option Found) → found ≡ nothing_found → captures_after p None ≡ [] → o ≡ Some found → o ≡ found_unless_won value p
unwon_without value p found o e none is = unwon-ends value p found None o (unwon-begins value p found e) none is

-- ---- by the rule

known_is : (tables : Tables) (p : Parts) → IsPosition p → 2 < count_of_men p → known_of tables p ≡ cond (wins_by_capture (known_of tables) p) (Ok Win) (worth_in (searched_by tables (known_of tables) p))
unfolding searched_by
known_is tables p position many =
    known_meets_rule tables p position
    ∙ ap (λ b. cond b (Ok Draw) (cond (wins_by_capture (known_of tables) p) (Ok Win) (worth_in (searched_where (table_value tables) (known_of tables) p)))) (lt-leb (count_of_men p) 2 many)

pub known_bare : (tables : Tables) (p : Parts) → IsPosition p → count_of_men p ≤ 2 → Ok Draw ≡ known_of tables p
known_bare tables p position few =
    sym (known_meets_rule tables p position ∙ ap (λ b. cond b (Ok Draw) (cond (wins_by_capture (known_of tables) p) (Ok Win) (worth_in (searched_where (table_value tables) (known_of tables) p)))) (le-leb (count_of_men p) 2 few))

pub known_won : (tables : Tables) (p : Parts) → IsPosition p → 2 < count_of_men p → None ≡ found_unless_won (known_of tables) p → Ok Win ≡ known_of tables p
known_won tables p position many e = by_win (wins_by_capture (known_of tables) p) refl
  where
    by_win : (b : Bool) → wins_by_capture (known_of tables) p ≡ b → Ok Win ≡ known_of tables p
    by_win true won = sym (known_is tables p position many ∙ rw won refl)
    by_win false none = absurd (let never = rw none at e in cc)

pub known_unwon : (tables : Tables) (p : Parts) (found : Found) → IsPosition p → 2 < count_of_men p → Some found ≡ found_unless_won (known_of tables) p
    → (found ≡ found_by_captures (known_of tables) p (legal_captures p)) × (worth_in (searched_by tables (known_of tables) p) ≡ known_of tables p)
known_unwon tables p found position many e = by_win (wins_by_capture (known_of tables) p) refl
  where
    by_win : (b : Bool) → wins_by_capture (known_of tables) p ≡ b → (found ≡ found_by_captures (known_of tables) p (legal_captures p)) × (worth_in (searched_by tables (known_of tables) p) ≡ known_of tables p)
    by_win true won = absurd (let never = rw won at e in cc)
    by_win false none = (let is = rw none at e in (cc, sym (known_is tables p position many ∙ rw none refl)))

-- ---- what a probe returns

-- of a position in scope
pub known_answered : (tables : Tables) (p : Parts) (outside : Bool) (reading : Reading) (r : Result Wdl ProbeFault) → outside ≡ is_out_of_scope p → outside ≡ false → reading ≡ known_of tables p → r ≡ as_probe (λ v. v) reading → r ≡ known_answer tables p
known_answered tables p outside reading r is inside known e = rw (sym is ∙ inside) (e ∙ ap (as_probe (λ v. v)) known)

pub known_is_probe : (tables : Tables) (p : Parts) → IsKnownProbe tables p (known_answer tables p)
known_is_probe tables p = returned (is_out_of_scope p) (known_of tables p)
