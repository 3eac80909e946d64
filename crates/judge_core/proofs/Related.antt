-- Values that come from related ones are related: from those of own tables, and of the positions after captures.
use Rattle.std.proofs.Common.{◌≡◌, ◌∙◌, sym, ap, refl, nat_le, Bool, true, false, not, List, [], ◌∷◌, ◌++◌, Option, Some, None, Result, Ok, Err, filter, filter_map, fold, cond}
use Rattle.std.specs.Result.{result_ok}
use Rattle.board_core.specs.declared.parts.Parts.{Parts}
use Rattle.board_core.specs.declared.moves.Move.{Move}
use Rattle.board_core.specs.ComputedMoves.{position_after, legal_moves, is_capture, is_en_passant, count_of_men}
use Rattle.judge_core.specs.declared.fault.Faults.{Faults}
use Rattle.judge_core.specs.declared.fault.ValueFault.{ValueFault}
use Rattle.judge_core.specs.declared.fault.ValueFault.TheVariants.{NotCovered, Damaged}
use Rattle.judge_core.specs.declared.found.CaptureSearch.{CaptureSearch}
use Rattle.judge_core.specs.declared.wdl.Wdl.{Wdl}
use Rattle.judge_core.specs.declared.wdl.Wdl.TheVariants.{Loss, Draw}
use Rattle.judge_core.specs.Values.{Reading, greater, opposite_reading}
use Rattle.judge_core.specs.Asked.{faults_in, first_fault, unless}
use Rattle.judge_core.specs.Probing.{values_after, value_or_loss, searched_where, worth, worth_in, wdl_from_search}

-- what is searched is related
pub record Searches (R : Wdl → Wdl → Type 0) (a b : CaptureSearch) : Type 0 where
  pub capture : R a.capture b.capture
  pub passant : R a.passant b.passant
  pub own : R a.own b.own
  pub forced : a.forced ≡ b.forced

module _ (R : Wdl → Wdl → Type 0) where
  -- both values are related, or both are the same fault
  abbrev pub Readings : Reading → Reading → Type 0
  Readings (Ok u) (Ok v) = R u v
  Readings (Ok u) (Err fault) = ⊥
  Readings (Err fault) (Ok v) = ⊥
  Readings (Err fault) (Err other) = fault ≡ other

  abbrev Lists : List Reading → List Reading → Type 0
  Lists [] [] = Unit {0}
  Lists [] (s ∷ ss) = ⊥
  Lists (r ∷ rs) [] = ⊥
  Lists (r ∷ rs) (s ∷ ss) = Readings r s × Lists rs ss

  abbrev pub Searched : Result CaptureSearch ValueFault → Result CaptureSearch ValueFault → Type 0
  Searched (Ok a) (Ok b) = Searches R a b
  Searched (Ok a) (Err fault) = ⊥
  Searched (Err fault) (Ok b) = ⊥
  Searched (Err fault) (Err other) = fault ≡ other

  append : (rs ss : List Reading) (r s : Reading) → Lists rs ss → Readings r s → Lists (rs ++ r ∷ []) (ss ++ s ∷ [])
  append [] [] r s h last = (last, tt)
  append [] (y ∷ ss) r s h last = absurd h
  append (x ∷ rs) [] r s h last = absurd h
  append (x ∷ rs) (y ∷ ss) r s h last = (h.0, append rs ss r s h.1 last)

  same_faults : (rs ss : List Reading) → Lists rs ss → faults_in rs ≡ faults_in ss
  same_faults [] [] h = refl
  same_faults [] (s ∷ ss) h = absurd h
  same_faults (r ∷ rs) [] h = absurd h
  same_faults (Ok u ∷ rs) (Ok v ∷ ss) h = same_faults rs ss h.1
  same_faults (Ok u ∷ rs) (Err fault ∷ ss) h = absurd (h.0)
  same_faults (Err fault ∷ rs) (Ok v ∷ ss) h = absurd (h.0)
  same_faults (Err fault ∷ rs) (Err other ∷ ss) h = (let rest = same_faults rs ss h.1 in with_head fault other h.0 rest)
    where
      with_head : (fault other : ValueFault) → fault ≡ other → faults_in rs ≡ faults_in ss → faults_in (Err fault ∷ rs) ≡ faults_in (Err other ∷ ss)
      with_head (NotCovered k) other e rest = rw (← e) (ap (λ (f : Faults). record { not_covered = Some k; damaged = f.damaged }) rest)
      with_head (Damaged k) other e rest = rw (← e) (ap (λ (f : Faults). record { not_covered = f.not_covered; damaged = Some k }) rest)

  unless_both : (f g : Option ValueFault) (a b : CaptureSearch) → f ≡ g → Searches R a b → Searched (unless f (Ok a)) (unless g (Ok b))
  unless_both None None a b e h = h
  unless_both None (Some x) a b e h = cc
  unless_both (Some x) None a b e h = cc
  unless_both (Some x) (Some y) a b e h = (let same : x ≡ y = cc in same)

  -- the positions after captures
  module _ (f g : Parts → Reading) (p : Parts) (h : (m : Move) (q : Parts) → is_capture p m ≡ true → position_after p m ≡ Some q → Readings (opposite_reading (f q)) (opposite_reading (g q))) where
    one : (m : Move) (o : Option Parts) → is_capture p m ≡ true → position_after p m ≡ o → (ms : List Move) → Lists (values_after f p ms) (values_after g p ms) → Lists (values_after f p (m ∷ ms)) (values_after g p (m ∷ ms))
    one m None c e ms rest = rw e rest
    one m (Some q) c e ms rest = rw e (h m q c e, rest)

    all : (ms : List Move) → Lists (values_after f p (filter (is_capture p) ms)) (values_after g p (filter (is_capture p) ms))
    all [] = tt
    all (m ∷ ms) = step (all ms) (is_capture p m) refl
      where
        step : Lists (values_after f p (filter (is_capture p) ms)) (values_after g p (filter (is_capture p) ms)) → (b : Bool) → is_capture p m ≡ b → Lists (values_after f p (filter (is_capture p) (m ∷ ms))) (values_after g p (filter (is_capture p) (m ∷ ms)))
        step rest true e = rw e (one m (position_after p m) e refl (filter (is_capture p) ms) rest)
        step rest false e = rw e rest

    some : (test : Move → Bool) (ms : List Move) → Lists (values_after f p (filter test (filter (is_capture p) ms))) (values_after g p (filter test (filter (is_capture p) ms)))
    some test [] = tt
    some test (m ∷ ms) = step (some test ms) (is_capture p m) (test m) refl refl
      where
        step : Lists (values_after f p (filter test (filter (is_capture p) ms))) (values_after g p (filter test (filter (is_capture p) ms))) → (b t : Bool) → is_capture p m ≡ b → test m ≡ t → Lists (values_after f p (filter test (filter (is_capture p) (m ∷ ms)))) (values_after g p (filter test (filter (is_capture p) (m ∷ ms))))
        step rest true true e et = rw (e, et) (one m (position_after p m) e refl (filter test (filter (is_capture p) ms)) rest)
        step rest true false e et = rw (e, et) rest
        step rest false t e et = rw e rest

  module _ (same : (v : Wdl) → R v v) (greater_too : (a b c d : Wdl) → R a c → R b d → R (greater a b) (greater c d)) where
    or_loss : (r s : Reading) → Readings r s → R (value_or_loss r) (value_or_loss s)
    or_loss (Ok u) (Ok v) h = h
    or_loss (Ok u) (Err fault) h = absurd h
    or_loss (Err fault) (Ok v) h = absurd h
    or_loss (Err fault) (Err other) h = same Loss

    greatest : (rs ss : List Reading) (a b : Wdl) → Lists rs ss → R a b → R (fold greater a (filter_map result_ok rs)) (fold greater b (filter_map result_ok ss))
    greatest [] [] a b h le = le
    greatest [] (s ∷ ss) a b h le = absurd h
    greatest (r ∷ rs) [] a b h le = absurd h
    greatest (Ok u ∷ rs) (Ok v ∷ ss) a b h le = greatest rs ss (greater a u) (greater b v) h.1 (greater_too a u b v le h.0)
    greatest (Ok u ∷ rs) (Err fault ∷ ss) a b h le = absurd (h.0)
    greatest (Err fault ∷ rs) (Ok v ∷ ss) a b h le = absurd (h.0)
    greatest (Err fault ∷ rs) (Err other ∷ ss) a b h le = greatest rs ss a b h.1 le

    -- what is searched, by the own tables and by the values after captures
    pub searched : (f g : Parts → Reading) (p : Parts) → ((m : Move) (q : Parts) → is_capture p m ≡ true → position_after p m ≡ Some q → Readings (opposite_reading (f q)) (opposite_reading (g q))) → (own own' : Parts → Reading) → Readings (own p) (own' p)
        → Searched (searched_where own f p) (searched_where own' g p)
    unfolding searched_where
    searched f g p h own own' here =
        unless_both _ _ _ _ (ap first_fault (same_faults _ _ (append _ _ (own p) (own' p) (all f g p h (legal_moves p)) here)))
        (record {
          capture = greatest _ _ Loss Loss (some f g p h (λ m. not (is_en_passant p m)) (legal_moves p)) (same Loss);
          passant = greatest _ _ Loss Loss (some f g p h (is_en_passant p) (legal_moves p)) (same Loss);
          own = or_loss (own p) (own' p) here;
          forced = refl;
        })

    pub worth_too : (a b : CaptureSearch) → Searches R a b → R (worth a) (worth b)
    worth_too a b h = step a.forced refl
      where
        step : (t : Bool) → a.forced ≡ t → R (worth a) (worth b)
        step true e = rw (e, sym h.forced ∙ e) h.passant
        step false e = rw (e, sym h.forced ∙ e) (greater_too _ _ _ _ (greater_too _ _ _ _ h.capture h.passant) h.own)

    pub value_too : (p : Parts) (a b : Result CaptureSearch ValueFault) → Searched a b → Readings (wdl_from_search p a) (wdl_from_search p b)
    value_too p a b h = step (nat_le (count_of_men p) 2)
      where
        searched_worth : (a b : Result CaptureSearch ValueFault) → Searched a b → Readings (worth_in a) (worth_in b)
        searched_worth (Ok a) (Ok b) h = worth_too a b h
        searched_worth (Ok a) (Err fault) h = absurd h
        searched_worth (Err fault) (Ok b) h = absurd h
        searched_worth (Err fault) (Err other) h = h

        step : (t : Bool) → Readings (cond t (Ok Draw) (worth_in a)) (cond t (Ok Draw) (worth_in b))
        step true = same Draw
        step false = searched_worth a b h
