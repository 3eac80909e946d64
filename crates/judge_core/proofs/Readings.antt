-- What one capture more gives.
use Rattle.std.proofs.Common.{◌≡◌, ◌∙◌, sym, ap, refl, ℕ, ◌-◌, ◌<◌, arith, cond, Bool, true, false, not, List, [], ◌∷◌, ◌++◌, Option, Some, None, option_map, filter, filter_map, fold, Result, Ok, Err}
use Rattle.std.specs.Result.{result_ok}
use Rattle.std.proofs.lemmas.List.{append_assoc, append-nil}
use Rattle.std.proofs.lemmas.List.Elements.{filter_map-append, filter-append}
use Rattle.std.proofs.lemmas.List.Sums.{fold-append}
use Rattle.board_core.specs.declared.parts.Parts.{Parts}
use Rattle.board_core.specs.declared.moves.Move.{Move}
use Rattle.board_core.specs.ComputedMoves.{position_after, is_legal, legal_captures, is_en_passant, is_later, captures_after}
use Rattle.board_core.specs.Moves.{place_of}
use Rattle.judge_core.specs.declared.wdl.Wdl.TheVariants.{Loss}
use Rattle.judge_core.specs.declared.fault.ValueFault.{ValueFault}
use Rattle.judge_core.specs.declared.fault.ValueFault.TheVariants.{NotCovered, Damaged}
use Rattle.judge_core.specs.declared.found.Found.{Found}
use Rattle.judge_core.specs.declared.found.CaptureSearch.{CaptureSearch}
use Rattle.judge_core.specs.Values.{Reading, opposite_reading, greater}
use Rattle.judge_core.specs.Tables.{Tables, table_value}
use Rattle.judge_core.specs.Asked.{faults_in, first_fault, unless}
use Rattle.judge_core.specs.Probing.{values_after, greatest_value, value_or_loss, is_forced, searched_by, searched_where}
use Rattle.judge_core.specs.declared.fault.Faults.{Faults}
use Rattle.judge_core.proofs.Asking.{asked-append, faults-append, faults_more}
use Rattle.judge_core.specs.Inside.Found.{lands_empty, found_by_captures, nothing_found, found_with, closed}
use Rattle.judge_core.proofs.Captures.{passants, others}

greatest-append : (xs ys : List Reading) → greatest_value (xs ++ ys) ≡ fold greater (greatest_value xs) (filter_map result_ok ys)
greatest-append xs ys = ap (fold greater Loss) (filter_map-append result_ok xs ys) ∙ fold-append greater Loss (filter_map result_ok xs) (filter_map result_ok ys)

-- the readings of the moves that pass a test, with one move more
more : (value : Parts → Reading) (p : Parts) (test : Move → Bool) (ms : List Move) (m : Move) → values_after value p (filter test (ms ++ m ∷ [])) ≡ values_after value p (filter test ms) ++ values_after value p (filter test (m ∷ []))
more value p test ms m = ap (values_after value p) (filter-append test ms (m ∷ [])) ∙ asked-append (λ q. opposite_reading (value q)) p (filter test ms) (filter test (m ∷ []))

-- what has been found, with this reading more where there is one
abbrev pub joined : Found → Option Reading → Bool → Found
joined f None passant = f
joined f (Some r) passant = found_with f r passant

module _ (value : Parts → Reading) (p : Parts) (ms : List Move) (m : Move) where
  abbrev pub reading : Option Reading
  reading = option_map (λ q. opposite_reading (value q)) (position_after p m)

  abbrev goes_to_man : Move → Bool
  goes_to_man x = not (lands_empty p x)

  -- the three parts, each with one move more
  parts : found_by_captures value p (ms ++ m ∷ []) ≡ record {
    faults = faults_more (faults_in (values_after value p ms)) (values_after value p (m ∷ []));
    capture = fold greater (greatest_value (values_after value p (filter goes_to_man ms))) (filter_map result_ok (values_after value p (filter goes_to_man (m ∷ []))));
    passant = fold greater (greatest_value (values_after value p (filter (lands_empty p) ms))) (filter_map result_ok (values_after value p (filter (lands_empty p) (m ∷ []))));
  }
  unfolding found_by_captures
  parts =
      let a = ap (λ (rs : List Reading). faults_in rs) (asked-append (λ q. opposite_reading (value q)) p ms (m ∷ [])) ∙ faults-append (values_after value p ms) (values_after value p (m ∷ [])) in
      let c = ap greatest_value (more value p goes_to_man ms m) ∙ greatest-append (values_after value p (filter goes_to_man ms)) (values_after value p (filter goes_to_man (m ∷ []))) in
      let d = ap greatest_value (more value p (lands_empty p) ms m) ∙ greatest-append (values_after value p (filter (lands_empty p) ms)) (values_after value p (filter (lands_empty p) (m ∷ []))) in
      cc

  by_case : (b : Bool) (o : Option Reading) → lands_empty p m ≡ b → reading ≡ o → found_by_captures value p (ms ++ m ∷ []) ≡ joined (found_by_captures value p ms) o b
  unfolding found_by_captures
  by_case true None eb eo = parts ∙ simp (eb, eo)
  by_case true (Some (Ok v)) eb eo = parts ∙ simp (eb, eo)
  by_case true (Some (Err (NotCovered k))) eb eo = parts ∙ simp (eb, eo)
  by_case true (Some (Err (Damaged k))) eb eo = parts ∙ simp (eb, eo)
  by_case false None eb eo = parts ∙ simp (eb, eo)
  by_case false (Some (Ok v)) eb eo = parts ∙ simp (eb, eo)
  by_case false (Some (Err (NotCovered k))) eb eo = parts ∙ simp (eb, eo)
  by_case false (Some (Err (Damaged k))) eb eo = parts ∙ simp (eb, eo)

  pub found-step : found_by_captures value p (ms ++ m ∷ []) ≡ joined (found_by_captures value p ms) reading (lands_empty p m)
  found-step = by_case (lands_empty p m) reading refl refl

pub found-nothing : (value : Parts → Reading) (p : Parts) → nothing_found ≡ found_by_captures value p []
unfolding found_by_captures
found-nothing value p = refl

-- ---- a walk over the captures

-- so much has been found up to the last capture, and what comes after it is still to come
pub record Walked (value : Parts → Reading) (p : Parts) (found : Found) (last : Option Move) : Type 0 where
  pub done : List Move
  pub so_far : found ≡ found_by_captures value p done
  pub whole : done ++ captures_after p last ≡ legal_captures p

pub all_come : (moves : List Move) → filter (is_later None) moves ≡ moves
all_come [] = refl
all_come (m ∷ moves) = ap (λ ms. m ∷ ms) (all_come moves)

pub walk-begins : (value : Parts → Reading) (p : Parts) (found : Found) → found ≡ nothing_found → Walked value p found None
unfolding captures_after
walk-begins value p found e = record {
  done = [];
  so_far = e ∙ found-nothing value p;
  whole = all_come (legal_captures p);
}

pub walk-goes_on : (value : Parts → Reading) (p q : Parts) (found found' : Found) (last : Option Move) (m : Move) (r : Reading) (passant : Bool) → Walked value p found last → captures_after p last ≡ m ∷ captures_after p (Some m)
    → position_after p m ≡ Some q → r ≡ opposite_reading (value q) → passant ≡ lands_empty p m → found' ≡ found_with found r passant → Walked value p found' (Some m)
walk-goes_on value p q found found' last m r passant w next e er ep g = record {
  done = w.done ++ m ∷ [];
  so_far = rw (found-step value p w.done m, e, ← w.so_far, ← er, ← ep) g;
  whole = append_assoc w.done (m ∷ []) (captures_after p (Some m)) ∙ ap (λ ms. w.done ++ ms) (sym next) ∙ w.whole;
}

-- a move that is no legal capture
pub walk-passes : (value : Parts → Reading) (p : Parts) (found : Found) (last : Option Move) (m : Move) → Walked value p found last → captures_after p last ≡ captures_after p (Some m) → Walked value p found (Some m)
walk-passes value p found last m w next = record {
  done = w.done;
  so_far = w.so_far;
  whole = ap (λ ms. w.done ++ ms) (sym next) ∙ w.whole;
}

-- the next move that may be a capture is one where it can be played
pub next_legal : (p q : Parts) (last : Option Move) (m : Move) → captures_after p last ≡ cond (is_legal p m) (m ∷ captures_after p (Some m)) (captures_after p (Some m)) → position_after p m ≡ Some q
    → captures_after p last ≡ m ∷ captures_after p (Some m)
next_legal p q last m next e = next ∙ rw e refl

pub next_illegal : (p : Parts) (last : Option Move) (m : Move) → captures_after p last ≡ cond (is_legal p m) (m ∷ captures_after p (Some m)) (captures_after p (Some m)) → position_after p m ≡ None
    → captures_after p last ≡ captures_after p (Some m)
next_illegal p last m next e = next ∙ rw e refl

-- how many moves may come after this one
abbrev pub moves_left : Option Move → ℕ
moves_left None = 20481
moves_left (Some m) = 20480 - place_of m

pub fewer_left : (last : Option Move) (m : Move) → ((l : Move) → last ≡ Some l → place_of l < place_of m) → place_of m < 20480 → moves_left (Some m) < moves_left last
fewer_left None m later below = omega (arith, below)
fewer_left (Some l) m later below = omega (arith, later l refl, below)

pub walk-ends : (value : Parts → Reading) (p : Parts) (found : Found) (last : Option Move) → Walked value p found last → captures_after p last ≡ [] → found ≡ found_by_captures value p (legal_captures p)
walk-ends value p found last w none = w.so_far ∙ ap (found_by_captures value p) (sym (append-nil w.done) ∙ ap (λ ms. w.done ++ ms) (sym none) ∙ w.whole)

-- a position without captures
pub no_captures : (value : Parts → Reading) (p : Parts) (found : Found) → found ≡ nothing_found → captures_after p None ≡ [] → found ≡ found_by_captures value p (legal_captures p)
no_captures value p found e none = walk-ends value p found None (walk-begins value p found e) none

pub with_own_where : (said : Parts → Reading) (value : Parts → Reading) (p : Parts) (found : Found) (own : Reading) (b : Bool) (w : Result CaptureSearch ValueFault) → found ≡ found_by_captures value p (legal_captures p) → own ≡ said p → b ≡ is_forced p → w ≡ closed found own b → w ≡ searched_where said value p
unfolding found_by_captures searched_where
with_own_where said value p found own b w f o i c =
    c ∙ rw (f, o, i, passants p, others p) (ap (λ (x : Faults). unless (first_fault x) (Ok (record {
      capture = greatest_value (values_after value p (filter (λ m. not (is_en_passant p m)) (legal_captures p)));
      passant = greatest_value (values_after value p (filter (is_en_passant p) (legal_captures p)));
      own = value_or_loss (said p);
      forced = is_forced p;
    }))) (sym (faults-append (values_after value p (legal_captures p)) (said p ∷ []))))

pub with_own : (tables : Tables) (value : Parts → Reading) (p : Parts) (found : Found) (own : Reading) (b : Bool) (w : Result CaptureSearch ValueFault) → found ≡ found_by_captures value p (legal_captures p) → own ≡ table_value tables p → b ≡ is_forced p → w ≡ closed found own b → w ≡ searched_by tables value p
unfolding searched_by
with_own tables value p found own b w f o i c = with_own_where (table_value tables) value p found own b w f o i c
