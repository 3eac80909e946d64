-- Answers of a set that stay the same with more tables, unless they miss one of these.
use Rattle.std.proofs.Common.{◌≡◌, ◌∙◌, sym, ap, subst, refl, ℕ, zero, suc, ◌<◌, nat_le, Bool, true, false, not, List, [], ◌∷◌, ◌++◌, Option, Some, None, option_map, filter, if◌then◌else◌, Result, Ok, Err}
use Rattle.std.specs.Option.{option_or, option_and_then}
use Rattle.std.specs.List.{cons_option}
use Rattle.board_core.specs.declared.parts.Parts.{Parts}
use Rattle.board_core.specs.declared.moves.Move.{Move}
use Rattle.board_core.specs.ComputedMoves.{position_after, legal_captures, is_en_passant, count_of_men}
use Rattle.table_file.specs.declared.kind.TableKind.{TableKind}
use Rattle.table_file.specs.declared.kind.TableKind.TheVariants.{Wdl}
use Rattle.table_file.specs.Tables.{Contents}
use Rattle.judge_core.specs.declared.wdl.Wdl.{Wdl as Value}
use Rattle.judge_core.specs.declared.wdl.Wdl.TheVariants.{Draw}
use Rattle.judge_core.specs.declared.fault.ValueFault.{ValueFault}
use Rattle.judge_core.specs.declared.fault.ValueFault.TheVariants.{NotCovered, Damaged}
use Rattle.judge_core.specs.declared.found.CaptureSearch.{CaptureSearch}
use Rattle.judge_core.specs.Values.{Reading, opposite_reading, of_points}
use Rattle.judge_core.specs.LookUp.{material_of, placed_of}
use Rattle.judge_core.specs.Tables.{Tables, table_at, table_value, value_of, value_in, value_or_damaged, entry_in}
use Rattle.judge_core.specs.Asked.{asked, first, not_covered, damaged, missing_or_damaged, fault_in, unless}
use Rattle.judge_core.specs.Probing.{values_after, greatest_value, value_or_loss, is_forced, searched_where, wdl_from_search, wdl_to, wdl_where, wdl_of, worth_in}
use Rattle.judge_core.specs.MoreTables.{HasAll}
use Rattle.judge_core.proofs.TwoSteps.{known_key}

-- ---- under the condition that a table is still missing

-- kinds of tables that an answer may miss
abbrev pub OnlyWdl : TableKind → Type 0
OnlyWdl kind = kind ≡ Wdl

abbrev pub Either : TableKind → Type 0
Either kind = Unit {0}

-- the set lacks a table, and each set with more tables that lacks it too meets this claim
pub record Lacks (tables : Tables) (Kinds : TableKind → Type 0) (key : ℕ) (Claim : Tables → Type 0) : Type 0 where
  pub kind : TableKind
  pub asked : Kinds kind
  pub known : key < 145
  pub lacks : table_at tables kind key ≡ None
  pub stays : (more : Tables) → HasAll tables more → table_at more kind key ≡ None → Claim more

-- each set with more tables meets this claim, unless it has what is missing
abbrev pub Under : Tables → (TableKind → Type 0) → Option ℕ → (Tables → Type 0) → Type 0
Under tables Kinds None Claim = (more : Tables) → HasAll tables more → Claim more
Under tables Kinds (Some key) Claim = Lacks tables Kinds key Claim

-- an answer that each set with more tables gives, unless it has what is missing
abbrev pub IsFirm : Tables → (TableKind → Type 0) → {X : Type 0} → (Tables → Result X ValueFault) → Type 0
IsFirm tables Kinds answer = Under tables Kinds (not_covered (answer tables)) (λ more. answer more ≡ answer tables)

module _ (tables : Tables) (Kinds : TableKind → Type 0) where
  pub under_map : (o : Option ℕ) (A B : Tables → Type 0) → ((more : Tables) → A more → B more) → Under tables Kinds o A → Under tables Kinds o B
  under_map None A B f h = λ more all. f more (h more all)
  under_map (Some key) A B f h = record {
    kind = h.kind;
    asked = h.asked;
    known = h.known;
    lacks = h.lacks;
    stays = λ more all none. f more (h.stays more all none);
  }

  pub under_both : (o : Option ℕ) (A B : Tables → Type 0) → Under tables Kinds None A → Under tables Kinds o B → Under tables Kinds o (λ more. A more × B more)
  under_both None A B a b = λ more all. (a more all, b more all)
  under_both (Some key) A B a b = record {
    kind = b.kind;
    asked = b.asked;
    known = b.known;
    lacks = b.lacks;
    stays = λ more all none. (a more all, b.stays more all none);
  }

  pub firm_same : {X : Type 0} (a b : Tables → Result X ValueFault) → ((t : Tables) → a t ≡ b t) → IsFirm tables Kinds a → IsFirm tables Kinds b
  firm_same a b e h =
      subst (λ r. Under tables Kinds (not_covered r) (λ more. b more ≡ r)) (e tables) (under_map (not_covered (a tables)) (λ more. a more ≡ a tables) (λ more. b more ≡ a tables) (λ more same. sym (e more) ∙ same) h)

  pub firm_const : {X : Type 0} (r : Result X ValueFault) → not_covered r ≡ None → IsFirm tables Kinds (λ t. r)
  firm_const r e = subst (λ o. Under tables Kinds o (λ more. r ≡ r)) (sym e) (λ more all. refl)

  pub firm_map : {X Y : Type 0} (f : Result X ValueFault → Result Y ValueFault) (a : Tables → Result X ValueFault) → not_covered (f (a tables)) ≡ not_covered (a tables) → IsFirm tables Kinds a → IsFirm tables Kinds (λ t. f (a t))
  firm_map f a e h =
      subst (λ o. Under tables Kinds o (λ more. f (a more) ≡ f (a tables))) (sym e) (under_map (not_covered (a tables)) (λ more. a more ≡ a tables) (λ more. f (a more) ≡ f (a tables)) (λ more same. ap f same) h)

  -- an answer by another one, whose fault is its fault
  pub firm_bind : {X Y : Type 0} (f : Tables → Result X ValueFault → Result Y ValueFault) (a : Tables → Result X ValueFault) → ((t : Tables) (fault : ValueFault) → f t (Err fault) ≡ Err fault) → ((x : X) → IsFirm tables Kinds (λ t. f t (Ok x)))
      → IsFirm tables Kinds a → IsFirm tables Kinds (λ t. f t (a t))
  firm_bind {X = X} f a errs oks h = by_answer (a tables) h
    where
      by_answer : (r : Result X ValueFault) → Under tables Kinds (not_covered r) (λ more. a more ≡ r) → Under tables Kinds (not_covered (f tables r)) (λ more. f more (a more) ≡ f tables r)
      by_answer (Ok x) h =
          under_map (not_covered (f tables (Ok x))) (λ more. (a more ≡ Ok x) × (f more (Ok x) ≡ f tables (Ok x))) (λ more. f more (a more) ≡ f tables (Ok x)) (λ more both. ap (f more) both.0 ∙ both.1)
          (under_both (not_covered (f tables (Ok x))) (λ more. a more ≡ Ok x) (λ more. f more (Ok x) ≡ f tables (Ok x)) h (oks x))
      by_answer (Err fault) h =
          subst (λ r. Under tables Kinds (not_covered r) (λ more. f more (a more) ≡ r)) (sym (errs tables fault))
          (under_map (not_covered {X = X} (Err fault)) (λ more. a more ≡ Err fault) (λ more. f more (a more) ≡ Err fault) (λ more same. ap (f more) same ∙ errs more fault) h)

  -- ---- lists of answers

  -- the first answer that misses a table, and whether there is a fault
  pub unless_missing : {X Y : Type 0} (rs : List (Result X ValueFault)) (x : Result Y ValueFault) (key : ℕ) → first not_covered rs ≡ Some key → unless (fault_in rs) x ≡ Err (NotCovered key)
  unless_missing rs x key e = rw e refl

  unless_whole : {X Y : Type 0} (rs : List (Result X ValueFault)) (x : Result Y ValueFault) → first not_covered rs ≡ None → not_covered x ≡ None → not_covered (unless (fault_in rs) x) ≡ None
  unless_whole rs x e none = rw e (by_damage (first damaged rs))
    where
      by_damage : (o : Option ℕ) → not_covered (unless (missing_or_damaged None o) x) ≡ None
      by_damage None = none
      by_damage (Some key) = refl

  module _ {X : Type 0} (say : Tables → Parts → Result X ValueFault) (firm : (q : Parts) → IsFirm tables Kinds (λ t. say t q)) (p : Parts) (tail : Tables → List (Result X ValueFault)) where
    -- the answers after these moves are the same
    abbrev pub AgreeOn : Tables → List Move → Type 0
    AgreeOn more [] = Unit {0}
    AgreeOn more (m ∷ ms) = (option_map (say more) (position_after p m) ≡ option_map (say tables) (position_after p m)) × AgreeOn more ms

    pub agreed_all : (more : Tables) (ms : List Move) → AgreeOn more ms → asked (say more) p ms ≡ asked (say tables) p ms
    agreed_all more [] h = refl
    agreed_all more (m ∷ ms) h = rw (h.0, agreed_all more ms h.1) refl

    pub agreed_some : (more : Tables) (test : Move → Bool) (ms : List Move) → AgreeOn more ms → asked (say more) p (filter test ms) ≡ asked (say tables) p (filter test ms)
    agreed_some more test [] h = refl
    agreed_some more test (m ∷ ms) h = by_test (test m) refl (agreed_some more test ms h.1)
      where
        by_test : (b : Bool) → test m ≡ b → asked (say more) p (filter test ms) ≡ asked (say tables) p (filter test ms) → asked (say more) p (filter test (m ∷ ms)) ≡ asked (say tables) p (filter test (m ∷ ms))
        by_test true e rest = rw (e, h.0, rest) refl
        by_test false e rest = rw e rest

    -- all answers are the same, or the first one that misses a table is
    abbrev pub Same : Option ℕ → List Move → Tables → Type 0
    Same None ms more = AgreeOn more ms × (tail more ≡ tail tables)
    Same (Some key) ms more = first not_covered (asked (say more) p ms ++ tail more) ≡ Some key

    abbrev pub list_of : Tables → List Move → List (Result X ValueFault)
    list_of t ms = asked (say t) p ms ++ tail t

    abbrev pub IsListFirm : List Move → Type 0
    IsListFirm ms = Under tables Kinds (first not_covered (list_of tables ms)) (Same (first not_covered (list_of tables ms)) ms)

    -- the same of a move and of those behind it, where this is the position after the move
    abbrev SameFrom : Option Parts → Option ℕ → List Move → Tables → Type 0
    SameFrom o None ms more = ((option_map (say more) o ≡ option_map (say tables) o) × AgreeOn more ms) × (tail more ≡ tail tables)
    SameFrom o (Some key) ms more = first not_covered (cons_option (option_map (say more) o) (asked (say more) p ms) ++ tail more) ≡ Some key

    abbrev IsFirmFrom : Option Parts → List Move → Type 0
    IsFirmFrom o ms =
        Under tables Kinds (first not_covered (cons_option (option_map (say tables) o) (asked (say tables) p ms) ++ tail tables)) (SameFrom o (first not_covered (cons_option (option_map (say tables) o) (asked (say tables) p ms) ++ tail tables)) ms)

    skipped : (ms : List Move) (i : Option ℕ) (more : Tables) → Same i ms more → SameFrom None i ms more
    skipped ms None more s = ((refl, s.0), s.1)
    skipped ms (Some key) more s = s

    joined : (q : Parts) (ms : List Move) → not_covered (say tables q) ≡ None → (i : Option ℕ) (more : Tables) → (say more q ≡ say tables q) × Same i ms more → SameFrom (Some q) i ms more
    joined q ms e None more both = ((ap (λ (r : Result X ValueFault). Some r) both.0, both.1.0), both.1.1)
    joined q ms e (Some key) more both = rw (both.0, e) both.1

    from_head : (q : Parts) (ms : List Move) → IsListFirm ms → (c : Option ℕ) → not_covered (say tables q) ≡ c → Under tables Kinds c (λ more. say more q ≡ say tables q)
        → Under tables Kinds (option_or c (first not_covered (list_of tables ms))) (SameFrom (Some q) (option_or c (first not_covered (list_of tables ms))) ms)
    from_head q ms rest None e h =
        let i = first not_covered (list_of tables ms) in
        under_map i (λ more. (say more q ≡ say tables q) × Same i ms more) (SameFrom (Some q) i ms) (joined q ms e i) (under_both i (λ more. say more q ≡ say tables q) (Same i ms) h rest)
    from_head q ms rest (Some key) e h = under_map (Some key) (λ more. say more q ≡ say tables q) (SameFrom (Some q) (Some key) ms) (λ more same. rw (same, e) refl) h

    from_move : (o : Option Parts) (ms : List Move) → IsListFirm ms → IsFirmFrom o ms
    from_move None ms rest = (let i = first not_covered (list_of tables ms) in under_map i (Same i ms) (SameFrom None i ms) (skipped ms i) rest)
    from_move (Some q) ms rest = from_head q ms rest (not_covered (say tables q)) refl (firm q)

    longer : (m : Move) (ms : List Move) (i : Option ℕ) (more : Tables) → SameFrom (position_after p m) i ms more → Same i (m ∷ ms) more
    longer m ms None more s = s
    longer m ms (Some key) more s = s

    pub list_firm : IsListFirm [] → (ms : List Move) → IsListFirm ms
    list_firm none [] = none
    list_firm none (m ∷ ms) =
        let i = first not_covered (list_of tables (m ∷ ms)) in
        under_map i (SameFrom (position_after p m) i ms) (Same i (m ∷ ms)) (longer m ms i) (from_move (position_after p m) ms (list_firm none ms))

    -- the first fault of the list, or what is made of it
    pub firm_unless : {Y : Type 0} (ms : List Move) (x : Tables → Result Y ValueFault) → IsListFirm ms → not_covered (x tables) ≡ None → ((more : Tables) → AgreeOn more ms → tail more ≡ tail tables → x more ≡ x tables)
        → IsFirm tables Kinds (λ t. unless (fault_in (list_of t ms)) (x t))
    firm_unless ms x h none same = by_first (first not_covered (list_of tables ms)) refl h
      where
        by_first : (i : Option ℕ) → first not_covered (list_of tables ms) ≡ i → Under tables Kinds i (Same i ms) → IsFirm tables Kinds (λ t. unless (fault_in (list_of t ms)) (x t))
        by_first None e h =
            subst (λ o. Under tables Kinds o (λ more. unless (fault_in (list_of more ms)) (x more) ≡ unless (fault_in (list_of tables ms)) (x tables))) (sym (unless_whole (list_of tables ms) (x tables) e none))
            (λ more all. (let s = h more all in rw (agreed_all more ms s.0, s.1, same more s.0 s.1) refl))
        by_first (Some key) e h =
            subst (λ r. Under tables Kinds (not_covered r) (λ more. unless (fault_in (list_of more ms)) (x more) ≡ r)) (sym (unless_missing (list_of tables ms) (x tables) key e))
            (under_map (Some key) (Same (Some key) ms) (λ more. unless (fault_in (list_of more ms)) (x more) ≡ Err (NotCovered key)) (λ more s. unless_missing (list_of more ms) (x more) key s) h)

-- ---- values

not_missed : (key : ℕ) (o : Option Value) → not_covered (value_or_damaged key o) ≡ None
not_missed key None = refl
not_missed key (Some v) = refl

pub turned : (r : Reading) → not_covered (opposite_reading r) ≡ not_covered r
turned (Ok v) = refl
turned (Err (NotCovered key)) = refl
turned (Err (Damaged key)) = refl

pub worth_kept : (w : Result CaptureSearch ValueFault) → not_covered (worth_in w) ≡ not_covered w
worth_kept (Ok w) = refl
worth_kept (Err (NotCovered key)) = refl
worth_kept (Err (Damaged key)) = refl

module _ (tables : Tables) where
  -- what an own table says
  pub own_firm : (p : Parts) → IsFirm tables OnlyWdl (λ t. table_value t p)
  unfolding table_value
  own_firm p = by_key (material_of p) refl
    where
      by_table : (key : ℕ) → key < 145 → (o : Option Contents) → table_at tables Wdl key ≡ o → IsFirm tables OnlyWdl (λ t. value_in (table_at t Wdl key) key p)
      by_table key known None e =
          subst (λ (o : Option Contents). Under tables OnlyWdl (not_covered (value_in o key p)) (λ more. value_in (table_at more Wdl key) key p ≡ value_in o key p)) (sym e) (record {
            kind = Wdl;
            asked = refl;
            known = known;
            lacks = e;
            stays = λ more all none. rw none refl;
          })
      by_table key known (Some t) e =
          subst (λ (o : Option Contents). Under tables OnlyWdl (not_covered (value_in o key p)) (λ more. value_in (table_at more Wdl key) key p ≡ value_in o key p)) (sym e)
          (subst (λ o. Under tables OnlyWdl o (λ more. value_in (table_at more Wdl key) key p ≡ value_in (Some t) key p)) (sym (not_missed key (option_and_then of_points (entry_in t (placed_of key p))))) (λ more all. rw (all Wdl key t e) refl))

      by_key : (o : Option ℕ) → material_of p ≡ o → IsFirm tables OnlyWdl (λ t. value_of t o p)
      by_key None e = λ more all. refl
      by_key (Some key) e = by_table key (known_key p key e) (table_at tables Wdl key) refl

  -- what is searched, by the values after captures and by the own table's
  module _ (Kinds : TableKind → Type 0) (own value : Tables → Parts → Reading) (p : Parts) (values : (q : Parts) → IsFirm tables Kinds (λ t. value t q)) (owns : IsFirm tables Kinds (λ t. own t p)) where
    abbrev after : Tables → Parts → Reading
    after t q = opposite_reading (value t q)

    after_firm : (q : Parts) → IsFirm tables Kinds (λ t. after t q)
    after_firm q = firm_map tables Kinds opposite_reading (λ t. value t q) (turned (value tables q)) (values q)

    abbrev own_last : Tables → List Reading
    own_last t = own t p ∷ []

    abbrev found : Tables → CaptureSearch
    found t = record {
      capture = greatest_value (values_after (value t) p (filter (λ m. not (is_en_passant p m)) (legal_captures p)));
      passant = greatest_value (values_after (value t) p (filter (is_en_passant p) (legal_captures p)));
      own = value_or_loss (own t p);
      forced = is_forced p;
    }

    own_alone : IsListFirm tables Kinds after after_firm p own_last []
    own_alone = by_own (not_covered (own tables p)) refl owns
      where
        by_own : (c : Option ℕ) → not_covered (own tables p) ≡ c → Under tables Kinds c (λ more. own more p ≡ own tables p) → Under tables Kinds (option_or c None) (Same tables Kinds after after_firm p own_last (option_or c None) [])
        by_own None e h = λ more all. (tt, ap (λ (r : Reading). r ∷ []) (h more all))
        by_own (Some key) e h = under_map tables Kinds (Some key) (λ more. own more p ≡ own tables p) (Same tables Kinds after after_firm p own_last (Some key) []) (λ more same. rw (same, e) refl) h

    found_same : (more : Tables) → AgreeOn tables Kinds after after_firm p own_last more (legal_captures p) → own_last more ≡ own_last tables → found more ≡ found tables
    found_same more agree last =
        let own_same : own more p ≡ own tables p = cc in
        rw (
          agreed_some tables Kinds after after_firm p own_last more (λ m. not (is_en_passant p m)) (legal_captures p) agree,
          agreed_some tables Kinds after after_firm p own_last more (is_en_passant p) (legal_captures p) agree,
          own_same,
        ) refl

    pub searched_firm : IsFirm tables Kinds (λ t. searched_where (own t) (value t) p)
    unfolding searched_where
    searched_firm =
        firm_unless tables Kinds after after_firm p own_last (legal_captures p) (λ t. Ok (found t)) (list_firm tables Kinds after after_firm p own_last own_alone (legal_captures p)) refl
        (λ more agree last. ap (λ (w : CaptureSearch). Ok w) (found_same more agree last))

    pub value_firm : IsFirm tables Kinds (λ t. wdl_from_search p (searched_where (own t) (value t) p))
    value_firm = by_men (nat_le (count_of_men p) 2)
      where
        by_men : (b : Bool) → IsFirm tables Kinds (λ t. if b then Ok Draw else worth_in (searched_where (own t) (value t) p))
        by_men true = λ more all. refl
        by_men false = firm_map tables Kinds worth_in (λ t. searched_where (own t) (value t) p) (worth_kept (searched_where (own tables) (value tables) p)) searched_firm

  value_to_firm : (n : ℕ) (p : Parts) → IsFirm tables OnlyWdl (λ t. wdl_to (table_value t) n p)
  unfolding wdl_to
  value_to_firm zero p = λ more all. refl
  value_to_firm (suc n) p = value_firm OnlyWdl (λ t. table_value t) (λ t. wdl_to (table_value t) n) p (value_to_firm n) (own_firm p)

  pub wdl_firm : (p : Parts) → IsFirm tables OnlyWdl (λ t. wdl_of t p)
  unfolding wdl_of wdl_where
  wdl_firm p = value_to_firm (count_of_men p) p
