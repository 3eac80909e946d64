-- A set that has more tables answers the same, but where the first set misses a table that it has.
use Rattle.std.proofs.Common.{◌≡◌, ◌≢◌, ◌∙◌, sym, ap, subst, refl, ℕ, Bool, true, false, List, [], ◌∷◌, All, Option, Some, None, option_map, filter_map, if◌then◌else◌, inl, inr, Result, Ok, Err}
use Rattle.std.specs.Prelude.{ℤ, IsFalse}
use Rattle.std.specs.List.{AllZip, Contains, cons_option}
use Rattle.std.specs.List.Sorted.{IsPermutation, IsStableByKey}
use Rattle.std.proofs.lemmas.Bool.{false≢true}
use Rattle.std.proofs.lemmas.List.Elements.{All-head, All-tail, All-weaker, All-contains, All-contains_itself}
use Rattle.std.proofs.lemmas.List.Sorted.{Contains-permutation}
use Rattle.board_core.specs.declared.parts.Parts.{Parts}
use Rattle.board_core.specs.declared.moves.Move.{Move}
use Rattle.board_core.specs.ComputedMoves.{position_after, legal_moves}
use Rattle.table_file.specs.declared.kind.TableKind.{TableKind}
use Rattle.table_file.specs.declared.kind.TableKind.TheVariants.{Wdl}
use Rattle.judge_core.specs.declared.wdl.Wdl.{Wdl as Value}
use Rattle.judge_core.specs.declared.wdl.Wdl.TheVariants.{Loss, BlessedLoss, Draw, CursedWin, Win}
use Rattle.judge_core.specs.declared.distance.Distance.TheVariants.{Win as WonIn}
use Rattle.judge_core.specs.declared.fault.ValueFault.{ValueFault}
use Rattle.judge_core.specs.declared.fault.ValueFault.TheVariants as value
use Rattle.judge_core.specs.declared.fault.ProbeFault.{ProbeFault}
use Rattle.judge_core.specs.declared.fault.ProbeFault.TheVariants.{OutOfScope, NotCovered, Damaged, OutOfMemory}
use Rattle.judge_core.specs.declared.probe_result.ProbeResult.{ProbeResult}
use Rattle.judge_core.specs.declared.root_move.BoardState.{BoardState}
use Rattle.judge_core.specs.declared.root_move.RootMove.{RootMove}
use Rattle.judge_core.specs.Values.{Reading, opposite_reading}
use Rattle.judge_core.specs.Tables.{Tables, table_at}
use Rattle.judge_core.specs.Asked.{not_covered}
use Rattle.judge_core.specs.Probing.{wdl_of}
use Rattle.board_core.specs.Ends.{has_no_move}
use Rattle.judge_core.specs.Distances.{Reach, dtz_of}
use Rattle.judge_core.specs.Answers.{IsProbe, IsDecisive, signed_in}
use Rattle.judge_core.specs.ProbeResult.{IsProbed, numbered}
use Rattle.judge_core.specs.Root.{IsRoot, is_checkmate, value_before, zeroed, reach_one_ply_before, reach_before, effect_of, state_of, zeroes_clock, root_move_by, root_move_at, root_moves_by, root_moves, move_rank, rank_cmp}
use Rattle.judge_core.specs.Ruling.{is_out_of_scope, end_of, ruling, ruling_by}
use Rattle.judge_core.specs.MoreTables.{HasAll, missed, IsFinalValue, IsFinalDistance, IsFinalRuling, IsFinalMove, IsSameMove, MoreTablesAnswerTheSame, IsMissing, WhatIsMissingStaysMissing}
use Rattle.judge_core.proofs.Firm.{OnlyWdl, Either, Under, IsFirm, firm_map, turned, wdl_firm}
use Rattle.judge_core.proofs.FirmDistances.{after_firm, dtz_firm}

-- ---- probes

signed_kept : (d : Reach) → not_covered (signed_in d) ≡ not_covered d
signed_kept (Ok d) = refl
signed_kept (Err (value.NotCovered key)) = refl
signed_kept (Err (value.Damaged key)) = refl

numbered_kept : (r : Result Value ProbeFault) → missed (numbered r) ≡ missed r
numbered_kept (Ok v) = refl
numbered_kept (Err OutOfScope) = refl
numbered_kept (Err (NotCovered key)) = refl
numbered_kept (Err (Damaged key)) = refl
numbered_kept (Err OutOfMemory) = refl

-- a probe that returns one reading returns another one that is the same where it is final
probe_same : {X : Type 0} (Final : Option ℕ → Type 0) (r : Result X ProbeFault) (outside : Bool) (a b : Result X ValueFault) → (Final (not_covered a) → b ≡ a) → IsProbe r outside a → Final (missed r) → IsProbe r outside b
probe_same Final (Ok x) outside a b same h f = (h.0, same (subst (λ s. Final (not_covered s)) (sym h.1) f) ∙ h.1)
probe_same Final (Err OutOfScope) outside a b same h f = h
probe_same Final (Err (NotCovered key)) outside a b same h f = (h.0, same (subst (λ s. Final (not_covered s)) (sym h.1) f) ∙ h.1)
probe_same Final (Err (Damaged key)) outside a b same h f = (h.0, same (subst (λ s. Final (not_covered s)) (sym h.1) f) ∙ h.1)
probe_same Final (Err OutOfMemory) outside a b same h f = h

-- in scope it misses what the reading misses
probe_misses : {X : Type 0} (r : Result X ProbeFault) (outside : Bool) (a : Result X ValueFault) → outside ≡ false → r ≢ Err OutOfMemory → IsProbe r outside a → not_covered a ≡ missed r
probe_misses (Ok x) outside a scope memory h = ap not_covered h.1
probe_misses (Err OutOfScope) outside a scope memory h = absurd (false≢true (sym scope ∙ h))
probe_misses (Err (NotCovered key)) outside a scope memory h = ap not_covered h.1
probe_misses (Err (Damaged key)) outside a scope memory h = ap not_covered h.1
probe_misses (Err OutOfMemory) outside a scope memory h = absurd (memory refl)

-- ---- rulings

-- a ruling looks at the distance of a win or a loss alone
ruling_same : (p : Parts) (r : Reading) (d e : Reach) → (IsDecisive r → e ≡ d) → ruling_by p r e ≡ ruling_by p r d
ruling_same p (Err (value.NotCovered key)) d e same = refl
ruling_same p (Err (value.Damaged key)) d e same = refl
ruling_same p (Ok Loss) d e same = ap (ruling_by p (Ok Loss)) (same (inr refl))
ruling_same p (Ok BlessedLoss) d e same = refl
ruling_same p (Ok Draw) d e same = refl
ruling_same p (Ok CursedWin) d e same = refl
ruling_same p (Ok Win) d e same = ap (ruling_by p (Ok Win)) (same (inl refl))

-- ---- root moves

zeroed_kept : (r : Reading) → not_covered (zeroed r) ≡ not_covered r
zeroed_kept (Ok v) = refl
zeroed_kept (Err (value.NotCovered key)) = refl
zeroed_kept (Err (value.Damaged key)) = refl

ply_kept : (d : Reach) → not_covered (reach_one_ply_before d) ≡ not_covered d
ply_kept (Ok d) = refl
ply_kept (Err (value.NotCovered key)) = refl
ply_kept (Err (value.Damaged key)) = refl

like : {tables more : Tables} (m other : RootMove) → IsSameMove tables more m other → other.wdl ≡ m.wdl → other.dtz ≡ m.dtz → m ≡ other
like m other h w d = sym (λ i. record { played = h.played i; effect = h.effect i; state = h.state i; wdl = w i; dtz = d i })

module _ (tables : Tables) (q : Parts) where
  worth_firm : (state : BoardState) → IsFirm tables OnlyWdl (λ t. value_before state (wdl_of t q))
  worth_firm state = by_mate (is_checkmate state)
    where
      by_mate : (b : Bool) → IsFirm tables OnlyWdl (λ t. if b then Ok Win else opposite_reading (wdl_of t q))
      by_mate true = λ more all. refl
      by_mate false = firm_map tables OnlyWdl opposite_reading (λ t. wdl_of t q) (turned (wdl_of tables q)) (wdl_firm tables q)

  reach_firm : (state : BoardState) (zeroes : Bool) → IsFirm tables Either (λ t. signed_in (reach_before state zeroes (wdl_of t q) (dtz_of t q)))
  reach_firm state zeroes = by_mate (is_checkmate state) zeroes
    where
      by_mate : (b zeroes : Bool) → IsFirm tables Either (λ t. signed_in (if b then Ok (WonIn 1) else if zeroes then zeroed (opposite_reading (wdl_of t q)) else reach_one_ply_before (dtz_of t q)))
      by_mate true zeroes = λ more all. refl
      by_mate false true =
          let after = opposite_reading (wdl_of tables q) in
          firm_map tables Either (λ r. signed_in (zeroed r)) (λ t. opposite_reading (wdl_of t q)) (signed_kept (zeroed after) ∙ zeroed_kept after) (after_firm tables q)
      by_mate false false = firm_map tables Either (λ d. signed_in (reach_one_ply_before d)) (λ t. dtz_of t q) (signed_kept (reach_one_ply_before (dtz_of tables q)) ∙ ply_kept (dtz_of tables q)) (dtz_firm tables q)

-- ---- the law

module _ (tables more : Tables) (all : HasAll tables more) where
  by_value : (o : Option ℕ) (Claim : Tables → Type 0) → Under tables OnlyWdl o Claim → IsFinalValue tables more o → Claim more
  by_value None Claim h f = h more all
  by_value (Some key) Claim h f = h.stays more all (subst (λ k. table_at more k key ≡ None) (sym h.asked) (f ∙ subst (λ k. table_at tables k key ≡ None) h.asked h.lacks))

  by_distance : (o : Option ℕ) (Claim : Tables → Type 0) → Under tables Either o Claim → IsFinalDistance tables more o → Claim more
  by_distance None Claim h f = h more all
  by_distance (Some key) Claim h f = h.stays more all (f h.kind ∙ h.lacks)

  module _ (p : Parts) where
    value_same : IsFinalValue tables more (not_covered (wdl_of tables p)) → wdl_of more p ≡ wdl_of tables p
    value_same = by_value (not_covered (wdl_of tables p)) (λ t. wdl_of t p ≡ wdl_of tables p) (wdl_firm tables p)

    distance_same : IsFinalDistance tables more (not_covered (dtz_of tables p)) → dtz_of more p ≡ dtz_of tables p
    distance_same = by_distance (not_covered (dtz_of tables p)) (λ t. dtz_of t p ≡ dtz_of tables p) (dtz_firm tables p)

    signed_same : IsFinalDistance tables more (not_covered (signed_in (dtz_of tables p))) → signed_in (dtz_of more p) ≡ signed_in (dtz_of tables p)
    signed_same f = ap signed_in (distance_same (subst (λ o. IsFinalDistance tables more o) (signed_kept (dtz_of tables p)) f))

    wdl_same : (r : Result Value ProbeFault) → IsProbe r (is_out_of_scope p) (wdl_of tables p) → IsFinalValue tables more (missed r) → IsProbe r (is_out_of_scope p) (wdl_of more p)
    wdl_same r = probe_same (IsFinalValue tables more) r (is_out_of_scope p) (wdl_of tables p) (wdl_of more p) value_same

    dtz_same : (r : Result ℤ ProbeFault) → IsProbe r (is_out_of_scope p) (signed_in (dtz_of tables p)) → IsFinalDistance tables more (missed r) → IsProbe r (is_out_of_scope p) (signed_in (dtz_of more p))
    dtz_same r = probe_same (IsFinalDistance tables more) r (is_out_of_scope p) (signed_in (dtz_of tables p)) (signed_in (dtz_of more p)) signed_same

    verdict_same : IsFinalRuling tables more p → ruling more p ≡ ruling tables p
    unfolding ruling
    verdict_same f = by_end (has_no_move (legal_moves p)) refl
      where
        by_scope : (b : Bool) → is_out_of_scope p ≡ b → IsFalse (has_no_move (legal_moves p)) → (if b then None else ruling_by p (wdl_of more p) (dtz_of more p)) ≡ (if b then None else ruling_by p (wdl_of tables p) (dtz_of tables p))
        by_scope true e left = refl
        by_scope false e left =
            ap (λ (r : Reading). ruling_by p r (dtz_of more p)) (value_same (f.value left e))
            ∙ ruling_same p (wdl_of tables p) (dtz_of tables p) (dtz_of more p) (λ decisive. distance_same (f.distance left e decisive))

        by_end : (b : Bool) → has_no_move (legal_moves p) ≡ b
            → (if b then Some (end_of p) else if is_out_of_scope p then None else ruling_by p (wdl_of more p) (dtz_of more p))
            ≡ (if b then Some (end_of p) else if is_out_of_scope p then None else ruling_by p (wdl_of tables p) (dtz_of tables p))
        by_end true e = refl
        by_end false e = by_scope (is_out_of_scope p) refl e

    answers_same : (probed : ProbeResult) → IsProbed tables p probed → IsFinalValue tables more (missed probed.wdl) → IsFinalDistance tables more (missed probed.dtz) → IsProbed more p probed × (ruling more p ≡ ruling tables p)
    answers_same probed h v d = (
      record {
        wdl = h.wdl;
        dtz = h.dtz;
        are = record {
          wdl_answered = h.are.wdl_answered;
          wdl_is = wdl_same h.wdl h.are.wdl_is wdl_final;
          dtz_answered = h.are.dtz_answered;
          dtz_is = dtz_same h.dtz h.are.dtz_is dtz_final;
        };
        told = h.told;
      },
      verdict_same (record {
        value = λ left scope. subst (λ o. IsFinalValue tables more o) (sym (probe_misses h.wdl (is_out_of_scope p) (wdl_of tables p) scope h.are.wdl_answered h.are.wdl_is)) wdl_final;
        distance = λ left scope decisive. subst (λ o. IsFinalDistance tables more o) (sym (probe_misses h.dtz (is_out_of_scope p) (signed_in (dtz_of tables p)) scope h.are.dtz_answered h.are.dtz_is) ∙ signed_kept (dtz_of tables p)) dtz_final;
      }),
    )
      where
        wdl_final : IsFinalValue tables more (missed h.wdl)
        wdl_final = subst (λ o. IsFinalValue tables more o) (ap (λ (x : ProbeResult). missed x.wdl) h.told ∙ numbered_kept h.wdl) v

        dtz_final : IsFinalDistance tables more (missed h.dtz)
        dtz_final = subst (λ o. IsFinalDistance tables more o) (ap (λ (x : ProbeResult). missed x.dtz) h.told) d

    move_same : (m : Move) (q : Parts) → IsSameMove tables more (root_move_by (wdl_of tables) (dtz_of tables) p m q) (root_move_by (wdl_of more) (dtz_of more) p m q)
    move_same m q = record {
      played = refl;
      effect = refl;
      state = refl;
      wdl = by_value _ (λ t. value_before (state_of q) (wdl_of t q) ≡ value_before (state_of q) (wdl_of tables q)) (worth_firm tables q (state_of q));
      dtz =
          by_distance _ (λ t. signed_in (reach_before (state_of q) (zeroes_clock (effect_of p m)) (wdl_of t q) (dtz_of t q)) ≡ signed_in (reach_before (state_of q) (zeroes_clock (effect_of p m)) (wdl_of tables q) (dtz_of tables q)))
          (reach_firm tables q (state_of q) (zeroes_clock (effect_of p m)));
    }

    moves_same : AllZip (IsSameMove tables more) (root_moves tables p) (root_moves more p)
    unfolding root_moves_by
    moves_same = by_moves (legal_moves p)
      where
        by_position : (m : Move) (o : Option Parts) (xs ys : List RootMove) → AllZip (IsSameMove tables more) xs ys
            → AllZip (IsSameMove tables more) (cons_option (option_map (root_move_by (wdl_of tables) (dtz_of tables) p m) o) xs) (cons_option (option_map (root_move_by (wdl_of more) (dtz_of more) p m) o) ys)
        by_position m None xs ys h = h
        by_position m (Some q) xs ys h = (move_same m q, h)

        by_moves : (ms : List Move) → AllZip (IsSameMove tables more) (filter_map (root_move_at (wdl_of tables) (dtz_of tables) p) ms) (filter_map (root_move_at (wdl_of more) (dtz_of more) p) ms)
        by_moves [] = tt
        by_moves (m ∷ ms) = by_position m (position_after p m) _ _ (by_moves ms)

    root_same : (moves : List RootMove) → IsRoot tables p moves → All (IsFinalMove tables more) moves → IsRoot more p moves
    root_same moves root final = record {
      all = subst (λ xs. IsPermutation xs moves) same root.all;
      best_first = root.best_first;
      stable = subst (λ xs. IsStableByKey move_rank rank_cmp xs moves) same root.stable;
    }
      where
        each : (xs ys : List RootMove) → AllZip (IsSameMove tables more) xs ys → All (IsFinalMove tables more) xs → xs ≡ ys
        each [] [] h f = refl
        each [] (y ∷ ys) h f = absurd h
        each (x ∷ xs) [] h f = absurd h
        each (x ∷ xs) (y ∷ ys) h f =
            let here = All-head (IsFinalMove tables more) x xs f in
            let rest = each xs ys h.1 (All-tail (IsFinalMove tables more) x xs f) in
            ap (λ (m : RootMove). m ∷ xs) (like x y h.0 (h.0.wdl here.0) (h.0.dtz here.1)) ∙ ap (λ ms. y ∷ ms) rest

        there : All (IsFinalMove tables more) (root_moves tables p)
        there =
            All-weaker (Contains (root_moves tables p)) (IsFinalMove tables more) (λ m has. All-contains (IsFinalMove tables more) moves m final (Contains-permutation (root_moves tables p) moves m root.all has))
            (root_moves tables p) (All-contains_itself (root_moves tables p))

        same : root_moves tables p ≡ root_moves more p
        same = each (root_moves tables p) (root_moves more p) moves_same there

pub more_answer_the_same : MoreTablesAnswerTheSame
more_answer_the_same tables more p all = record {
  value = value_same tables more all p;
  distance = distance_same tables more all p;
  verdict = verdict_same tables more all p;
  wdl = λ r h f. (h.0, wdl_same tables more all p r h.1 f);
  dtz = dtz_same tables more all p;
  answers = answers_same tables more all p;
  moves = moves_same tables more all p;
  root = root_same tables more all p;
}

-- ---- what is missing

pub missing_stays : WhatIsMissingStaysMissing
missing_stays tables p key = (value_missing, distance_missing)
  where
    value_missing : wdl_of tables p ≡ Err (value.NotCovered key) → IsMissing (λ set. wdl_of set p) tables Wdl key
    value_missing e =
        let h = subst (λ r. Under tables OnlyWdl (not_covered r) (λ more. wdl_of more p ≡ r)) e (wdl_firm tables p) in
        record {
          known = h.known;
          lacks = subst (λ k. table_at tables k key ≡ None) h.asked h.lacks;
          stays = λ more all none. h.stays more all (subst (λ k. table_at more k key ≡ None) (sym h.asked) none);
        }

    distance_missing : dtz_of tables p ≡ Err (value.NotCovered key) → (kind : TableKind) × IsMissing (λ set. dtz_of set p) tables kind key
    distance_missing e =
        let h = subst (λ r. Under tables Either (not_covered r) (λ more. dtz_of more p ≡ r)) e (dtz_firm tables p) in
        (h.kind, record { known = h.known; lacks = h.lacks; stays = h.stays })
