-- What a root move tells of the position after it.
use Rattle.std.proofs.Common.{◌≡◌, ◌≢◌, ◌∙◌, sym, ap, refl, subst, ℕ, ◌+◌, ◌<◌, ◌≤◌, ℤ, pos, Bool, true, false, List, [], ◌∷◌, ◌++◌, length, get_or, map, take, Option, Some, None, filter_map, Result, Ok, Err, arith, inl}
use Rattle.std.specs.Prelude.{neg_ℤ}
use Rattle.std.specs.List.{All}
use Rattle.std.proofs.lemmas.List.Elements.{All-get_or, All-nil, All-weaker}
use Rattle.std.proofs.lemmas.List.Sorted.{All-permutation}
use Rattle.board_core.specs.declared.parts.Parts.{Parts}
use Rattle.board_core.specs.declared.moves.Move.{Move}
use Rattle.board_core.specs.ComputedMoves.{legal_moves, position_after}
use Rattle.judge_core.specs.declared.fault.ProbeFault.{ProbeFault}
use Rattle.judge_core.specs.declared.fault.ProbeFault.TheVariants.{OutOfMemory}
use Rattle.judge_core.specs.declared.probe_result.ProbeResult.{ProbeResult}
use Rattle.judge_core.specs.declared.root_move.BoardState.{BoardState}
use Rattle.judge_core.specs.declared.root_move.RootMove.{RootMove}
use Rattle.judge_core.specs.declared.wdl.Wdl.{Wdl}
use Rattle.judge_core.specs.declared.wdl.Wdl.TheVariants.{Loss, BlessedLoss, Draw, CursedWin, Win}
use Rattle.judge_core.specs.Answers.{signed_in}
use Rattle.judge_core.specs.Distances.{Reach, dtz_of}
use Rattle.judge_core.specs.ProbeResult.{IsProbed, wdl_number}
use Rattle.judge_core.specs.Probing.{wdl_of}
use Rattle.judge_core.specs.Root.{IsRoot, is_checkmate, reach_before, reach_one_ply_before, root_move_at, root_move_by, root_moves_by, state_of, value_before, zeroes_clock}
use Rattle.judge_core.specs.Ruling.{is_out_of_scope}
use Rattle.judge_core.specs.Tables.{Tables}
use Rattle.judge_core.specs.Values.{Reading, opposite}
use Rattle.json_lines.specs.Inside.Playing.{IsRootMoveOf, TellsAfter, distance_after}
use Rattle.json_lines.specs.declared.told.MoveTold.{MoveTold}
use Rattle.json_lines.specs.Told.{AreMovesTold, IsMoveTold, played_in}
use Rattle.judge_core.specs.declared.ask.Ask.TheVariants.{Strict}
use Rattle.std.proofs.lemmas.List.{map-append, take_all, take_more}
use Rattle.json_lines.proofs.Playing.{both_told, head_all}

-- ---- values

twice : (v : Wdl) → opposite (opposite v) ≡ v
twice Loss = refl
twice BlessedLoss = refl
twice Draw = refl
twice CursedWin = refl
twice Win = refl

pub opposite_number : (v : Wdl) → wdl_number (opposite v) ≡ neg_ℤ (wdl_number v)
opposite_number Loss = refl
opposite_number BlessedLoss = refl
opposite_number Draw = refl
opposite_number CursedWin = refl
opposite_number Win = refl

value_after : (state : BoardState) (reading : Reading) (w : Wdl) → is_checkmate state ≡ false → value_before state reading ≡ Ok w → reading ≡ Ok (opposite w)
value_after state (Ok v) w mate is =
    let same : opposite v ≡ w = (let e = rw mate at is in cc) in
    ap Ok (sym (twice v) ∙ ap opposite same)
value_after state (Err fault) w mate is = absurd (let e = rw mate at is in cc)

distance_back : (r : Reach) (n : ℤ) → signed_in (reach_one_ply_before r) ≡ Ok n → signed_in r ≡ Ok (distance_after n)
distance_back r n e = grind arith

before_is : (state : BoardState) (reading : Reading) (reach : Reach) (n : ℤ) → is_checkmate state ≡ false → signed_in (reach_before state false reading reach) ≡ Ok n → signed_in (reach_one_ply_before reach) ≡ Ok n
before_is state reading reach n mate is = rw mate at is

ok_is : {X : Type 0} (r : Result X ProbeFault) (x : X) → r ≡ Ok x → r ≡ Err OutOfMemory → ⊥
ok_is r x is e = absurd (let both = sym is ∙ e in cc)

-- the values after a quiet move that doesn't mate
pub tells_after : (root : RootMove) (w : Wdl) (n r : ℤ) (probed : ProbeResult) → zeroes_clock root.effect ≡ false → is_checkmate root.state ≡ false → root.wdl ≡ Ok w → root.dtz ≡ Ok n
    → r ≡ neg_ℤ (wdl_number w) → probed ≡ record { wdl = Ok r; dtz = Ok (distance_after n) } → TellsAfter root probed
tells_after root w n r probed quiet mate value distance negated is tables p q made scope =
    let state = ap (λ (x : RootMove). x.state) made in
    let mate' = sym (ap is_checkmate state) ∙ mate in
    let effect = sym (ap (λ (x : RootMove). zeroes_clock x.effect) made) ∙ quiet in
    let reading = value_after (state_of q) (wdl_of tables q) w mate' (sym (ap (λ (x : RootMove). x.wdl) made) ∙ value) in
    let before = rw effect at (sym (ap (λ (x : RootMove). x.dtz) made) ∙ distance) in
    let reach = distance_back (dtz_of tables q) n (before_is (state_of q) (wdl_of tables q) (dtz_of tables q) n mate' before) in (
      mate',
      record {
        wdl = Ok (opposite w);
        dtz = Ok (distance_after n);
        are = record {
          wdl_answered = ok_is _ (opposite w) refl;
          wdl_is = (scope, reading);
          dtz_answered = ok_is _ (distance_after n) refl;
          dtz_is = (scope, reach);
        };
        told = is ∙ ap (λ (z : ℤ). record { wdl = Ok z; dtz = Ok (distance_after n) }) (negated ∙ sym (opposite_number w));
      },
    )

-- ---- all root moves

module _ (tables : Tables) (p : Parts) where
  of_moves : (ms : List Move) → All (IsRootMoveOf tables p) (filter_map (root_move_at (wdl_of tables) (dtz_of tables) p) ms)
  of_moves [] = All-nil (IsRootMoveOf tables p)
  of_moves (m ∷ ms) = by_after (position_after p m) refl (of_moves ms)
    where
      by_after : (o : Option Parts) → position_after p m ≡ o → All (IsRootMoveOf tables p) (filter_map (root_move_at (wdl_of tables) (dtz_of tables) p) ms) → All (IsRootMoveOf tables p) (filter_map (root_move_at (wdl_of tables) (dtz_of tables) p) (m ∷ ms))
      by_after None e rest = rw e rest
      by_after (Some q) e rest = rw e (head_all (IsRootMoveOf tables p) (root_move_by (wdl_of tables) (dtz_of tables) p m q) _ (q, e, refl) rest)

  pub are_root_moves : (roots : List RootMove) → IsRoot tables p roots → All (IsRootMoveOf tables p) roots
  unfolding root_moves_by
  are_root_moves roots root = All-permutation (IsRootMoveOf tables p) (root_moves_by (wdl_of tables) (dtz_of tables) p) roots root.all (of_moves (legal_moves p))

pub root_at : (tables : Tables) (p : Parts) (roots : List RootMove) (i : ℕ) (root : RootMove) → i < length roots → root ≡ get_or roots i root → All (IsRootMoveOf tables p) roots → IsRootMoveOf tables p root
root_at tables p roots i root lt is all = subst (IsRootMoveOf tables p) (sym is) (All-get_or (IsRootMoveOf tables p) roots i root lt all)

-- ---- one root move more

pub one_more_root : (tables : Tables) (p : Parts) (roots : List RootMove) (i : ℕ) (root : RootMove) (ts ts' : List MoveTold) (t : MoveTold) → i < length roots → root ≡ get_or roots i root
    → AreMovesTold Strict tables p (map played_in (take i roots)) ts → IsMoveTold Strict tables p root.played t → ts' ≡ ts ++ t ∷ [] → AreMovesTold Strict tables p (map played_in (take (i + 1) roots)) ts'
one_more_root tables p roots i root ts ts' t lt is so_far one e =
    let more = take_more roots i root lt ∙ ap (λ x. take i roots ++ x ∷ []) (sym is) in
    let moves = ap (map played_in) more ∙ map-append played_in (take i roots) (root ∷ []) in
    subst (λ xs. AreMovesTold Strict tables p xs ts') (sym moves)
    (subst (λ us. AreMovesTold Strict tables p (map played_in (take i roots) ++ root.played ∷ []) us) (sym e) (both_told Strict tables p (map played_in (take i roots)) (root.played ∷ []) ts (t ∷ []) so_far (one, tt)))

pub all_roots : (tables : Tables) (p : Parts) (roots : List RootMove) (i : ℕ) (ts : List MoveTold) → length roots ≤ i → AreMovesTold Strict tables p (map played_in (take i roots)) ts → AreMovesTold Strict tables p (map played_in roots) ts
all_roots tables p roots i ts end h = subst (λ (xs : List RootMove). AreMovesTold Strict tables p (map played_in xs) ts) (take_all i roots end) h
