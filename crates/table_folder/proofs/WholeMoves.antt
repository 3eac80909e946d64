-- Root moves and games by the whole folder.
use Rattle.std.proofs.Common.{◌≡◌, ◌<◌, ◌≤◌, ◌+◌, ◌-◌, ℕ, zero, suc, nat_lt, Bool, true, false, ◌||◌, List, [], ◌∷◌, ◌++◌, length, drop, filter_map, fold, take, Option, Some, None, option_map, refl, sym, ap, subst, ◌∙◌, inl, inr, arith}
use Rattle.std.proofs.Math.Seq.{take-add}
use Rattle.std.proofs.lemmas.Bool.{cases_lt, le-ltb, ltb-false, or_parts}
use Rattle.std.proofs.lemmas.List.{take-take, take_all}
use Rattle.std.proofs.lemmas.List.Sums.{fold-append}
use Rattle.std.proofs.lemmas.List.Elements.{Contains-append_right}
use Rattle.std.specs.List.{Contains, cons_option}
use Rattle.std.specs.List.Sorted.{IsPermutation, IsStableByKey}
use Rattle.std.specs.Option.{option_and_then}
use Rattle.board_core.specs.declared.parts.Parts.{Parts}
use Rattle.board_core.specs.declared.moves.Move.{Move}
use Rattle.board_core.specs.Castling.{has_any_right}
use Rattle.board_core.specs.ComputedMoves.{count_of_men, is_capture, legal_moves, position_after}
use Rattle.board_core.specs.Laws.{CaptureTakesOneMan, OtherMoveKeepsTheMen, PositionAfterIsComputed}
use Rattle.board_core.specs.Moves.{Legal, after, rights_after}
use Rattle.board_core.specs.Position.{IsPosition}
use Rattle.system_io.specs.Disks.{DiskFacts}
use Rattle.judge_core.specs.declared.root_move.RootMove.{RootMove}
use Rattle.judge_core.specs.Distances.{Reach, dtz_of}
use Rattle.judge_core.specs.Games.{IsOutcome, IsUnruled, Rules, plies_to, position_after_all, verdict_after}
use Rattle.judge_core.specs.declared.game.GameOutcome.{GameOutcome}
use Rattle.judge_core.specs.declared.game.GameOutcome.TheVariants.{Ruled, Illegal, Going}
use Rattle.board_core.specs.declared.verdict.Verdict.{Verdict}
use Rattle.judge_core.specs.MoreTables.{GamesDependOnRulings, HasAll, MoreTablesAnswerTheSame, WhatIsMissingStaysMissing}
use Rattle.judge_core.specs.Probing.{wdl_of}
use Rattle.judge_core.specs.Root.{move_rank, rank_cmp, root_move_at, root_move_by, root_moves, root_moves_by}
use Rattle.judge_core.specs.Ruling.{is_out_of_scope, ruling}
use Rattle.judge_core.specs.Values.{Reading}
use Rattle.judge_core.specs.Tables.{Tables}
use Rattle.table_folder.specs.Folders.{AreOf, Folder}
use Rattle.table_folder.specs.Laws.{JudgesAlike, PositionsInPlayArePlayed, SettledGamesAreAsWhole, SettledGamesStay, SettledMovesAreAsWhole}
use Rattle.table_folder.specs.Settled.{AreSettled, IsPly}
use Rattle.table_folder.proofs.Staying.{stays_settled}
use Rattle.table_folder.proofs.Whole.{as_more, as_whole, has_all}

-- ---- a legal move stays in scope

-- the tables' scope: no right to castle, and no more than five men
scope_parts : (p : Parts) → is_out_of_scope p ≡ false → (has_any_right p.rights ≡ false) × (count_of_men p ≤ 5)
unfolding is_out_of_scope
scope_parts p e =
    let both = or_parts (has_any_right p.rights) (nat_lt 5 (count_of_men p)) e in
    (both.0, ltb-false 5 (count_of_men p) both.1)

no_rights : (a b c d : Bool) → (a || b || c || d) ≡ false → (a ≡ false) × (b ≡ false) × (c ≡ false) × (d ≡ false)
no_rights a b c d e =
    let three = or_parts (a || b || c) d e in
    let two = or_parts (a || b) c three.0 in
    let one = or_parts a b two.0 in
    (one.0, one.1, two.1, three.1)

no_rights_after : (p : Parts) (m : Move) → has_any_right p.rights ≡ false → has_any_right (rights_after p m) ≡ false
no_rights_after p m e =
    let none = no_rights p.rights.white_king p.rights.white_queen p.rights.black_king p.rights.black_queen e in
    rw (none.0, none.1, none.2, none.3) refl

module _ (computed : PositionAfterIsComputed) (takes : CaptureTakesOneMan) (keeps : OtherMoveKeepsTheMen) where
  no_more_men : (p q : Parts) (m : Move) → IsPosition p → Legal p m q → (b : Bool) → is_capture p m ≡ b → count_of_men q ≤ count_of_men p
  no_more_men p q m position legal true e = omega (arith, takes p m q position legal e)
  no_more_men p q m position legal false e = omega (arith, keeps p m q position legal e)

  stays_in_scope : (p q : Parts) (m : Move) → IsPosition p → is_out_of_scope p ≡ false → position_after p m ≡ Some q → is_out_of_scope q ≡ false
  unfolding is_out_of_scope after
  stays_in_scope p q m position in_scope plays =
      let legal = (computed p m q).0 plays in
      let before = scope_parts p in_scope in
      let rights = ap (λ (x : Parts). has_any_right x.rights) legal.becomes ∙ no_rights_after p m before.0 in
      let few = le-ltb 5 (count_of_men q) (omega (arith, before.1, no_more_men p q m position legal (is_capture p m) refl)) in
      rw (rights, few) refl

-- ---- root moves

module _ (f g : Parts → Reading) (h k : Parts → Reach) (p : Parts) where
  made_alike : (m : Move) (q : Parts) → f q ≡ g q → h q ≡ k q → root_move_by f h p m q ≡ root_move_by g k p m q
  made_alike m q value reach =
      let made : Reading → Reach → RootMove = λ v r. root_move_by (λ _. v) (λ _. r) p m q in
      ap (λ v. made v (h q)) value ∙ ap (made (g q)) reach

  moves_alike : (ms : List Move) → ((m : Move) (q : Parts) → Contains ms m → position_after p m ≡ Some q → (f q ≡ g q) × (h q ≡ k q)) → filter_map (root_move_at f h p) ms ≡ filter_map (root_move_at g k p) ms
  moves_alike [] alike = refl
  moves_alike (m ∷ ms) alike =
      ap (λ x. cons_option x (filter_map (root_move_at f h p) ms)) (at_position (position_after p m) refl) ∙ ap (cons_option (root_move_at g k p m)) (moves_alike ms (λ other q among. alike other q (Contains-append_right (m ∷ []) ms other among)))
    where
      at_position : (o : Option Parts) → position_after p m ≡ o → option_map (root_move_by f h p m) o ≡ option_map (root_move_by g k p m) o
      at_position None plays = refl
      at_position (Some q) plays = let both = alike m q (0, omega arith, refl) plays in ap (λ (x : RootMove). Some x) (made_alike m q both.0 both.1)

  roots_alike : ((m : Move) (q : Parts) → Contains (legal_moves p) m → position_after p m ≡ Some q → (f q ≡ g q) × (h q ≡ k q)) → root_moves_by f h p ≡ root_moves_by g k p
  unfolding root_moves_by
  roots_alike alike = moves_alike (legal_moves p) alike

pub moves_as_whole : PositionAfterIsComputed → CaptureTakesOneMan → OtherMoveKeepsTheMen → MoreTablesAnswerTheSame → WhatIsMissingStaysMissing → (disk : DiskFacts) → SettledMovesAreAsWhole disk
moves_as_whole computed takes keeps more missing disk folder tables whole p moves are all position in_scope settled root = record {
  all = subst (λ xs. IsPermutation xs moves) same root.all;
  best_first = root.best_first;
  stable = subst (λ xs. IsStableByKey move_rank rank_cmp xs moves) same root.stable;
}
  where
    alike : (m : Move) (q : Parts) → Contains (legal_moves p) m → position_after p m ≡ Some q → (wdl_of tables q ≡ wdl_of whole q) × (dtz_of tables q ≡ dtz_of whole q)
    alike m q among plays =
        let inside = stays_in_scope computed takes keeps p q m position in_scope plays in
        let answers = as_whole more missing disk folder tables whole q are all (settled q (inr (m, among, plays))) in
        (sym (answers.value inside), sym (answers.distance inside))

    same : root_moves tables p ≡ root_moves whole p
    same = roots_alike (wdl_of tables) (wdl_of whole) (dtz_of tables) (dtz_of whole) p alike

-- ---- games

no_position : (moves : List Move) → fold (λ position m. option_and_then (λ p. position_after p m) position) None moves ≡ None
no_position [] = refl
no_position (m ∷ moves) = no_position moves

-- where some of the moves lead is a ply of the game
is_ply : (n : ℕ) (moves : List Move) (start p : Parts) → position_after_all start (take n moves) ≡ Some p → IsPly start moves p
unfolding position_after_all
is_ply n [] start p e = here n e
  where
    here : (n : ℕ) → position_after_all start (take n []) ≡ Some p → p ≡ start
    here zero e = let same : start ≡ p = cc in sym same
    here (suc n) e = let same : start ≡ p = cc in sym same
is_ply zero (m ∷ moves) start p e = let same : start ≡ p = cc in inl (sym same)
is_ply (suc n) (m ∷ moves) start p e = by_position (position_after start m) refl (λ next there. is_ply n moves next p there) e
  where
    by_position : (o : Option Parts) → position_after start m ≡ o → ((next : Parts) → position_after_all next (take n moves) ≡ Some p → IsPly next moves p) → fold (λ position m. option_and_then (λ p. position_after p m) position) o (take n moves) ≡ Some p → IsPly start (m ∷ moves) p
    by_position None plays rest none = let nothing = sym (no_position (take n moves)) ∙ none in absurd cc
    by_position (Some next) plays rest there = inr (next, plays, rest next there)

-- where no table of the folder is missing at any ply, more tables of it change nothing
pub games_as_more : GamesDependOnRulings → MoreTablesAnswerTheSame → WhatIsMissingStaysMissing → (disk : DiskFacts) (folder : Folder) (tables more : Tables) (start : Parts) (moves : List Move) (delay : ℕ) → AreOf disk folder more → HasAll tables more → AreSettled folder tables (λ _. IsPly start moves) → JudgesAlike tables more start moves delay
games_as_more depend same missing disk folder tables more start moves delay opened kept settled =
    let alike = depend (record { start = start; tables = tables; delay = delay }) more moves in record {
      outcome = λ outcome. alike.0 outcome (λ ply p le plays. ruled ply p plays);
      standing = λ s. alike.1 s (λ ply p le plays. ruled ply p plays);
    }
  where
    ruled : (ply : ℕ) (p : Parts) → position_after_all start (take ply moves) ≡ Some p → ruling more p ≡ ruling tables p
    ruled ply p plays = (as_more same missing disk folder tables more p opened kept (settled p (is_ply ply moves start p plays))).verdict

-- ---- plies in play

-- up to its outcome a game has no verdict
unruled_to : (rules : Rules) (moves : List Move) (outcome : GameOutcome) → IsOutcome rules moves outcome → (n : ℕ) → n ≤ plies_to moves outcome → IsUnruled rules moves n
unruled_to rules moves (Ruled ply v) is n le = λ j lt. is.unruled j (omega (arith, lt, le))
unruled_to rules moves (Illegal place) is n le = λ j lt. is.unruled j (omega (arith, lt, le))
unruled_to rules moves Going is n le = λ j lt. is.unruled j (omega (arith, lt, le))

pub games_as_whole : GamesDependOnRulings → MoreTablesAnswerTheSame → WhatIsMissingStaysMissing → (disk : DiskFacts) → SettledGamesAreAsWhole disk
games_as_whole depend same missing disk folder tables whole start moves delay outcome are all settled is =
    (depend (record { start = start; tables = tables; delay = delay }) whole moves).0 outcome ruled is
  where
    ruled : (ply : ℕ) (p : Parts) → ply ≤ plies_to moves outcome → position_after_all start (take ply moves) ≡ Some p → ruling whole p ≡ ruling tables p
    ruled ply p le plays = (as_whole same missing disk folder tables whole p are all (settled p (record { ply = ply; at = plays; unruled = unruled_to (record { start = start; tables = tables; delay = delay }) moves outcome is ply le }))).verdict

-- some of the first moves lead to a ply of these
is_ply_within : (n k : ℕ) (moves : List Move) (start p : Parts) → k ≤ n → position_after_all start (take k moves) ≡ Some p → IsPly start (take n moves) p
is_ply_within n k moves start p le e = is_ply k (take n moves) start p (ap (position_after_all start) (take-take k n moves le) ∙ e)

-- behind a move that isn't legal there is no position
no_more : (start : Parts) (some more : List Move) → position_after_all start some ≡ None → position_after_all start (some ++ more) ≡ None
unfolding position_after_all
no_more start some more none =
    fold-append (λ position m. option_and_then (λ p. position_after p m) position) (Some start) some more
    ∙ ap (λ (o : Option Parts). fold (λ position m. option_and_then (λ p. position_after p m) position) o more) none ∙ no_position more

none_beyond : (start p : Parts) (moves : List Move) (n k : ℕ) → n ≤ k → position_after_all start (take n moves) ≡ None → position_after_all start (take k moves) ≡ Some p → ⊥
none_beyond start p moves n k le none there =
    let same : k ≡ n + (k - n) = omega (arith, le) in
    let split = ap (λ i. take i moves) same ∙ take-add n (k - n) moves in
    let e = sym there ∙ ap (position_after_all start) split ∙ no_more start (take n moves) (take (k - n) (drop n moves)) none in
    absurd cc

-- a ply with a verdict isn't unruled
not_unruled : (rules : Rules) (moves : List Move) (n k : ℕ) (v : Verdict) → n < k → verdict_after rules (take n moves) ≡ Some v → IsUnruled rules moves k → ⊥
not_unruled rules moves n k v lt ruled none = let e = sym ruled ∙ none n lt in absurd cc

pub in_play_is_played : PositionsInPlayArePlayed
in_play_is_played rules moves (Ruled n v) p is play = elim (cases_lt n play.ply) [
  | inl lt ↦ absurd (not_unruled rules moves n play.ply v lt is.ruled play.unruled)
  | inr le ↦ is_ply_within n play.ply moves rules.start p le play.at
]
in_play_is_played rules moves (Illegal n) p is play = elim (cases_lt n play.ply) [
  | inl lt ↦ absurd (none_beyond rules.start p moves (n + 1) play.ply (omega (arith, lt)) is.illegal play.at)
  | inr le ↦ is_ply_within n play.ply moves rules.start p le play.at
]
in_play_is_played rules moves Going p is play = subst (λ ms. IsPly rules.start ms p) (sym (take_all (length moves) moves (omega arith))) (is_ply play.ply moves rules.start p play.at)

pub games_stay : GamesDependOnRulings → MoreTablesAnswerTheSame → WhatIsMissingStaysMissing → (disk : DiskFacts) → SettledGamesStay disk
games_stay depend same missing disk folder tables more start moves are opened kept settled =
    (λ delay. games_as_more depend same missing disk folder tables more start moves delay opened kept settled, λ p ply. stays_settled same missing disk folder tables more p kept opened (settled p ply))
