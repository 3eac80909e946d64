-- Moves of a list, told one after the other.
use Rattle.std.proofs.Common.{◌≡◌, ◌∙◌, sym, ap, refl, subst, ℕ, ◌+◌, ◌<◌, ◌≤◌, Bool, true, false, ◌&&◌, List, [], ◌∷◌, ◌++◌, length, take, get_or, Option, Some, None, filter_map, map, arith, inl, inr}
use Rattle.std.specs.Prelude.{Result, Ok, IfOk}
use Rattle.std.specs.List.{All, list_all}
use Rattle.std.proofs.lemmas.List.{take_more, take_all, map-append}
use Rattle.std.proofs.lemmas.List.Elements.{All-append, All-get_or, All-map, All-nil, All-from_get_or, All-weaker, filter_passes}
use Rattle.std.proofs.lemmas.List.Folds.{list_all-append}
use Rattle.std.proofs.lemmas.List.Sorted.{All-permutation}
use Rattle.board_core.specs.declared.parts.Parts.{Parts}
use Rattle.board_core.specs.declared.moves.Move.{Move}
use Rattle.board_core.specs.ComputedMoves.{all_moves, is_legal, legal_moves, position_after}
use Rattle.board_core.proofs.ComputedLists.{some_value}
use Rattle.judge_core.specs.declared.root_move.RootMove.{RootMove}
use Rattle.judge_core.specs.ProbeResult.{has_both}
use Rattle.judge_core.specs.Distances.{Reach, dtz_of}
use Rattle.judge_core.specs.Probing.{wdl_of}
use Rattle.judge_core.specs.Root.{IsRootBy, root_move_at, root_move_by, root_moves_by}
use Rattle.judge_core.specs.Tables.{Tables}
use Rattle.judge_core.specs.Values.{Reading}
use Rattle.judge_core.specs.Ask.{IsRanked}
use Rattle.judge_core.specs.declared.ask.Ask.{Ask}
use Rattle.judge_core.specs.declared.ask.Ask.TheVariants.{Strict, Determined}
use Rattle.json_lines.specs.declared.told.MoveTold.{MoveTold}
use Rattle.json_lines.specs.Inside.Playing.{IsPlayable}
use Rattle.json_lines.specs.Told.{AreMovesTold, AreOrdered, IsMoveTold, OfText, played_in}
use Rattle.board_core.specs.Position.{IsPosition}
use Rattle.fen_text.specs.declared.fault.FenFault.{FenFault}
use Rattle.fen_text.specs.Fen.{SpellsPosition}

-- ---- moves that can be played

pub head_all : {X : Type 0} (P : X → Type 0) (x : X) (xs : List X) → P x → All P xs → All P (x ∷ xs)
head_all P x xs h hs = All-append P (x ∷ []) xs (All-from_get_or P (x ∷ []) x (λ i lt. subst (λ n. P (get_or (x ∷ []) n x)) (let e : 0 ≡ i = omega (arith, lt) in e) h)) hs

-- the move of a root move can be played
abbrev is_root_playable : Parts → RootMove → Type 0
is_root_playable p root = IsPlayable p root.played

module _ (value : Parts → Reading) (reach : Parts → Reach) (p : Parts) where
  of_moves : (ms : List Move) → All (is_root_playable p) (filter_map (root_move_at value reach p) ms)
  of_moves [] = All-nil (is_root_playable p)
  of_moves (m ∷ ms) = by_after (position_after p m) refl (of_moves ms)
    where
      by_after : (o : Option Parts) → position_after p m ≡ o → All (is_root_playable p) (filter_map (root_move_at value reach p) ms) → All (is_root_playable p) (filter_map (root_move_at value reach p) (m ∷ ms))
      by_after None e rest = rw e rest
      by_after (Some q) e rest = rw e (head_all (is_root_playable p) (root_move_by value reach p m q) _ (q, e) rest)

  playable_by : (roots : List RootMove) → IsRootBy value reach p roots → All (is_root_playable p) roots
  unfolding root_moves_by
  playable_by roots root = All-permutation (is_root_playable p) (root_moves_by value reach p) roots root.all (of_moves (legal_moves p))

are_playable : (ask : Ask) (tables : Tables) (p : Parts) (roots : List RootMove) → IsRanked ask tables p roots → All (is_root_playable p) roots
are_playable Strict tables p roots root = playable_by (wdl_of tables) (dtz_of tables) p roots root
are_playable Determined tables p roots root = playable_by root.value root.reach p roots root.root

-- legal moves can be played
legal_playable : (p : Parts) → All (IsPlayable p) (legal_moves p)
unfolding legal_moves
legal_playable p = All-weaker (λ m. is_legal p m ≡ true) (IsPlayable p) (λ m e. some_value (position_after p m) e) _ (filter_passes (is_legal p) all_moves)

pub ordered_playable : (ask : Ask) (tables : Tables) (p : Parts) (moves : List Move) → AreOrdered ask tables p moves → All (IsPlayable p) moves
ordered_playable ask tables p moves (inl h) = subst (All (IsPlayable p)) (sym h.1) (legal_playable p)
ordered_playable ask tables p moves (inr h) = subst (All (IsPlayable p)) (sym h.1.2) (All-map (IsPlayable p) played_in h.1.0 (are_playable ask tables p h.1.0 h.1.1))

-- one root move more
pub one_more_played : (roots : List RootMove) (i : ℕ) (root : RootMove) (moves moves' : List Move) → i < length roots → root ≡ get_or roots i root → moves ≡ map played_in (take i roots) → moves' ≡ moves ++ root.played ∷ [] → moves' ≡ map played_in (take (i + 1) roots)
one_more_played roots i root moves moves' lt is so_far e =
    let more = take_more roots i root lt ∙ ap (λ x. take i roots ++ x ∷ []) (sym is) in
    e ∙ ap (λ ms. ms ++ root.played ∷ []) so_far ∙ sym (map-append played_in (take i roots) (root ∷ [])) ∙ sym (ap (map played_in) more)

pub all_played : (roots : List RootMove) (i : ℕ) (moves : List Move) → length roots ≤ i → moves ≡ map played_in (take i roots) → moves ≡ map played_in roots
all_played roots i moves end h = h ∙ ap (map played_in) (take_all i roots end)

module _ (ask : Ask) (tables : Tables) (p : Parts) where
  -- ---- one move more

  pub both_told : (ms ns : List Move) (ts us : List MoveTold) → AreMovesTold ask tables p ms ts → AreMovesTold ask tables p ns us → AreMovesTold ask tables p (ms ++ ns) (ts ++ us)
  both_told [] ns [] us h k = k
  both_told [] ns (t ∷ ts) us h k = absurd h
  both_told (m ∷ ms) ns [] us h k = absurd h
  both_told (m ∷ ms) ns (t ∷ ts) us h k = (h.0, both_told ms ns ts us h.1 k)

  pub one_more_told : (moves : List Move) (i : ℕ) (m : Move) (ts ts' : List MoveTold) (t : MoveTold) → i < length moves → m ≡ get_or moves i m → AreMovesTold ask tables p (take i moves) ts → IsMoveTold ask tables p m t → ts' ≡ ts ++ t ∷ [] → AreMovesTold ask tables p (take (i + 1) moves) ts'
  one_more_told moves i m ts ts' t lt is so_far one e =
      let more = take_more moves i m lt ∙ ap (λ x. take i moves ++ x ∷ []) (sym is) in
      subst (λ xs. AreMovesTold ask tables p xs ts') (sym more) (subst (λ us. AreMovesTold ask tables p (take i moves ++ m ∷ []) us) (sym e) (both_told (take i moves) (m ∷ []) ts (t ∷ []) so_far (one, tt)))

  pub none_are_told : (ts : List MoveTold) → ts ≡ [] → AreMovesTold ask tables p [] ts
  none_are_told ts e = subst (λ us. AreMovesTold ask tables p [] us) (sym e) tt

  pub all_are_told : (moves : List Move) (i : ℕ) (ts : List MoveTold) → length moves ≤ i → AreMovesTold ask tables p (take i moves) ts → AreMovesTold ask tables p moves ts
  all_are_told moves i ts end h = subst (λ xs. AreMovesTold ask tables p xs ts) (take_all i moves end) h

pub playable_at : (p : Parts) (moves : List Move) (i : ℕ) (m : Move) → i < length moves → m ≡ get_or moves i m → All (IsPlayable p) moves → IsPlayable p m
playable_at p moves i m lt is all = subst (IsPlayable p) (sym is) (All-get_or (IsPlayable p) moves i m lt all)

-- ---- all values are there

-- both values of a move are there
abbrev pub is_told : MoveTold → Bool
is_told t = has_both t.probed

and-true : (a : Bool) → (a && true) ≡ a
and-true true = refl
and-true false = refl

module _ {X : Type 0} (test : X → Bool) where
  pub one_more_passes : (xs : List X) (i : ℕ) (x : X) (all here : Bool) → i < length xs → x ≡ get_or xs i x → all ≡ list_all test (take i xs) → here ≡ test x → (all && here) ≡ list_all test (take (i + 1) xs)
  one_more_passes xs i x all here lt is so_far h =
      let more = take_more xs i x lt ∙ ap (λ y. take i xs ++ y ∷ []) (sym is) in
      ap (λ (b : Bool). b && here) so_far
      ∙ ap (λ (b : Bool). list_all test (take i xs) && b) (h ∙ sym (and-true (test x)))
      ∙ sym (list_all-append test (take i xs) (x ∷ []))
      ∙ ap (list_all test) (sym more)

  pub all_pass : (xs : List X) (i : ℕ) (all : Bool) → length xs ≤ i → all ≡ list_all test (take i xs) → all ≡ list_all test xs
  all_pass xs i all end h = h ∙ ap (list_all test) (take_all i xs end)

-- ---- texts

-- what holds of the position that a text is read as holds of the one that it spells
pub of_the_text : (P : Parts → Type 0) (text : List ℕ) (read : Result Parts FenFault) (position : Parts) → read ≡ Ok position → ((p : Parts) → IsPosition p → SpellsPosition text p → read ≡ Ok p) → P position → OfText text P
of_the_text P text read position is only holds p good same = subst (λ r. IfOk r P) (only p good same) (subst (λ r. IfOk r P) (sym is) holds)
