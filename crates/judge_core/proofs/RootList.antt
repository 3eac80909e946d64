-- The list of root moves, one move more.
use Rattle.std.proofs.Common.{◌≡◌, ◌∙◌, sym, ap, refl, subst, ℕ, ◌+◌, ◌<◌, ◌≤◌, List, [], ◌∷◌, ◌++◌, Option, Some, None, option_to_list, filter_map, length, take, get_or}
use Rattle.std.proofs.lemmas.List.{take_more, take_all}
use Rattle.std.proofs.lemmas.List.Elements.{filter_map-append}
use Rattle.std.specs.List.Sorted.{IsPermutation, IsSortedByKey, IsStableByKey}
use Rattle.board_core.specs.declared.parts.Parts.{Parts}
use Rattle.board_core.specs.declared.moves.Move.{Move}
use Rattle.board_core.specs.ComputedMoves.{legal_moves}
use Rattle.judge_core.specs.declared.root_move.RootMove.{RootMove}
use Rattle.judge_core.specs.Values.{Reading}
use Rattle.judge_core.specs.Distances.{Reach}
use Rattle.judge_core.specs.Root.{IsRootBy, move_rank, rank_cmp, root_move_at, root_moves_by}

module _ (value : Parts → Reading) (reach : Parts → Reach) (p : Parts) where
  -- those of these moves
  abbrev pub listed : List Move → List RootMove
  listed ms = filter_map (root_move_at value reach p) ms

  alone : (m : Move) → listed (m ∷ []) ≡ option_to_list (root_move_at value reach p m)
  alone m = of_option (root_move_at value reach p m) refl
    where
      of_option : (o : Option RootMove) → root_move_at value reach p m ≡ o → listed (m ∷ []) ≡ option_to_list o
      of_option None e = rw e refl
      of_option (Some r) e = rw e refl

  pub one_longer : (ms : List Move) (i : ℕ) (m : Move) (found found' : List RootMove) → i < length ms → m ≡ get_or ms i m → found ≡ listed (take i ms)
      → found' ≡ found ++ option_to_list (root_move_at value reach p m) → found' ≡ listed (take (i + 1) ms)
  one_longer ms i m found found' lt is so_far e =
      e
      ∙ ap (λ xs. xs ++ option_to_list (root_move_at value reach p m)) so_far
      ∙ ap (λ xs. listed (take i ms) ++ xs) (sym (alone m))
      ∙ sym (filter_map-append (root_move_at value reach p) (take i ms) (m ∷ []))
      ∙ sym (ap listed (take_more ms i m lt ∙ ap (λ x. take i ms ++ x ∷ []) (sym is)))

  pub root-all : (ms : List Move) (i : ℕ) (found : List RootMove) → length ms ≤ i → ms ≡ legal_moves p → found ≡ listed (take i ms) → found ≡ root_moves_by value reach p
  unfolding root_moves_by
  root-all ms i found end e so_far = so_far ∙ ap listed (take_all i ms end ∙ e)

-- the list, sorted
pub is_root : (value : Parts → Reading) (reach : Parts → Reach) (p : Parts) (ms sorted : List RootMove) → ms ≡ root_moves_by value reach p → IsPermutation ms sorted → IsSortedByKey move_rank rank_cmp sorted → IsStableByKey move_rank rank_cmp ms sorted → IsRootBy value reach p sorted
is_root value reach p ms sorted e all best stable = record {
  all = subst (λ xs. IsPermutation xs sorted) e all;
  best_first = best;
  stable = subst (λ xs. IsStableByKey move_rank rank_cmp xs sorted) e stable;
}
