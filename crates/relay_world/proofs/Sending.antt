-- What a source sends of a game.
use Rattle.std.proofs.Common.{◌≡◌, ℕ, ◌+◌, List, [], ◌∷◌, Some, suc, zero, refl, sym, ap, ◌∙◌, subst, arith}
use Rattle.std.specs.Prelude.{slice_get, option_map}
use Rattle.board_core.specs.declared.moves.Move.{Move as Moves}
use Rattle.move_msg.specs.declared.stamp.Stamp.{Stamp}
use Rattle.move_msg.specs.declared.arbiter_id.Sender.TheVariants.{Source}
use Rattle.move_msg.specs.declared.message.Message.{Message}
use Rattle.move_msg.specs.declared.message.Message.TheVariants.{Move}
use Rattle.arbiter_core.specs.Answering.{sent_by}
use Rattle.relay_world.specs.Laws.{IsSentGame}

sent_from : (stamp : Stamp) (first : ℕ) (moves : List Moves) (n : ℕ) → slice_get (sent_by stamp Source first moves) n ≡ option_map (Move stamp Source (first + n)) (slice_get moves n)
sent_from stamp first [] n = refl
sent_from stamp first (m ∷ moves) zero = ap (λ k. Some (Move stamp Source k m)) (no_more first)
  where
    no_more : (k : ℕ) → k ≡ k + 0
    no_more k = omega arith
sent_from stamp first (m ∷ moves) (suc n) = sent_from stamp (suc first) moves n ∙ ap (λ k. option_map (Move stamp Source k) (slice_get moves n)) (one_on first n)
  where
    one_on : (k n : ℕ) → suc k + n ≡ k + suc n
    one_on k n = omega arith

pub is_sent : (stamp : Stamp) (moves : List Moves) → IsSentGame stamp moves (sent_by stamp Source 0 moves)
is_sent stamp moves n = sent_from stamp 0 moves n ∙ ap (λ k. option_map (Move stamp Source k) (slice_get moves n)) (from_none n)
  where
    from_none : (n : ℕ) → 0 + n ≡ n
    from_none n = omega arith

-- two lists that have the same at each place are one
same_list : (xs ys : List Message) → ((n : ℕ) → slice_get xs n ≡ slice_get ys n) → xs ≡ ys
same_list [] [] h = refl
same_list [] (y ∷ ys) h = let e = h 0 in cc
same_list (x ∷ xs) [] h = let e = h 0 in cc
same_list (x ∷ xs) (y ∷ ys) h =
    let e : Some x ≡ Some y = h 0 in
    let rest : xs ≡ ys = same_list xs ys (λ n. h (suc n)) in
    made x y xs ys e rest
  where
    made : (x y : Message) (xs ys : List Message) → Some x ≡ Some y → xs ≡ ys → ◌≡◌ {A = List Message} (x ∷ xs) (y ∷ ys)
    made x y xs ys e r = cc

pub sends_the_game : (stamp : Stamp) (moves : List Moves) (log : List Message) → (log ≡ sent_by stamp Source 0 moves → IsSentGame stamp moves log) × (IsSentGame stamp moves log → log ≡ sent_by stamp Source 0 moves)
sends_the_game stamp moves log = (
  (λ e. subst (IsSentGame stamp moves) (sym e) (is_sent stamp moves)),
  (λ h. same_list log (sent_by stamp Source 0 moves) (λ n. h n ∙ sym (is_sent stamp moves n))),
)
