use Rattle.std.proofs.Common.{◌≡◌, ◌+◌, ℕ, zero, suc, List, [], ◌∷◌, Some, arith}
use Rattle.std.specs.Prelude.{slice_get}
use Rattle.std.specs.List.{Contains}
use Rattle.board_core.specs.declared.moves.Move.{Move as Moves}
use Rattle.move_msg.specs.declared.stamp.Stamp.{Stamp}
use Rattle.move_msg.specs.declared.arbiter_id.Sender.TheVariants.{Source}
use Rattle.move_msg.specs.declared.message.Message.{Message}
use Rattle.move_msg.specs.declared.message.Message.TheVariants.{Move}
use Rattle.arbiter_core.specs.Answering.{sent_by}
use Rattle.theorems.proofs.sources.sends_the_log.Goals as goal

later : (y : Message) (xs : List Message) (x : Message) → Contains xs x → Contains (y ∷ xs) x
later y xs x (k, lt, is) = (suc k, omega (arith, lt), is)

-- the move at a place is sent with its number
has_sent : (stamp : Stamp) (k : ℕ) (moves : List Moves) (n : ℕ) (m : Moves) (j : ℕ) → j ≡ k + n → slice_get moves n ≡ Some m → Contains (sent_by stamp Source k moves) (Move stamp Source j m)
has_sent stamp k [] n m j is e = absurd cc
has_sent stamp k (x ∷ moves) zero m j is e =
    let number : k ≡ j = omega (arith, is) in
    let same : x ≡ m = cc in
    let first : Move stamp Source k x ≡ Move stamp Source j m = cc in
    (0, omega arith, first)
has_sent stamp k (x ∷ moves) (suc n) m j is e = later (Move stamp Source k x) (sent_by stamp Source (suc k) moves) (Move stamp Source j m) (has_sent stamp (suc k) moves n m j (omega (arith, is)) e)

pub returns : goal.returns
returns c = λ game all to bytes only in'.
    let found = only to bytes in' in
    (Move game.stamp Source found.0 found.1, has_sent game.stamp 0 game.moves found.0 found.1 found.0 (omega arith) found.2, found.3)
