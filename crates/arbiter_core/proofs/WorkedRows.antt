-- What an arbiter answers, computed on deliveries whose answers are known from outside: each row holds by evaluation alone, for
-- every game. Rows whose answer plays a move take seconds for each position that is judged, so that these are tests.
use Rattle.std.proofs.Common.{◌≡◌, ℕ, List, [], ◌∷◌, Some, None, refl, replicate}
use Rattle.std.specs.Prelude.{slice_set}
use Rattle.board_core.specs.declared.moves.Move.{Move as Moves}
use Rattle.board_core.specs.declared.verdict.Verdict.TheVariants as verdict
use Rattle.judge_core.specs.Games.{Rules}
use Rattle.move_msg.specs.declared.stamp.Stamp.{Stamp}
use Rattle.move_msg.specs.declared.arbiter_id.ArbiterId.TheVariants as who
use Rattle.move_msg.specs.declared.arbiter_id.Sender.TheVariants.{Source, Arbiter}
use Rattle.move_msg.specs.declared.message.Message.{Message}
use Rattle.move_msg.specs.declared.message.Message.TheVariants.{Move, Ack, Verdict, Fetch}
use Rattle.arbiter_core.specs.declared.fault.DeliverFault.TheVariants.{TooFarAhead, TooLong}
use Rattle.arbiter_core.specs.Recording.{Recorded}
use Rattle.arbiter_core.specs.Answering.{Identity, Answer, Refuses, Sends, nothing_waits, still_waits, answer_to, request_of}

abbrev move : ℕ → ℕ → Moves
move from to = record { from = from; to = to; promotion = None }

-- e2e4, e7e5, g1f3, a2a3, b8c6
abbrev e2e4 : Moves
e2e4 = move 12 28

abbrev e7e5 : Moves
e7e5 = move 52 36

abbrev g1f3 : Moves
g1f3 = move 6 21

abbrev a2a3 : Moves
a2a3 = move 8 16

abbrev me : Stamp → Identity
me stamp = record { stamp = stamp; who = who.A }

abbrev after : List Moves → Recorded
after moves = record { moves = moves; verdict = None }

-- three moves are recorded
abbrev three : Recorded
three = after (e2e4 ∷ e7e5 ∷ g1f3 ∷ [])

-- the game is drawn by table at ply 1
abbrev drawn : Recorded
drawn = record { moves = e2e4 ∷ []; verdict = Some verdict.TableDraw }

abbrev ack : Stamp → ℕ → List Message
ack stamp count = Ack stamp who.A count ∷ []

abbrev sent : Stamp → ℕ → Moves → Message
sent stamp number m = Move stamp (Arbiter who.A) number m

-- the source's move with this number, where so much is recorded and nothing waits
abbrev taken : Rules → Stamp → Recorded → ℕ → Moves → Answer
taken rules stamp old number m = answer_to rules (me stamp) old nothing_waits (Move stamp Source number m)

-- a move whose number is 1 above the next one waits at place 1, and one that is 30 above it at place 30, the last
waits : (rules : Rules) (stamp : Stamp) → taken rules stamp (after []) 2 g1f3 ≡ Sends (ack stamp 0) (slice_set (replicate 31 None) 1 (Some g1f3))
unfolding answer_to
waits rules stamp = refl

waits_last : (rules : Rules) (stamp : Stamp) → taken rules stamp (after []) 31 a2a3 ≡ Sends (ack stamp 0) (slice_set (replicate 31 None) 30 (Some a2a3))
unfolding answer_to
waits_last rules stamp = refl

-- the move that came first stays
first_stays : (rules : Rules) (stamp : Stamp) → answer_to rules (me stamp) (after []) (Some g1f3 ∷ []) (Move stamp Source 1 a2a3) ≡ Sends (ack stamp 0) (Some g1f3 ∷ [])
unfolding answer_to
first_stays rules stamp = refl

too_far : (rules : Rules) (stamp : Stamp) → taken rules stamp (after []) 32 a2a3 ≡ Refuses TooFarAhead
unfolding answer_to
too_far rules stamp = refl

too_long : (rules : Rules) (stamp : Stamp) → taken rules stamp (after []) 4096 a2a3 ≡ Refuses TooLong
unfolding answer_to
too_long rules stamp = refl

-- also where there is a verdict
too_long_at_verdict : (rules : Rules) (stamp : Stamp) → taken rules stamp drawn 4096 a2a3 ≡ Refuses TooLong
unfolding answer_to
too_long_at_verdict rules stamp = refl

-- a repeated move isn't looked at
repeated : (rules : Rules) (stamp : Stamp) → taken rules stamp three 1 e2e4 ≡ Sends (ack stamp 3) nothing_waits
unfolding answer_to
repeated rules stamp = refl

told_at_verdict : (rules : Rules) (stamp : Stamp) → taken rules stamp drawn 7 a2a3 ≡ Sends (Ack stamp who.A 1 ∷ Verdict stamp who.A 1 verdict.TableDraw ∷ []) nothing_waits
unfolding answer_to
told_at_verdict rules stamp = refl

-- of eight moves from the first on there are three, from the fourth on none, and one is wanted from the second on
fetches_all : (rules : Rules) (stamp : Stamp) → answer_to rules (me stamp) three nothing_waits (Fetch stamp who.B 0 8) ≡ Sends (sent stamp 0 e2e4 ∷ sent stamp 1 e7e5 ∷ sent stamp 2 g1f3 ∷ []) nothing_waits
unfolding answer_to
fetches_all rules stamp = refl

fetches_none : (rules : Rules) (stamp : Stamp) → answer_to rules (me stamp) three nothing_waits (Fetch stamp who.B 3 8) ≡ Sends [] nothing_waits
unfolding answer_to
fetches_none rules stamp = refl

fetches_one : (rules : Rules) (stamp : Stamp) → answer_to rules (me stamp) three nothing_waits (Fetch stamp who.B 1 1) ≡ Sends (sent stamp 1 e7e5 ∷ []) nothing_waits
unfolding answer_to
fetches_one rules stamp = refl

-- nothing is asked for at a verdict
asks : (stamp : Stamp) → request_of (me stamp) three ≡ Some (Fetch stamp who.A 3 8)
asks stamp = refl

asks_nothing : (stamp : Stamp) → request_of (me stamp) drawn ≡ None
asks_nothing stamp = refl

-- two of three moves that waited were played, and so was the one before them: the last one waits at place 0
later : still_waits (Some e7e5 ∷ Some g1f3 ∷ None ∷ Some a2a3 ∷ replicate 27 None) 3 ≡ Some a2a3 ∷ replicate 30 None
later = refl
