-- The definitions computed on messages and records whose bytes are known from outside: each row holds by evaluation alone.
use Rattle.std.proofs.Common.{◌≡◌, ℕ, List, [], ◌∷◌, ◌++◌, Option, Some, None, Ok, Err, refl}
use Rattle.std.specs.Int.{w16, to_be_bytes}
use Rattle.board_core.specs.declared.piece.Promotion.{Promotion}
use Rattle.board_core.specs.declared.piece.Promotion.TheVariants.{Queen}
use Rattle.board_core.specs.declared.moves.Move.{Move as Moves}
use Rattle.move_msg.specs.declared.stamp.Stamp.{Stamp}
use Rattle.board_core.specs.declared.verdict.Verdict.TheVariants as verdict
use Rattle.move_msg.specs.declared.arbiter_id.ArbiterId.TheVariants as who
use Rattle.move_msg.specs.declared.message.Message.TheVariants.{Move, Ack, Verdict, Fetch}
use Rattle.move_msg.specs.declared.message.MessageFault.TheVariants.{BadLength, BadKind, BadField}
use Rattle.move_msg.specs.declared.arbiter_id.Sender.TheVariants.{Source, Arbiter}
use Rattle.move_msg.specs.Words.{word_of}
use Rattle.move_msg.specs.Heard.{heard_in, move_with, reader_of}
use Rattle.move_msg.specs.Messages.{frame, message_text}
use Rattle.move_msg.specs.Records.{body_text, old_frame, record_frame}

abbrev move : ℕ → ℕ → Option Promotion → Moves
move from to promotion = record { from = from; to = to; promotion = promotion }

-- e2e4 is 07 0C and e7e8q is 1F 34
e2e4_word : to_be_bytes w16 (word_of (move 12 28 None)) ≡ 7 ∷ 12 ∷ []
e2e4_word = refl

e7e8q_word : to_be_bytes w16 (word_of (move 52 60 (Some Queen))) ≡ 31 ∷ 52 ∷ []
e7e8q_word = refl

abbrev sixteen : List ℕ
sixteen = 0 ∷ 1 ∷ 2 ∷ 3 ∷ 4 ∷ 5 ∷ 6 ∷ 7 ∷ 8 ∷ 9 ∷ 10 ∷ 11 ∷ 12 ∷ 13 ∷ 14 ∷ 15 ∷ []

abbrev stamp : Stamp
stamp = sixteen

-- e2e4 as number 0
first_move : message_text (Move stamp Source 0 (move 12 28 None)) ≡ 83 ∷ 65 ∷ 1 ∷ 1 ∷ sixteen ++ (0 ∷ 0 ∷ 0 ∷ 0 ∷ 0 ∷ 7 ∷ 12 ∷ [])
unfolding frame
first_move = refl

-- an acknowledgement of 1 with 3, and a verdict of 2 with ply 4 and code 5
ack : message_text (Ack stamp who.A 3) ≡ 83 ∷ 65 ∷ 1 ∷ 2 ∷ sixteen ++ (1 ∷ 0 ∷ 0 ∷ 0 ∷ 3 ∷ 0 ∷ 0 ∷ [])
unfolding frame
ack = refl

white_wins : message_text (Verdict stamp who.B 4 verdict.TableWhite) ≡ 83 ∷ 65 ∷ 1 ∷ 3 ∷ sixteen ++ (2 ∷ 0 ∷ 0 ∷ 0 ∷ 4 ∷ 0 ∷ 5 ∷ [])
unfolding frame
white_wins = refl

-- e2e4 passed on by 1, and eight moves from 0 on wanted by 2
passed_on : message_text (Move stamp (Arbiter who.A) 5 (move 12 28 None)) ≡ 83 ∷ 65 ∷ 2 ∷ 1 ∷ sixteen ++ (1 ∷ 0 ∷ 0 ∷ 0 ∷ 5 ∷ 7 ∷ 12 ∷ [])
unfolding frame
passed_on = refl

fetch : message_text (Fetch stamp who.B 0 8) ≡ 83 ∷ 65 ∷ 2 ∷ 4 ∷ sixteen ++ (2 ∷ 0 ∷ 0 ∷ 0 ∷ 0 ∷ 0 ∷ 8 ∷ [])
unfolding frame
fetch = refl

-- the same read, and three faults
move_heard : heard_in (83 ∷ 65 ∷ 1 ∷ 1 ∷ sixteen ++ (0 ∷ 0 ∷ 0 ∷ 0 ∷ 0 ∷ 31 ∷ 52 ∷ [])) ≡ Ok (Move stamp Source 0 (move 52 60 (Some Queen)))
unfolding heard_in reader_of move_with
move_heard = refl

fetch_heard : heard_in (83 ∷ 65 ∷ 2 ∷ 4 ∷ sixteen ++ (2 ∷ 0 ∷ 0 ∷ 0 ∷ 0 ∷ 0 ∷ 8 ∷ [])) ≡ Ok (Fetch stamp who.B 0 8)
unfolding heard_in reader_of
fetch_heard = refl

verdict_heard : heard_in (83 ∷ 65 ∷ 1 ∷ 3 ∷ sixteen ++ (2 ∷ 0 ∷ 0 ∷ 0 ∷ 4 ∷ 0 ∷ 5 ∷ [])) ≡ Ok (Verdict stamp who.B 4 verdict.TableWhite)
unfolding heard_in reader_of
verdict_heard = refl

nine_wanted : heard_in (83 ∷ 65 ∷ 2 ∷ 4 ∷ sixteen ++ (2 ∷ 0 ∷ 0 ∷ 0 ∷ 0 ∷ 0 ∷ 9 ∷ [])) ≡ Err BadField
unfolding heard_in reader_of
nine_wanted = refl

ack_of_version_2 : heard_in (83 ∷ 65 ∷ 2 ∷ 2 ∷ sixteen ++ (1 ∷ 0 ∷ 0 ∷ 0 ∷ 3 ∷ 0 ∷ 0 ∷ [])) ≡ Err BadKind
unfolding heard_in reader_of
ack_of_version_2 = refl

nothing_heard : heard_in [] ≡ Err BadLength
unfolding heard_in
nothing_heard = refl

-- the record of no moves, and that of e2e4 without a verdict, with the delays 0 and 3; in version 1 without a delay
abbrev no_move : List ℕ
no_move = body_text 0 0 []

abbrev e2e4 : List ℕ
e2e4 = body_text 0 1 (to_be_bytes w16 (word_of (move 12 28 None)))

no_moves : record_frame sixteen 0 no_move ≡ 83 ∷ 82 ∷ 2 ∷ sixteen ++ (0 ∷ 0 ∷ 0 ∷ 0 ∷ 0 ∷ 0 ∷ [])
unfolding record_frame body_text
no_moves = refl

one_move : record_frame sixteen 0 e2e4 ≡ 83 ∷ 82 ∷ 2 ∷ sixteen ++ (0 ∷ 0 ∷ 0 ∷ 0 ∷ 0 ∷ 1 ∷ 7 ∷ 12 ∷ [])
unfolding record_frame body_text
one_move = refl

one_move_later : record_frame sixteen 3 e2e4 ≡ 83 ∷ 82 ∷ 2 ∷ sixteen ++ (3 ∷ 0 ∷ 0 ∷ 0 ∷ 0 ∷ 1 ∷ 7 ∷ 12 ∷ [])
unfolding record_frame body_text
one_move_later = refl

one_move_before : old_frame sixteen e2e4 ≡ 83 ∷ 82 ∷ 1 ∷ sixteen ++ (0 ∷ 0 ∷ 0 ∷ 0 ∷ 1 ∷ 7 ∷ 12 ∷ [])
unfolding old_frame body_text
one_move_before = refl
