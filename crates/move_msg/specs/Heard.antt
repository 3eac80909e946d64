-- The message that bytes encode, computed (message format, versions 1 and 2).
use Rattle.std.specs.Prelude.{◌/◌, ◌%◌, ◌==◌, ◌&&◌, ◌||◌, if◌then◌else◌, nat_le, ℕ, Bool, List, [], ◌∷◌, Option, Some, None, Result, Err, length, take, drop, slice_index, find, option_map, option_and_then}
use Rattle.std.specs.Option.{ok_or}
use Rattle.std.specs.Str.{bytes_eq}
use Rattle.std.specs.Int.{w16, w32, from_be_bytes}
use Rattle.board_core.specs.declared.piece.Promotion.{Promotion}
use Rattle.board_core.specs.declared.piece.Promotion.TheVariants.{Queen, Rook, Bishop, Knight}
use Rattle.board_core.specs.declared.moves.Move.{Move as Moves}
use Rattle.board_core.specs.declared.verdict.Verdict.{Verdict as Verdicts}
use Rattle.board_core.specs.declared.verdict.Verdict.TheVariants as verdict
use Rattle.board_core.specs.Verdicts.{verdict_code}
use Rattle.move_msg.specs.declared.stamp.Stamp.{Stamp}
use Rattle.move_msg.specs.declared.arbiter_id.ArbiterId.{ArbiterId}
use Rattle.move_msg.specs.declared.arbiter_id.ArbiterId.TheVariants as who
use Rattle.move_msg.specs.declared.arbiter_id.Sender.TheVariants.{Source, Arbiter}
use Rattle.move_msg.specs.declared.message.Message.{Message}
use Rattle.move_msg.specs.declared.message.Message.TheVariants.{Move, Ack, Verdict, Fetch}
use Rattle.move_msg.specs.declared.message.MessageFault.{MessageFault}
use Rattle.move_msg.specs.declared.message.MessageFault.TheVariants.{NoTag, BadLength, BadHead, BadKind, BadField}
use Rattle.move_msg.specs.Messages.{no_tag}
use Rattle.move_msg.specs.Numbers.{most_moves, most_wanted}
use Rattle.move_msg.specs.Senders.{who_number}
use Rattle.move_msg.specs.Words.{promotion_number}

-- the first of these that has the number
abbrev pub first_numbered : {A : Type 0} → (A → ℕ) → List A → ℕ → Option A
first_numbered number all n = find (λ x. number x == n) all

abbrev pub arbiters : List ArbiterId
arbiters = who.A ∷ who.B ∷ []

abbrev pub verdicts : List Verdicts
verdicts =
    verdict.WhiteMates ∷ verdict.BlackMates ∷ verdict.Stalemate ∷ verdict.TableDraw ∷ verdict.TableWhite ∷ verdict.TableBlack ∷ verdict.Stopped ∷ []

abbrev pub promotions : List (Option Promotion)
promotions = None ∷ Some Queen ∷ Some Rook ∷ Some Bishop ∷ Some Knight ∷ []

abbrev pub who_with : ℕ → Option ArbiterId
who_with number = first_numbered who_number arbiters number

abbrev pub verdict_with : ℕ → Option Verdicts
verdict_with code = first_numbered verdict_code verdicts code

abbrev pub promotion_with : ℕ → Option (Option Promotion)
promotion_with number = first_numbered promotion_number promotions number

-- the move that a word stands for
unfoldable pub move_with : ℕ → Option Moves
move_with word = option_map (λ p. record { from = word % 64; to = word / 64 % 64; promotion = p }) (promotion_with (word / 4096))

-- what was found, where the test holds
abbrev pub found_where : {A : Type 0} → Bool → Option A → Option A
found_where test found = if test then found else None

-- the messages of each kind by stamp, sender, number and word
abbrev pub move_heard : Stamp → ℕ → ℕ → ℕ → Option Message
move_heard stamp sender number word = found_where (sender == 0) (option_map (Move stamp Source number) (move_with word))

abbrev pub relayed_heard : Stamp → ℕ → ℕ → ℕ → Option Message
relayed_heard stamp sender number word =
    option_and_then (λ who. option_map (Move stamp (Arbiter who) number) (move_with word)) (who_with sender)

abbrev pub ack_heard : Stamp → ℕ → ℕ → ℕ → Option Message
ack_heard stamp sender number word =
    found_where (nat_le number most_moves && word == 0) (option_map (λ who. Ack stamp who number) (who_with sender))

abbrev pub verdict_heard : Stamp → ℕ → ℕ → ℕ → Option Message
verdict_heard stamp sender number word =
    found_where (nat_le number most_moves)
    (option_and_then (λ who. option_map (Verdict stamp who number) (verdict_with word)) (who_with sender))

abbrev pub fetch_heard : Stamp → ℕ → ℕ → ℕ → Option Message
fetch_heard stamp sender number word =
    found_where (nat_le number most_moves && (nat_le 1 word && nat_le word most_wanted))
    (option_map (λ who. Fetch stamp who number word) (who_with sender))

-- how the fields of this version and kind are read
unfoldable pub reader_of : ℕ → ℕ → Option (Stamp → ℕ → ℕ → ℕ → Option Message)
reader_of version kind =
    if version == 1
    then (if kind == 1 then Some move_heard else (if kind == 2 then Some ack_heard else (if kind == 3 then Some verdict_heard else None)))
    else (if kind == 1 then Some relayed_heard else (if kind == 4 then Some fetch_heard else None))

-- the message of a kind by its fields
abbrev pub heard_by : Option (Stamp → ℕ → ℕ → ℕ → Option Message) → Stamp → ℕ → ℕ → ℕ → Result Message MessageFault
heard_by None stamp sender number word = Err BadKind
heard_by (Some reader) stamp sender number word = ok_or (reader stamp sender number word) BadField

-- S, A and a version
abbrev pub begins_as_message : List ℕ → Bool
begins_as_message t = slice_index t 0 == 83 && (slice_index t 1 == 65 && (slice_index t 2 == 1 || slice_index t 2 == 2))

abbrev pub heard_there : List ℕ → Result Message MessageFault
heard_there t =
    heard_by (reader_of (slice_index t 2) (slice_index t 3)) (take 16 (drop 4 t)) (slice_index t 20) (from_be_bytes w32 (take 4 (drop 21 t))) (from_be_bytes w16 (drop 25 t))

-- the fault of bytes that are not 27
abbrev pub length_fault : List ℕ → MessageFault
length_fault t = if bytes_eq t no_tag then NoTag else BadLength

-- the message that the bytes encode, or their first fault
unfoldable pub heard_in : List ℕ → Result Message MessageFault
heard_in t = if length t == 27 then (if begins_as_message t then heard_there t else Err BadHead) else Err (length_fault t)
