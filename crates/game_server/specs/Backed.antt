-- What is announced rests on what was kept before (this project's own).
use Rattle.std.specs.Prelude.{◌≡◌, ◌≤◌, ◌++◌, ℕ, List, [], ◌∷◌, length, Some}
use Rattle.std.specs.declared.net.socket_addr.SocketAddr.{SocketAddr}
use Rattle.board_core.specs.declared.verdict.Verdict.{Verdict as Verdicts}
use Rattle.move_msg.specs.Messages.{SpellsMessage}
use Rattle.move_msg.specs.Records.{SpellsRecord}
use Rattle.move_msg.specs.declared.message.Message.{Message}
use Rattle.move_msg.specs.declared.message.Message.TheVariants.{Move, Ack, Verdict, Fetch}
use Rattle.move_msg.specs.declared.record_bytes.Record.{Record}
use Rattle.move_msg.specs.declared.stamp.Stamp.{Stamp}
use Rattle.timeline.specs.Events.{Event, Sent}
use Rattle.game_folder.specs.Places.{Held, Places, kept_by}

-- a record of this game with at least so many moves is held
abbrev pub HasMoves : Held → Stamp → ℕ → Type 0
HasMoves held stamp count = (bytes : List ℕ) × (r : Record) × held stamp bytes × SpellsRecord bytes r × (r.stamp ≡ stamp) × (count ≤ length r.moves)

-- a record of this game with so many moves and this verdict is held
abbrev pub HasVerdict : Held → Stamp → ℕ → Verdicts → Type 0
HasVerdict held stamp ply verdict = (bytes : List ℕ) × (r : Record) × held stamp bytes × SpellsRecord bytes r × (r.stamp ≡ stamp) × (length r.moves ≡ ply) × (r.verdict ≡ Some verdict)

-- what a message says of a record is held; a move and a request say nothing of it
abbrev pub IsBacked : Held → Message → Type 0
IsBacked held (Move stamp sender number m) = Unit {0}
IsBacked held (Ack stamp who count) = HasMoves held stamp count
IsBacked held (Verdict stamp who ply verdict) = HasVerdict held stamp ply verdict
IsBacked held (Fetch stamp who number wanted) = Unit {0}

-- this event comes after these: where it sends a message, that was backed before
abbrev pub IsEarned : Places → List Event → Event → Type 0
IsEarned places before event =
    (to : SocketAddr) (bytes : List ℕ) (m : Message) → event ≡ Sent to bytes → SpellsMessage bytes m → IsBacked (kept_by places before) m

-- so it is of each event, with all that came before it
abbrev pub EachEarned : Places → List Event → List Event → Type 0
EachEarned places before [] = Unit {0}
EachEarned places before (e ∷ es) = IsEarned places before e × EachEarned places (before ++ e ∷ []) es
