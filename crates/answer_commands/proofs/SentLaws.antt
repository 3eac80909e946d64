-- The game that is sent, as it is read.
use Rattle.std.proofs.Common.{◌≡◌, ◌∷◌, [], ℕ, List, ap, refl}
use Rattle.std.specs.Prelude.{Result, Ok, Err, Vec, option_map}
use Rattle.std.specs.Borrow.{Bor}
use Rattle.std.specs.Global.{Global}
use Rattle.answer_commands.specs.Inside.Sending.{ToldGiven}
use Rattle.answer_commands.specs.SentGames.{IsStamped, NotStamped, ReadsToldGame}
use Rattle.answer_commands.specs.Stamping.{ReadsStamping}
use Rattle.answer_commands.specs.declared.sent_game.GameSent.{GameSent}
use Rattle.board_core.specs.Position.{IsPosition}
use Rattle.board_core.specs.declared.parts.Parts.{Parts}
use Rattle.command_line.specs.declared.commands.send.Send.{Send}
use Rattle.command_line.specs.declared.commands.send.ToldGame.{ToldGame}
use Rattle.fen_text.specs.Fen.{SpellsPosition}
use Rattle.fen_text.specs.Written.{fen_of}
use Rattle.move_msg.specs.Stamps.{stamp_of}
use Rattle.move_msg.specs.declared.stamp.Stamp.{Stamp}
use Rattle.system_io.specs.Disks.{DiskFacts}
use Rattle.timeline.specs.Events.{Event}

game_with : Stamp → Parts → GameSent
game_with stamp start = record { stamp = stamp; start = start }

-- a game whose manifest was read
pub stamped : (disk : DiskFacts) (t : Send) (g : ToldGame) (start : Parts) (manifest : List ℕ) (stamp : Stamp) (events : List Event) → SpellsPosition g.start.now start → IsPosition start
    → ReadsStamping disk (option_map (λ s. s.now) t.manifest) g.tables.now (Ok manifest) events → stamp ≡ stamp_of g.name (fen_of start) manifest t.delay → ReadsToldGame disk t g (Ok (record { stamp = stamp; start = start })) events
unfolding game_with
stamped disk t g start manifest stamp events spells legal reads is = IsStamped start manifest spells legal reads (ap (λ (s : Stamp). Ok (game_with s start)) is)
