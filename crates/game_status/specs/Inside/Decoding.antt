-- What the bytes of a game's record are; cited by private functions alone.
use Rattle.std.specs.Prelude.{◌≡◌, ℕ, List, Some, option_map}
use Rattle.move_msg.specs.declared.record_bytes.Record.{Record as Records}
use Rattle.move_msg.specs.Records.{IsFirstRecordFault, SpellsRecord}
use Rattle.game_status.specs.declared.entry.Entry.{Entry}
use Rattle.game_status.specs.declared.entry.EntryFault.{EntryFault}
use Rattle.game_status.specs.declared.entry.EntryFault.TheVariants.{NoGame, BadGame, Keeper, BadRecord, OtherStamp, OtherGame}
use Rattle.game_status.specs.declared.side.Side.{Side}
use Rattle.game_status.specs.Sides.{IsOfStamp, IsRecorded}

-- why the bytes are no record of this stamp and delay
abbrev pub IsNoRecordOf : List ℕ → List ℕ → ℕ → EntryFault → Type 0
IsNoRecordOf bytes stamp delay NoGame = ⊥
IsNoRecordOf bytes stamp delay (BadGame fault) = ⊥
IsNoRecordOf bytes stamp delay Keeper = ⊥
IsNoRecordOf bytes stamp delay (BadRecord fault) = IsFirstRecordFault bytes fault
IsNoRecordOf bytes stamp delay OtherStamp = (r : Records) × SpellsRecord bytes r × (IsOfStamp r stamp delay → ⊥)
IsNoRecordOf bytes stamp delay OtherGame = ⊥

-- the side has the game and the record of the entry
pub record AreSides (e : Entry) (stamp : List ℕ) (s : Side) : Type 0 where
  pub game : s.game ≡ e.game
  pub recorded : IsRecorded stamp e.game.delay (option_map (λ v. v.items) e.kept) s.kept

-- why the entry has no record of the stamp
pub record IsNoSide (e : Entry) (stamp : List ℕ) (fault : EntryFault) : Type 0 where
  pub bytes : List ℕ
  pub kept : option_map (λ v. v.items) e.kept ≡ Some bytes
  pub none : IsNoRecordOf bytes stamp e.game.delay fault
