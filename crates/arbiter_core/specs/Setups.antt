-- What an arbiter is opened from, as its callers see it.
use Rattle.std.specs.Prelude.{◌≡◌, ◌≤◌, ◌⊎◌, ℕ, List}
use Rattle.board_core.specs.declared.parts.Parts.{Parts}
use Rattle.fen_text.specs.Written.{fen_of}
use Rattle.judge_core.specs.Tables.{Holding}
use Rattle.move_msg.specs.Stamps.{IsGameName, stamp_of}
use Rattle.move_msg.specs.Senders.{who_number}
use Rattle.board_core.specs.Delays.{most_delay}
use Rattle.judge_core.specs.Games.{Rules}
use Rattle.arbiter_core.specs.declared.setup.Setup.{Setup}
use Rattle.arbiter_core.specs.declared.setup.Terms.{Terms}
use Rattle.arbiter_core.specs.Answering.{Identity}

-- a setup, without where its parts lie and without what the cache holds
pub record SetupView : Type 0 where
  pub name : List ℕ
  pub start : Parts
  pub manifest : List ℕ
  pub me : ℕ
  pub delay : ℕ
  pub set : Holding

abbrev pub setup_view : Setup → SetupView
setup_view s = record { name = s.name.items; start = s.start; manifest = s.manifest.now; me = s.me; delay = s.delay; set = s.set }

-- terms with tables
abbrev pub terms_with : Terms → Holding → SetupView
terms_with t set = record { name = t.name.items; start = t.start; manifest = t.manifest.now; me = who_number t.me; delay = t.delay; set = set }

-- how the game is judged
abbrev pub rules_at : SetupView → Rules
rules_at setup = record { start = setup.start; tables = setup.set.tables; delay = setup.delay }

-- a setup that an arbiter can be opened from: its name is that of a game, its number that of an arbiter
pub record IsGood (setup : SetupView) : Type 0 where
  pub name : IsGameName setup.name
  pub me : (setup.me ≡ 1) ⊎ (setup.me ≡ 2)
  pub delay : setup.delay ≤ most_delay

-- the arbiter of a setup has this stamp and is this one of the two
pub record IsIdentity (setup : SetupView) (me : Identity) : Type 0 where
  pub stamp : me.stamp ≡ stamp_of setup.name (fen_of setup.start) setup.manifest setup.delay
  pub who : who_number me.who ≡ setup.me
