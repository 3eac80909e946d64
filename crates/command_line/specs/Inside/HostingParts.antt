-- The words of `host`, part by part; cited by private functions alone.
use Rattle.std.specs.Prelude.{◌≡◌, ℕ, List, Option, Some, codes}
use Rattle.clap.specs.Words.{Text}
use Rattle.move_msg.specs.declared.arbiter_id.ArbiterId.{ArbiterId}
use Rattle.arbiter_server.specs.declared.line_log.LogForm.{LogForm}
use Rattle.command_line.specs.declared.words.numbers.StoreForm.{StoreForm}
use Rattle.system_io.specs.declared.record_store.StoreFault.TheVariants as store
use Rattle.command_line.specs.Addresses.{AreRecipients, IsAddressIfAny}
use Rattle.command_line.specs.Numbers.{IsAtOnce, IsCache, IsDatagrams, IsLog, IsMe, IsStore}

abbrev pub AreHostEnds : (Text → Option Text) → List ℕ → List ℕ → List ℕ → List ℕ → Type 0
AreHostEnds value games tables bind to =
    (Some games ≡ value (codes "games")) × (Some tables ≡ value (codes "tables")) × (Some bind ≡ value (codes "bind")) × (Some to ≡ value (codes "to")) × AreRecipients to

abbrev pub AreHostTerms : (Text → Option Text) → ArbiterId → ℕ → ℕ → ℕ → LogForm → StoreForm → Type 0
AreHostTerms value me at_once cache datagrams log store =
    IsMe (value (codes "me")) me × IsAtOnce (value (codes "at-once")) at_once × IsCache (value (codes "cache")) cache × IsDatagrams (value (codes "datagrams")) datagrams × IsLog (value (codes "log")) log × IsStore (value (codes "store")) store × IsAddressIfAny (value (codes "bind"))
