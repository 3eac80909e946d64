-- The words of `listen`, part by part; cited by private functions alone.
use Rattle.std.specs.Prelude.{◌≡◌, ℕ, Bool, List, Option, Some, codes}
use Rattle.clap.specs.Words.{Text}
use Rattle.move_msg.specs.declared.arbiter_id.ArbiterId.{ArbiterId}
use Rattle.command_line.specs.Addresses.{AreRecipients, IsAddressIfAny}
use Rattle.command_line.specs.Numbers.{IsDatagrams, IsDelay, IsMe, is_set}

abbrev pub AreListenEnds : (Text → Option Text) → List ℕ → List ℕ → List ℕ → Type 0
AreListenEnds value bind to kept = (Some bind ≡ value (codes "bind")) × (Some to ≡ value (codes "to")) × AreRecipients to × (Some kept ≡ value (codes "kept"))

abbrev pub AreListenTerms : (Text → Option Text) → ArbiterId → ℕ → ℕ → Bool → Bool → Type 0
AreListenTerms value me datagrams delay fetch ready =
    IsMe (value (codes "me")) me × IsDatagrams (value (codes "datagrams")) datagrams × IsDelay (value (codes "delay")) delay × (fetch ≡ is_set (value (codes "fetch"))) × (ready ≡ is_set (value (codes "ready"))) × IsAddressIfAny (value (codes "bind"))
