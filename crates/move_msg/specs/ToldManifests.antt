-- The contents of a manifest (this project's own).
use Rattle.std.specs.Prelude.{ℕ, List, Result, Ok, Err}
use Rattle.move_msg.specs.Manifests.{Entry, SpellsManifest, IsFirstBadLine}

-- the contents of a manifest's text: its entries, or the number of its first malformed line
abbrev pub ToldManifest : Type 0
ToldManifest = Result (List Entry) ℕ

abbrev pub TellsManifest : List ℕ → ToldManifest → Type 0
TellsManifest text (Ok es) = SpellsManifest text es
TellsManifest text (Err k) = IsFirstBadLine text k
