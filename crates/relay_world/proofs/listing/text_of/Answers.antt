use Rattle.std.proofs.Common.{Result, Ok, Err}
use Rattle.std.specs.Prelude.{IsOk, MatchResult}
use Rattle.move_msg.proofs.ManifestLaws.{name_utf8}
use Rattle.relay_world.proofs.listing.text_of.Goals as goal

read_ok : {T E U : Type 0} (P : T → Type 0) (Q : E → Type 0) (r : Result T E) → MatchResult r P (λ e. (U → ⊥) × Q e) → U → IsOk r
read_ok P Q (Ok x) m u = search
read_ok P Q (Err e) m u = absurd (m.0 u)

pub unwrap-requires : goal.unwrap-requires
unwrap-requires c = read_ok _ _ c.from_utf8.result c.from_utf8.ensures.cases (name_utf8 c.args.name.now c.requires)
