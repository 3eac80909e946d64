use Rattle.std.proofs.Common.{◌≡◌, ℕ, List}
use Rattle.std.specs.Prelude.{Option, Some, None, IfNone, IfSome, codes}
use Rattle.std.specs.Borrow.{Bor}
use Rattle.board_core.specs.declared.parts.Parts.{Parts}
use Rattle.fen_text.specs.Written.{fen_of}
use Rattle.arbiter_server.specs.GameFiles.{HasStart}
use Rattle.arbiter_server.specs.Inside.ValueLines.{StartsLine}
use Rattle.arbiter_server.proofs.OneLines.{fen_one}
use Rattle.arbiter_server.proofs.game_lines.start_text_in.Goals as goal

only_by : (text : List ℕ) (r : Option (Bor (List ℕ) × Bor (List ℕ))) → IfSome r (λ x. (value rest : List ℕ) → StartsLine (codes "start ") text value rest → (value ≡ x.0.now) × (rest ≡ x.1.now)) → IfSome r (λ x. (start : Parts) (rest : List ℕ) → HasStart text start rest → fen_of start ≡ x.0.now)
only_by text None h = tt
only_by text (Some x) h = λ start rest has. (h (fen_of start) rest (record { has = has.1; one = fen_one start has.0 })).0

none_by : (text : List ℕ) (r : Option (Bor (List ℕ) × Bor (List ℕ))) → IfNone r ((value rest : List ℕ) → StartsLine (codes "start ") text value rest → ⊥) → IfNone r ((start : Parts) (rest : List ℕ) → HasStart text start rest → ⊥)
none_by text None h = λ start rest has. h (fen_of start) rest (record { has = has.1; one = fen_one start has.0 })
none_by text (Some x) h = tt

pub returns-clause-only : goal.returns-clause-only
returns-clause-only c = only_by c.args.text.now c.value_after.result c.value_after.ensures.only

pub returns-clause-none : goal.returns-clause-none
returns-clause-none c = none_by c.args.text.now c.value_after.result c.value_after.ensures.none
