use Rattle.std.proofs.Common.{refl}
use Rattle.std.proofs.lemmas.Bool.Decides.{Decides-not}
use Rattle.board_core.proofs.mobility.is_sought.Goals as goal

pub returns-in-Any : goal.returns-in-Any
returns-in-Any c = rw c.in-Any.is (λ _. tt, λ _. refl)

pub returns-in-BesidesEnPassant : goal.returns-in-BesidesEnPassant
returns-in-BesidesEnPassant c = rw c.in-BesidesEnPassant.is (Decides-not _ c.is_en_passant.ensures)
