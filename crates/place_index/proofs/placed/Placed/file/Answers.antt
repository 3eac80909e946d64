use Rattle.std.proofs.Common.{◌≡◌, ◌∙◌, take, false}
use Rattle.place_index.specs.Shape.{has_pawns}
use Rattle.place_index.proofs.Turns.TurnedPawns.{file_none}
use Rattle.place_index.proofs.placed.Placed.file.Goals as goal

pub returns-clause-first : goal.returns-clause-first
returns-clause-first c plain =
    let none : has_pawns c.self.inside.material ≡ false = rw (← c.self.view_is) at plain in
    c.self.invariant.file ∙ file_none c.self.inside.material (take c.self.inside.count c.self.inside.men) none
