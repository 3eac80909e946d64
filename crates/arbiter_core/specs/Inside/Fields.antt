-- What the fields of an arbiter stand for.
use Rattle.arbiter_core.specs.declared.arbiter.Arbiter.TheInside.{Inside}
use Rattle.arbiter_core.specs.Views.{View}
use Rattle.arbiter_core.specs.Resting.{CanWake, awake}

abbrev pub view_of : Inside → View
view_of a = awake a.state a.set

abbrev pub AreInOrder : Inside → Type 0
AreInOrder a = CanWake a.state a.set
