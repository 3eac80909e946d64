-- What the fields of a seat stand for.
use Rattle.std.specs.Prelude.{◌≡◌, false}
use Rattle.arbiter_core.specs.Setups.{SetupView, setup_view}
use Rattle.arbiter_core.specs.Delivers.{Keeps}
use Rattle.arbiter_core.specs.Memory.{Memory}
use Rattle.relay_world.specs.declared.replica.Place.{Place}
use Rattle.relay_world.specs.declared.replica.Place.TheVariants as place
use Rattle.relay_world.specs.declared.replica.Replica.TheInside.{Inside}
use Rattle.relay_world.specs.Inside.Seats.{PlaceView, SeatView, Shut, Open}

abbrev pub place_view : Place → PlaceView
place_view (place.Shut s) = Shut (setup_view s)
place_view (place.Open v) = Open v

abbrev pub seat_of : Inside → SeatView
seat_of s = record { place = place_view s.place; keeper = s.keeper }

-- what an arbiter at a place is opened from
abbrev pub setup_in : Place → SetupView
setup_in (place.Shut s) = setup_view s
setup_in (place.Open v) = v.setup

-- what a running arbiter has recorded is what is kept
abbrev pub IsKeptAtPlace : Place → Memory → Type 0
IsKeptAtPlace (place.Shut s) keeper = Unit {0}
IsKeptAtPlace (place.Open v) keeper = v.is_down ≡ false → Keeps keeper.kept v
