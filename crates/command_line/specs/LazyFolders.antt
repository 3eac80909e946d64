-- A folder whose tables are read at once, before all answers; or each when a position asks for it (this project's own).
use Rattle.std.specs.Prelude.{Bool, true, false, Option, None}

-- a folder whose tables are read at once, before all answers; or each when a position asks for it
abbrev pub read_at_once : {X : Type 0} → Bool → Option X → Option X
read_at_once true folder = None
read_at_once false folder = folder

abbrev pub read_when_asked : {X : Type 0} → Bool → Option X → Option X
read_when_asked true folder = folder
read_when_asked false folder = None
