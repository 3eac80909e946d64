-- The library's version.
use Rattle.std.specs.Prelude.{ℕ, List, codes}

abbrev pub version : List ℕ
version = codes "hofsjurd 1.0.0"
