-- Which tables are that of the games (this project's own).
use Rattle.std.specs.Prelude.{◌≡◌, [], false}
use Rattle.sqlite.specs.Table.{Table}

-- it has no rule but those of its columns and its key
pub record HasNoRules (t : Table) : Type 0 where
  pub uniques : t.uniques ≡ []
  pub orders : t.orders ≡ []
  pub checks : t.checks ≡ []
  pub references : t.references ≡ []
  pub computed : t.computed ≡ []
  pub stamps : t.stamps ≡ record { places = []; terms = []; formats = [] }
  pub uncounted : t.is_counted ≡ false
