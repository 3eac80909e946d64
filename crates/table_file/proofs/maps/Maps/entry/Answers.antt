use Rattle.std.proofs.Common.{◌≡◌, false, ap, sym, ◌∙◌}
use Rattle.table_file.proofs.maps.Maps.entry.Goals as goal

pub returns-else-self : goal.returns-else-self
returns-else-self c =
    let narrow : c.args.self.now.wide ≡ false = ap (λ m. m.wide) (sym c.self.view_is) ∙ c.if-self.false in
    rw (narrow, ← c.bytes-bytes.ensures) c.byte_entry.ensures
