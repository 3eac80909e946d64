use Rattle.std.proofs.Common.{Option, Some, subst, sym}
use Rattle.system_fakes.specs.declared.disk_file.Content.{Content}
use Rattle.system_fakes.specs.PowerLosses.{HoldsSynced}
use Rattle.system_fakes.proofs.DiskLaws.{renamed_so, still}
use Rattle.system_fakes.proofs.disk_file.DiskFileKeptFile.rename.Goals as goal

pub returns-in_err-give_name-in-After-clause-either : goal.returns-in_err-give_name-in-After-clause-either
returns-in_err-give_name-in-After-clause-either c = λ old bytes h s.
    c.give_name-in-After.ensures.either old bytes (still c.args.self.now c.next.new.self old old c.next.ensures.stands c.next.ensures.earlier h) (subst (λ (x : Option Content). HoldsSynced x bytes) (sym c.next.ensures.beside) s)

pub returns-in-Good-clause-renamed : goal.returns-in-Good-clause-renamed
returns-in-Good-clause-renamed c = renamed_so c.give_name.result c.args.self.now.beside c.next.new.self.beside c.give_name.new.self c.next.ensures.beside c.give_name.ensures.renamed c.give_name.ensures.name

pub returns-in-Good-clause-either : goal.returns-in-Good-clause-either
returns-in-Good-clause-either c = λ old bytes h s.
    c.give_name.ensures.either old bytes (still c.args.self.now c.next.new.self old old c.next.ensures.stands c.next.ensures.earlier h) (subst (λ (x : Option Content). HoldsSynced x bytes) (sym c.next.ensures.beside) s)

pub returns-in_ok-give_name-in-After-clause-either : goal.returns-in_ok-give_name-in-After-clause-either
returns-in_ok-give_name-in-After-clause-either c = λ old bytes h s.
    still c.give_name-in-After.new.self c.fail-in-After.new.self old (Some bytes) c.fail-in-After.ensures.stands c.fail-in-After.ensures.earlier
    (c.give_name-in-After.ensures.either old bytes (still c.args.self.now c.next.new.self old old c.next.ensures.stands c.next.ensures.earlier h) (subst (λ (x : Option Content). HoldsSynced x bytes) (sym c.next.ensures.beside) s))
