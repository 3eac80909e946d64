use Rattle.std.proofs.Common.{◌∙◌, ◌++◌, ◌∷◌, [], ap}
use Rattle.system_fakes.proofs.DiskLaws.{Held, renamed_either}
use Rattle.system_fakes.proofs.disk_file.DiskFile.give_name.Goals as goal

pub returns-in-Ok-clause-either : goal.returns-in-Ok-clause-either
returns-in-Ok-clause-either c = λ old bytes h s.
    renamed_either c.args.self.now _ _ old bytes (c.in-Ok.ensures.items ∙ ap (λ (x : Held). c.args.self.now.earlier.items ++ x ∷ []) c.take-in-Some.ensures.value) c.in-Some.ensures.value h s
