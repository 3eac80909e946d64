use Rattle.std.proofs.Common.{refl}
use Rattle.answer_parts.proofs.PrintLaws.{cuts_one, fails_at, writes_one}
use Rattle.answer_commands.specs.Version.{PrintsVersion, version_text}
use Rattle.answer_commands.proofs.version.print_version.Goals as goal

pub returns-in-Ok-clause-made : goal.returns-in-Ok-clause-made
returns-in-Ok-clause-made g c =
    let made = rw c.as_bytes.ensures.value at c.in-Ok.ensures.made in
    writes_one (g.S.System.outside c.args.system.now) _ _ version_text PrintsVersion 0 (refl, refl) made

pub returns-in-Err-clause-made : goal.returns-in-Err-clause-made
returns-in-Err-clause-made g c =
    let made = rw c.as_bytes.ensures.value at c.in-Err.ensures.made in
    cuts_one (g.S.System.outside c.args.system.now) _ _ version_text c.in-Err.fault PrintsVersion 0 (refl, refl) made

pub returns-in-Err-clause-cause : goal.returns-in-Err-clause-cause
returns-in-Err-clause-cause g c = fails_at (g.S.System.outside c.args.system.now) _ c.in-Err.ensures.cause
