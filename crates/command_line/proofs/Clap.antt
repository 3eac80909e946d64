-- The commands are simple.
use Rattle.std.proofs.Common.{◌≡◌, true, refl}
use Rattle.clap.specs.Words.{is_simple_and_free}
use Rattle.clap.proofs.OnLiterals.{clap_on_literals}
use Rattle.command_line.specs.declared.commands.Name.{Name}
use Rattle.command_line.specs.declared.commands.Name.TheVariants as name
use Rattle.command_line.specs.Tasks.{app_for}

pub is_simple : (name : Name) → is_simple_and_free (app_for name) ≡ true
unfolding clap_on_literals app_for
is_simple name.Judge = refl
is_simple name.Probe = refl
is_simple name.Moves = refl
is_simple name.List = refl
is_simple name.Check = refl
is_simple name.Show = refl
is_simple name.Run = refl
is_simple name.Listen = refl
is_simple name.Probes = refl
is_simple name.Game = refl
is_simple name.Games = refl
is_simple name.Pgn = refl
is_simple name.Record = refl
is_simple name.Audit = refl
is_simple name.Version = refl
is_simple name.Send = refl
is_simple name.Enter = refl
is_simple name.Host = refl
is_simple name.Root = refl
is_simple name.Follow = refl
is_simple name.Status = refl
is_simple name.Serve = refl
