use Rattle.std.specs.Prelude.{option_map}
use Rattle.game_reports.proofs.OpeningLaws.{both_opened, first_refused, second_refused}
use Rattle.game_reports.specs.Inside.Opening.{other_opened}
use Rattle.game_reports.specs.Inside.StoreReading.{opened_of}
use Rattle.game_reports.proofs.folders.open_both.Goals as goal

pub returns-in-Err : goal.returns-in-Err
returns-in-Err g c = first_refused (g.S.System.outside c.args.system.now) c.args.folder.now (option_map (λ s. s.now) c.args.other) _ _ _ c.in-Err.ensures

pub returns-in-Ok-open_other : goal.returns-in-Ok-open_other
returns-in-Ok-open_other g c = both_opened (g.S.System.outside c.args.system.now) c.args.folder.now (option_map (λ s. s.now) c.args.other) _ _ _ (opened_of c.in-Ok.one) (other_opened c.in-Ok-open_other.other) c.in-Ok.ensures c.in-Ok-open_other.ensures

pub returns : goal.returns
returns g c = second_refused (g.S.System.outside c.args.system.now) c.args.folder.now (option_map (λ s. s.now) c.args.other) _ _ _ (opened_of c.in-Ok.one) _ c.in-Ok.ensures c.in-Err-open_other.ensures
