use Rattle.std.proofs.Common.{[], refl}
use Rattle.std.proofs.lemmas.Bool.{false≢true}
use Rattle.timeline.proofs.EventLaws.{adds_none}
use Rattle.game_reports.specs.StoreReads.{OfHalf, OfNone}
use Rattle.game_reports.specs.Inside.StoreReading.{folder_of}
use Rattle.game_reports.proofs.StoreLaws.{store_read}
use Rattle.game_reports.proofs.store_reading.read_store.Goals as goal

pub returns-then-has_half_store : goal.returns-then-has_half_store
returns-then-has_half_store g c = ([], adds_none (g.S.System.outside c.args.system.now) _, OfHalf (c.if-has_half_store.ensures.0 refl) refl refl)

pub returns-then-not-has_name : goal.returns-then-not-has_name
returns-then-not-has_name g c = rw c.new.ensures.items ([], adds_none (g.S.System.outside c.args.system.now) _, OfNone (λ half. false≢true (c.if-has_half_store.ensures.1 half)) (λ there. false≢true (c.if-not-has_name.ensures.1 there)) (refl, refl))

pub returns : goal.returns
returns g c = store_read (g.S.System.outside c.args.system.now) _ _ (folder_of c.args.store.now) _ _ (λ half. false≢true (c.if-has_half_store.ensures.1 half)) (c.if-not-has_name.ensures.0 refl) c.read_records.ensures
