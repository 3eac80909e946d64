use Rattle.std.proofs.Common.{◌<◌, List, map, sym, ◌∙◌, subst, arith}
use Rattle.std.proofs.lemmas.List.{at_drop_all, length-map}
use Rattle.move_msg.specs.Files.{File}
use Rattle.relay_world.specs.Gathering.{found_in, tables_from}
use Rattle.relay_world.proofs.Gathered.{goes_on, is_refused, none_left}
use Rattle.relay_world.proofs.gathering.add_all.Goals as goal

pub returns-in-Err-clause-tables : goal.returns-in-Err-clause-tables
returns-in-Err-clause-tables c =
    let files : List File = map (λ f. record { name = f.0.now; bytes = f.1.now }) c.args.files.now in
    is_refused files c.loop-place.place (record { name = c.file_at-file.result.name.now; bytes = c.file_at-file.result.bytes.now }) (subst (λ n. c.loop-place.place < n) (sym (length-map c.args.files.now (λ f. record { name = f.0.now; bytes = f.1.now }))) c.loop-place-test.true) (sym c.file_at-file.ensures) _ _ _ _ c.in_ok-found.ensures (rw c.in-Err.is at c.in_ok-add.ensures.tables) c.loop-place.invariant.0

pub loop-place-preserved : goal.loop-place-preserved
loop-place-preserved c =
    let files : List File = map (λ f. record { name = f.0.now; bytes = f.1.now }) c.args.files.now in
    (goes_on files c.loop-place.place (record { name = c.file_at-file.result.name.now; bytes = c.file_at-file.result.bytes.now }) (subst (λ n. c.loop-place.place < n) (sym (length-map c.args.files.now (λ f. record { name = f.0.now; bytes = f.1.now }))) c.loop-place-test.true) (sym c.file_at-file.ensures) _ _ _ _ c.in_ok-found.ensures (rw c.in-Ok.is at c.in_ok-add.ensures.tables) c.loop-place.invariant.0, c.in_ok-add.ensures.cache ∙ c.loop-place.invariant.1)

pub returns-clause-tables : goal.returns-clause-tables
returns-clause-tables c =
    let files : List File = map (λ f. record { name = f.0.now; bytes = f.1.now }) c.args.files.now in
    let n = length-map {B = File} c.args.files.now (λ f. record { name = f.0.now; bytes = f.1.now }) in
    sym (none_left c.loop-place.set.tables c.loop-place.place)
    ∙ sym (at_drop_all (λ fs. tables_from c.loop-place.set.tables c.loop-place.place (map found_in fs)) files c.loop-place.place (omega (arith, n)))
    ∙ c.loop-place.invariant.0
