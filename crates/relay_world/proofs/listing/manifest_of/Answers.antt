use Rattle.std.proofs.Common.{rules, ◌≡◌, ◌∙◌, ◌<◌, ℕ, List, map, sym, ap, subst, arith}
use Rattle.std.specs.List.{insert}
use Rattle.std.proofs.lemmas.List.{take_all, length-map}
use Rattle.std.proofs.lemmas.Result.{IfOk-weaker}
use Rattle.move_msg.specs.declared.manifest.Line.{Line}
use Rattle.std.specs.List.Sorted.{IsPermutation}
use Rattle.move_msg.specs.Files.{File, entry_for, entries_of}
use Rattle.move_msg.specs.Manifests.{AreEntries, Entry, entry_of}
use Rattle.relay_world.specs.Gathering.{IsNew, Inserts}
use Rattle.relay_world.proofs.Placing.{begins, goes_on, turn_of}
use Rattle.relay_world.proofs.listing.manifest_of.Goals as goal

pub loop-i-init : goal.loop-i-init
loop-i-init c = begins (map (λ f. record { name = f.0.now; bytes = f.1.now }) c.args.files.now) c.new-lines.result.items c.new-lines.ensures.items c.requires

pub text_of-requires : goal.text_of-requires
text_of-requires c =
    (turn_of (map (λ f. record { name = f.0.now; bytes = f.1.now }) c.args.files.now) c.loop-i.i (record { name = c.file_at-file.result.name.now; bytes = c.file_at-file.result.bytes.now }) (subst (λ n. c.loop-i.i < n) (sym (length-map c.args.files.now (λ f. record { name = f.0.now; bytes = f.1.now }))) c.loop-i-test.true) (sym c.file_at-file.ensures) (map entry_of c.loop-i.lines.items) c.loop-i.invariant).0

pub place_of-place-requires : goal.place_of-place-requires
place_of-place-requires c =
    let e : entry_of c.of-line.result ≡ entry_for (record { name = c.file_at-file.result.name.now; bytes = c.file_at-file.result.bytes.now }) =
    c.of-line.ensures.is ∙ ap (λ (n : List ℕ). entry_for (record { name = n; bytes = c.file_at-file.result.bytes.now })) c.text_of.ensures in
    subst (λ (ls : List Line). IsNew (entry_of c.of-line.result) (map entry_of ls)) (sym c.deref.ensures.value)
    (subst (λ (x : Entry). IsNew x (map entry_of c.loop-i.lines.items)) (sym e)
    (turn_of (map (λ f. record { name = f.0.now; bytes = f.1.now }) c.args.files.now) c.loop-i.i (record { name = c.file_at-file.result.name.now; bytes = c.file_at-file.result.bytes.now }) (subst (λ n. c.loop-i.i < n) (sym (length-map c.args.files.now (λ f. record { name = f.0.now; bytes = f.1.now }))) c.loop-i-test.true) (sym c.file_at-file.ensures) (map entry_of c.loop-i.lines.items) c.loop-i.invariant).1)

pub loop-i-preserved : goal.loop-i-preserved
loop-i-preserved c =
    let e : entry_of c.of-line.result ≡ entry_for (record { name = c.file_at-file.result.name.now; bytes = c.file_at-file.result.bytes.now }) =
    c.of-line.ensures.is ∙ ap (λ (n : List ℕ). entry_for (record { name = n; bytes = c.file_at-file.result.bytes.now })) c.text_of.ensures in
    let named = (turn_of (map (λ f. record { name = f.0.now; bytes = f.1.now }) c.args.files.now) c.loop-i.i (record { name = c.file_at-file.result.name.now; bytes = c.file_at-file.result.bytes.now }) (subst (λ n. c.loop-i.i < n) (sym (length-map c.args.files.now (λ f. record { name = f.0.now; bytes = f.1.now }))) c.loop-i-test.true) (sym c.file_at-file.ensures) (map entry_of c.loop-i.lines.items) c.loop-i.invariant).0 in
    let items : c.insert.new.self.items ≡ insert c.loop-i.lines.items c.place_of-place.result c.of-line.result = search rules in
    let place : Inserts (entry_of c.of-line.result) (map entry_of c.loop-i.lines.items) c.place_of-place.result = subst (λ (ls : List Line). Inserts (entry_of c.of-line.result) (map entry_of ls) c.place_of-place.result) c.deref.ensures.value c.place_of-place.ensures in
    goes_on (map (λ f. record { name = f.0.now; bytes = f.1.now }) c.args.files.now) c.loop-i.i (record { name = c.file_at-file.result.name.now; bytes = c.file_at-file.result.bytes.now }) (subst (λ n. c.loop-i.i < n) (sym (length-map c.args.files.now (λ f. record { name = f.0.now; bytes = f.1.now }))) c.loop-i-test.true) (sym c.file_at-file.ensures) c.loop-i.lines.items c.insert.new.self.items c.of-line.result c.place_of-place.result
    c.loop-i.invariant e (c.of-line.ensures.entry (rw c.text_of.ensures named)) place items

pub manifest_write-requires : goal.manifest_write-requires
manifest_write-requires c = subst (λ (ls : List Line). AreEntries (map entry_of ls)) (sym c.deref-2.ensures.value) c.loop-i.invariant.entries

pub returns : goal.returns
returns c =
    let files : List File = map (λ f. record { name = f.0.now; bytes = f.1.now }) c.args.files.now in
    let n = length-map {B = File} c.args.files.now (λ f. record { name = f.0.now; bytes = f.1.now }) in
    let all : IsPermutation (entries_of files) (map entry_of c.deref-2.result.now) =
    subst (λ (ls : List Line). IsPermutation (entries_of files) (map entry_of ls)) (sym c.deref-2.ensures.value)
    (subst (λ fs. IsPermutation (entries_of fs) (map entry_of c.loop-i.lines.items)) (take_all c.loop-i.i files (omega (arith, n))) c.loop-i.invariant.all) in
    IfOk-weaker c.manifest_write.result _ _ (λ bytes spells. record { entries = map entry_of c.deref-2.result.now; all = all; spells = spells }) c.manifest_write.ensures
