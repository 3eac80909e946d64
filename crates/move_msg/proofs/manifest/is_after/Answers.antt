use Rattle.std.proofs.Common.{◌≡◌, ◌-◌, sym, ◌∙◌, ap, length, map, get_or, arith}
use Rattle.std.proofs.lemmas.List.{length-map, get_or-map}
use Rattle.move_msg.specs.Manifests.{Entry, IsAfter, IsBefore, entry_of}
use Rattle.move_msg.proofs.ManifestLaws.{after_at}
use Rattle.move_msg.proofs.manifest.is_after.Goals as goal

pub returns-in-Some : goal.returns-in-Some
returns-in-Some c =
    let lines = c.args.lines.now in
    let last = c.in-Some.last.now in
    let e = entry_of c.args.line.now in
    let at : last ≡ get_or lines (length lines - 1) last = c.in-Some.ensures.item.1 in
    let some = c.in-Some.ensures.item.3.0 in
    let mapped : get_or (map entry_of lines) (length lines - 1) (entry_of last) ≡ entry_of last =
    get_or-map entry_of lines (length lines - 1) last (entry_of last) (omega arith) ∙ ap entry_of (sym at) in
    let same : IsAfter (map entry_of lines) e ≡ IsBefore (entry_of last) e =
    after_at (map entry_of lines) (length lines - 1) (entry_of last) e (omega (arith, length-map lines entry_of, some))
    ∙ ap (λ (x : Entry). IsBefore x e) mapped in
    (λ t. rw same (c.is_before.ensures.0 t), λ a. c.is_before.ensures.1 (rw same at a))
