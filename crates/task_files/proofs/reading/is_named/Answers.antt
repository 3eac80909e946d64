use Rattle.std.proofs.Common.{refl, ap, sym, ◌∙◌, subst, map, arith}
use Rattle.std.proofs.lemmas.List.{take_all}
use Rattle.std.specs.List.{Contains}
use Rattle.move_msg.specs.Manifests.{Entry, entry_of}
use Rattle.task_files.proofs.NameLaws.{entry_names, has_at, lacks_more, one_more, parted, same_bytes, other_bytes}
use Rattle.task_files.proofs.reading.is_named.Goals as goal

pub returns-then-eq : goal.returns-then-eq
returns-then-eq c =
    let same = same_bytes _ _ (sym c.eq.ensures ∙ c.if-eq.true) in
    let here = parted entry_names c.args.lines.now c.loop-line.line-index c.line-item.result c.loop-line-test.true in
    (λ yes. has_at _ _ _ c.args.name.now _ here (ap (λ line. line.name.bytes) (sym c.line-item.is) ∙ sym c.as_str.ensures.value ∙ same), λ h. refl)

pub loop-line-preserved : goal.loop-line-preserved
loop-line-preserved c =
    let differs = other_bytes _ _ (sym c.eq.ensures ∙ c.if-eq.false) in
    lacks_more _ _ _ c.args.name.now (one_more entry_names c.args.lines.now c.loop-line.line-index c.line-item.result c.loop-line-test.true) c.loop-line.invariant (λ same. differs (c.as_str.ensures.value ∙ ap (λ line. line.name.bytes) c.line-item.is ∙ same))

pub returns : goal.returns
returns c = (
  λ no. absurd cc,
  λ h. absurd (c.loop-line.invariant (subst (λ lines. Contains (map (λ (e : Entry). e.name) (map entry_of lines)) c.args.name.now) (sym (take_all c.loop-line.line-index c.args.lines.now (omega arith))) h)),
)
