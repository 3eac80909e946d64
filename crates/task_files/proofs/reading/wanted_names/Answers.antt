use Rattle.std.proofs.Common.{◌≡◌, Err, ap, subst, sym, ◌∙◌, string_bytes}
use Rattle.std.specs.List.{Contains}
use Rattle.move_msg.specs.TableNames.{IsFileName}
use Rattle.system_io.specs.declared.reading.ReadFault.TheVariants.{Unreadable}
use Rattle.task_files.specs.Outside.{IsWanted}
use Rattle.task_files.proofs.NameLaws.{texts, one_more, parted, wants_more, wants_no_more, twice}
use Rattle.task_files.proofs.reading.wanted_names.Goals.{in-None, in-Some+in-Ok}
use Rattle.task_files.proofs.reading.wanted_names.Goals as goal

pub returns-in-Err-clause-cause : goal.returns-in-Err-clause-cause
returns-in-Err-clause-cause c = λ is.
    let fault : c.in-Err.fault ≡ Unreadable = cc in
    let named = c.in-Some.ensures.name ∙ c.as_str.ensures.value ∙ ap string_bytes c.name-item.is in
    let there = subst (Contains c.loop-name.wanted.items) named (c.in-Err.ensures.cause (ap Err fault)) in
    twice _ _ _ _ _ _ (parted texts c.args.names.now c.loop-name.name-index c.name-item.result c.loop-name-test.true) c.loop-name.invariant there

pub loop-name-preserved : goal.loop-name-preserved
loop-name-preserved c =
    let more = one_more texts c.args.names.now c.loop-name.name-index c.name-item.result c.loop-name-test.true in
    let named = c.as_str.ensures.value ∙ ap string_bytes c.name-item.is in
    elim c.match-wanted_name.branch [
      | in-None w ↦ rw w.wanted-is (wants_no_more _ _ _ _ _ more (λ f v. w.in-None.ensures.none (subst IsFileName (sym named) f) (subst (IsWanted _) (sym named) v)) c.loop-name.invariant)
      | in-Some+in-Ok w ↦
          let some = w.in-Some.ensures.some in
          rw w.wanted-is (wants_more _ _ _ _ _ _ more (subst IsFileName named some.0) (subst (IsWanted _) named some.1) c.loop-name.invariant (rw (w.in-Some.ensures.name, named) at w.in-Ok.ensures.ok))
    ]
