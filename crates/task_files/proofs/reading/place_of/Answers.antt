use Rattle.std.proofs.Common.{sym, ◌∙◌, subst, arith, get_or, length, ◌≡◌, ◌<◌, ℕ, List}
use Rattle.std.proofs.lemmas.List.Elements.{Contains-get_or}
use Rattle.std.specs.List.{Contains}
use Rattle.std.specs.Ordering.{nat_cmp}
use Rattle.std.specs.Cmp.Lexicographic.{slice_cmp}
use Rattle.std.specs.declared.cmp.Ordering.TheVariants.{Equal, Greater}
use Rattle.task_files.specs.FileNames.{IsNameBefore}
use Rattle.task_files.proofs.NameLaws.{any_default, same_names, later}
use Rattle.task_files.proofs.reading.place_of.Goals as goal

found : (names : List (List ℕ)) (name other : List ℕ) (i : ℕ) → i < length names → other ≡ get_or names i other → Equal ≡ slice_cmp nat_cmp other name → Contains names name
found names name other i within is same =
    let e = same_names other name (sym same) in
    subst (Contains names) (sym is ∙ e) (Contains-get_or names i other within)

pub returns-in-Equal-clause-there : goal.returns-in-Equal-clause-there
returns-in-Equal-clause-there c = found c.args.names.now c.args.name.now c.index-names-i.result c.loop-i.i c.loop-i-test.true c.index-names-i.is c.in-Equal.ensures

before : (names : List (List ℕ)) (name other : List ℕ) (i : ℕ) → i < length names → other ≡ get_or names i other → Greater ≡ slice_cmp nat_cmp other name → i < length names → IsNameBefore name (get_or names i name)
before names name other i within is greater lt =
    let same : get_or names i other ≡ get_or names i name = any_default names i other name within in
    subst (IsNameBefore name) (is ∙ same) (later other name (sym greater))

pub returns-in-Greater-clause-place : goal.returns-in-Greater-clause-place
returns-in-Greater-clause-place c = record {
  within = omega arith;
  before = c.loop-i.invariant;
  after = before c.args.names.now c.args.name.now c.index-names-i.result c.loop-i.i c.loop-i-test.true c.index-names-i.is c.in-Greater.ensures;
}
