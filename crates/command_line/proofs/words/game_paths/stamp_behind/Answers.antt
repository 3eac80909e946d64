use Rattle.std.proofs.Common.{◌≡◌, ℕ, List, Option, Some, None, arith, length}
use Rattle.std.specs.Prelude.{IfNone}
use Rattle.std.proofs.lemmas.Bool.Decides.{not_from_Decides}
use Rattle.command_line.proofs.GamePathLaws.{has_digits, too_short}
use Rattle.command_line.proofs.words.game_paths.stamp_behind.Goals as goal

pub returns-then-path-lt32-clause-none : goal.returns-then-path-lt32-clause-none
returns-then-path-lt32-clause-none c = λ stamp names. let lt = c.if-path-lt32.true in too_short c.args.path.now stamp (omega (arith, lt)) names

-- what is ruled out where there is none
none_weaker : {P Q : Type 0} (r : Option (List ℕ)) → (P → Q) → IfNone r P → IfNone r Q
none_weaker None f h = f h
none_weaker (Some x) f h = tt

pub returns-then-is_folder_front-clause-none : goal.returns-then-is_folder_front-clause-none
returns-then-is_folder_front-clause-none c =
    let ge = c.if-path-lt32.false in
    let counted = c.split_at.ensures.back_len in
    let long : length c.split_at.result.1.now ≡ 32 = omega (arith, ge, counted) in
    none_weaker c.stamp_of.result (λ none stamp names. let d = has_digits c.args.path.now _ _ stamp c.split_at.ensures.by_index.0 long names in none stamp d.size d.is) c.stamp_of.ensures.none

pub returns-else-is_folder_front-clause-none : goal.returns-else-is_folder_front-clause-none
returns-else-is_folder_front-clause-none c =
    let ge = c.if-path-lt32.false in
    let counted = c.split_at.ensures.back_len in
    let long : length c.split_at.result.1.now ≡ 32 = omega (arith, ge, counted) in
    λ stamp names. let d = has_digits c.args.path.now _ _ stamp c.split_at.ensures.by_index.0 long names in not_from_Decides _ c.is_folder_front.ensures c.if-is_folder_front.false d.folder
