use Rattle.std.proofs.Common.{◌≡◌, ◌∙◌, ◌++◌, ℕ, List, ap, codes, subst, sym}
use Rattle.std.proofs.lemmas.Slice.Eq.{bytes_eq-Decides}
use Rattle.command_line.specs.GamePaths.{NamesGame}
use Rattle.command_line.proofs.GamePathLaws.{none_there}
use Rattle.command_line.proofs.words.game_paths.stamp_in.Goals as goal

pub returns-then-eq-clause-none : goal.returns-then-eq-clause-none
returns-then-eq-clause-none c =
    let ending : c.split_at.result.1.now ≡ codes ".game" = (bytes_eq-Decides c.split_at.result.1.now c.as_slice.result.now).0 (sym c.if-eq.ensures) ∙ c.as_slice.ensures in
    let parts : c.args.path.now ≡ c.split_at.result.0.now ++ codes ".game" = sym c.as_bytes-bytes.ensures.value ∙ c.split_at.ensures.by_index.0 ∙ ap (λ (e : List ℕ). c.split_at.result.0.now ++ e) ending in
    none_there _ ((stamp : List ℕ) → NamesGame (c.split_at.result.0.now ++ codes ".game") stamp → ⊥) ((stamp : List ℕ) → NamesGame c.args.path.now stamp → ⊥)
    (λ none stamp names. none stamp (subst (λ (p : List ℕ). NamesGame p stamp) parts names)) c.stamp_behind.ensures.none
