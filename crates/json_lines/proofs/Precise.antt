-- Moves with the precision of the distances after them, one move more.
use Rattle.std.proofs.Common.{◌≡◌, ◌∙◌, sym, ap, subst, ℕ, ◌+◌, ◌<◌, List, [], ◌∷◌, ◌++◌, length, take, get_or, map, arith}
use Rattle.std.specs.List.{All}
use Rattle.std.proofs.lemmas.List.{take_more, map-append}
use Rattle.std.proofs.lemmas.List.Elements.{All-append, All-get_or, All-nil}
use Rattle.board_core.specs.declared.parts.Parts.{Parts}
use Rattle.board_core.specs.declared.moves.Move.{Move}
use Rattle.judge_core.specs.declared.ask.Ask.TheVariants.{Strict}
use Rattle.judge_core.specs.Tables.{Tables}
use Rattle.json_lines.specs.declared.api_told.ApiMove.{ApiMove}
use Rattle.json_lines.specs.declared.told.MoveTold.{MoveTold}
use Rattle.json_lines.specs.ApiTold.{IsFirstMove, IsPrecisionAfter, told_in}
use Rattle.json_lines.specs.Inside.Playing.{IsPlayable}
use Rattle.json_lines.specs.Told.{AreOrdered, IsMoveTold}
use Rattle.json_lines.proofs.Playing.{head_all, ordered_playable}

pub one_more_move : (moves : List MoveTold) (i : ℕ) (m : MoveTold) (ts ts' : List ApiMove) (t : ApiMove) → i < length moves → m ≡ get_or moves i m → map told_in ts ≡ take i moves → t.told ≡ m → ts' ≡ ts ++ t ∷ [] → map told_in ts' ≡ take (i + 1) moves
one_more_move moves i m ts ts' t lt is so_far et e =
    let more = take_more moves i m lt ∙ ap (λ x. take i moves ++ x ∷ []) (sym is) in
    ap (map told_in) e
    ∙ map-append told_in ts (t ∷ [])
    ∙ ap (λ ms. ms ++ t.told ∷ []) so_far
    ∙ ap (λ x. take i moves ++ x ∷ []) et
    ∙ sym more

pub one_more_holds : (P : ApiMove → Type 0) (ts ts' : List ApiMove) (t : ApiMove) → All P ts → P t → ts' ≡ ts ++ t ∷ [] → All P ts'
one_more_holds P ts ts' t all one e = subst (All P) (sym e) (All-append P ts (t ∷ []) all (head_all P t [] one (All-nil P)))

-- ---- the best move

pub none_ordered : (tables : Tables) (p : Parts) (ms : List Move) → length ms ≡ 0 → AreOrdered Strict tables p ms → AreOrdered Strict tables p []
none_ordered tables p [] e h = h
none_ordered tables p (m ∷ ms) e h = absurd (omega (arith, e))

pub first_playable : (tables : Tables) (p : Parts) (all : List Move) (m : Move) (ms : List Move) → AreOrdered Strict tables p all → all ≡ m ∷ ms → IsPlayable p m
first_playable tables p all m ms h is = All-get_or (IsPlayable p) (m ∷ ms) 0 m (omega arith) (subst (All (IsPlayable p)) is (ordered_playable Strict tables p all h))

pub first_move : (tables : Tables) (p : Parts) (all : List Move) (m : Move) (ms : List Move) (t : ApiMove) (told : MoveTold) → AreOrdered Strict tables p all → all ≡ m ∷ ms → IsMoveTold Strict tables p m told → t.told ≡ told → IsPrecisionAfter tables t → IsFirstMove tables p t
first_move tables p all m ms t told ordered is h et precise =
    let e : t.told.played ≡ m = ap (λ (x : MoveTold). x.played) et ∙ h.played in
    record {
      others = ms;
      ordered = subst (λ (x : Move). AreOrdered Strict tables p (x ∷ ms)) (sym e) (subst (AreOrdered Strict tables p) is ordered);
      told = subst (λ (x : Move). IsMoveTold Strict tables p x t.told) (sym e) (subst (IsMoveTold Strict tables p m) (sym et) h);
      precise = precise;
    }
