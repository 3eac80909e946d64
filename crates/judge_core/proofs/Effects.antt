-- What a legal move does, as the code tells it.
use Rattle.std.proofs.Common.{◌≡◌, ◌≢◌, ◌∙◌, ap, refl, Bool, true, false, not, ◌||◌, is_some, is_none, Option, Some, None, if◌then◌else◌}
use Rattle.board_core.specs.declared.piece.Piece.{Piece}
use Rattle.board_core.specs.declared.parts.Parts.{Parts}
use Rattle.board_core.specs.declared.moves.Move.{Move}
use Rattle.board_core.specs.Square.{file_of}
use Rattle.board_core.specs.Attack.{man_at}
use Rattle.board_core.specs.ComputedMoves.{position_after, is_en_passant, is_capture}
use Rattle.board_core.proofs.ComputedMoves.{position_legal}
use Rattle.judge_core.specs.declared.root_move.Effect.{Effect}
use Rattle.judge_core.specs.declared.root_move.Effect.TheVariants.{Quiet, PawnMove, Capture, EnPassant}
use Rattle.judge_core.specs.Inside.Found.{lands_empty}
use Rattle.judge_core.specs.Distances.{moves_pawn}
use Rattle.judge_core.specs.Root.{effect_of}
use Rattle.judge_core.proofs.Captures.{passant_lands, lands_passant}
use Rattle.judge_core.proofs.Quiet.{not_passant, takes, same_file_takes_nothing, stays}

abbrev pub effect_by : Bool → Bool → Bool → Effect
effect_by passant takes_man pawn = if passant then EnPassant else if takes_man then Capture else if pawn then PawnMove else Quiet

module _ (p : Parts) (m : Move) where
  told : (a b c : Bool) → is_en_passant p m ≡ a → is_capture p m ≡ b → moves_pawn p m ≡ c → effect_by a b c ≡ effect_of p m
  unfolding effect_of
  told a b c ea eb ec = rw (← ea, ← eb, ← ec) refl

  not_passing : (a : Bool) → is_en_passant p m ≡ a → lands_empty p m ≡ false → is_en_passant p m ≡ false
  not_passing true e lands = (let x = passant_lands p m e in cc)
  not_passing false e lands = e

  man_taken : lands_empty p m ≡ false → is_capture p m ≡ true
  unfolding lands_empty
  man_taken lands = by_man (man_at p.men m.to) lands
    where
      by_man : (o : Option Piece) → is_none o ≡ false → (is_some o || is_en_passant p m) ≡ true
      by_man None e = cc
      by_man (Some man) e = refl

  no_capture_passes : (a : Bool) → is_en_passant p m ≡ a → is_capture p m ≡ false → is_en_passant p m ≡ false
  no_capture_passes true e none = both (is_some (man_at p.men m.to)) (is_en_passant p m) e none
    where
      both : (b a : Bool) → a ≡ true → (b || a) ≡ false → a ≡ false
      both true a e none = cc
      both false a e none = none
  no_capture_passes false e none = e

  pub by_capture : lands_empty p m ≡ false → Capture ≡ effect_of p m
  by_capture lands = told false true (moves_pawn p m) (not_passing (is_en_passant p m) refl lands) (man_taken lands) refl

  pub by_quiet : lands_empty p m ≡ true → moves_pawn p m ≡ false → Quiet ≡ effect_of p m
  by_quiet lands other = told false false false (not_passant p m other) (takes p m other ∙ ap not lands) other

  pub by_pawn : lands_empty p m ≡ true → moves_pawn p m ≡ true → file_of m.from ≡ file_of m.to → PawnMove ≡ effect_of p m
  by_pawn lands pawn file =
      let none = same_file_takes_nothing p m file lands in told false false true (no_capture_passes (is_en_passant p m) refl none) none pawn

  -- a pawn that leaves its file takes a man
  takes_aside : (q : Parts) → position_after p m ≡ Some q → moves_pawn p m ≡ true → file_of m.from ≢ file_of m.to → (b : Bool) → is_capture p m ≡ b → is_capture p m ≡ true
  takes_aside q legal pawn aside true e = e
  takes_aside q legal pawn aside false e = absurd (let l = position_legal p m q legal in aside (stays p m l.case l.rule pawn e))

  pub by_passant : (q : Parts) → position_after p m ≡ Some q → lands_empty p m ≡ true → moves_pawn p m ≡ true → file_of m.from ≢ file_of m.to → EnPassant ≡ effect_of p m
  by_passant q legal lands pawn aside =
      let takes_man = takes_aside q legal pawn aside (is_capture p m) refl in told true true true (lands_passant p m takes_man lands) takes_man pawn
