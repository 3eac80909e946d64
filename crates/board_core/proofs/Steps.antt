use Rattle.std.proofs.Common.{ℕ, ◌≡◌, ◌≢◌, ◌<◌, ◌+◌, ◌*◌, ◌++◌, ◌∷◌, [], List, Option, Some, None, refl, sym, ap, ◌∙◌, arith, inl, inr}
use Rattle.std.specs.Int.{bit_at}
use Rattle.std.specs.Int.Bits.{bit_and}
use Rattle.std.proofs.lemmas.Nat.Bits.{bit_at_and, bit_at-lt}
use Rattle.board_core.specs.declared.piece.Piece.{Piece}
use Rattle.board_core.specs.declared.piece.Kind.{Kind}
use Rattle.board_core.specs.declared.piece.Kind.TheVariants.{Pawn, King}
use Rattle.board_core.specs.declared.parts.Parts.{Parts}
use Rattle.board_core.specs.declared.moves.Move.{Move}
use Rattle.board_core.specs.declared.moves.MoveCase.{MoveCase}
use Rattle.board_core.specs.declared.moves.MoveCase.TheVariants.{Plain, Advance, DoubleStep, PawnCapture, EnPassant, Castle}
use Rattle.board_core.specs.declared.generation.Which.{Which}
use Rattle.board_core.specs.declared.generation.Which.TheVariants.{Captures}
use Rattle.board_core.specs.Attack.{Reaches}
use Rattle.board_core.specs.declared.generation.Survey.{Survey}
use Rattle.board_core.specs.Side.{other}
use Rattle.board_core.specs.Moves.{Stands, IsFree, IsTaken, IsMove, IsPlain, IsCapture, place_of, promotion_place}
use Rattle.board_core.specs.Inside.Search.{IsListed, IsStep, IsUnpinned, IsSurvey, HasListedBelow}
use Rattle.board_core.proofs.Safety.{safe_legal, other_side}
use Rattle.board_core.proofs.Preserved.{way, side_cases}
use Rattle.board_core.proofs.SideSets.{taken}
use Rattle.board_core.specs.Attack.{man_at}
use Rattle.board_core.specs.declared.piece.Side.{Side}
use Rattle.board_core.proofs.Listing.{HasListedBelow-push, HasListedBelow-skip, promotion_below}

pub some_same : (a b : ℕ) → Some a ≡ Some b → a ≡ b
some_same a b e = cc

pub and_both : (a b t : ℕ) → bit_at a t ≡ 1 → bit_at b t ≡ 1 → bit_at (bit_and a b) t ≡ 1
and_both a b t h i = rw bit_at_and (omega arith)

pub and_left : (a b t : ℕ) → bit_at (bit_and a b) t ≡ 1 → bit_at a t ≡ 1
and_left a b t h = let e = bit_at_and a b t in omega (arith, bit_at-lt a t, bit_at-lt b t)

pub and_right : (a b t : ℕ) → bit_at (bit_and a b) t ≡ 1 → bit_at b t ≡ 1
and_right a b t h = let e = bit_at_and a b t in omega (arith, bit_at-lt a t, bit_at-lt b t)

abbrev pub kind_on : Option Piece → Kind
kind_on None = King
kind_on (Some man) = man.kind

-- the move of a man that is neither pawn nor king is a plain one
pub piece_moves : (p : Parts) (m : Move) (sort : Kind) (c : MoveCase) → Stands p.men m.from p.side sort → sort ≢ Pawn → sort ≢ King → IsMove p m c → IsPlain p m
piece_moves p m sort Plain st np nk r = r
piece_moves p m sort Advance st np nk r = absurd (np (sym (ap kind_on st) ∙ ap kind_on r.stands))
piece_moves p m sort DoubleStep st np nk r = absurd (np (sym (ap kind_on st) ∙ ap kind_on r.stands))
piece_moves p m sort PawnCapture st np nk r = absurd (np (sym (ap kind_on st) ∙ ap kind_on r.stands))
piece_moves p m sort EnPassant st np nk r = absurd (np (sym (ap kind_on st) ∙ ap kind_on r.stands))
piece_moves p m sort (Castle wing) st np nk r = absurd (nk (sym (ap kind_on st) ∙ ap kind_on r.stands))

-- a man that is no pawn never is promoted
pub piece_whole : (p : Parts) (m : Move) (sort : Kind) (c : MoveCase) → Stands p.men m.from p.side sort → sort ≢ Pawn → IsMove p m c → m.promotion ≡ None
piece_whole p m sort Plain st np r = r.whole
piece_whole p m sort Advance st np r = absurd (np (sym (ap kind_on st) ∙ ap kind_on r.stands))
piece_whole p m sort DoubleStep st np r = absurd (np (sym (ap kind_on st) ∙ ap kind_on r.stands))
piece_whole p m sort PawnCapture st np r = absurd (np (sym (ap kind_on st) ∙ ap kind_on r.stands))
piece_whole p m sort EnPassant st np r = absurd (np (sym (ap kind_on st) ∙ ap kind_on r.stands))
piece_whole p m sort (Castle wing) st np r = r.whole

taken_at : (men : List (Option Piece)) (side : Side) (s : ℕ) (o : Option Piece) → man_at men s ≡ o → o ≢ None → IsFree men side s → IsTaken men (other side) s
taken_at men side s None e there free = absurd (there refl)
taken_at men side s (Some man) e there free = elim (side_cases side man.side) [
  | inl own ↦ let t = taken men s man side e own in absurd (free t.0 t.1)
  | inr differs ↦ taken men s man (other side) e differs
]

-- whoever stands where none of our men does is of the other side
taken_other : (men : List (Option Piece)) (side : Side) (s : ℕ) → man_at men s ≢ None → IsFree men side s → IsTaken men (other side) s
taken_other men side s there free = taken_at men side s (man_at men s) refl there free

-- who stands on the square of a move is of the other side
pub move_takes : (p : Parts) (m : Move) (c : MoveCase) → IsMove p m c → man_at p.men m.to ≢ None → IsTaken p.men (other p.side) m.to
move_takes p m Plain r there = taken_other p.men p.side m.to there r.free
move_takes p m Advance r there = absurd (there r.empty)
move_takes p m DoubleStep r there = absurd (there r.empty)
move_takes p m PawnCapture r there = r.enemy
move_takes p m EnPassant r there = absurd (there r.empty)
move_takes p m (Castle wing) r there = absurd (there (rw r.to_end (r.clear _ (way p.side wing).between)))

-- what a piece takes stands on its square
pub piece_takes : (p : Parts) (m : Move) (sort : Kind) (c : MoveCase) → Stands p.men m.from p.side sort → sort ≢ Pawn → IsMove p m c → IsCapture p m → IsTaken p.men (other p.side) m.to
piece_takes p m sort c st np r (inl there) = move_takes p m c r there
piece_takes p m sort c st np r (inr passed) = absurd (np (sym (ap kind_on st) ∙ ap kind_on passed.stands))

taken_there : (men : List (Option Piece)) (side : Side) (s : ℕ) → IsTaken men side s → man_at men s ≢ None
taken_there men side s t none = let f = sym none ∙ t.1 in cc

-- a listed capture of a piece goes to a square that it reaches and where a man stands
pub takes_whole : (p : Parts) (which : Which) (v : Survey) (m : Move) (sort : Kind) (from set : ℕ) → which ≡ Captures → IsSurvey p v → Stands p.men from p.side sort → sort ≢ Pawn → sort ≢ King → IsListed which p m → m.from ≡ from → ((s : ℕ) → sort ≢ Pawn → s < 64 → Reaches p.men p.side sort from s → IsFree p.men p.side s → bit_at set s ≡ 1) → bit_at (bit_and set v.enemy) m.to ≡ 1
takes_whole p which v m sort from set e survey st np nk l here reached =
    let own : Stands p.men m.from p.side sort = rw here st in
    let r = piece_moves p m sort l.0.1.case own np nk l.0.1.rule in
    let same : r.kind ≡ sort = sym (ap kind_on r.stands) ∙ ap kind_on own in
    let wanted : IsCapture p m = rw e at l.1 in
    and_both set v.enemy m.to
    (reached m.to np l.0.1.to_board (rw (same, here) at r.reaches) r.free)
    (survey.enemy m.to l.0.1.to_board (piece_takes p m sort l.0.1.case own np l.0.1.rule wanted))

pub takes_step : (p : Parts) (which : Which) (v : Survey) (sort : Kind) (from set s : ℕ) → which ≡ Captures → IsSurvey p v → bit_at (bit_and set v.enemy) s ≡ 1 → (bit_at set s ≡ 1 → (sort ≢ Pawn) × Reaches p.men p.side sort from s × IsFree p.men p.side s) → IsStep p which sort from s
takes_step p which v sort from set s e survey bit only =
    let h = only (and_left set v.enemy s bit) in record {
      reaches = h.1;
      free = h.2;
      wanted = rw e (inl (taken_there p.men (other p.side) s (survey.enemy_only s (and_right set v.enemy s bit))));
    }

-- a set with the men of the other side that are reached has where a capture goes
pub attacks_to_whole : (p : Parts) (which : Which) (v : Survey) (m : Move) (sort : Kind) (from set : ℕ) → which ≡ Captures → IsSurvey p v → Stands p.men from p.side sort → sort ≢ Pawn → sort ≢ King → IsListed which p m → m.from ≡ from → ((s : ℕ) → s < 64 → bit_at v.enemy s ≡ 1 → Reaches p.men p.side sort from s → bit_at set s ≡ 1) → bit_at set m.to ≡ 1
attacks_to_whole p which v m sort from set e survey st np nk l here reached =
    let own : Stands p.men m.from p.side sort = rw here st in
    let r = piece_moves p m sort l.0.1.case own np nk l.0.1.rule in
    let same : r.kind ≡ sort = sym (ap kind_on r.stands) ∙ ap kind_on own in
    let wanted : IsCapture p m = rw e at l.1 in
    reached m.to l.0.1.to_board (survey.enemy m.to l.0.1.to_board (piece_takes p m sort l.0.1.case own np l.0.1.rule wanted)) (rw (same, here) at r.reaches)

pub attacks_to_step : (p : Parts) (which : Which) (v : Survey) (sort : Kind) (from s : ℕ) → which ≡ Captures → IsSurvey p v → bit_at v.enemy s ≡ 1 → Reaches p.men p.side sort from s → IsStep p which sort from s
attacks_to_step p which v sort from s e survey bit reaches =
    let enemy = survey.enemy_only s bit in record {
      reaches = reaches;
      free = λ kind st. other_side p.side kind enemy.0 (sym st ∙ enemy.1);
      wanted = rw e (inl (taken_there p.men (other p.side) s enemy));
    }

-- a listed capture goes to a man of the other side or to the en passant square
pub capture_whole : (p : Parts) (which : Which) (v : Survey) (m : Move) (set more : ℕ) → which ≡ Captures → IsSurvey p v → IsListed which p m → bit_at set m.to ≡ 1 → ((s : ℕ) → bit_at v.enemy s ≡ 1 → bit_at more s ≡ 1) → (p.en_passant ≡ Some m.to → bit_at more m.to ≡ 1) → bit_at (bit_and set more) m.to ≡ 1
capture_whole p which v m set more e survey l bit kept passed =
    let wanted : IsCapture p m = rw e at l.1 in
    and_both set more m.to bit (elim wanted [
      | inl t ↦ kept m.to (survey.enemy m.to l.0.1.to_board (move_takes p m l.0.1.case l.0.1.rule t))
      | inr r ↦ passed r.passed
    ])

abbrev step_move : ℕ → ℕ → Move
step_move from to = record { from = from; to = to; promotion = None }

-- a step of a piece that may go anywhere is a move that is listed
pub step_listed : (p : Parts) (which : Which) (sort : Kind) (from to : ℕ) → from < 64 → to < 64 → Stands p.men from p.side sort → sort ≢ Pawn → IsUnpinned p from → IsStep p which sort from to → IsListed which p (step_move from to)
step_listed p which sort from to lf lt st np unpinned h =
    let rule : IsMove p (step_move from to) Plain = record { kind = sort; no_pawn = np; stands = st; reaches = h.reaches; free = h.free; whole = refl } in
    (safe_legal p (step_move from to) Plain lf lt rule (unpinned (step_move from to) Plain refl lt rule tt), h.wanted)

-- and the only one between the two squares
pub step_pushed : (p : Parts) (which : Which) (sort : Kind) (from to : ℕ) (moves : List Move) → from < 64 → to < 64 → Stands p.men from p.side sort → sort ≢ Pawn → IsUnpinned p from → IsStep p which sort from to → HasListedBelow p which (320 * from + 5 * to) moves → HasListedBelow p which (320 * from + 5 * (to + 1)) (moves ++ step_move from to ∷ [])
step_pushed p which sort from to moves lf lt st np unpinned h below =
    let start : HasListedBelow p which (place_of (step_move from to)) moves = HasListedBelow-skip p which _ _ moves below (omega arith) (λ m l low high. absurd (omega arith)) in
    let pushed = HasListedBelow-push p which (step_move from to) moves start (step_listed p which sort from to lf lt st np unpinned h) in
    HasListedBelow-skip p which _ _ _ pushed (omega arith) (λ m l low high.
    let k = promotion_below m.promotion in
    let e : m.from ≡ from = omega (arith, l.0.1.to_board) in
    let own : Stands p.men m.from p.side sort = rw e st in
    let whole = piece_whole p m sort l.0.1.case own np l.0.1.rule in
    let f : m.to ≡ to = omega (arith, l.0.1.to_board) in
    let zero : promotion_place m.promotion ≡ 0 = rw whole refl in
    omega arith)
