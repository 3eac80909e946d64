use Rattle.std.proofs.Common.{ℕ, ◌≡◌, ◌≢◌, ◌<◌, ◌-◌, ◌⊎◌, List, Option, Some, None, IfSome, length, set, refl, sym, ap, ◌∙◌, arith, inl, inr, get_or-set_other, get_or-set_same}
use Rattle.std.proofs.lemmas.Bool.{cases_eq}
use Rattle.std.proofs.Math.ListN.{length-set}
use Rattle.board_core.specs.Inside.Search.{IsCarry, IsOnlyKing, IsAttackedAlong}
use Rattle.board_core.specs.declared.piece.Piece.{Piece}
use Rattle.board_core.specs.declared.piece.Side.{Side}
use Rattle.board_core.specs.declared.piece.Side.TheVariants.{White, Black}
use Rattle.board_core.specs.declared.piece.Kind.{Kind}
use Rattle.board_core.specs.declared.piece.Kind.TheVariants.{Pawn, Knight, Bishop, Rook, Queen, King}
use Rattle.board_core.specs.declared.piece.Wing.{Wing}
use Rattle.board_core.specs.declared.piece.Wing.TheVariants.{KingSide, QueenSide}
use Rattle.board_core.specs.declared.piece.Promotion.{Promotion}
use Rattle.board_core.specs.declared.piece.Promotion.TheVariants.{Queen as ToQueen, Rook as ToRook, Bishop as ToBishop, Knight as ToKnight}
use Rattle.board_core.specs.declared.attack.Direction.{Direction}
use Rattle.board_core.specs.declared.moves.Move.{Move}
use Rattle.board_core.specs.declared.moves.MoveCase.{MoveCase}
use Rattle.board_core.specs.declared.moves.MoveCase.TheVariants.{Plain, Advance, DoubleStep, PawnCapture, EnPassant, Castle}
use Rattle.board_core.specs.declared.parts.Parts.{Parts}
use Rattle.board_core.specs.Side.{other}
use Rattle.board_core.specs.Attack.{man_at, Along, IsClear, Ray, Reaches, IsAttacked, IsInCheck}
use Rattle.board_core.specs.Castling.{rook_home, king_end, rook_end}
use Rattle.board_core.specs.Moves.{IsMove, IsTaken, Legal, IsLegal, carried, landed, behind, men_after, after, promoted_kind}
use Rattle.board_core.proofs.Outward.{opposite, along_back, along_split, along_rest, along_distance, clear_back}

abbrev pub some_man : Side → Kind → Option Piece
some_man side sort = Some (record { side = side; kind = sort })

abbrev kind_on : Option Piece → Kind
kind_on None = Pawn
kind_on (Some man) = man.kind

abbrev side_on : Option Piece → Side
side_on None = White
side_on (Some man) = man.side

pub none_man : (side : Side) (sort : Kind) (o : Option Piece) → o ≡ None → o ≡ some_man side sort → ⊥
none_man side sort o a b = let f = sym a ∙ b in cc

carried_at_to : (men : List (Option Piece)) (from to : ℕ) (man : Option Piece) → length men ≡ 64 → to < 64 → man_at (carried men from to man) to ≡ man
carried_at_to men from to man len lt =
    let b : to < length (set men from None) = omega (arith, length-set {A = Option Piece}) in
    rw get_or-set_same refl

carried_at_from : (men : List (Option Piece)) (from to : ℕ) (man : Option Piece) → length men ≡ 64 → from < 64 → from ≢ to → man_at (carried men from to man) from ≡ None
carried_at_from men from to man len lf ne =
    let b : from < length men = omega arith in
    rw get_or-set_other (rw get_or-set_same refl)

carried_elsewhere : (men : List (Option Piece)) (from to s : ℕ) (man : Option Piece) → s ≢ from → s ≢ to → man_at (carried men from to man) s ≡ man_at men s
carried_elsewhere men from to s man nf nt = rw get_or-set_other (rw get_or-set_other refl)

abbrev Spot : List (Option Piece) → ℕ → ℕ → Option Piece → ℕ → Type 0
Spot men f t x s =
    ((s ≡ t) × (man_at (carried men f t x) s ≡ x))
    ⊎ (((s ≡ f) × (man_at (carried men f t x) s ≡ None)) ⊎ ((s ≢ f) × (man_at (carried men f t x) s ≡ man_at men s)))

-- what stands on a square after a man is carried
spot : (men : List (Option Piece)) (f t : ℕ) (x : Option Piece) (s : ℕ) → length men ≡ 64 → f < 64 → t < 64 → Spot men f t x s
spot men f t x s len lf lt = elim (cases_eq s t) [
  | inl e ↦ inl (e, rw e (carried_at_to men f t x len lt))
  | inr nt ↦ elim (cases_eq s f) [
    | inl e ↦ inr (inl (e, rw e (carried_at_from men f t x len lf (λ q. nt (e ∙ q)))))
    | inr nf ↦ inr (inr (nf, carried_elsewhere men f t s x nf nt))
  ]
]

pub only_carried : (men : List (Option Piece)) (side : Side) (k k' f t : ℕ) (x : Option Piece) → length men ≡ 64 → f < 64 → t < 64 → IsOnlyKing men side k → (x ≡ some_man side King → f ≡ k) → (f ≡ k → k' ≡ t) → (f ≢ k → k' ≡ k) → IsOnlyKing (carried men f t x) side k'
only_carried men side k k' f t x len lf lt only moves there here = λ s b st. elim (spot men f t x s len lf lt) [
  | inl a ↦ a.0 ∙ sym (there (moves (sym a.1 ∙ st)))
  | inr r ↦ elim r [
    | inl a ↦ absurd (none_man side King _ a.1 st)
    | inr a ↦
        let at : s ≡ k = only s b (sym a.1 ∙ st) in
        at ∙ sym (here (λ e. a.0 (at ∙ sym e)))
  ]
]

landed_no_king : (side : Side) (o : Option Piece) (k : Option Promotion) → o ≡ some_man side Pawn → landed side o k ≡ some_man side King → ⊥
landed_no_king side o None a b = let f : Pawn ≡ King = ap kind_on (sym a ∙ b) in cc
landed_no_king side o (Some ToQueen) a b = let f : Queen ≡ King = ap kind_on b in cc
landed_no_king side o (Some ToRook) a b = let f : Rook ≡ King = ap kind_on b in cc
landed_no_king side o (Some ToBishop) a b = let f : Bishop ≡ King = ap kind_on b in cc
landed_no_king side o (Some ToKnight) a b = let f : Knight ≡ King = ap kind_on b in cc

corners : (side : Side) (wing : Wing) → (rook_home side wing < 64) × (rook_end side wing < 64) × (rook_home side wing ≢ king_end side wing)
corners White KingSide = (omega arith, omega arith, omega arith)
corners White QueenSide = (omega arith, omega arith, omega arith)
corners Black KingSide = (omega arith, omega arith, omega arith)
corners Black QueenSide = (omega arith, omega arith, omega arith)

-- where the only king stands after a move
pub only_after : (p : Parts) (m : Move) (c : MoveCase) (k k' : ℕ) → length p.men ≡ 64 → m.from < 64 → m.to < 64 → IsMove p m c → IsOnlyKing p.men p.side k → (m.from ≡ k → k' ≡ m.to) → (m.from ≢ k → k' ≡ k) → IsOnlyKing (men_after p m c) p.side k'
only_after p m Plain k k' len lf lt r only there here =
    only_carried p.men p.side k k' m.from m.to _ len lf lt only (λ e. only m.from lf e) there here
only_after p m Advance k k' len lf lt r only there here =
    only_carried p.men p.side k k' m.from m.to _ len lf lt only (λ e. absurd (landed_no_king p.side _ m.promotion r.stands e)) there here
only_after p m DoubleStep k k' len lf lt r only there here =
    only_carried p.men p.side k k' m.from m.to _ len lf lt only (λ e. only m.from lf e) there here
only_after p m PawnCapture k k' len lf lt r only there here =
    only_carried p.men p.side k k' m.from m.to _ len lf lt only (λ e. absurd (landed_no_king p.side _ m.promotion r.stands e)) there here
only_after p m EnPassant k k' len lf lt r only there here =
    let first = only_carried p.men p.side k k' m.from m.to (man_at p.men m.from) len lf lt only (λ e. only m.from lf e) there here in
    λ s b st. elim (cases_eq s (behind p.side m.to)) [
      | inl e ↦
          let within : s < length (carried p.men m.from m.to (man_at p.men m.from)) = omega (arith, length-set {A = Option Piece}) in
          absurd (none_man p.side King _ (rw e (get_or-set_same _ (behind p.side m.to) None None (rw e at within))) st)
      | inr ne ↦ first s b (sym (get_or-set_other (carried p.men m.from m.to (man_at p.men m.from)) (behind p.side m.to) s None None ne) ∙ st)
    ]
only_after p m (Castle wing) k k' len lf lt r only there here =
    let at : m.from ≡ k = only m.from lf r.stands in
    let first = only_carried p.men p.side k k' m.from m.to (man_at p.men m.from) len lf lt only (λ e. only m.from lf e) there here in
    let w = corners p.side wing in
    let away : rook_home p.side wing ≢ k' = λ e. w.2 (e ∙ there at ∙ r.to_end) in
    only_carried _ p.side k' k' (rook_home p.side wing) (rook_end p.side wing) (some_man p.side Rook) (simp length-set len) w.0 w.1 first
    (λ e. absurd (let f : Rook ≡ King = ap kind_on e in cc)) (λ e. absurd (away e)) (λ _. refl)

pub only_safe : (men : List (Option Piece)) (side : Side) (k : ℕ) → IsOnlyKing men side k → (IsAttacked men (other side) k → ⊥) → IsInCheck men side → ⊥
only_safe men side k only safe h =
    let e : h.king ≡ k = only h.king h.on_board h.stands in
    safe (rw e at h.attacked)

not_other : (side : Side) → side ≡ other side → ⊥
not_other White e = cc
not_other Black e = cc

pub other_side : (side : Side) (sort sort' : Kind) → some_man side sort ≡ some_man (other side) sort' → ⊥
other_side side sort sort' e = not_other side (ap side_on e)

-- ---- the enemies stay where they are

enemy_carried : (men : List (Option Piece)) (side : Side) (f t s : ℕ) (x : Option Piece) → length men ≡ 64 → f < 64 → t < 64 → ((sort : Kind) → x ≡ some_man (other side) sort → ⊥) → IsTaken (carried men f t x) (other side) s → IsTaken men (other side) s
enemy_carried men side f t s x len lf lt own h = elim (spot men f t x s len lf lt) [
  | inl a ↦ absurd (own h.0 (sym a.1 ∙ h.1))
  | inr r ↦ elim r [
    | inl a ↦ absurd (none_man (other side) h.0 _ a.1 h.1)
    | inr a ↦ (h.0, sym a.1 ∙ h.1)
  ]
]

landed_friend : (side : Side) (o : Option Piece) (k : Option Promotion) (sort sort' : Kind) → o ≡ some_man side sort → landed side o k ≡ some_man (other side) sort' → ⊥
landed_friend side o None sort sort' st e = other_side side sort sort' (sym st ∙ e)
landed_friend side o (Some k) sort sort' st e = other_side side (promoted_kind k) sort' e

pub enemy_stays : (p : Parts) (m : Move) (c : MoveCase) (s : ℕ) → s < 64 → length p.men ≡ 64 → m.from < 64 → m.to < 64 → IsMove p m c → IsTaken (men_after p m c) (other p.side) s → IsTaken p.men (other p.side) s
enemy_stays p m Plain s b len lf lt r h = enemy_carried p.men p.side m.from m.to s _ len lf lt (λ k e. other_side p.side r.kind k (sym r.stands ∙ e)) h
enemy_stays p m Advance s b len lf lt r h = enemy_carried p.men p.side m.from m.to s _ len lf lt (λ k e. landed_friend p.side _ m.promotion Pawn k r.stands e) h
enemy_stays p m DoubleStep s b len lf lt r h = enemy_carried p.men p.side m.from m.to s _ len lf lt (λ k e. other_side p.side Pawn k (sym r.stands ∙ e)) h
enemy_stays p m PawnCapture s b len lf lt r h = enemy_carried p.men p.side m.from m.to s _ len lf lt (λ k e. landed_friend p.side _ m.promotion Pawn k r.stands e) h
enemy_stays p m EnPassant s b len lf lt r h = elim (cases_eq s (behind p.side m.to)) [
  | inl e ↦
      let within : s < length (carried p.men m.from m.to (man_at p.men m.from)) = omega (arith, length-set {A = Option Piece}) in
      absurd (none_man (other p.side) h.0 _ (rw e (get_or-set_same _ (behind p.side m.to) None None (rw e at within))) h.1)
  | inr ne ↦ enemy_carried p.men p.side m.from m.to s _ len lf lt (λ k e. other_side p.side Pawn k (sym r.stands ∙ e)) (h.0, sym (get_or-set_other (carried p.men m.from m.to (man_at p.men m.from)) (behind p.side m.to) s None None ne) ∙ h.1)
]
enemy_stays p m (Castle wing) s b len lf lt r h =
    let w = corners p.side wing in
    enemy_carried p.men p.side m.from m.to s _ len lf lt (λ k e. other_side p.side King k (sym r.stands ∙ e))
    (enemy_carried _ p.side (rook_home p.side wing) (rook_end p.side wing) s (some_man p.side Rook) (simp length-set len) w.0 w.1 (λ k e. other_side p.side Rook k e) h)

-- a line that is clear after a man of ours was carried was clear before, or he uncovered it: then he stood between the
-- king and a man that attacked him
clear_before : (men : List (Option Piece)) (side : Side) (what : Kind) (d : Direction) (n a k f t : ℕ) (x : Option Piece) → length men ≡ 64 → f < 64 → t < 64 → x ≡ some_man side what → ((r : Ray men Queen k f) → IsAttackedAlong men (other side) r.direction f → ⊥) → ((j : ℕ) → 0 < j → Along d j a f → IsClear men d j a → IsAttackedAlong men (other side) (opposite d) f) → Along d n a k → IsClear (carried men f t x) d n a → IsClear men d n a
clear_before men side what d n a k f t x len lf lt own shut hit along clear =
    let emptied : (s : ℕ) → s ≢ f → man_at (carried men f t x) s ≡ None → man_at men s ≡ None = λ s nf h. elim (spot men f t x s len lf lt) [
      | inl b ↦ absurd (none_man side what _ h (b.1 ∙ own))
      | inr r ↦ elim r [
        | inl b ↦ absurd (nf b.0)
        | inr b ↦ sym b.1 ∙ h
      ]
    ] in
    λ j s away within here. elim (cases_eq s f) [
      | inl e ↦ absurd (shut (record {
        direction = opposite d;
        distance = n - j;
        goes = tt;
        away = omega arith;
        along = along_rest d n j a k f within along (rw e at here);
        clear = λ i q pos lim there.
            let back = along_split d n i a k q (omega arith) along there in
            let other_one : q ≢ f = λ same.
            let u = along_distance d (n - i) j a f (rw same at back) (rw e at here) in
            omega arith in
            emptied q other_one (clear (n - i) q (omega arith) (omega arith) back);
      }) (hit j away (rw e at here) (λ i q pos lim there.
          let other_one : q ≢ f = λ same.
          let u = along_distance d i j a f (rw same at there) (rw e at here) in
          omega arith in
          emptied q other_one (clear i q pos (omega arith) there))))
      | inr nf ↦ emptied s nf (clear j s away within here)
    ]

-- the ray of an attacker, before and after one of our men was carried
ray_before : (men : List (Option Piece)) (side : Side) (what sort : Kind) (a k f t : ℕ) (x : Option Piece) → length men ≡ 64 → f < 64 → t < 64 → x ≡ some_man side what → ((r : Ray men Queen k f) → IsAttackedAlong men (other side) r.direction f → ⊥) → a < 64 → man_at men a ≡ some_man (other side) sort → ((r : Ray men sort a f) → Reaches men (other side) sort a f) → Ray (carried men f t x) sort a k → Ray men sort a k
ray_before men side what sort a k f t x len lf lt own shut on_board stands reach r = record {
  direction = r.direction;
  distance = r.distance;
  goes = r.goes;
  away = r.away;
  along = r.along;
  clear = clear_before men side what r.direction r.distance a k f t x len lf lt own shut
      (λ j away along clear. record {
        from = a;
        kind = sort;
        distance = j;
        on_board = on_board;
        away = away;
        along = along_back r.direction j a f along;
        clear = clear_back men r.direction j a f along clear;
        stands = stands;
        reaches = reach (record { direction = r.direction; distance = j; goes = r.goes; away = away; along = along; clear = clear });
      })
      r.along r.clear;
}

reaches_before : (men : List (Option Piece)) (side : Side) (what sort : Kind) (a k f t : ℕ) (x : Option Piece) → length men ≡ 64 → f < 64 → t < 64 → x ≡ some_man side what → ((r : Ray men Queen k f) → IsAttackedAlong men (other side) r.direction f → ⊥) → a < 64 → man_at men a ≡ some_man (other side) sort → Reaches (carried men f t x) (other side) sort a k → Reaches men (other side) sort a k
reaches_before men side what Pawn a k f t x len lf lt own shut on_board stands r = r
reaches_before men side what Knight a k f t x len lf lt own shut on_board stands r = r
reaches_before men side what Bishop a k f t x len lf lt own shut on_board stands r = ray_before men side what Bishop a k f t x len lf lt own shut on_board stands (λ q. q) r
reaches_before men side what Rook a k f t x len lf lt own shut on_board stands r = ray_before men side what Rook a k f t x len lf lt own shut on_board stands (λ q. q) r
reaches_before men side what Queen a k f t x len lf lt own shut on_board stands r = ray_before men side what Queen a k f t x len lf lt own shut on_board stands (λ q. q) r
reaches_before men side what King a k f t x len lf lt own shut on_board stands r = r

attack_before : (men : List (Option Piece)) (side : Side) (what : Kind) (k f t : ℕ) (x : Option Piece) → length men ≡ 64 → f < 64 → t < 64 → x ≡ some_man side what → ((r : Ray men Queen k f) → IsAttackedAlong men (other side) r.direction f → ⊥) → IsAttacked (carried men f t x) (other side) k → IsAttacked men (other side) k
attack_before men side what k f t x len lf lt own shut h =
    let before : man_at men h.from ≡ some_man (other side) h.kind = elim (spot men f t x h.from len lf lt) [
      | inl b ↦ absurd (other_side side what h.kind (sym own ∙ sym b.1 ∙ h.stands))
      | inr r ↦ elim r [
        | inl b ↦ absurd (none_man (other side) h.kind _ b.1 h.stands)
        | inr b ↦ sym b.1 ∙ h.stands
      ]
    ] in
    record {
      from = h.from;
      kind = h.kind;
      on_board = h.on_board;
      stands = before;
      reaches = reaches_before men side what h.kind h.from k f t x len lf lt own shut h.on_board before h.reaches;
    }

landed_own : (side : Side) (o : Option Piece) (k : Option Promotion) → o ≡ some_man side Pawn → (what : Kind) × (landed side o k ≡ some_man side what)
landed_own side o None e = (Pawn, e)
landed_own side o (Some k) e = (promoted_kind k, refl)

-- a case that carries one man puts a man of the side that moves on the square
carries : (p : Parts) (m : Move) (c : MoveCase) → IsMove p m c → IsCarry c → (x : Option Piece) × ((what : Kind) × ((x ≡ some_man p.side what) × (men_after p m c ≡ carried p.men m.from m.to x)))
carries p m Plain r y = (_, (r.kind, (r.stands, refl)))
carries p m Advance r y = let l = landed_own p.side _ m.promotion r.stands in (_, (l.0, (l.1, refl)))
carries p m DoubleStep r y = (_, (Pawn, (r.stands, refl)))
carries p m PawnCapture r y = let l = landed_own p.side _ m.promotion r.stands in (_, (l.0, (l.1, refl)))
carries p m EnPassant r y = absurd y
carries p m (Castle wing) r y = absurd y

-- a man may go where no man pins him to a king that isn't attacked
pub free_to_go : (p : Parts) (m : Move) (c : MoveCase) (k : ℕ) → length p.men ≡ 64 → m.from < 64 → m.to < 64 → IsMove p m c → IsCarry c → m.from ≢ k → IsOnlyKing p.men p.side k → (IsAttacked p.men (other p.side) k → ⊥) → ((r : Ray p.men Queen k m.from) → IsAttackedAlong p.men (other p.side) r.direction m.from → ⊥) → IsInCheck (men_after p m c) p.side → ⊥
free_to_go p m c k len lf lt r y ne only safe shut =
    let x = carries p m c r y in
    only_safe (men_after p m c) p.side k (only_after p m c k k len lf lt r only (λ e. absurd (ne e)) (λ _. refl))
    (λ h. safe (attack_before p.men p.side x.1.0 k m.from m.to x.0 len lf lt x.1.1.0 shut (rw x.1.1.1 at h)))

-- a move whose case and safety are known is legal, and the other way round
pub safe_legal : (p : Parts) (m : Move) (c : MoveCase) → m.from < 64 → m.to < 64 → IsMove p m c → (IsInCheck (men_after p m c) p.side → ⊥) → IsLegal p m
unfolding after
safe_legal p m c lf lt r safe = (after p m c, record { case = c; from_board = lf; to_board = lt; rule = r; becomes = refl; safe = safe })

pub men_of_after : (p : Parts) (m : Move) (c : MoveCase) → (after p m c).men ≡ men_after p m c
unfolding after
men_of_after p m c = refl

pub legal_safe : (p : Parts) (m : Move) (c : MoveCase) → (l : IsLegal p m) → l.1.case ≡ c → IsInCheck (men_after p m c) p.side → ⊥
legal_safe p m c l e h =
    let men : l.0.men ≡ men_after p m l.1.case = ap (λ (x : Parts). x.men) l.1.becomes ∙ men_of_after p m l.1.case in
    l.1.safe (rw (men, e) h)

pub same_case : (p : Parts) (m : Move) (o : Option MoveCase) (c : MoveCase) → ((c : MoveCase) → IsMove p m c → o ≡ Some c) → o ≡ Some c → (l : IsLegal p m) → l.1.case ≡ c
same_case p m o c only e l =
    let f : Some l.1.case ≡ Some c = sym (only l.1.case l.1.rule) ∙ e in cc

pub no_case : (p : Parts) (m : Move) (o : Option MoveCase) → ((c : MoveCase) → IsMove p m c → o ≡ Some c) → o ≡ None → IsLegal p m → ⊥
no_case p m o only e l =
    let f = sym e ∙ only l.1.case l.1.rule in cc

-- what stands where after a move
pub men_of : (p q : Parts) (m : Move) (c : MoveCase) → q ≡ after p m c → q.men ≡ men_after p m c
men_of p q m c e = ap (λ (x : Parts). x.men) e ∙ men_of_after p m c

-- what is told of a move whose case is known, as what is told of a legal one
pub legal_of_case : (p : Parts) (m : Move) (c : MoveCase) (o : Option Parts) → m.from < 64 → m.to < 64 → IsMove p m c → IfSome o (λ q. (q ≡ after p m c) × (IsInCheck q.men p.side → ⊥)) → IfSome o (Legal p m)
legal_of_case p m c None lf lt r h = tt
legal_of_case p m c (Some q) lf lt r h = record { case = c; from_board = lf; to_board = lt; rule = r; becomes = h.0; safe = h.1 }

pub only_of_case : (p q : Parts) (m : Move) (c : MoveCase) (case : Option MoveCase) (r : Option Parts) → ((d : MoveCase) → IsMove p m d → case ≡ Some d) → case ≡ Some c → ((IsInCheck (men_after p m c) p.side → ⊥) → r ≡ Some (after p m c)) → Legal p m q → r ≡ Some q
only_of_case p q m c case r only is there l =
    let same : l.case ≡ c = same_case p m case c only is (q, l) in
    let e : q ≡ after p m c = l.becomes ∙ ap (after p m) same in
    there (legal_safe p m c (q, l) same) ∙ ap Some (sym e)
