-- The first capture that comes after another, and what it says of the list.
use Rattle.std.proofs.Common.{◌∙◌, suc, ℕ, ◌≡◌, ◌≢◌, ◌<◌, ◌≤◌, ◌+◌, ◌-◌, ◌*◌, ◌∷◌, [], Bool, true, false, IsTrue, if◌then◌else◌, IfSome, IfNone, List, Option, Some, None, All, AllPairs, Contains, filter, refl, sym, ap, subst, arith, inl, inr}
use Rattle.std.specs.Int.{bit_at}
use Rattle.std.proofs.lemmas.Bool.{cases_lt, cases_Bool}
use Rattle.std.proofs.lemmas.Bool.Decides.{Decides-ltb}
use Rattle.std.proofs.lemmas.List.Elements.{All-contains}
use Rattle.board_core.specs.declared.piece.Piece.{Piece}
use Rattle.board_core.specs.declared.piece.Side.{Side}
use Rattle.board_core.specs.declared.piece.Kind.{Kind}
use Rattle.board_core.specs.declared.piece.Kind.TheVariants.{Pawn}
use Rattle.board_core.specs.declared.piece.Promotion.{Promotion}
use Rattle.board_core.specs.declared.parts.Parts.{Parts}
use Rattle.board_core.specs.declared.moves.Move.{Move}
use Rattle.board_core.specs.declared.moves.MoveCase.{MoveCase}
use Rattle.board_core.specs.declared.moves.MoveCase.TheVariants.{Plain, Advance, DoubleStep, PawnCapture, EnPassant, Castle}
use Rattle.board_core.specs.Side.{other}
use Rattle.board_core.specs.Attack.{man_at, Reaches}
use Rattle.board_core.specs.Moves.{Stands, IsTaken, IsMove, IsCapture, IsLegalCapture, place_of, promotion_place}
use Rattle.board_core.specs.ComputedMoves.{is_later, is_legal, position_after, promotion_at, legal_captures, captures_after}
use Rattle.board_core.specs.Inside.Search.{AttacksTo, IsFirstCandidate, IsCandidate, IsLaterCapture, IsLaterBetween, start_of}
use Rattle.board_core.proofs.Listing.{make, promotion_below, same_place}
use Rattle.board_core.proofs.Steps.{kind_on, move_takes}
use Rattle.board_core.proofs.Preserved.{way}
use Rattle.board_core.proofs.Sweep.{Rests, Rests-between}
use Rattle.board_core.proofs.ComputedLists.{promotion_back, HasLegalCaptures-moves, Contains-first, Decides-legal}

-- ---- one capture

-- who takes reaches the square
pub capture_reaches : (p : Parts) (m : Move) (c : MoveCase) → IsMove p m c → IsCapture p m → (kind : Kind) × Stands p.men m.from p.side kind × Reaches p.men p.side kind m.from m.to
capture_reaches p m c r (inr passed) = (Pawn, passed.stands, passed.attacks)
capture_reaches p m Plain r (inl there) = (r.kind, r.stands, r.reaches)
capture_reaches p m Advance r (inl there) = absurd (there r.empty)
capture_reaches p m DoubleStep r (inl there) = absurd (there r.empty)
capture_reaches p m PawnCapture r (inl there) = (Pawn, r.stands, r.attacks)
capture_reaches p m EnPassant r (inl there) = absurd (there r.empty)
capture_reaches p m (Castle wing) r (inl there) = absurd (there (rw r.to_end (r.clear _ (way p.side wing).between)))

pub kind_there : (men : List (Option Piece)) (s : ℕ) (side : Side) (sort : Kind) (man : Piece) → Stands men s side sort → man_at men s ≡ Some man → sort ≡ man.kind
kind_there men s side sort man st e = sym (ap kind_on st) ∙ ap kind_on e

pub takes_from : (p : Parts) (m : Move) (man : Piece) → IsLegalCapture p m → man_at p.men m.from ≡ Some man → Stands p.men m.from p.side man.kind × Reaches p.men p.side man.kind m.from m.to
takes_from p m man l e =
    let who = capture_reaches p m l.0.1.case l.0.1.rule l.1 in
    let same = kind_there p.men m.from p.side who.0 man who.1 e in
    (rw same at who.1, rw same at who.2)

attacks_at : (men : List (Option Piece)) (side : Side) (a b from to : ℕ) (kind : Kind) → a ≡ from → b ≡ to → Stands men a side kind → Reaches men side kind a b → AttacksTo men side to from
attacks_at men side a b from to kind here there stands reaches = record { kind = kind; stands = rw here at stands; reaches = rw (here, there) at reaches }

pub attacks_from : (p : Parts) (m : Move) (from to : ℕ) → IsLegalCapture p m → m.from ≡ from → m.to ≡ to → AttacksTo p.men p.side to from
attacks_from p m from to l here there =
    let who = capture_reaches p m l.0.1.case l.0.1.rule l.1 in
    attacks_at p.men p.side m.from m.to from to who.0 here there who.1 who.2

-- what a man other than a pawn takes stands there
pub piece_goal : (p : Parts) (m : Move) (sort : Kind) (enemy : ℕ) → IsLegalCapture p m → Stands p.men m.from p.side sort → sort ≢ Pawn → (IsTaken p.men (other p.side) m.to → bit_at enemy m.to ≡ 1) → bit_at enemy m.to ≡ 1
piece_goal p m sort enemy l st no_pawn there = elim l.1 [
  | inl t ↦ there (move_takes p m l.0.1.case l.0.1.rule t)
  | inr r ↦ absurd (no_pawn (sym (ap kind_on st) ∙ ap kind_on r.stands))
]

-- and what it takes stands there, or the square was passed
pub goal_met : (p : Parts) (m : Move) (enemy more : ℕ) → IsLegalCapture p m → (IsTaken p.men (other p.side) m.to → bit_at enemy m.to ≡ 1) → (bit_at enemy m.to ≡ 1 → bit_at more m.to ≡ 1) → (p.en_passant ≡ Some m.to → bit_at more m.to ≡ 1) → bit_at more m.to ≡ 1
goal_met p m enemy more l there kept passed = elim l.1 [
  | inl t ↦ kept (there (move_takes p m l.0.1.case l.0.1.rule t))
  | inr r ↦ passed r.passed
]

-- ---- promotions

same_kind : (a b : Option Promotion) → promotion_place a ≡ promotion_place b → a ≡ b
same_kind a b e = ap (λ m. m.promotion) (same_place (record { from = 0; to = 0; promotion = a }) (record { from = 0; to = 0; promotion = b }) (omega arith) (omega arith) (omega arith))

pub at_place : (o : Option Promotion) (k : ℕ) → promotion_place o ≡ k → o ≡ promotion_at k
at_place o k e = let lt = promotion_below o in same_kind o (promotion_at k) (e ∙ sym (promotion_back k (omega arith)))

made : (m : Move) (from to : ℕ) (o : Option Promotion) → m.from ≡ from → m.to ≡ to → m.promotion ≡ o → m ≡ make from to o
made m from to o f t e = rw (sym f, sym t, sym e) refl

-- a candidate with this promotion is the first between the squares where none has an earlier one
pub first_between : (p : Parts) (start from to k : ℕ) (m : Move) (o : Option Promotion) → k < 5 → o ≡ promotion_at k → m ≡ make from to o → IsCandidate p start m → ((x : Move) → IsLaterBetween p start from to x → promotion_place x.promotion < k → ⊥) → IsFirstCandidate p start (IsLaterBetween p start from to) m
first_between p start from to k m o lt at is found none = record {
  candidate = found;
  first = λ x w. elim (cases_lt (promotion_place x.promotion) k) [
    | inl before ↦ absurd (none x w before)
    | inr ge ↦
        let place : promotion_place o ≡ k = ap promotion_place at ∙ promotion_back k lt in
        let e : place_of m ≡ 320 * from + 5 * to + k = rw is (omega arith) in
        omega (arith, e, w.0.1, w.1)
  ];
}

pub none_between : (p : Parts) (start from to k : ℕ) (o : Option Promotion) → o ≡ promotion_at k → (IsLaterCapture p start (make from to o) → ⊥) → ((m : Move) → IsLaterBetween p start from to m → promotion_place m.promotion < k → ⊥) → (m : Move) → IsLaterBetween p start from to m → promotion_place m.promotion < k + 1 → ⊥
none_between p start from to k o at not none m w lt = elim (cases_lt (promotion_place m.promotion) k) [
  | inl before ↦ none m w before
  | inr ge ↦ not (subst (IsLaterCapture p start) (made m from to o w.0.1 w.1 (at_place m.promotion k (omega arith) ∙ sym at)) w.0.0)
]

-- ---- the first of the moves over a sweep

-- some wanted move has this number
abbrev pub On : (Move → Type 0) → (Move → ℕ) → ℕ → Type 0
On W key s = (m : Move) × W m × (key m ≡ s)

-- the first of the moves with the lowest number is the first of all
pub first_of_all : (W : Move → Type 0) (key : Move → ℕ) (next set s : ℕ) (p : Parts) (start : ℕ) (m : Move) → key m ≡ s → ((x : Move) → W x → key m < key x → place_of m ≤ place_of x) → ((x : Move) → W x → key x < 64) → Rests (On W key) next set → ((k : ℕ) → k < s → bit_at set k ≡ 0) → ((k : ℕ) → k < next → On W key k → ⊥) → IsFirstCandidate p start (λ x. W x × (key x ≡ s)) m → IsFirstCandidate p start W m
first_of_all W key next set s p start m is rises on_board rests first none f = record {
  candidate = f.candidate;
  first = λ x w. elim (cases_lt (key x) s) [
    | inl before ↦ elim (cases_lt (key x) next) [
      | inl gone ↦ absurd (none (key x) gone (x, w, refl))
      | inr ge ↦ absurd (Rests-between (On W key) next set s (key x) rests first (on_board x w) ge before (x, w, refl))
    ]
    | inr ge ↦ elim (cases_lt s (key x)) [
      | inl after ↦ rises x w (omega arith)
      | inr same ↦ f.first x (w, omega arith)
    ]
  ];
}

pub rises_from : (a b : Move) → a.to < 64 → a.from < b.from → place_of a ≤ place_of b
rises_from a b lt h = let k = promotion_below a.promotion in omega arith

pub rises_to : (a b : Move) → a.from ≡ b.from → a.to < b.to → place_of a ≤ place_of b
rises_to a b e h = let k = promotion_below a.promotion in omega arith

-- ---- the list

later_goes_on : (last : Option Move) (a b : Move) → IsTrue (is_later last a) → place_of a ≤ place_of b → is_later last b ≡ true
later_goes_on None a b h le = refl
later_goes_on (Some last) a b h le = let lt : place_of last < place_of a = (Decides-ltb (place_of last) (place_of a)).0 h in (Decides-ltb (place_of last) (place_of b)).1 (omega arith)

-- what comes after a move is what begins at the place after its own
later_start : (last : Option Move) (m : Move) → is_later last m ≡ true → start_of last ≤ place_of m
later_start None m h = omega arith
later_start (Some last) m h = let lt = (Decides-ltb (place_of last) (place_of m)).0 h in omega arith

start_later : (last : Option Move) (m : Move) → start_of last ≤ place_of m → is_later last m ≡ true
start_later None m h = refl
start_later (Some last) m h = (Decides-ltb (place_of last) (place_of m)).1 (omega arith)

-- a move doesn't come after itself
not_later : (m : Move) → is_later (Some m) m ≡ false
not_later m = elim (cases_Bool (is_later (Some m) m)) [
  | inl t ↦ absurd (let lt = (Decides-ltb (place_of m) (place_of m)).0 t in omega arith)
  | inr f ↦ f
]

all_kept : {X : Type 0} (test : X → Bool) (xs : List X) → All (λ x. test x ≡ true) xs → filter test xs ≡ xs
all_kept test [] h = refl
all_kept test (x ∷ xs) h =
    let rest = all_kept test xs (λ k d lt. h (suc k) d (omega arith)) in
    let here = h 0 x (omega arith) in rw (here, rest) refl

filter_none : {X : Type 0} (test : X → Bool) (xs : List X) → ((x : X) → Contains xs x → test x ≡ true → ⊥) → filter test xs ≡ []
filter_none test [] h = refl
filter_none test (x ∷ xs) h = elim (cases_Bool (test x)) [
  | inl t ↦ absurd (h x (0, omega arith, refl) t)
  | inr f ↦ rw f (filter_none test xs (λ y c. h y (suc c.0, omega (arith, c.1), c.2)))
]

-- of moves in rising order those that come after the last one are the first of these and those that come after it
pub head_and_rest : (last : Option Move) (m : Move) (xs : List Move) → AllPairs (λ a b. place_of a < place_of b) xs → Contains xs m → IsTrue (is_later last m) → ((x : Move) → Contains xs x → IsTrue (is_later last x) → place_of m ≤ place_of x)
    → filter (is_later last) xs ≡ m ∷ filter (is_later (Some m)) xs
head_and_rest last m [] rising there later first = absurd (let lt = there.1 in omega arith)
head_and_rest last m (x ∷ xs) rising there later first =
    let above : All (λ y. place_of x < place_of y) xs = λ i d lt. rising 0 (suc i) d (omega arith) (omega arith) in
    elim (Contains-first x xs m there) [
      | inl e ↦
          let here : is_later last x ≡ true = rw e later in
          let self : is_later (Some m) x ≡ false = rw e (not_later m) in
          let all_later : filter (is_later last) xs ≡ xs = all_kept (is_later last) xs (λ i d lt. later_goes_on last x _ here (omega (arith, above i d lt))) in
          let all_after : filter (is_later (Some m)) xs ≡ xs = all_kept (is_later (Some m)) xs (λ i d lt. (Decides-ltb _ _).1 (rw (sym e) (above i d lt))) in
          rw (here, self, all_later, all_after) (ap (λ y. y ∷ xs) e)
      | inr there' ↦
          let lt : place_of x < place_of m = All-contains (λ y. place_of x < place_of y) xs m above there' in
          let before : is_later last x ≡ false = elim (cases_Bool (is_later last x)) [
            | inl t ↦ absurd (let le = first x (0, omega arith, refl) t in omega arith)
            | inr f ↦ f
          ] in
          let self : is_later (Some m) x ≡ false = elim (cases_Bool (is_later (Some m) x)) [
            | inl t ↦ absurd (let gt = (Decides-ltb (place_of m) (place_of x)).0 t in omega arith)
            | inr f ↦ f
          ] in
          rw (before, self) (head_and_rest last m xs (λ i j d less lt. rising (suc i) (suc j) d (omega arith) (omega arith)) there' later (λ y c. first y (suc c.0, omega (arith, c.1), c.2)))
    ]

pub captures_end : (p : Parts) (last : Option Move) → ((m : Move) → IsLaterCapture p (start_of last) m → ⊥) → captures_after p last ≡ []
unfolding captures_after
captures_end p last none =
    let h = HasLegalCaptures-moves p in
    filter_none (is_later last) (legal_captures p) (λ x there later. none x (All-contains (IsLegalCapture p) (legal_captures p) x h.sound there, later_start last x later))

-- ---- the next candidate

-- what is no legal capture and comes first leaves what comes after
skips : (last : Option Move) (m : Move) (xs : List Move) → (Contains xs m → ⊥) → ((x : Move) → Contains xs x → x.to < 64) → m.to < 64 → IsTrue (is_later last m) → ((x : Move) → Contains xs x → IsTrue (is_later last x) → place_of m ≤ place_of x)
    → filter (is_later last) xs ≡ filter (is_later (Some m)) xs
skips last m [] absent on_board board later first = refl
skips last m (x ∷ xs) absent on_board board later first =
    let rest = skips last m xs (λ c. absent (suc c.0, omega (arith, c.1), c.2)) (λ y c. on_board y (suc c.0, omega (arith, c.1), c.2)) board later (λ y c. first y (suc c.0, omega (arith, c.1), c.2)) in
    elim (cases_lt (place_of m) (place_of x)) [
      | inl lt ↦
          let before : is_later last x ≡ true = later_goes_on last m x later (omega arith) in
          let after : is_later (Some m) x ≡ true = (Decides-ltb (place_of m) (place_of x)).1 lt in
          rw (before, after, rest) refl
      | inr ge ↦
          let before : is_later last x ≡ false = elim (cases_Bool (is_later last x)) [
            | inl t ↦ absurd (let le = first x (0, omega arith, refl) t in absent (0, omega arith, same_place x m (on_board x (0, omega arith, refl)) board (omega arith)))
            | inr f ↦ f
          ] in
          let after : is_later (Some m) x ≡ false = elim (cases_Bool (is_later (Some m) x)) [
            | inl t ↦ absurd (let gt = (Decides-ltb (place_of m) (place_of x)).0 t in omega arith)
            | inr f ↦ f
          ] in
          rw (before, after) rest
    ]

next_by : (p : Parts) (last : Option Move) (m : Move) (legal : Bool) → is_legal p m ≡ legal → IsFirstCandidate p (start_of last) (IsLaterCapture p (start_of last)) m → captures_after p last ≡ if legal then m ∷ captures_after p (Some m) else captures_after p (Some m)
unfolding captures_after
next_by p last m true e n =
    let h = HasLegalCaptures-moves p in
    head_and_rest last m (legal_captures p) h.ordered (h.complete m ((Decides-legal p m).0 e, n.candidate.takes)) (start_later last m n.candidate.later)
    (λ x there later. n.first x (All-contains (IsLegalCapture p) (legal_captures p) x h.sound there, later_start last x later))
next_by p last m false e n =
    let h = HasLegalCaptures-moves p in
    skips last m (legal_captures p)
    (λ c. let t = (Decides-legal p m).1 (All-contains (IsLegalCapture p) (legal_captures p) m h.sound c).0 in absurd cc)
    (λ x c. (All-contains (IsLegalCapture p) (legal_captures p) x h.sound c).0.1.to_board)
    n.candidate.to_board (start_later last m n.candidate.later)
    (λ x there later. n.first x (All-contains (IsLegalCapture p) (legal_captures p) x h.sound there, later_start last x later))

pub next_goes_on : (p : Parts) (last : Option Move) (o : Option Move) → IfSome o (IsFirstCandidate p (start_of last) (IsLaterCapture p (start_of last))) → IfSome o (λ m. captures_after p last ≡ if is_legal p m then m ∷ captures_after p (Some m) else captures_after p (Some m))
next_goes_on p last None h = tt
next_goes_on p last (Some m) h = next_by p last m (is_legal p m) refl h

pub next_later : (p : Parts) (last : Option Move) (o : Option Move) → IfSome o (IsFirstCandidate p (start_of last) (IsLaterCapture p (start_of last))) → IfSome o (λ m. (l : Move) → last ≡ Some l → place_of l < place_of m)
next_later p last None h = tt
next_later p last (Some m) h = λ l e. let at : start_of last ≡ place_of l + 1 = rw e refl in omega (arith, at, h.candidate.later)

pub next_below : (p : Parts) (start : ℕ) (o : Option Move) → IfSome o (IsFirstCandidate p start (IsLaterCapture p start)) → IfSome o (λ m. place_of m < 20480)
next_below p start None h = tt
next_below p start (Some m) h = let k = promotion_below m.promotion in omega (arith, h.candidate.from_board, h.candidate.to_board)

pub next_ends : (p : Parts) (last : Option Move) (o : Option Move) → IfNone o ((m : Move) → IsLaterCapture p (start_of last) m → ⊥) → IfNone o (captures_after p last ≡ [])
next_ends p last None h = captures_end p last h
next_ends p last (Some m) h = tt

-- a candidate that is played is the next capture, and one that isn't is passed over
pub if_played : (p : Parts) (m : Move) (xs now later : List Move) (o : Option Parts) (q : Parts) → o ≡ position_after p m → o ≡ Some q → (xs ≡ if is_legal p m then now else later) → xs ≡ now
if_played p m xs now later o q computed is next = rw (sym computed, is) at next

pub if_not_played : (p : Parts) (m : Move) (xs now later : List Move) (o : Option Parts) → o ≡ position_after p m → o ≡ None → (xs ≡ if is_legal p m then now else later) → xs ≡ later
if_not_played p m xs now later o computed is next = rw (sym computed, is) at next

-- each candidate has fewer places after it than the one before
pub starts_later : (last : Option Move) (m : Move) → ((l : Move) → last ≡ Some l → place_of l < place_of m) → place_of m < 20480 → 20480 - start_of (Some m) < 20480 - start_of last
starts_later None m later below = omega arith
starts_later (Some l) m later below = let lt = later l refl in omega arith
