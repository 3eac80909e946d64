-- Other men who can go where a move goes.
use Rattle.std.proofs.Common.{◌≡◌, ◌<◌, is_some, ℕ, Bool, true, false, ◌&&◌, Some, Decides, refl, sym, ap, subst, ◌∙◌, arith}
use Rattle.std.proofs.lemmas.Bool.{false_from_ne_true, and_parts, and_from}
use Rattle.std.proofs.lemmas.List.Folds.{Any-from_list_any, list_any_at}
use Rattle.board_core.specs.declared.parts.Parts.{Parts}
use Rattle.board_core.specs.declared.moves.Move.{Move}
use Rattle.board_core.specs.Attack.{man_at}
use Rattle.board_core.specs.Moves.{IsLegal}
use Rattle.board_core.specs.ComputedMoves.{legal_moves}
use Rattle.board_core.proofs.ComputedLists.{HasLegal-moves}
use Rattle.board_core.proofs.Listing.{IsLegal-stands}
use Rattle.board_core.proofs.Sweep.{Rests, none_left}
use Rattle.san_text.specs.Written.{is_rival, has_rival}
use Rattle.san_text.specs.Inside.Written.{Rivals}

-- there is a rival from a square that passes the test
pub Decides-rival : (p : Parts) (m : Move) (test : ℕ → Bool) → Decides (has_rival p m test) ((s : ℕ) × Rivals p m s × (test s ≡ true))
unfolding has_rival
Decides-rival p m test = (
  λ t.
      let a = Any-from_list_any (λ n. is_rival p m n && test n.from) (legal_moves p) t in
      let legal = subst (IsLegal p) a.3 ((HasLegal-moves p).sound a.0 a.1 a.2) in
      let both = and_parts (is_rival p m a.1) (test a.1.from) a.4 in
      (a.1.from, (a.1, legal, both.0, refl), both.1),
  λ r.
      let n = r.1.0 in
      let c = (HasLegal-moves p).complete n r.1.1 in
      let here : test n.from ≡ true = ap test r.1.3 ∙ r.2 in
      list_any_at (λ n. is_rival p m n && test n.from) (legal_moves p) c.0 n c.1
      (ap (λ n. is_rival p m n && test n.from) c.2 ∙ and_from (is_rival p m n) (test n.from) r.1.2 here),
)

-- among the men that are looked at
pub record RivalAmong (p : Parts) (m : Move) (test : ℕ → Bool) (s : ℕ) : Type 0 where
  pub rival : Rivals p m s
  pub among : test s ≡ true

rival_on_board : (p : Parts) (m : Move) (s : ℕ) → Rivals p m s → s < 64
rival_on_board p m s r = let e = r.3 in let lt = r.1.1.from_board in omega arith

-- a man stands where a legal move begins
pub rival_stands : (p : Parts) (m : Move) (s : ℕ) → Rivals p m s → is_some (man_at p.men s) ≡ true
rival_stands p m s r =
    let st = IsLegal-stands p r.0 r.1 in
    let at : man_at p.men s ≡ Some (record { side = p.side; kind = st.0 }) = ap (man_at p.men) (sym r.3) ∙ st.1 in
    rw at refl

pub Decides-found : (p : Parts) (m : Move) (test : ℕ → Bool) (s : ℕ) → Rivals p m s → test s ≡ true → true ≡ has_rival p m test
Decides-found p m test s r t = sym ((Decides-rival p m test).1 (s, r, t))

pub none_found : (p : Parts) (m : Move) (test : ℕ → Bool) (next set : ℕ) → Rests (RivalAmong p m test) next set → set ≡ 0 → ((s : ℕ) → s < next → RivalAmong p m test s → ⊥) → false ≡ has_rival p m test
none_found p m test next set r empty none =
    sym (false_from_ne_true (has_rival p m test) (λ t.
    let a = (Decides-rival p m test).0 t in
    none_left (RivalAmong p m test) next set r empty none a.0 (rival_on_board p m a.0 a.1) (record { rival = a.1; among = a.2 })))
