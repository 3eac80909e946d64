-- The machine value of a `OwnedGame`, and what it owns. Assumes `Logic`.
use Rattle.std.proofs.Common.{◌≡◌, List, [], ◌∷◌, ◌++◌, refl, sym, subst, Option, None, Some}
use Rattle.std.specs.Prelude.{IsSome}
use mathlib.Core.Bool.{true≢false}
use seplogic.Ra.Ura.{Ura}
use mir.Syntax.{impl, tnil, dnil}
use mir.Val.{Val, vstruct, of_list}
use types.Logic.{Logic}
use types.Kit.{Item, Goal, Seq, Step, step, ‵, ◌$◌, move, drop, fsplit, fjoin, fpick, fpack, feq_i, feq_l}
use denote.RattleType.{RattleType, Valss}
use denote.Builtin.{RawPtr}
use denote.Param.{layout}
use denote.RawPtr.{Ptr, ptr_val}
use denote.Steps.{nothing}
use denote.Struct.Struct.{within}
use denote.Struct.Owning.{shape}
use Rattle.std.proofs.alloc.Calls.{Al, handle_tells}
use Rattle.std.proofs.cell.Inside.{Good}
use Rattle.std.specs.contracts.alloc.Global as heap
use Rattle.std.proofs.alloc.Global.TheLaws as heap_laws
use Rattle.std.specs.contracts.impls.GlobalAllocator.TheImpl.{ghosts}
use Rattle.hofsjurd_c.specs.Owned.{game_seat_owns}
use Rattle.hofsjurd_c.specs.contracts.owned_game.OwnedGame as seat
use Rattle.hofsjurd_c.specs.contracts.held.HeldGame as held
use Rattle.hofsjurd_c.specs.declared.held.HeldGame.{HeldGame}
use Rattle.hofsjurd_c.proofs.Values.{both}

abbrev pub R : RattleType
R = held.the_row

abbrev pub Z : RattleType
Z = heap.the_row

abbrev pub OwnedGame : RattleType
OwnedGame = seat.the_row

abbrev pub al : Al
al = record { row = Z; laws = heap_laws.the_row_laws; g = ghosts; d = impl [] tnil dnil; drops = impl [] tnil dnil }

-- the value that is there
pub found : (o : Option HeldGame) → IsSome o → (x : HeldGame) × (o ≡ Some x)
found (Some x) p = (x, refl)
found None p = absurd (true≢false (sym p))

module _ {M : Type 1} {𝓤 : Ura M} {𝓛 : Logic 𝓤} {K : Type 0} {Γ : List (Item 𝓤)} {G : Goal 𝓤 𝓛.H} where
  pub seat_out : K → (d : OwnedGame.Denot) (vs : List Val)
      → ((h : Val) → vs ≡ both (ptr_val d.at) h ∷ [] → Good (layout Z) h → Seq K 𝓛 (‵ (game_seat_owns d.alloc d.at d.value) ∷ ‵ (Z.own_val d.alloc (h ∷ [])) ∷ Γ) G)
      → Seq K 𝓛 (‵ (OwnedGame.own_val d vs) ∷ Γ) G
  seat_out t d vs k =
      fsplit t $ fpick t (λ vss. fsplit t $ feq_l t (λ ev. fsplit t $ feq_l t (λ ep. fsplit t $ handle_tells al t d.alloc vss.1.0 (λ h ea fits. move t (1 ∷ []) $ drop t $ move t (1 ∷ []) $ k h
      (subst (λ (ws : List Val). vs ≡ vstruct (of_list (ptr_val d.at ∷ (ws ++ []))) ∷ []) ea (subst (λ (ps : List Val). vs ≡ vstruct (of_list (ps ++ (vss.1.0 ++ []))) ∷ []) ep ev)) fits))))

  pub seat_in : K → (p : Ptr) (h : Val) (a : Z.Denot) (x : Option HeldGame)
      → Step K 𝓛 (‵ (OwnedGame.own_val (record { at = p; alloc = a; value = x }) (both (ptr_val p) h ∷ [])) ∷ Γ) G (‵ (game_seat_owns a p x) ∷ ‵ (Z.own_val a (h ∷ [])) ∷ Γ) G
  seat_in t p h a x = step (λ s. let v : Val = both (ptr_val p) h in
      nothing t $ move t (2 ∷ 0 ∷ []) $ fjoin t $ feq_i t (List Val) (ptr_val p ∷ []) (ptr_val p ∷ []) refl $ fjoin t $ feq_i t (List Val) (v ∷ []) (v ∷ []) refl $ fjoin t $
      fpack t (Valss (RawPtr ∷ Z ∷ [])) (within (shape seat.the_type) (p, (((tt, tt), tt), tt)) (v ∷ [])) (ptr_val p ∷ [], (h ∷ [], tt)) $ fjoin t $ s)
