-- `of` hands what the loose box owns to the seat.
use Rattle.std.proofs.Common.{◌≡◌, List, [], ◌∷◌, ◌++◌, refl, sym, subst, Some}
use base.Logic.{SProp, ent, emp, id⊢}
use base.Fml.{ftrue}
use prog.Wp.{WpFn}
use mir.Val.{Val, vptr}
use types.Kit.{‵, raw, ◌⊛◌, ◌$◌, ◌∵◌, !, qed, by, move, keep, split, fsplit, fjoin, suffices, use0, use1}
use types.Run.{stop, fld, of_opd, enter, returns, and_then, no_more}
use types.ByLocal.{alloc_all, pass_all, free_all, look_at, get, get_in, sets}
use types.Part.{agg, sub, whole}
use contract.Monad.{fact, fact_i}
use contract.Running.{tables}
use denote.Exit.{no}
use denote.RattleType.{RattleType, owns}
use denote.RawPtr.{block_ptr}
use denote.Signature.{types_at, plain}
use denote.Steps.{nothing}
use denote.Triple.Walked.{Stays, stay_dropped, walk_of}
use Rattle.std.proofs.alloc.Calls.{Goes-blank}
use Rattle.std.proofs.raw_atomic.Walks.{proved_at, leaves}
use Rattle.std.proofs.alloc.Global.TheLaws as heap_laws
use Rattle.std.specs.contracts.impls.GlobalAllocator.TheImpl.{ghosts}
use Rattle.hofsjurd_c.proofs.Seats.{R, Z, seat_in}
use Rattle.hofsjurd_c.proofs.Values.{both, RawBox, loose_good, loose_out}
use Rattle.hofsjurd_c.specs.Owned.{seat_owns}
use Rattle.hofsjurd_c.specs.contracts.owned_pointer.OwnedPointer.of as f
use Rattle.hofsjurd_c.specs.contracts.owned_pointer.OwnedPointer.of.Key.{name as #self}
use Rattle.hofsjurd_c.proofs.owned_pointer.OwnedPointer.of.Statement.{statement}
use Rattle.hofsjurd_c.proofs.owned_pointer.OwnedPointer.of.Code as code

pub of_spec : {M : Type 1} → statement M
of_spec 𝓤 𝓛 𝓜 𝓡 wired =
    let H = 𝓛.H in let 𝓣 = tables 𝓤 H 𝓜 𝓡 𝓡.env in let c = f.clauses 𝓛 𝓜.mem 𝓡.returns in let fn = code.function in let LZ = heap_laws.the_row_laws in
    let From : RattleType = RawBox R Z LZ ghosts in
    let hs : Stays f.ended.signature.params f.ended.kept = (stay_dropped (plain (λ _. From)) no, tt) in
    proved_at 𝓛 f.ended hs c 𝓜 𝓡 (Goes-blank 𝓛 0 (plain (λ _. From)) no (λ κs x f. tt), tt) #self fn (code.unfolded 𝓤 H 𝓜 𝓡 wired) (λ z are.
    let v = z.0.3.0 in let Post : Val → SProp 𝓤 = (walk_of 𝓛 f.ended hs c).post z in let Run : List Val → SProp 𝓤 = λ ws. WpFn 𝓤 H 𝓣.C 𝓣.Λ fn ws Post in
    qed 𝓛 ((‵ ftrue ⊛ ‵ (owns (types_at f.ended.signature.params z.0.0) z.0.3 z.0.4)) ∷ raw ((c z.0.0 z.0.3).requires z.1) ∷ []) ∵ split ! $ move ! (1 ∷ []) $ fsplit ! $
    loose_out R Z LZ ghosts ! v z.0.4.0 (λ b o h e ws fits. let w : Val = both (vptr b o) h in let typed = loose_good R Z LZ ghosts b o h fits in
    suffices ! (Run (w ∷ [])) (subst (λ (us : List Val). ent 𝓤 (Run (w ∷ [])) (Run us)) (sym (λ i. ws i ++ [])) (id⊢ 𝓤 (Run (w ∷ [])))) $
    enter ! 𝓣.C 𝓣.Λ fn (w ∷ []) Post $ alloc_all ! (λ l. pass_all ! refl (typed, tt) $
    sets ! (of_opd ! (get_in ! (fld ! refl (stop !)) (sub ! 0 refl (whole !)))) refl (tt, tt) $
    sets ! (of_opd ! (get_in ! (fld ! refl (stop !)) (sub ! 1 refl (whole !)))) refl fits $
    sets ! (of_opd ! (get ! refl)) refl (tt, tt) $
    sets ! (agg ! (and_then ! (get ! refl) (and_then ! (get ! refl) (no_more !)))) refl typed $
    use1 𝓛 (‵ (seat_owns v.alloc (block_ptr b o) (Some v.value))) (id⊢ 𝓤 _) $
    seat_in ! (block_ptr b o) h v.alloc (Some v.value) $
    use0 𝓛 (raw (fact 𝓤 (Some v.value ≡ Some v.value))) (fact_i 𝓤 (Some v.value ≡ Some v.value) (emp 𝓤) refl) $ nothing ! $ nothing ! $ fjoin ! $
    returns ! (look_at ! 0 refl) $ free_all ! refl $ keep ! (4 ∷ 0 ∷ 2 ∷ 1 ∷ []) $ by ! (leaves 𝓛 f.ended hs c z w (record { at = block_ptr b o; alloc = v.alloc; value = Some v.value }) (_, tt) (tt, tt)))))
