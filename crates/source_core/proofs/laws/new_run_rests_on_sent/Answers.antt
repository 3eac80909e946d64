use Rattle.std.proofs.Common.{◌≡◌, ◌∙◌, ◌+◌, ◌++◌, ℕ, List, [], ◌∷◌, None, length, sym, ap, subst, append-nil, length-append}
use Rattle.board_core.specs.declared.moves.Move.{Move as Moves}
use Rattle.move_msg.specs.declared.stamp.Stamp.{Stamp}
use Rattle.std.specs.Prelude.{Ok}
use Rattle.system_io.specs.declared.reading.ReadFault.{ReadFault}
use Rattle.system_io.specs.declared.reading.ReadFault.TheVariants as fault
use Rattle.system_io.specs.Ports.{Passing}
use Rattle.timeline.specs.Events.{Event, LineRead}
use Rattle.source_core.specs.declared.lines.End.TheVariants as at_end
use Rattle.source_core.specs.declared.origin.Origin.{Origin}
use Rattle.source_core.specs.declared.origin.Origin.TheVariants.{Any, New}
use Rattle.source_core.specs.declared.report.Ruling.{Ruling}
use Rattle.source_core.specs.Heard.{heard}
use Rattle.source_core.specs.Origins.{IsOwn, RestsOnSent}
use Rattle.source_core.specs.Runs.{AreMoveTurns, EndsRun, InputEnds, IsMoveTurn, LastSent, MoveTurn, NoLine, NotSent, RunState, SourceTerms, unread_end}
use Rattle.source_core.proofs.RunLaws.{heard_again}
use Rattle.source_core.proofs.laws.new_run_rests_on_sent.Goals as goal

own_new : (origin : Origin) (stamp : Stamp) (sent : ℕ) (all : List Passing) → origin ≡ New → IsOwn origin stamp sent all → RestsOnSent stamp sent all
own_new Any stamp sent all new own = absurd cc
own_new New stamp sent all new own = own

-- an acknowledged move
turn_rests : (g : SourceTerms) (at : RunState) (t : MoveTurn) → g.terms.origin ≡ New → IsMoveTurn g at t → RestsOnSent g.terms.stamp (length t.after.moves) (heard t.after.events)
turn_rests g at t new h =
    let longer : length t.after.moves ≡ length at.moves + 1 = ap length h.moves ∙ length-append at.moves (t.move ∷ []) in
    subst (λ n. RestsOnSent g.terms.stamp n (heard t.after.events)) (sym longer) (own_new g.terms.origin g.terms.stamp (length at.moves + 1) (heard t.after.events) new h.own)

same_turn : (x t : MoveTurn) (xs ys : List MoveTurn) → x ∷ xs ≡ t ∷ ys → x ≡ t
same_turn x t xs ys is = cc

same_later : (x t : MoveTurn) (xs ys : List MoveTurn) → x ∷ xs ≡ t ∷ ys → xs ≡ ys
same_later x t xs ys is = cc

none_there : (earlier later : List MoveTurn) (t : MoveTurn) → [] ≡ earlier ++ t ∷ later → ⊥
none_there [] later t is = let e : [] ≡ t ∷ later = is in cc
none_there (x ∷ earlier) later t is = let e : [] ≡ x ∷ (earlier ++ t ∷ later) = is in cc

turns_rest : (g : SourceTerms) (a b : RunState) (ts earlier later : List MoveTurn) (t : MoveTurn) → g.terms.origin ≡ New → AreMoveTurns g a ts b → ts ≡ earlier ++ t ∷ later → RestsOnSent g.terms.stamp (length t.after.moves) (heard t.after.events)
unfolding AreMoveTurns
turns_rest g a b [] earlier later t new h is = absurd (none_there earlier later t is)
turns_rest g a b (x ∷ ts) [] later t new h is = subst (λ (y : MoveTurn). RestsOnSent g.terms.stamp (length y.after.moves) (heard y.after.events)) (same_turn x t ts later is) (turn_rests g a x new h.0)
turns_rest g a b (x ∷ ts) (y ∷ earlier) later t new h is = turns_rest g x.after b ts earlier later t new h.1 (same_later x y ts (earlier ++ t ∷ later) is)

-- a verdict
not_ruled : (why : ReadFault) (r : Ruling) → at_end.Ruled r ≡ unread_end why → ⊥
not_ruled fault.Unreadable r e = let x : at_end.Ruled r ≡ at_end.Unread = e in cc
not_ruled fault.OutOfMemory r e = let x : at_end.Ruled r ≡ at_end.OutOfMemory = e in cc

end_rests : (cause : ReadFault → Type 0) (g : SourceTerms) (at : RunState) (sent : List Moves) (more : List Event) (r : Ruling) → g.terms.origin ≡ New → EndsRun cause g at sent more (at_end.Ruled r) → RestsOnSent g.terms.stamp (length (at.moves ++ sent)) (heard (at.events ++ more))
end_rests cause g at sent more r new (NoLine why had_come h is none e) = absurd (not_ruled why r is)
end_rests cause g at sent more r new (NotSent line had_come input read h none e) = absurd h
end_rests cause g at sent more r new (InputEnds had_come rest done closes none e) =
    subst (λ l. RestsOnSent g.terms.stamp (length (at.moves ++ sent)) (heard (at.events ++ l))) (sym e)
    (subst (λ l. RestsOnSent g.terms.stamp (length (at.moves ++ l)) (heard (at.events ++ (LineRead (Ok None) had_come ∷ rest)))) (sym none)
    (subst (λ l. RestsOnSent g.terms.stamp (length l) (heard (at.events ++ (LineRead (Ok None) had_come ∷ rest)))) (sym (append-nil at.moves))
    (subst (RestsOnSent g.terms.stamp (length at.moves)) (sym (heard_again g at rest had_come closes.came closes.happened))
    (own_new g.terms.origin g.terms.stamp (length at.moves) (heard at.events ++ heard closes.came) new closes.stands.1))))
end_rests cause g at sent more r new (LastSent last is all) =
    subst (λ l. RestsOnSent g.terms.stamp (length (at.moves ++ l)) (heard (at.events ++ more))) (sym last.only)
    (subst (λ n. RestsOnSent g.terms.stamp n (heard (at.events ++ more))) (sym (length-append at.moves (last.move ∷ [])))
    (own_new g.terms.origin g.terms.stamp (length at.moves + 1) (heard (at.events ++ more)) new is.1))

pub returns : goal.returns
returns g c = λ lines game start input turns at in_turn new. (
  λ earlier later t is. turns_rest game _ at turns earlier later t new in_turn is,
  λ sent more r known ended. end_rests _ game at sent more r new ended.ends,
)
