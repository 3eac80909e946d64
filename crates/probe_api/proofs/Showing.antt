-- What holds of what a board shows, by what making a position of it comes to.
use Rattle.std.proofs.Common.{◌≡◌, Result, Ok, Err, IfOk, IfErr, inl, inr, subst, sym}
use Rattle.board_core.specs.declared.parts.Parts.{Parts}
use Rattle.board_core.specs.declared.position.PositionFault.{PositionFault}
use Rattle.board_core.specs.Position.{IsPosition, IsFirstFault}
use Rattle.judge_core.specs.Tables.{Tables}
use Rattle.probe_api.specs.Boards.{shown}
use Rattle.probe_api.specs.declared.asking.Question.{Question}
use Rattle.probe_api.specs.declared.board.Board.{Board}
use Rattle.probe_api.specs.declared.reply.Reply.{Reply}
use Rattle.probe_api.specs.Replies.{Tells, TellsBoard, refused, position_status}

abbrev pub Made : Parts → Result Parts PositionFault → Type 0
Made p made = (IsPosition p → made ≡ Ok p) × ((fault : PositionFault) → IsFirstFault p fault → made ≡ Err fault)

-- parts of which a position was made have no fault
pub no_fault : (p : Parts) (made : Result Parts PositionFault) (position : Parts) → made ≡ Ok position → Made p made → (P : PositionFault → Type 0) (fault : PositionFault) → IsFirstFault p fault → P fault
no_fault p made position is makes P fault first = absurd (subst (λ r. IfErr r (λ _. ⊥)) (makes.1 fault first) (subst (λ r. IfErr r (λ _. ⊥)) (sym is) tt))

-- those that were refused have this first fault alone, and are no position
module _ (p : Parts) (made : Result Parts PositionFault) (fault : PositionFault) (is : made ≡ Err fault) (makes : Made p made) where
  pub each_fault : (P : PositionFault → Type 0) → P fault → (other : PositionFault) → IsFirstFault p other → P other
  each_fault P holds other early = subst (λ r. IfErr r P) (makes.1 other early) (subst (λ r. IfErr r P) (sym is) holds)

  pub no_position : (P : Type 0) → IsPosition p → P
  no_position P valid = absurd (subst (λ r. IfOk r (λ _. ⊥)) (makes.0 valid) (subst (λ r. IfOk r (λ _. ⊥)) (sym is) tt))

pub of_position : (question : Question) (tables : Tables) (b : Board) (reply : Reply) (position : Parts) (made : Result Parts PositionFault) → made ≡ Ok position → position ≡ shown b → IsPosition (shown b) → Made (shown b) made → Tells question tables position reply → TellsBoard question tables b reply
of_position question tables b reply position made is same valid makes tells = record {
  position = λ _. subst (λ q. Tells question tables q reply) same tells;
  fault = no_fault (shown b) made position is makes (λ fault. reply ≡ refused (position_status fault));
  one = inl valid;
}

pub of_fault : (question : Question) (tables : Tables) (b : Board) (reply : Reply) (fault : PositionFault) (made : Result Parts PositionFault) → made ≡ Err fault → IsFirstFault (shown b) fault → Made (shown b) made → reply ≡ refused (position_status fault) → TellsBoard question tables b reply
of_fault question tables b reply fault made is first makes tells = record {
  position = no_position (shown b) made fault is makes (Tells question tables (shown b) reply);
  fault = each_fault (shown b) made fault is makes (λ f. reply ≡ refused (position_status f)) tells;
  one = inr (fault, first);
}
