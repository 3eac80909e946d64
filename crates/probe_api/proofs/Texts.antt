-- What holds of a text, by what reading it comes to.
use Rattle.std.proofs.Common.{◌≡◌, ℕ, List, Result, Ok, Err, IfOk, IfErr, inl, inr, subst, sym}
use Rattle.board_core.specs.declared.parts.Parts.{Parts}
use Rattle.board_core.specs.Position.{IsPosition}
use Rattle.fen_text.specs.Fen.{SpellsPosition, IsFirstFenFault}
use Rattle.fen_text.specs.declared.fault.FenFault.{FenFault}
use Rattle.judge_core.specs.Tables.{Tables}
use Rattle.probe_api.specs.declared.asking.Question.{Question}
use Rattle.probe_api.specs.declared.reply.Reply.{Reply}
use Rattle.probe_api.specs.Replies.{Tells, TellsText, refused, fen_status}

abbrev pub Reads : List ℕ → Result Parts FenFault → Type 0
Reads text read = ((p : Parts) → IsPosition p → SpellsPosition text p → read ≡ Ok p) × ((fault : FenFault) → IsFirstFenFault text fault → read ≡ Err fault)

-- a text that is read as a position spells this one alone, and has no fault
module _ (text : List ℕ) (read : Result Parts FenFault) (position : Parts) (is : read ≡ Ok position) (reads : Reads text read) where
  pub each_position : (P : Parts → Type 0) → P position → (p : Parts) → IsPosition p → SpellsPosition text p → P p
  each_position P holds p good same = subst (λ r. IfOk r P) (reads.0 p good same) (subst (λ r. IfOk r P) (sym is) holds)

  pub no_fault : (P : FenFault → Type 0) (fault : FenFault) → IsFirstFenFault text fault → P fault
  no_fault P fault first = absurd (subst (λ r. IfErr r (λ _. ⊥)) (reads.1 fault first) (subst (λ r. IfErr r (λ _. ⊥)) (sym is) tt))

-- one that is refused has this first fault alone, and spells no position
module _ (text : List ℕ) (read : Result Parts FenFault) (fault : FenFault) (is : read ≡ Err fault) (reads : Reads text read) where
  pub each_fault : (P : FenFault → Type 0) → P fault → (other : FenFault) → IsFirstFenFault text other → P other
  each_fault P holds other early = subst (λ r. IfErr r P) (reads.1 other early) (subst (λ r. IfErr r P) (sym is) holds)

  pub no_position : (P : Parts → Type 0) (p : Parts) → IsPosition p → SpellsPosition text p → P p
  no_position P p valid spells = absurd (subst (λ r. IfOk r (λ _. ⊥)) (reads.0 p valid spells) (subst (λ r. IfOk r (λ _. ⊥)) (sym is) tt))

pub of_position : (question : Question) (tables : Tables) (text : List ℕ) (reply : Reply) (read : Result Parts FenFault) (position : Parts) → read ≡ Ok position → IsPosition position → SpellsPosition text position → Reads text read → Tells question tables position reply → TellsText question tables text reply
of_position question tables text reply read position is valid spells reads tells = record {
  one = inl (position, valid, spells);
  position = each_position text read position is reads (λ p. Tells question tables p reply) tells;
  fault = no_fault text read position is reads (λ fault. reply ≡ refused (fen_status fault));
}

pub of_fault : (question : Question) (tables : Tables) (text : List ℕ) (reply : Reply) (read : Result Parts FenFault) (fault : FenFault) → read ≡ Err fault → IsFirstFenFault text fault → Reads text read → reply ≡ refused (fen_status fault) → TellsText question tables text reply
of_fault question tables text reply read fault is first reads tells = record {
  one = inr (fault, first);
  position = no_position text read fault is reads (λ p. Tells question tables p reply);
  fault = each_fault text read fault is reads (λ f. reply ≡ refused (fen_status f)) tells;
}
