use Rattle.std.proofs.Common.{◌∙◌, List, ℕ, refl, subst}
use Rattle.std.proofs.lemmas.Bool.{false≢true}
use Rattle.probe_api.specs.Sans.{PutsSanText}
use Rattle.probe_api.proofs.san.put_san_of_move.Goals as goal

pub returns-in-Some : goal.returns-in-Some
returns-in-Some c = record {
  legal = λ _. subst (λ (t : List ℕ). PutsSanText t c.args.room.now c.put_san_text.result c.put_san_text.new.room) (c.as_bytes.ensures.value ∙ c.as_str.ensures.value ∙ c.in-Some.ensures.value) c.put_san_text.ensures;
  illegal = λ no. absurd (no (c.in-Some.ensures.legal.0 refl));
}

pub returns-in-None : goal.returns-in-None
returns-in-None c = record {
  legal = λ l. absurd (false≢true (c.in-None.ensures.legal.1 l));
  illegal = λ _. (c.refused.ensures, refl);
}
