use Rattle.std.proofs.Common.{◌≡◌, ◌∙◌, ◌++◌, ℕ, true, List, [], ◌∷◌, inl, sym, ap, subst, append-nil, append_assoc}
use Rattle.std.specs.Prelude.{Result, Ok, Err, OnOk, is_ok}
use Rattle.std.specs.Fmt.{WritesInCalls}
use Rattle.std.specs.List.{FoldsTo, concat}
use Rattle.arrayvec.specs.ArrayString.{ArrayString as Text}
use Rattle.source_core.specs.Origins.{IsAddressText}
use Rattle.source_core.proofs.origin.text_of.Goals as goal

on_ok : {T E : Type 0} (r : Result T E) (P : Type 0) → is_ok r ≡ true → OnOk r P → P
on_ok (Ok v) P is h = h
on_ok (Err e) P is h = absurd cc

-- what the calls of a writer wrote, one after the other
abbrev Took : Text → List ℕ → Text → Type 0
Took s bytes t = t.bytes ≡ s.bytes ++ bytes

took_calls : (w : Text) (parts : List (List ℕ)) (v : Text) → FoldsTo Took w parts v → v.bytes ≡ w.bytes ++ concat parts
took_calls w [] v p = sym (ap (λ (t : Text). t.bytes) p) ∙ sym (append-nil w.bytes)
took_calls w (x ∷ parts) v p = took_calls p.0 parts v p.2 ∙ ap (λ l. l ++ concat parts) p.1 ∙ append_assoc w.bytes x (concat parts)

took_text : (w : Text) (bs : List ℕ) (v : Text) → w.bytes ≡ [] → WritesInCalls Took w bs v → v.bytes ≡ bs
took_text w bs v none p = took_calls w p.parts v p.calls ∙ ap (λ l. l ++ concat p.parts) none ∙ p.whole

pub returns-then-is_ok : goal.returns-then-is_ok
returns-then-is_ok c =
    let wrote = on_ok _ _ (sym c.if-is_ok.ensures.value) c.write.ensures.writes in
    subst (λ o. IsAddressText o c.write.new.self.bytes) (sym c.in-Some.is) (inl (took_text c.new-text.result _ c.write.new.self c.new-text.ensures wrote))
