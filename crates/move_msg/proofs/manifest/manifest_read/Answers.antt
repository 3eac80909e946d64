use Rattle.std.proofs.Common.{rules, ◌≡◌, ◌++◌, ◌∷◌, [], ℕ, List, refl, sym, ◌∙◌, ap, map, arith, inr, subst}
use Rattle.std.proofs.lemmas.List.{map-append, length-map, append_assoc}
use Rattle.move_msg.specs.Manifests.{Entry, IsAfter, AreEntries, entry_of, line_text, lines_text}
use Rattle.move_msg.proofs.ManifestLaws.{one_line, entries_more, lines_more, first_line_of}
use Rattle.move_msg.proofs.manifest.manifest_read.Goals as goal

pub returns-then-not-is_after-clause-err : goal.returns-then-not-is_after-clause-err
returns-then-not-is_after-clause-err c = inr (
  _,
  refl,
  record {
    before = map entry_of c.loop-rest.lines.items;
    rest = c.loop-rest.rest.now;
    manifest = c.loop-rest.invariant.entries;
    number = omega (arith, length-map c.loop-rest.lines.items entry_of);
    text = c.loop-rest.invariant.text;
    more = λ e. let none = c.is_empty.ensures in search rules;
    none = λ e after h later line.
        let same = (one_line e (entry_of c.in-Some.line) after _ h c.in-Some.ensures.some.0 (sym line ∙ c.in-Some.ensures.some.1)).0 in
        let is = c.is_after.ensures.1 (rw c.deref.ensures.value (subst (λ x. IsAfter (map entry_of c.loop-rest.lines.items) x) same later)) in
        search rules;
  },
)

pub loop-rest-preserved : goal.loop-rest-preserved
loop-rest-preserved c =
    let items : c.push.new.self.items ≡ c.loop-rest.lines.items ++ c.in-Some.line ∷ [] = search rules in
    let entries : map entry_of c.push.new.self.items ≡ map entry_of c.loop-rest.lines.items ++ entry_of c.in-Some.line ∷ [] =
    ap (map entry_of) items ∙ map-append entry_of c.loop-rest.lines.items (c.in-Some.line ∷ []) in
    record {
      entries = subst AreEntries (sym entries) (entries_more _ _ c.loop-rest.invariant.entries c.in-Some.ensures.some.0 (rw c.deref.ensures.value at (c.is_after.ensures.0 c.if-not-is_after.false)));
      text =
          c.loop-rest.invariant.text
          ∙ ap (λ (t : List ℕ). lines_text (map entry_of c.loop-rest.lines.items) ++ t) c.in-Some.ensures.some.1
          ∙ sym (ap (λ (es : List Entry). lines_text es ++ c.in-Some.more.now) entries
          ∙ ap (λ (t : List ℕ). t ++ c.in-Some.more.now) (lines_more (map entry_of c.loop-rest.lines.items) (entry_of c.in-Some.line))
          ∙ append_assoc (lines_text (map entry_of c.loop-rest.lines.items)) (line_text (entry_of c.in-Some.line)) c.in-Some.more.now);
    }

pub returns-in_default-push-clause-memory : goal.returns-in_default-push-clause-memory
returns-in_default-push-clause-memory c = λ _.
    first_line_of _ _ _ _ _ c.loop-rest.invariant.entries.0 c.in-Some.ensures.some.0 c.loop-rest.invariant.text c.in-Some.ensures.some.1
