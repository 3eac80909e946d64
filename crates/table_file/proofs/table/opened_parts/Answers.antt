use Rattle.std.proofs.Common.{◌≡◌, ◌+◌, ◌<◌, ◌++◌, ℕ, List, [], ◌∷◌, length, map, take, get_or, sym, ap, ◌∙◌, append_assoc, arith, length-append, rules}
use Rattle.std.specs.Option.{option_to_list}
use Rattle.std.specs.Vec.Iter.{into_iter_items}
use Rattle.std.proofs.lemmas.List.{length-map, map-append, take_more}
use Rattle.table_file.specs.declared.parts.Part.{Part}
use Rattle.table_file.specs.declared.table.OpenedPart.{OpenedPart}
use Rattle.table_file.specs.Inside.OpenedParts.{plain_parts}
use Rattle.table_file.proofs.table.opened_parts.Goals as goal

-- one part more has the section at its place
one_section : (pick : OpenedPart → List ℕ) (all : List (List ℕ)) (old new : List OpenedPart) (o : OpenedPart) → map pick old ≡ take (length old) all → length old < length all → pick o ≡ get_or all (length old) [] → new ≡ old ++ o ∷ [] → map pick new ≡ take (length new) all
one_section pick all old new o before lt is add =
    ap (map pick) add
    ∙ map-append pick old (o ∷ [])
    ∙ ap (λ xs. xs ++ pick o ∷ []) before
    ∙ ap (λ x. take (length old) all ++ x ∷ []) is
    ∙ sym (take_more all (length old) [] lt)
    ∙ ap (λ n. take n all) (sym (ap length add ∙ length-append old (o ∷ [])))

-- and is the next one of those that were left
one_part : (all left rest : List Part) (part : Part) (old new : List OpenedPart) (o : OpenedPart) → plain_parts old ++ left ≡ all → left ≡ part ∷ rest → o.head ≡ part → new ≡ old ++ o ∷ [] → plain_parts new ++ rest ≡ all
one_part all left rest part old new o before next is add =
    ap (λ xs. plain_parts xs ++ rest) add
    ∙ ap (λ xs. xs ++ rest) (map-append (λ (p : OpenedPart). p.head) old (o ∷ []))
    ∙ append_assoc (plain_parts old) (o.head ∷ []) rest
    ∙ ap (λ (p : Part). plain_parts old ++ p ∷ rest) is
    ∙ ap (λ xs. plain_parts old ++ xs) (sym next)
    ∙ before

-- so there are sections for it
fewer : (all left rest : List Part) (part : Part) (old : List OpenedPart) → plain_parts old ++ left ≡ all → left ≡ part ∷ rest → length old < length all
fewer all left rest part old before next =
    let n : length all ≡ length old + length left = sym (ap length before) ∙ length-append (plain_parts old) left ∙ ap (λ k. k + length left) (length-map old (λ (p : OpenedPart). p.head)) in
    let m = ap length next in
    omega (arith, n, m)

pub parts-preserved : goal.parts-preserved
parts-preserved c =
    let next = c.next.ensures.items ∙ ap (λ o. option_to_list o ++ into_iter_items c.next.new.self) c.in-Some.is in
    let within = fewer _ _ _ _ c.parts.opened.items c.parts.invariant.parts next in
    let place : c.len-k.result ≡ length c.parts.opened.items = search rules in
    record {
      parts = one_part _ _ _ c.in-Some.part c.parts.opened.items _ c.opened_part.result c.parts.invariant.parts next c.opened_part.ensures.head c.in_ok-push.ensures.items;
      entries = one_section (λ (o : OpenedPart). o.entries) _ c.parts.opened.items _ c.opened_part.result c.parts.invariant.entries (omega (arith, within, c.requires.entries)) (c.opened_part.ensures.entries ∙ ap (λ k. get_or c.args.sections.now.entries.items k []) place) c.in_ok-push.ensures.items;
      lengths = one_section (λ (o : OpenedPart). o.lengths) _ c.parts.opened.items _ c.opened_part.result c.parts.invariant.lengths (omega (arith, within, c.requires.lengths)) (c.opened_part.ensures.lengths ∙ ap (λ k. get_or c.args.sections.now.lengths.items k []) place) c.in_ok-push.ensures.items;
      blocks = one_section (λ (o : OpenedPart). o.blocks) _ c.parts.opened.items _ c.opened_part.result c.parts.invariant.blocks (omega (arith, within, c.requires.blocks)) (c.opened_part.ensures.blocks ∙ ap (λ k. get_or c.args.sections.now.blocks.items k []) place) c.in_ok-push.ensures.items;
      len = search rules;
    }
