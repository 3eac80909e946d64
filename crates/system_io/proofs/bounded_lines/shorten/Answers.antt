use Rattle.std.proofs.Common.{rules, refl, ◌∙◌, ◌≤◌, ◌<◌, ◌+◌, ◌++◌, [], ap, length, slice_index_or, take}
use Rattle.system_io.specs.ShortLines.{given_for, in_front, short_lines, unended_after, unended_after_all}
use Rattle.system_io.proofs.ShortLineLaws.{drop_later, given_more, opened_more}
use Rattle.system_io.proofs.bounded_lines.shorten.Goals as goal

pub loop-place-init : goal.loop-place-init
unfolding short_lines unended_after_all
loop-place-init c = (search rules, refl, refl, refl, refl)

pub loop-place-preserved : goal.loop-place-preserved
loop-place-preserved c =
    let i = c.loop-place.invariant in
    let old = c.args.buf.now in
    let now = c.loop-place.buf in
    let place = c.loop-place.place in
    let some : place < length old = search rules in
    let within : c.loop-place.given + 1 ≤ place + 1 = search rules in
    let fits : c.put_given-given.result ≤ place + 1 = search rules in
    let next = c.given_for.ensures ∙ ap (λ n. given_for n (slice_index_or now place 0)) i.3 in
    let given = ap (λ g. take c.loop-place.given now ++ in_front g []) next ∙ given_more c.args.came place old now (take c.loop-place.given now) some i.2 i.1 in
    (fits, c.put_given-given.ensures.put ∙ given, drop_later (c.loop-place.given + 1) (place + 1) c.put_given-given.new.buf now within c.put_given-given.ensures.rest ∙ drop_later place (place + 1) now old (search rules) i.2, c.open_after-now.ensures ∙ ap (λ n. unended_after n (slice_index_or now place 0)) i.3 ∙ opened_more c.args.came place old now some i.2, c.put_given-given.ensures.length ∙ i.4)
