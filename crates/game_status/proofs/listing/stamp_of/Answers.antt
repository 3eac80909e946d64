use Rattle.std.proofs.Common.{rules, ◌≡◌, Ok, ap, sym, ◌∙◌}
use Rattle.hex.specs.Hex.{encode_lower, decode_sized}
use Rattle.hex.proofs.HexLemmas.{decode_sized-twice, decode_sized-ok, decode_of-ok}
use Rattle.game_status.proofs.ListingLaws.{decoded}
use Rattle.game_status.proofs.listing.stamp_of.Goals as goal

pub returns-then-is_err-clause-none : goal.returns-then-is_err-clause-none
returns-then-is_err-clause-none c = λ stamp is e.
    let ok = decoded c.args.digits.now stamp is e in
    let done = rw ok at c.decode_to_slice.ensures.value in
    absurd (search rules)

pub returns-then-ne-clause-none : goal.returns-then-ne-clause-none
returns-then-ne-clause-none c = λ stamp is e.
    let ok = decoded c.args.digits.now stamp is e in
    let done = rw ok at c.decode_to_slice.ensures.value in
    let wrote : c.encode_to_slice.new.output ≡ encode_lower c.decode_to_slice.new.out = search rules in
    let text : c.as_slice.result.now ≡ c.args.digits.now = c.as_slice.ensures ∙ wrote ∙ ap encode_lower done.1 ∙ sym e in
    search rules

pub returns-clause-some : goal.returns-clause-some
returns-clause-some c =
    let text = c.args.digits.now in
    let read : decode_sized text 16 ≡ Ok c.decode_to_slice.new.out = search rules in
    let whole = sym (decode_sized-twice text 16 (decode_sized-ok text 16 _ read)) ∙ read in
    ((search rules, (decode_of-ok text _ whole).3), search rules)
