use Rattle.std.proofs.Common.{ap₂, arith, ℕ, refl}
use Rattle.move_msg.proofs.RecordLaws.{code_few, front_read, spelled_so, read_back, read_as, no_record_fault, spelled_words, summary_is, verdict_coded}
use Rattle.move_msg.proofs.record_bytes.Record.summary.Goals as goal

pub returns-in_default-clause-only : goal.returns-in_default-clause-only
returns-in_default-clause-only c = λ r h. absurd (no_record_fault c.args.bytes.now r c.in_default.field-0 h c.in_default.ensures.err)

pub returns-then-not-are_words-clause-only : goal.returns-then-not-are_words-clause-only
returns-then-not-are_words-clause-only c = λ r h.
    let are = c.if-not-are_words.ensures.1 (r.moves, spelled_words c.args.bytes.now _ r c.in-Ok.ensures.ok.2 h) in
    absurd cc

pub returns-clause-some : goal.returns-clause-some
returns-clause-some c =
    let ok = c.in-Ok.ensures.ok in
    let words = c.if-not-are_words.ensures.0 refl in
    let verdict = verdict_coded c.in-Ok.header.code (code_few c.args.bytes.now c.in-Ok.header ok.0 ok.1) in
    let read = front_read c.args.bytes.now c.in-Ok.header verdict.0 _ words.0 _ ok.0 ok.1 ok.2 verdict.1 words.1 refl in
    let p = summary_is c.args.bytes.now c.in-Ok.header _ ok.1 read in
    (read_as c.in-Ok.header verdict.0 words.0, spelled_so c.args.bytes.now _ (λ i. omega (arith, c.type_inv.bytes i)) read, ap₂ (λ (a b : ℕ). (a, b)) p.0 p.1)

pub returns-clause-only : goal.returns-clause-only
returns-clause-only c = λ r h.
    let p = summary_is c.args.bytes.now c.in-Ok.header r c.in-Ok.ensures.ok.1 (read_back c.args.bytes.now r h) in
    let a = p.0 in let b = p.1 in cc
