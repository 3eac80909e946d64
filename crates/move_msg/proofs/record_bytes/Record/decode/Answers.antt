use Rattle.std.proofs.Common.{arith, inl, inr}
use Rattle.move_msg.proofs.RecordLaws.{code_few, few_moves, front_read, spelled_so, one_read, read_back, spelled_words, bad_words, no_record_fault}
use Rattle.move_msg.proofs.record_bytes.Record.decode.Goals as goal

pub returns-in-Err-clause-only : goal.returns-in-Err-clause-only
returns-in-Err-clause-only c = λ r h. absurd (no_record_fault c.args.bytes.now r c.in-Err.fault h c.in-Err.ensures.err)

pub verdict_of-requires : goal.verdict_of-requires
verdict_of-requires c = let ok = c.in-Ok.ensures.ok in code_few c.args.bytes.now c.in-Ok.front.0 ok.0 ok.1

pub from_vec-requires : goal.from_vec-requires
from_vec-requires c = let ok = c.in-Ok.ensures.ok in few_moves c.args.bytes.now _ _ ok.0 ok.2 c.in-Ok-read_words.ensures.ok

pub returns-in-Ok-read_words-clause-ok : goal.returns-in-Ok-read_words-clause-ok
returns-in-Ok-read_words-clause-ok c =
    let ok = c.in-Ok.ensures.ok in
    spelled_so c.args.bytes.now _ (λ i. omega (arith, c.type_inv.bytes i))
    (front_read c.args.bytes.now c.in-Ok.front.0 c.verdict_of.result _ c.in-Ok-read_words.moves.items _ ok.0 ok.1 ok.2 c.verdict_of.ensures c.in-Ok-read_words.ensures.ok c.from_vec.ensures)

pub returns-in-Ok-read_words-clause-only : goal.returns-in-Ok-read_words-clause-only
returns-in-Ok-read_words-clause-only c = λ r h.
    let ok = c.in-Ok.ensures.ok in
    let same = one_read c.args.bytes.now _ r
    (front_read c.args.bytes.now c.in-Ok.front.0 c.verdict_of.result _ c.in-Ok-read_words.moves.items _ ok.0 ok.1 ok.2 c.verdict_of.ensures c.in-Ok-read_words.ensures.ok c.from_vec.ensures)
    (read_back c.args.bytes.now r h) in
    inl cc

pub returns-in-Ok-read_words-clause-only_fault : goal.returns-in-Ok-read_words-clause-only_fault
returns-in-Ok-read_words-clause-only_fault c = λ fault h.
    let ok = c.in-Ok.ensures.ok in
    absurd (no_record_fault c.args.bytes.now _ fault (spelled_so c.args.bytes.now _ (λ i. omega (arith, c.type_inv.bytes i))
    (front_read c.args.bytes.now c.in-Ok.front.0 c.verdict_of.result _ c.in-Ok-read_words.moves.items _ ok.0 ok.1 ok.2 c.verdict_of.ensures c.in-Ok-read_words.ensures.ok c.from_vec.ensures)) h)

pub returns-in-Err-read_words-clause-only : goal.returns-in-Err-read_words-clause-only
returns-in-Err-read_words-clause-only c = λ r h.
    elim c.in-Err-read_words.ensures.err [
      | inl memory ↦ inr (cc memory)
      | inr bad ↦ absurd (bad.1 r.moves (spelled_words c.args.bytes.now _ r c.in-Ok.ensures.ok.2 h))
    ]

pub returns-in-Err-read_words-clause-err : goal.returns-in-Err-read_words-clause-err
returns-in-Err-read_words-clause-err c = λ other.
    elim c.in-Err-read_words.ensures.err [
      | inl memory ↦ absurd (other memory)
      | inr bad ↦ bad_words c.args.bytes.now _ c.in-Ok.ensures.ok.0 bad.0 (λ r h. bad.1 r.moves (spelled_words c.args.bytes.now _ r c.in-Ok.ensures.ok.2 h))
    ]
