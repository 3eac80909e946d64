use Rattle.std.proofs.Common.{sym, subst, arith}
use Rattle.move_msg.specs.declared.coding.Fields.{Fields}
use Rattle.move_msg.specs.declared.message.Message.{Message}
use Rattle.move_msg.specs.declared.message.MessageFault.TheVariants.{BadField}
use Rattle.move_msg.specs.Inside.Layouts.{HasFields}
use Rattle.move_msg.specs.Messages.{SpellsMessage, IsFirstMessageFault}
use Rattle.move_msg.proofs.HeardLaws.{heard, heard_fault}
use Rattle.move_msg.proofs.MessageLaws.{found, one_of_five, has_fields, no_fault}
use Rattle.move_msg.proofs.message.Message.decode.Goals as goal

pub returns-in-Err-clause-only : goal.returns-in-Err-clause-only
returns-in-Err-clause-only c = λ m h. absurd (no_fault c.args.bytes.now m c.in-Err.fault h c.in-Err.ensures.err)

pub returns-in-Err-clause-computed : goal.returns-in-Err-clause-computed
returns-in-Err-clause-computed c = sym (heard_fault c.args.bytes.now c.in-Err.fault (λ i. omega (arith, c.type_inv.bytes i)) c.in-Err.ensures.err)

pub returns-in-Some-clause-ok : goal.returns-in-Some-clause-ok
returns-in-Some-clause-ok c =
    let ok = c.in-Ok.ensures.ok in
    found c.args.bytes.now c.in-Ok.kind c.in-Some.message (λ i. omega (arith, c.type_inv.bytes i)) ok.0 ok.1 ok.2 ok.3
    (subst (λ (f : Fields). HasFields c.in-Ok.kind f c.in-Some.message) c.fields_in.ensures c.in-Some.ensures.some)

pub returns-in-Some-clause-only : goal.returns-in-Some-clause-only
returns-in-Some-clause-only c = λ m h.
    let read = has_fields c.args.bytes.now c.in-Ok.kind m h c.in-Ok.ensures.ok.2 c.in-Ok.ensures.ok.3 in
    let same = c.in-Some.ensures.only m (subst (λ (f : Fields). HasFields c.in-Ok.kind f m) (sym c.fields_in.ensures) read) in cc

pub returns-in-Some-clause-only_fault : goal.returns-in-Some-clause-only_fault
returns-in-Some-clause-only_fault c = λ fault h.
    let ok = c.in-Ok.ensures.ok in
    absurd (no_fault c.args.bytes.now c.in-Some.message fault (found c.args.bytes.now c.in-Ok.kind c.in-Some.message (λ i. omega (arith, c.type_inv.bytes i)) ok.0 ok.1 ok.2 ok.3
    (subst (λ (f : Fields). HasFields c.in-Ok.kind f c.in-Some.message) c.fields_in.ensures c.in-Some.ensures.some)) h)

pub returns-in-Some-clause-computed : goal.returns-in-Some-clause-computed
returns-in-Some-clause-computed c =
    let ok = c.in-Ok.ensures.ok in
    sym (heard c.args.bytes.now c.in-Some.message (found c.args.bytes.now c.in-Ok.kind c.in-Some.message (λ i. omega (arith, c.type_inv.bytes i)) ok.0 ok.1 ok.2 ok.3
    (subst (λ (f : Fields). HasFields c.in-Ok.kind f c.in-Some.message) c.fields_in.ensures c.in-Some.ensures.some)))

pub returns-in-None-clause-only : goal.returns-in-None-clause-only
returns-in-None-clause-only c = λ m h.
    let read = has_fields c.args.bytes.now c.in-Ok.kind m h c.in-Ok.ensures.ok.2 c.in-Ok.ensures.ok.3 in
    let same = c.in-None.ensures.only m (subst (λ (f : Fields). HasFields c.in-Ok.kind f m) (sym c.fields_in.ensures) read) in absurd cc

pub returns-in-None-clause-err : goal.returns-in-None-clause-err
returns-in-None-clause-err c =
    let ok = c.in-Ok.ensures.ok in
    let none : (m : Message) → SpellsMessage c.args.bytes.now m → ⊥ = λ m h.
    let read = has_fields c.args.bytes.now c.in-Ok.kind m h ok.2 ok.3 in
    let same = c.in-None.ensures.only m (subst (λ (f : Fields). HasFields c.in-Ok.kind f m) (sym c.fields_in.ensures) read) in absurd cc in
    (ok.0, ok.1, one_of_five c.args.bytes.now c.in-Ok.kind ok.2 ok.3, none)

pub returns-in-None-clause-computed : goal.returns-in-None-clause-computed
returns-in-None-clause-computed c =
    let ok = c.in-Ok.ensures.ok in
    let none : (m : Message) → SpellsMessage c.args.bytes.now m → ⊥ = λ m h.
    let read = has_fields c.args.bytes.now c.in-Ok.kind m h ok.2 ok.3 in
    let same = c.in-None.ensures.only m (subst (λ (f : Fields). HasFields c.in-Ok.kind f m) (sym c.fields_in.ensures) read) in absurd cc in
    let first : IsFirstMessageFault c.args.bytes.now BadField = (ok.0, ok.1, one_of_five c.args.bytes.now c.in-Ok.kind ok.2 ok.3, none) in
    sym (heard_fault c.args.bytes.now BadField (λ i. omega (arith, c.type_inv.bytes i)) first)
