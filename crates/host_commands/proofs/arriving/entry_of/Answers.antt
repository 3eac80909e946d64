use Rattle.std.proofs.Common.{◌≡◌, ◌≢◌, ◌⊎◌, ◌∙◌, inl, inr, Bool, true, false, not, List, ℕ, ap, subst, sym}
use Rattle.std.specs.Prelude.{MatchOption, Result, Ok, Err}
use Rattle.std.specs.Str.{bytes_eq}
use Rattle.std.proofs.lemmas.Result.{IfOk-weaker}
use Rattle.std.proofs.lemmas.Slice.Eq.{bytes_eq-Decides}
use Rattle.move_msg.specs.Records.{SpellsRecord}
use Rattle.move_msg.specs.declared.record_bytes.Record.{Record}
use Rattle.move_msg.specs.declared.record_bytes.RecordFault.{RecordFault}
use Rattle.move_msg.specs.declared.record_bytes.RecordFault.TheVariants.{OutOfMemory}
use Rattle.game_status.specs.Imports.{IsEntryOf, IsNoRecordOf}
use Rattle.host_commands.proofs.arriving.entry_of.Goals as goal

no_record : (r : Record) (result : Result Record RecordFault) (fault : RecordFault) → result ≡ Err fault → fault ≢ OutOfMemory → (result ≡ Ok r) ⊎ (result ≡ Err OutOfMemory) → ⊥
no_record r result fault is other (inl e) = absurd (let wrong : ◌≡◌ {A = Result Record RecordFault} (Err fault) (Ok r) = sym is ∙ e in cc)
no_record r result fault is other (inr e) = other (let same : ◌≡◌ {A = Result Record RecordFault} (Err fault) (Err OutOfMemory) = sym is ∙ e in cc)

other_stamp : (r read : Record) (stamp : List ℕ) (result : Result Record RecordFault) → result ≡ Ok read → (read.stamp ≡ stamp → ⊥) → (result ≡ Ok r) ⊎ (result ≡ Err OutOfMemory) → r.stamp ≡ stamp → ⊥
other_stamp r read stamp result is other (inl e) same = other (let one : ◌≡◌ {A = Result Record RecordFault} (Ok read) (Ok r) = sym is ∙ e in let two : read ≡ r = cc in ap (λ (x : Record). x.stamp) two ∙ same)
other_stamp r read stamp result is other (inr e) same = absurd (let wrong : ◌≡◌ {A = Result Record RecordFault} (Ok read) (Err OutOfMemory) = sym is ∙ e in cc)

apart : (a b : List ℕ) (differ : Bool) → differ ≡ not (bytes_eq a b) → differ ≡ true → a ≡ b → ⊥
apart a b differ is unequal same = absurd (let equal : bytes_eq a b ≡ true = (bytes_eq-Decides a b).1 same in let wrong : false ≡ true = sym (ap not equal) ∙ sym is ∙ unequal in cc)

pub returns-then-ne : goal.returns-then-ne
returns-then-ne c = λ r spells.
    other_stamp r c.in-Ok.read c.args.stamp c.decode.result c.in-Ok.is (apart c.in-Ok.read.stamp c.args.stamp c.ne.result c.ne.ensures c.if-ne.true)
    (c.decode.ensures.only r (subst (λ (bytes : List ℕ). SpellsRecord bytes r) (sym c.deref.ensures.value) spells))

pub returns-in-Err : goal.returns-in-Err
returns-in-Err c =
    IfOk-weaker c.undecoded.result _ _ (λ found h. subst (λ o. MatchOption o (IsNoRecordOf c.args.stamp c.args.record.items) (IsEntryOf c.args.stamp c.args.record.items)) (sym h.0) (λ r spells same.
    no_record r c.decode.result c.in-Err.fault c.in-Err.is h.1 (c.decode.ensures.only r (subst (λ (bytes : List ℕ). SpellsRecord bytes r) (sym c.deref.ensures.value) spells)))) c.undecoded.ensures.ok
