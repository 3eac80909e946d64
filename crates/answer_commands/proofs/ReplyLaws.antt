-- A reply that is written after what was read for it.
use Rattle.std.proofs.Common.{◌++◌, ◌∷◌, [], ℕ, List, Option, refl}
use Rattle.std.specs.Prelude.{Result, Ok, Err, IfOk, OnErr}
use Rattle.answer_parts.specs.Asked.{reply_of}
use Rattle.answer_parts.specs.declared.answers.Answer.{Answer}
use Rattle.line_teller.specs.ToldLines.{cut_words, refused_memory}
use Rattle.system_io.specs.declared.output.WriteFault.{WriteFault}
use Rattle.system_io.specs.declared.reading.ReadFault.{ReadFault}
use Rattle.timeline.specs.Events.{Event}
use Rattle.timeline.specs.Outsides.{AddsSome, Outside}
use Rattle.answer_parts.specs.Printing.{Performs, Prints, PrintsReplied, printed}
use Rattle.answer_commands.specs.Replies.{Making, NoRoomToReply, Replied, RepliesTo, Replying, Unread, making_by}
use Rattle.system_io.specs.declared.reading.ReadFault.TheVariants.{OutOfMemory}
use Rattle.table_commands.specs.FolderReads.{made_reply}
use Rattle.task_files.specs.Given.{Given}
use Rattle.task_files.specs.InputReads.{Both, FirstAlone, ReadsGiven}
use Rattle.timeline.proofs.EventLaws.{adds_more}
use Rattle.answer_parts.proofs.PrintLaws.{prints_so, then_does, then_prints}

-- ---- after what was read

module _ {T P F K S L X : Type 0} (o : Outside T P F K S L) (t : Replying X) where
  after_given : {E : Type 0} (given : X) (reading : List Event) (answered : Result Answer E) → t.Reads (Ok given) reading → IfOk answered (λ a. t.IsReply given (reply_of a)) → OnErr answered (t.TakesMemory given)
      → (events : List Event) (status : Option ℕ) → PrintsReplied answered events status → RepliesTo t (reading ++ events) status
  after_given given reading (Ok a) read is memory events status w = Replied given reading events (reply_of a) read is w refl
  after_given given reading (Err e) read is memory events status w =
      prints_so (RepliesTo t) reading (refused_memory ∷ []) 1 (NoRoomToReply given reading read memory refl refl) events status w

  pub replied : {E : Type 0} (a b c : T) (given : X) (answered : Result Answer E) (r : Result ℕ WriteFault) → IfOk answered (λ x. t.IsReply given (reply_of x)) → OnErr answered (t.TakesMemory given)
      → AddsSome o a b (t.Reads (Ok given)) → AddsSome o b c (Performs (PrintsReplied answered) r) → AddsSome o a c (Performs (RepliesTo t) r)
  replied a b c given answered r is memory p q = then_does o a b c p.0 (PrintsReplied answered) (RepliesTo t) r (after_given given p.0 answered p.2 is memory) p.1 q

  pub unread : (a b c : T) (fault : ReadFault) (r : Result ℕ WriteFault) → AddsSome o a b (t.Reads (Err fault)) → AddsSome o b c (Performs (Prints (cut_words fault ∷ []) 1) r) → AddsSome o a c (Performs (RepliesTo t) r)
  unread a b c fault r p q = then_prints o a b c p.0 (RepliesTo t) (cut_words fault ∷ []) 1 r (Unread fault p.0 p.2 refl refl) p.1 q

-- ---- while more is read

module _ {T P F K S L : Type 0} (o : Outside T P F K S L) (t : Making) where
  after_making : {E : Type 0} (given : Given) (reading making : List Event) (answered : Result Answer E) → ReadsGiven o t.named (Ok given) reading → t.Makes o.disk given (made_reply answered) making
      → (events : List Event) (status : Option ℕ) → PrintsReplied answered events status → RepliesTo (making_by o t) ((reading ++ making) ++ events) status
  after_making given reading making (Ok a) read makes events status w = Replied (reply_of a) (reading ++ making) events (reply_of a) (Both given reading making read makes refl) refl w refl
  after_making given reading making (Err e) read makes events status w =
      prints_so (RepliesTo (making_by o t)) (reading ++ making) (refused_memory ∷ []) 1 (Unread OutOfMemory (reading ++ making) (Both given reading making read makes refl) refl refl) events status w

  pub made : {E : Type 0} (a b c d : T) (given : Given) (answered : Result Answer E) (r : Result ℕ WriteFault)
      → AddsSome o a b (ReadsGiven o t.named (Ok given)) → AddsSome o b c (t.Makes o.disk given (made_reply answered)) → AddsSome o c d (Performs (PrintsReplied answered) r) → AddsSome o a d (Performs (RepliesTo (making_by o t)) r)
  made a b c d given answered r p q w =
      then_does o a c d (p.0 ++ q.0) (PrintsReplied answered) (RepliesTo (making_by o t)) r (after_making given p.0 q.0 answered p.2 q.2) (adds_more o a b c p.0 q.0 p.1 q.1) w

  pub unmade : (a b c : T) (fault : ReadFault) (r : Result ℕ WriteFault) → AddsSome o a b (ReadsGiven o t.named (Err fault)) → AddsSome o b c (Performs (Prints (cut_words fault ∷ []) 1) r) → AddsSome o a c (Performs (RepliesTo (making_by o t)) r)
  unmade a b c fault r p q = unread o (making_by o t) a b c fault r (p.0, p.1, FirstAlone fault p.2 refl) q
