-- An arbiter of one game, one step after another.
use Rattle.std.proofs.Common.{◌≡◌, ◌∷◌, [], ℕ, List, refl, subst}
use Rattle.std.specs.Prelude.{Result, Ok, Err}
use Rattle.answer_parts.proofs.PrintLaws.{then_does}
use Rattle.answer_parts.specs.Printing.{Performs, Prints}
use Rattle.arbiter_server.specs.declared.fault.OpenGameError.{OpenGameError}
use Rattle.command_line.specs.declared.commands.listen.Listen.{Listen}
use Rattle.game_folder.specs.Holdings.{GamesFacts}
use Rattle.game_server.specs.Printing.{LineForm, OfOne}
use Rattle.game_server.specs.Sending.{address_of}
use Rattle.game_server.specs.Starting.{OpensUnasked}
use Rattle.game_server.specs.declared.server.Server.{Server}
use Rattle.system_io.specs.declared.output.WriteFault.{WriteFault}
use Rattle.system_io.specs.declared.recipient.Recipient.{Recipient}
use Rattle.timeline.specs.Outsides.{AddsSome, Outside}
use Rattle.host_commands.proofs.StepLaws.{goes_on, is_refused}
use Rattle.host_commands.specs.Listens.{AsksAndAnswers, AsksIf, GameIsNotOpen, GameIsOpen, OpensAndAnswers, OpensGame, unopened_refusal}
use Rattle.host_commands.specs.ServerRuns.{AnswersAll}

module _ {T P F K S L G : Type 0} (o : Outside T P F K S L) (facts : GamesFacts G) where
  -- so many are answered together, to these, in lines of this form
  pub answers_as : (n : ℕ) (server : Server G F) (a b : T) (r : Result ℕ WriteFault) (most most' : ℕ) (to to' : List Recipient) (form form' : LineForm) → most ≡ most' → to ≡ to' → form ≡ form'
      → AddsSome o a b (Performs (AnswersAll o facts most n to form server) r) → AddsSome o a b (Performs (AnswersAll o facts most' n to' form' server) r)
  answers_as n server a b r most most' to to' form form' m t f p =
      subst (λ (x : LineForm). AddsSome o a b (Performs (AnswersAll o facts most' n to' x server) r)) f
      (subst (λ (x : List Recipient). AddsSome o a b (Performs (AnswersAll o facts most' n x form server) r)) t (subst (λ (x : ℕ). AddsSome o a b (Performs (AnswersAll o facts x n to form server) r)) m p))

  module _ (l : Listen) (most : ℕ) (stamp : List ℕ) (port : P) (server : Server G F) where
    -- the game is open, its request is sent, and datagrams are answered
    pub opened_so : (a b c d : T) (opened : Server G F) (r : Result ℕ WriteFault) → AddsSome o a b (OpensUnasked o facts server opened stamp (Ok tt)) → AddsSome o b c (AsksIf l.fetch (address_of (o.port port)) opened stamp)
        → AddsSome o c d (Performs (AnswersAll o facts most l.datagrams (o.port port).to (OfOne stamp) opened) r) → AddsSome o a d (Performs (OpensAndAnswers o facts l most stamp port server) r)
    opened_so a b c d opened r p q s =
        let asked : AddsSome o b d (Performs (AsksAndAnswers o facts l most stamp port opened) r) =
        then_does o b c d q.0 (AnswersAll o facts most l.datagrams (o.port port).to (OfOne stamp) opened) (AsksAndAnswers o facts l most stamp port opened) r (λ events status h. record { asking = q.0; rest = events; asks = q.2; answers = h; all = refl }) q.1 s in
        goes_on o a b d (OpensGame o facts l most stamp server) (AsksAndAnswers o facts l most stamp port) opened r (p.0, p.1, GameIsOpen opened p.2 refl) asked

    -- or it isn't
    pub unopened_so : (a b c : T) (left : Server G F) (why : OpenGameError) (r : Result ℕ WriteFault) → AddsSome o a b (OpensUnasked o facts server left stamp (Err why)) → AddsSome o b c (Performs (Prints (unopened_refusal why ∷ []) 1) r)
        → AddsSome o a c (Performs (OpensAndAnswers o facts l most stamp port server) r)
    unopened_so a b c left why r p q = is_refused o a b c (OpensGame o facts l most stamp server) (AsksAndAnswers o facts l most stamp port) (unopened_refusal why) r (p.0, p.1, GameIsNotOpen why left p.2 refl) q
