-- The audit of games, by what was read of its tables.
use Rattle.std.proofs.Common.{◌≡◌, ◌++◌, ◌∷◌, [], ℕ, List, refl}
use Rattle.std.specs.Prelude.{Result, Ok, Err}
use Rattle.answer_parts.proofs.PrintLaws.{does_so, then_does, then_prints}
use Rattle.answer_parts.specs.Looks.{gathered}
use Rattle.answer_parts.specs.Printing.{Performs, Prints}
use Rattle.command_line.specs.Commands.AuditGames.{named}
use Rattle.command_line.specs.declared.commands.audit_games.AuditGames.{AuditGames}
use Rattle.judge_core.specs.Tables.{Tables}
use Rattle.line_teller.specs.ToldLines.{cut_words, refused_memory}
use Rattle.move_msg.specs.Files.{entries_of}
use Rattle.move_msg.specs.Manifests.{SpellsManifest}
use Rattle.system_io.specs.declared.output.WriteFault.{WriteFault}
use Rattle.system_io.specs.declared.reading.ReadFault.{ReadFault}
use Rattle.task_files.specs.Given.{Given}
use Rattle.task_files.specs.InputReads.{ReadsGiven}
use Rattle.timeline.specs.Outsides.{AddsSome, Outside}
use Rattle.game_reports.specs.Audits.{Audited, AuditsBy, AuditsFolders, AuditsGames, BadTables, ByTables, NoRoomForTables, TablesUnread}

module _ {T P F K S L : Type 0} (o : Outside T P F K S L) (t : AuditGames) where
  pub bad_tables : (a b : T) (given : Given) (words : List ℕ) (r : Result ℕ WriteFault) → gathered given ≡ Err words → AddsSome o a b (Performs (Prints (words ∷ []) 1) r) → AddsSome o a b (Performs (AuditsBy o t given) r)
  bad_tables a b given words r is p = does_so o a b (Prints (words ∷ []) 1) (AuditsBy o t given) r (λ events status h. BadTables words is h) p

  pub no_room : (a b : T) (given : Given) (r : Result ℕ WriteFault) → AddsSome o a b (Performs (Prints (refused_memory ∷ []) 1) r) → AddsSome o a b (Performs (AuditsBy o t given) r)
  no_room a b given r p = does_so o a b (Prints (refused_memory ∷ []) 1) (AuditsBy o t given) r (λ events status h. NoRoomForTables h) p

  pub audited : (a b : T) (given : Given) (tables : Tables) (manifest : List ℕ) (r : Result ℕ WriteFault) → gathered given ≡ Ok tables → SpellsManifest manifest (entries_of given.files) → AddsSome o a b (Performs (AuditsFolders o t manifest tables) r) → AddsSome o a b (Performs (AuditsBy o t given) r)
  audited a b given tables manifest r is spells p = does_so o a b (AuditsFolders o t manifest tables) (AuditsBy o t given) r (λ events status h. Audited tables manifest is spells h) p

  pub by_tables : (a b c : T) (given : Given) (r : Result ℕ WriteFault) → AddsSome o a b (ReadsGiven o (named t) (Ok given)) → AddsSome o b c (Performs (AuditsBy o t given) r) → AddsSome o a c (Performs (AuditsGames o t) r)
  by_tables a b c given r p q = then_does o a b c p.0 (AuditsBy o t given) (AuditsGames o t) r (λ events status h. ByTables given p.0 events p.2 h refl) p.1 q

  pub tables_unread : (a b c : T) (fault : ReadFault) (r : Result ℕ WriteFault) → AddsSome o a b (ReadsGiven o (named t) (Err fault)) → AddsSome o b c (Performs (Prints (cut_words fault ∷ []) 1) r) → AddsSome o a c (Performs (AuditsGames o t) r)
  tables_unread a b c fault r p q = then_prints o a b c p.0 (AuditsGames o t) (cut_words fault ∷ []) 1 r (TablesUnread fault p.0 p.2 refl refl) p.1 q
