-- What a record says of its game.
use Rattle.std.proofs.Common.{◌≡◌, ◌∙◌, ◌∷◌, ◌⊎◌, ℕ, List, None, Some, ap, drop, inl, inr, length, sym, take}
use Rattle.std.proofs.lemmas.List.{take_at}
use Rattle.move_msg.specs.Records.{SpellsRecord, code_or_none, old_frame, record_frame}
use Rattle.move_msg.specs.declared.record_bytes.Record.{Record}
use Rattle.answer_commands.specs.Earlier.{CountsMoves}

of_new : (t stamp body : List ℕ) (delay : ℕ) → t ≡ record_frame stamp delay body → length stamp ≡ 16 → take 16 (drop 3 t) ≡ stamp
unfolding record_frame
of_new t stamp body delay is long = ap (λ (x : List ℕ). take 16 (drop 3 x)) is ∙ take_at stamp (delay ∷ body) 16 long

of_old : (t stamp body : List ℕ) → t ≡ old_frame stamp body → length stamp ≡ 16 → take 16 (drop 3 t) ≡ stamp
unfolding old_frame
of_old t stamp body is long = ap (λ (x : List ℕ). take 16 (drop 3 x)) is ∙ take_at stamp body 16 long

stamp_by : (t : List ℕ) (r : Record) (body : List ℕ) → length r.stamp ≡ 16 → (t ≡ record_frame r.stamp r.delay body) ⊎ ((r.delay ≡ 0) × (t ≡ old_frame r.stamp body)) → take 16 (drop 3 t) ≡ r.stamp
stamp_by t r body long (inl is) = of_new t r.stamp body r.delay is long
stamp_by t r body long (inr old) = of_old t r.stamp body old.1 long

stamp_at : (t : List ℕ) (r : Record) → SpellsRecord t r → take 16 (drop 3 t) ≡ r.stamp
stamp_at t r h = stamp_by t r h.body h.in_range.2 h.text

-- a record of another game
pub other_stamp : (bytes stamp : List ℕ) → (take 16 (drop 3 bytes) ≡ stamp → ⊥) → CountsMoves stamp bytes None
other_stamp bytes stamp other = λ r spells is. other (stamp_at bytes r spells ∙ is)

-- its record
pub counted : (bytes stamp : List ℕ) (found : ℕ × ℕ) → take 16 (drop 3 bytes) ≡ stamp → (r : Record) × SpellsRecord bytes r × (found ≡ (length r.moves, code_or_none r.verdict)) → CountsMoves stamp bytes (Some found.0)
counted bytes stamp found at (r, spells, is) = (r, spells, sym (stamp_at bytes r spells) ∙ at, ap (λ (x : ℕ × ℕ). x.0) is)
