-- Lines of best play, ply by ply.
use Rattle.std.proofs.Common.{◌≡◌, ◌∙◌, refl, sym, ap, subst, ℕ, suc, ◌+◌, ◌-◌, ◌<◌, ◌≤◌, Bool, List, [], ◌∷◌, ◌++◌, append_assoc, append-nil, Some, None, inl, inr, arith}
use Rattle.board_core.specs.declared.parts.Parts.{Parts}
use Rattle.json_lines.specs.ApiTold.{IsEmptyOr, IsMainline}
use Rattle.json_lines.specs.declared.api_told.ApiMove.{ApiMove}
use Rattle.system_io.specs.Disks.{DiskFacts}
use Rattle.table_folder.specs.declared.fault.FileRefusal.{FileRefusal}
use Rattle.table_folder.specs.Folders.{Folder}
use Rattle.table_folder.specs.Settled.{IsRefusedFor, IsWithMoves}
use Rattle.http_answer.specs.Inside.{IsOnePly}
use Rattle.http_answer.specs.Replies.{IsPlayedOn, IsRefusedInLine, most_plies}

module _ (disk : DiskFacts) (folder : Folder) where
  pub refused_here : (n : ℕ) (p : Parts) (refusal : FileRefusal) → IsRefusedFor disk folder (IsWithMoves p) refusal → IsRefusedInLine disk folder (suc n) p refusal
  unfolding IsRefusedInLine
  refused_here n p refusal h = inl h

  refused_later : (n : ℕ) (p q : Parts) (refusal : FileRefusal) (t : ApiMove) → IsOnePly disk folder p [] (t ∷ []) (Some q) → IsRefusedInLine disk folder n q refusal → IsRefusedInLine disk folder (suc n) p refusal
  unfolding IsRefusedInLine
  refused_later n p q refusal t (u, played, goes_on, is, e) h = inr (u, played, goes_on, subst (λ (x : Parts). IsRefusedInLine disk folder n x refusal) is h)

-- From the start these plies were played, and so many are left.
pub record IsPlayedSoFar (disk : DiskFacts) (folder : Folder) (left : ℕ) (start position : Parts) (plies : List ApiMove) : Type 0 where
  pub whole : (rest : List ApiMove) → IsMainline (IsPlayedOn disk folder) left position rest → IsMainline (IsPlayedOn disk folder) most_plies start (plies ++ rest)
  pub refused : (refusal : FileRefusal) → IsRefusedInLine disk folder left position refusal → IsRefusedInLine disk folder most_plies start refusal

pub none_played : (disk : DiskFacts) (folder : Folder) (start : Parts) → IsPlayedSoFar disk folder most_plies start start []
none_played disk folder start = record { whole = λ rest h. h; refused = λ refusal h. h }

module _ (disk : DiskFacts) (folder : Folder) (n : ℕ) (start p : Parts) (old new : List ApiMove) (so_far : IsPlayedSoFar disk folder (suc n) start p old) where
  joined : (t : ApiMove) (rest : List ApiMove) → new ≡ old ++ t ∷ [] → new ++ rest ≡ old ++ t ∷ rest
  joined t rest e = ap (λ (ts : List ApiMove). ts ++ rest) e ∙ append_assoc old (t ∷ []) rest

  goes_whole : (t : ApiMove) (next : Parts) (rest : List ApiMove) → IsPlayedOn disk folder p (Some t) → IsMainline (IsPlayedOn disk folder) (suc n) p (t ∷ rest) → new ≡ old ++ t ∷ [] → IsMainline (IsPlayedOn disk folder) most_plies start (new ++ rest)
  goes_whole t next rest played h e = subst (λ (ts : List ApiMove). IsMainline (IsPlayedOn disk folder) most_plies start ts) (sym (joined t rest e)) (so_far.whole (t ∷ rest) h)

  pub one_ply_more : (next : Parts) → IsOnePly disk folder p old new (Some next) → IsPlayedSoFar disk folder n start next new
  one_ply_more next (t, played, goes_on, is, e) = record {
    whole = λ rest h.
        goes_whole t next rest played
        (played, subst (λ (b : Bool). IsEmptyOr b rest (IsMainline (IsPlayedOn disk folder) n t.told.after rest)) (sym goes_on) (subst (λ (q : Parts). IsMainline (IsPlayedOn disk folder) n q rest) is h)) e;
    refused = λ refusal h. so_far.refused refusal (refused_later disk folder n p next refusal t (t, played, goes_on, is, refl) h);
  }

  pub line_ends : IsOnePly disk folder p old new None → IsMainline (IsPlayedOn disk folder) most_plies start new
  line_ends (inl (none, same)) = subst (λ (ts : List ApiMove). IsMainline (IsPlayedOn disk folder) most_plies start ts) (append-nil old ∙ sym same) (so_far.whole [] none)
  line_ends (inr (t, played, ends, e)) =
      subst (λ (ts : List ApiMove). IsMainline (IsPlayedOn disk folder) most_plies start ts) (sym e)
      (so_far.whole (t ∷ []) (played, subst (λ (b : Bool). IsEmptyOr b [] (IsMainline (IsPlayedOn disk folder) n t.told.after [])) (sym ends) refl))

  pub line_refused : (refusal : FileRefusal) → IsRefusedFor disk folder (IsWithMoves p) refusal → IsRefusedInLine disk folder most_plies start refusal
  line_refused refusal h = so_far.refused refusal (refused_here disk folder n p refusal h)

pub all_played : (disk : DiskFacts) (folder : Folder) (start p : Parts) (plies : List ApiMove) → IsPlayedSoFar disk folder 0 start p plies → IsMainline (IsPlayedOn disk folder) most_plies start plies
all_played disk folder start p plies h = subst (λ (ts : List ApiMove). IsMainline (IsPlayedOn disk folder) most_plies start ts) (append-nil plies) (h.whole [] refl)

-- ---- how many are left

pub one_left : (i : ℕ) → i < 200 → most_plies - i ≡ suc (most_plies - (i + 1))
unfolding most_plies
one_left i lt = omega (arith, lt)

pub none_left : (i : ℕ) → 200 ≤ i → most_plies - i ≡ 0
unfolding most_plies
none_left i le = omega (arith, le)

pub refused_at_start : (disk : DiskFacts) (folder : Folder) (p : Parts) (refusal : FileRefusal) → IsRefusedFor disk folder (IsWithMoves p) refusal → IsRefusedInLine disk folder most_plies p refusal
unfolding most_plies
refused_at_start disk folder p refusal h = refused_here disk folder 199 p refusal h
