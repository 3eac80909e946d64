-- The answers for texts, one after another.
use Rattle.std.proofs.Common.{◌≡◌, ℕ, List, [], ◌∷◌, ◌++◌, refl, sym, ap, subst, ◌∙◌, append_assoc, append-nil, map}
use Rattle.std.proofs.lemmas.List.{flat_map_more, map-append}
use Rattle.board_core.specs.declared.parts.Parts.{Parts}
use Rattle.json_lines.specs.declared.api_told.ApiLine.{ApiLine}
use Rattle.move_msg.specs.TextLines.{ended}
use Rattle.system_io.specs.Disks.{DiskFacts}
use Rattle.table_folder.specs.Folders.{Folder, FolderOn}
use Rattle.http_answer.specs.Inside.{AddsObject}
use Rattle.http_answer.specs.Queries.{position_text}
use Rattle.http_answer.specs.Replies.{AnswersEach, AnswersPosition, AnswersText, object_text, objects_text}

-- what holds by a folder inside holds by it as contracts see it
pub seen_by : {D : Type 0} (facts : D → DiskFacts) (inside now : FolderOn D) (Holds : DiskFacts → Folder → Type 0) → inside ≡ now → Holds (facts inside.disk) inside.folder → Holds (facts now.disk) now.folder
seen_by {D} facts inside now Holds same h = subst (λ (on : FolderOn D). Holds (facts on.disk) on.folder) same h

pub seen_so : {D : Type 0} (facts : D → DiskFacts) (inside now : FolderOn D) (p : Parts) (l : ApiLine) → inside ≡ now → AnswersPosition (facts inside.disk) inside.folder p l → AnswersPosition (facts now.disk) now.folder p l
seen_so {D} facts inside now p l same says = subst (λ (on : FolderOn D). AnswersPosition (facts on.disk) on.folder p l) same says

each_more : (disk : DiskFacts) (folder : Folder) (texts : List (List ℕ)) (ls : List ApiLine) (text : List ℕ) (l : ApiLine) → AnswersEach disk folder texts ls → AnswersText disk folder text l → AnswersEach disk folder (texts ++ text ∷ []) (ls ++ l ∷ [])
each_more disk folder [] [] text l each one = (one, tt)
each_more disk folder [] (k ∷ ls) text l each one = absurd each
each_more disk folder (t ∷ texts) [] text l each one = absurd each
each_more disk folder (t ∷ texts) (k ∷ ls) text l each one = (each.0, each_more disk folder texts ls text l each.1 one)

-- of the lines, all but the rest are answered, and these are the objects
pub record AnsweredSoFar (disk : DiskFacts) (folder : Folder) (lines rest : List (List ℕ)) (objects : List ℕ) : Type 0 where
  pub before : List (List ℕ)
  pub parted : lines ≡ before ++ rest
  pub lines_so_far : List ApiLine
  pub each : AnswersEach disk folder (map position_text before) lines_so_far
  pub is : objects ≡ objects_text lines_so_far

pub none_answered : (disk : DiskFacts) (folder : Folder) (lines : List (List ℕ)) → AnsweredSoFar disk folder lines lines []
none_answered disk folder lines = record { before = []; parted = refl; lines_so_far = []; each = tt; is = refl }

one_answered : (disk : DiskFacts) (folder : Folder) (lines rest tail : List (List ℕ)) (line old new : List ℕ) → AnsweredSoFar disk folder lines rest old → rest ≡ line ∷ tail → AddsObject disk folder line old new → AnsweredSoFar disk folder lines tail new
one_answered disk folder lines rest tail line old new h front (l, one, wrote) = record {
  before = h.before ++ line ∷ [];
  parted = h.parted ∙ ap (λ (r : List (List ℕ)). h.before ++ r) front ∙ sym (append_assoc h.before (line ∷ []) tail);
  lines_so_far = h.lines_so_far ++ l ∷ [];
  each = subst (λ (texts : List (List ℕ)). AnswersEach disk folder texts (h.lines_so_far ++ l ∷ [])) (sym (map-append position_text h.before (line ∷ []))) (each_more disk folder (map position_text h.before) h.lines_so_far (position_text line) l h.each one);
  is = wrote ∙ ap (λ (t : List ℕ). t ++ ended (object_text l)) h.is ∙ flat_map_more (λ (k : ApiLine). ended (object_text k)) [] h.lines_so_far l;
}

-- by the folder of the start, which is still the same
pub next_answered : {D : Type 0} (facts : D → DiskFacts) (first now : FolderOn D) (lines rest tail : List (List ℕ)) (line old new : List ℕ) → now ≡ first
    → AnsweredSoFar (facts first.disk) first.folder lines rest old → rest ≡ line ∷ tail → AddsObject (facts now.disk) now.folder line old new → AnsweredSoFar (facts first.disk) first.folder lines tail new
next_answered {D} facts first now lines rest tail line old new same h front adds =
    one_answered (facts first.disk) first.folder lines rest tail line old new h front (subst (λ (on : FolderOn D). AddsObject (facts on.disk) on.folder line old new) same adds)

pub all_answered : (disk : DiskFacts) (folder : Folder) (lines rest : List (List ℕ)) (objects : List ℕ) → AnsweredSoFar disk folder lines rest objects → rest ≡ []
    → (ls : List ApiLine) × AnswersEach disk folder (map position_text lines) ls × (objects ≡ objects_text ls)
all_answered disk folder lines rest objects h none =
    let all = h.parted ∙ ap (λ (r : List (List ℕ)). h.before ++ r) none ∙ append-nil h.before in (
      h.lines_so_far,
      subst (λ (ls : List (List ℕ)). AnswersEach disk folder (map position_text ls) h.lines_so_far) (sym all) h.each,
      h.is,
    )
