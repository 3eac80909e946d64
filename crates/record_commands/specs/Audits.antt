-- The lines on kept files that are held to the rules of a game (this project's own).
use Rattle.std.specs.Prelude.{◌≡◌, ◌&&◌, ℕ, List, [], ◌∷◌, Option, Some, None}
use Rattle.judge_core.specs.Games.{Rules}
use Rattle.move_msg.specs.declared.stamp.Stamp.{Stamp}
use Rattle.move_msg.specs.TextLines.{text_of}
use Rattle.record_audit.specs.declared.auditing.Finding.{Finding}
use Rattle.record_audit.specs.Findings.{IsComparison, IsFound, agree, finding_words, is_whole}
use Rattle.answer_parts.specs.Lines.{agreement_words}
use Rattle.answer_parts.specs.Reply.{Reply, status_if}

abbrev pub comparison_lines : Option (Option ℕ) → List (List ℕ)
comparison_lines None = []
comparison_lines (Some compared) = agreement_words compared ∷ []

-- ---- all of it

-- a line for one file; all is done where it is whole
abbrev pub audited_one : Finding → Reply
audited_one finding = record { text = text_of (finding_words finding ∷ []); status = status_if (is_whole finding) }

-- a line for each of two files, and what comes of comparing them; all is done where both are whole and agree
abbrev pub audited_two : Finding → Finding → Option (Option ℕ) → Reply
audited_two one other compared = record {
  text = text_of (finding_words one ∷ finding_words other ∷ comparison_lines compared);
  status = status_if (is_whole one && (is_whole other && agree compared));
}

pub data IsAudited (rules : Rules) (stamp : Stamp) (one : List ℕ) (other : Option (List ℕ)) (r : Reply) : Type 0 where
  One : (finding : Finding) → other ≡ None → IsFound rules stamp one finding → r ≡ audited_one finding → IsAudited rules stamp one other r
  Two : (second : List ℕ) (finding its : Finding) (compared : Option (Option ℕ)) → other ≡ Some second → IsFound rules stamp one finding → IsFound rules stamp second its → IsComparison one second compared → r ≡ audited_two finding its compared → IsAudited rules stamp one other r
