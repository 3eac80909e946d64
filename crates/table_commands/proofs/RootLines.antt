-- The lines on legal moves, one more.
use Rattle.std.proofs.Common.{◌≡◌, ◌∙◌, sym, ap, refl, ℕ, ◌+◌, ◌<◌, ◌≤◌, Bool, true, false, ◌&&◌, List, [], ◌∷◌, ◌++◌, length, map, take, get_or, Option}
use Rattle.std.specs.List.{list_all}
use Rattle.std.proofs.lemmas.List.{map-append, take_more, take_all}
use Rattle.std.proofs.lemmas.List.Folds.{list_all-append}
use Rattle.judge_core.specs.declared.root_move.RootMove.{RootMove}
use Rattle.judge_core.specs.declared.display.Columns.{Columns}
use Rattle.board_core.specs.declared.parts.Parts.{Parts}
use Rattle.board_core.specs.declared.verdict.Verdict.{Verdict}
use Rattle.judge_core.specs.ProbeResult.{has_both}
use Rattle.judge_core.specs.Ruling.{ruling}
use Rattle.judge_core.specs.Tables.{Tables}
use Rattle.judge_core.specs.Words.{columns_words}
use Rattle.move_msg.specs.TextLines.{text_of}
use Rattle.answer_parts.specs.declared.answers.lines.Line.{Line}
use Rattle.answer_parts.specs.declared.answers.lines.Line.TheVariants as line
use Rattle.answer_parts.specs.declared.answers.lines.RootLine.{RootLine}
use Rattle.judge_core.specs.Ask.{IsAnswered}
use Rattle.judge_core.specs.declared.ask.Ask.{Ask}
use Rattle.table_commands.specs.Root.{AreRootMoves, IsRootReply, root_reply}
use Rattle.answer_parts.specs.Lines.{probed_of, root_line_words, root_words, words_of}
use Rattle.answer_parts.specs.Reply.{Reply, status_if}

-- a move has a value and a distance
abbrev pub is_told : RootMove → Bool
is_told m = has_both (probed_of m)

and-assoc : (a b c : Bool) → ((a && b) && c) ≡ (a && (b && c))
and-assoc true b c = refl
and-assoc false b c = refl

and-true : (a : Bool) → (a && true) ≡ a
and-true true = refl
and-true false = refl

module _ (ms : List RootMove) (i : ℕ) (m : RootMove) (lt : i < length ms) (is : m ≡ get_or ms i m) where
  longer : take (i + 1) ms ≡ take i ms ++ m ∷ []
  longer = take_more ms i m lt ∙ ap (λ x. take i ms ++ x ∷ []) (sym is)

  pub line_more : (lines lines' : List Line) (l : RootLine) → map words_of lines ≡ map root_words (take i ms) → root_line_words l ≡ root_words m → lines' ≡ lines ++ line.Root l ∷ []
      → map words_of lines' ≡ map root_words (take (i + 1) ms)
  line_more lines lines' l so_far words e =
      ap (map words_of) e
      ∙ map-append words_of lines (line.Root l ∷ [])
      ∙ ap (λ (ws : List (List ℕ)). ws ++ root_line_words l ∷ []) so_far
      ∙ ap (λ (w : List ℕ). map root_words (take i ms) ++ w ∷ []) words
      ∙ sym (map-append root_words (take i ms) (m ∷ []))
      ∙ ap (map root_words) (sym longer)

  pub told_more : (whole done done' : Bool) → done ≡ (whole && list_all is_told (take i ms)) → done' ≡ (done && is_told m) → done' ≡ (whole && list_all is_told (take (i + 1) ms))
  told_more whole done done' so_far e =
      e
      ∙ ap (λ (b : Bool). b && is_told m) so_far
      ∙ and-assoc whole (list_all is_told (take i ms)) (is_told m)
      ∙ ap (λ (b : Bool). whole && (list_all is_told (take i ms) && b)) (sym (and-true (is_told m)))
      ∙ ap (λ (b : Bool). whole && b) (sym (list_all-append is_told (take i ms) (m ∷ [])) ∙ ap (list_all is_told) (sym longer))

-- the whole reply
pub reply_is : (ms : List RootMove) (i : ℕ) (lines lines' : List Line) (columns : Columns) (done : Bool) → length ms ≤ i → map words_of lines ≡ map root_words (take i ms) → done ≡ (has_both columns.probed && list_all is_told (take i ms))
    → lines' ≡ lines ++ line.Columns columns ∷ []
    → record { text = text_of (map words_of lines'); status = status_if done } ≡ root_reply ms columns.probed (columns_words columns.probed.wdl columns.probed.dtz columns.verdict)
reply_is ms i lines lines' columns done end so_far all e =
    let text = ap (map words_of) e ∙ map-append words_of lines (line.Columns columns ∷ []) ∙ ap (λ (ws : List (List ℕ)). ws ++ columns_words columns.probed.wdl columns.probed.dtz columns.verdict ∷ []) (so_far ∙ ap (map root_words) (take_all i ms end)) in
    let whole = all ∙ ap (λ (xs : List RootMove). has_both columns.probed && list_all is_told xs) (take_all i ms end) in
    ap (λ (ws : List (List ℕ)). record { text = text_of ws; status = status_if done }) text
    ∙ ap (λ (b : Bool). record { text = text_of (map root_words ms ++ columns_words columns.probed.wdl columns.probed.dtz columns.verdict ∷ []); status = status_if b }) whole

-- what is told of a position
pub told_in : (ask : Ask) (tables : Tables) (p : Parts) (moves : List RootMove) (columns : Columns) (r : Reply) → AreRootMoves ask tables p moves → IsAnswered ask tables p columns.probed → columns.verdict ≡ ruling tables p
    → r ≡ root_reply moves columns.probed (columns_words columns.probed.wdl columns.probed.dtz columns.verdict) → IsRootReply ask tables p r
told_in ask tables p moves columns r are is verdict e =
    (moves, are, columns.probed, is, e ∙ ap (λ (v : Option Verdict). root_reply moves columns.probed (columns_words columns.probed.wdl columns.probed.dtz v)) verdict)
