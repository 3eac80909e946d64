-- The lines of export format are read.
use Rattle.std.proofs.Common.{◌≡◌, ◌≢◌, ◌∙◌, ℕ, suc, ◌+◌, ◌<◌, ◌≤◌, ◌^◌, ◌++◌, ◌⊎◌, Bool, true, false, List, [], ◌∷◌, Option, Some, None, length, map, cond, refl, sym, ap, subst, arith, inl, inr, append_assoc, length-append, lit<, lit≤}
use Rattle.std.specs.Prelude.{◌==◌, nat_lt, codes}
use Rattle.std.specs.Fmt.{decimal}
use Rattle.std.specs.List.{AllByRecursion, flat_map}
use Rattle.std.proofs.lemmas.Bool.Decides.{nat_tests}
use Rattle.std.proofs.lemmas.Fmt.{length-decimal-le}
use Rattle.board_core.specs.declared.piece.Kind.{Kind}
use Rattle.board_core.specs.declared.piece.Kind.TheVariants.{Pawn, Knight, Bishop, Rook, Queen, King}
use Rattle.board_core.specs.declared.piece.Promotion.{Promotion}
use Rattle.board_core.specs.declared.piece.Promotion.TheVariants.{Queen as ToQueen, Rook as ToRook, Bishop as ToBishop, Knight as ToKnight}
use Rattle.board_core.specs.declared.piece.Wing.{Wing}
use Rattle.board_core.specs.declared.piece.Wing.TheVariants.{KingSide, QueenSide}
use Rattle.board_core.specs.declared.parts.Parts.{Parts}
use Rattle.board_core.specs.declared.moves.Move.{Move}
use Rattle.board_core.specs.Position.{IsPosition}
use Rattle.board_core.specs.Moves.{Legal}
use Rattle.board_core.specs.ComputedMoves.{position_after}
use Rattle.board_core.specs.Computed.{is_in_check}
use Rattle.board_core.specs.Ends.{is_checkmate}
use Rattle.board_core.specs.Laws.{PositionAfterIsAPosition, PositionAfterIsComputed}
use Rattle.san_text.specs.Agrees.{castling}
use Rattle.san_text.specs.Told.{file_letter, kind_text, promoted_text, rank_digit, square_text, takes_text, told_text}
use Rattle.san_text.specs.Written.{castling_or_man, check_mark, man_told, mark_after, san_of, san_told}
use Rattle.pgn_games.specs.declared.game.GameResult.{GameResult}
use Rattle.pgn_games.specs.declared.game.GameResult.TheVariants.{WhiteWins, BlackWins, Draw, Unknown, Missing}
use Rattle.pgn_games.specs.Bytes.{is_digit}
use Rattle.pgn_games.specs.Lines.{lines_of_text, onto_first_line}
use Rattle.pgn_games.specs.Games.{SpellsGames}
use Rattle.pgn_games.specs.Laws.{OneListIsSpelled, PlaysInTurn}
use Rattle.pgn_games.specs.Scores.{AreScoresRead, GameScore, ScoresAreReadBack, IsReadLine, ScoreTag, is_score_symbol, result_text}
use Rattle.pgn_games.specs.ExportFormat.{ExportIsReadBack, ExportSpellsScores, IsWritable, OnlyExportIsRead, IsWritableTag, lines_of_words, movetext_words, number_words, tag_line, tag_section, words_on_lines, written_score}
use Rattle.pgn_games.proofs.LineLaws.{lines_by, lines_feed, lines_nil}
use Rattle.pgn_games.proofs.TokenLaws.{differs}
use Rattle.pgn_games.proofs.ScoreTokens.{IsOnLine, on_line_append, on_line_by, pair_is_on_line, result_on_line}
use Rattle.pgn_games.proofs.ExportLaws.{IsNumberWord, digits_of, each_spelled, joined_is, line_is, number_or_none, pair_spelled, pair_written, san_symbols, words_after, no_words, written_is}

-- ---- how long lines are

-- no line grows too long, where so many bytes stand on the first one already
Fits : ℕ → List ℕ → Type 0
Fits column [] = column ≤ 65535
Fits column (b ∷ t) = (column ≤ 65535) × Fits (cond (b == 10) 0 (column + 1)) t

abbrev LinesFit : ℕ → List (List ℕ) → Type 0
LinesFit column [] = column ≤ 65535
LinesFit column (line ∷ lines) = (column + length line ≤ 65535) × AllByRecursion IsReadLine lines

all_fit : (lines : List (List ℕ)) → LinesFit 0 lines → AllByRecursion IsReadLine lines
all_fit [] h = tt
all_fit (line ∷ lines) h = (omega (arith, h.0), h.1)

fit_onto : (column x : ℕ) (lines : List (List ℕ)) → LinesFit (column + 1) lines → LinesFit column (onto_first_line x lines)
fit_onto column x [] h = (omega (arith, h), tt)
fit_onto column x (line ∷ lines) h = (omega (arith, h.0), h.1)

lines_fit_by : (k : Bool) (column x : ℕ) (t : List ℕ) → (x == 10) ≡ k → column ≤ 65535 → LinesFit (cond k 0 (column + 1)) (lines_of_text t) → LinesFit column (lines_of_text (x ∷ t))
lines_fit_by true column x t is below h =
    let e : 10 ≡ x = grind (arith, nat_tests) in
    subst (λ (y : ℕ). LinesFit column (lines_of_text (y ∷ t))) e (subst (LinesFit column) (sym (lines_feed t)) (omega (arith, below), all_fit (lines_of_text t) h))
lines_fit_by false column x t is below h =
    let other : x ≢ 10 = λ e. absurd (grind (arith, nat_tests)) in
    subst (LinesFit column) (sym (lines_by x t other)) (fit_onto column x (lines_of_text t) h)

lines_fit : (column : ℕ) (bytes : List ℕ) → Fits column bytes → LinesFit column (lines_of_text bytes)
unfolding Fits
lines_fit column [] h = subst (LinesFit column) (sym lines_nil) h
lines_fit column (x ∷ t) h = lines_fit_by (x == 10) column x t refl h.0 (lines_fit (cond (x == 10) 0 (column + 1)) t h.1)

fits_behind : (s t : List ℕ) (column : ℕ) → IsOnLine s → column + length s ≤ 65535 → Fits (column + length s) t → Fits column (s ++ t)
unfolding Fits
fits_behind [] t column on below h = subst (λ (k : ℕ). Fits k t) (omega arith) h
fits_behind (x ∷ s) t column on below h =
    let same : column + suc (length s) ≡ column + 1 + length s = omega arith in
    (omega (arith, below), subst (λ (k : Bool). Fits (cond k 0 (column + 1)) (s ++ t)) (sym (differs x 10 on.0)) (fits_behind s t (column + 1) on.1 (omega (arith, below)) (subst (λ (k : ℕ). Fits k t) same h)))

fits_feed : (t : List ℕ) (column : ℕ) → column ≤ 65535 → Fits 0 t → Fits column (10 ∷ t)
unfolding Fits
fits_feed t column below h = (below, h)

fits_space : (t : List ℕ) (column : ℕ) → column ≤ 65535 → Fits (column + 1) t → Fits column (32 ∷ t)
unfolding Fits
fits_space t column below h = (below, h)

-- ---- tag pairs

tag_fits : (tag : ScoreTag) (t : List ℕ) → IsWritableTag tag → Fits 0 t → Fits 0 (tag_line tag ++ t)
tag_fits tag t h rest =
    let pair = pair_written tag in
    let size : length (tag_line tag) ≡ length pair + 1 = ap length (line_is tag) ∙ length-append pair (10 ∷ []) in
    let below : 0 + length pair ≤ 65535 = omega (arith, size, h.short) in
    let split : tag_line tag ++ t ≡ pair ++ 10 ∷ t = ap (λ (u : List ℕ). u ++ t) (line_is tag) ∙ append_assoc pair (10 ∷ []) t in
    subst (Fits 0) (sym split) (fits_behind pair (10 ∷ t) 0 (pair_is_on_line pair tag (pair_spelled tag h)) below (fits_feed t (0 + length pair) below rest))

tags_fit : (tags : List ScoreTag) (t : List ℕ) → AllByRecursion IsWritableTag tags → Fits 0 t → Fits 0 (flat_map tag_line tags ++ t)
tags_fit [] t h rest = rest
tags_fit (tag ∷ tags) t h rest =
    subst (Fits 0) (sym (append_assoc (tag_line tag) (flat_map tag_line tags) t)) (tag_fits tag (flat_map tag_line tags ++ t) h.0 (tags_fit tags t h.1 rest))

section_fits : (tags : List ScoreTag) (t : List ℕ) → AllByRecursion IsWritableTag tags → Fits 0 t → Fits 0 (tag_section tags ++ t)
section_fits [] t h rest = rest
section_fits (tag ∷ tags) t h rest =
    subst (Fits 0) (sym (append_assoc (flat_map tag_line (tag ∷ tags)) (10 ∷ []) t)) (tags_fit (tag ∷ tags) (10 ∷ t) h (fits_feed t 0 (lit≤ tt) rest))

-- ---- words

record IsShortWord (word : List ℕ) : Type 0 where
  on_line : IsOnLine word
  short : length word ≤ 79

words_fit_by : (k : Bool) (word : List ℕ) (column : ℕ) (a b t : List ℕ) → nat_lt (column + length word) 79 ≡ k → IsShortWord word → column ≤ 79 → (column + 1 + length word ≤ 79 → Fits (column + 1 + length word) (a ++ t)) → Fits (length word) (b ++ t) → Fits column (cond k (32 ∷ (word ++ a)) (10 ∷ (word ++ b)) ++ t)
words_fit_by true word column a b t is h below next line =
    let fits : column + 1 + length word ≤ 79 = grind (arith, nat_tests) in
    fits_space ((word ++ a) ++ t) column (omega (arith, below)) (subst (Fits (column + 1)) (sym (append_assoc word a t)) (fits_behind word (a ++ t) (column + 1) h.on_line (omega (arith, fits)) (next fits)))
words_fit_by false word column a b t is h below next line =
    fits_feed ((word ++ b) ++ t) column (omega (arith, below)) (subst (Fits 0) (sym (append_assoc word b t)) (first_word word (b ++ t) h line))
  where
    first_word : (word t : List ℕ) → IsShortWord word → Fits (length word) t → Fits 0 (word ++ t)
    first_word word t h line =
        let same : length word ≡ 0 + length word = omega arith in
        fits_behind word t 0 h.on_line (omega (arith, h.short)) (subst (λ (k : ℕ). Fits k t) same line)

words_fit : (words : List (List ℕ)) (column : ℕ) (t : List ℕ) → AllByRecursion IsShortWord words → column ≤ 79 → Fits 0 t → Fits column (words_on_lines column words ++ t)
unfolding words_on_lines
words_fit [] column t h below rest = fits_feed (10 ∷ t) column (omega (arith, below)) (fits_feed t 0 (lit≤ tt) rest)
words_fit (word ∷ words) column t h below rest =
    words_fit_by (nat_lt (column + length word) 79) word column _ _ t refl h.0 below (λ fits. words_fit words (column + 1 + length word) t h.1 fits rest) (words_fit words (length word) t h.1 h.0.short rest)

all_words_fit : (words : List (List ℕ)) (t : List ℕ) → AllByRecursion IsShortWord words → Fits 0 t → Fits 0 (lines_of_words words ++ t)
all_words_fit [] t h rest = rest
all_words_fit (word ∷ words) t h rest =
    let same : length word ≡ 0 + length word = omega arith in
    let line = words_on_lines (length word) words in
    subst (Fits 0) (sym (append_assoc word line t)) (fits_behind word (line ++ t) 0 h.0.on_line (omega (arith, h.0.short)) (subst (λ (k : ℕ). Fits k (line ++ t)) same (words_fit words (length word) t h.1 h.0.short rest)))

-- ---- the words of movetext

kind_short : (kind : Kind) → length (kind_text kind) ≤ 1
kind_short Pawn = lit≤ tt
kind_short Knight = lit≤ tt
kind_short Bishop = lit≤ tt
kind_short Rook = lit≤ tt
kind_short Queen = lit≤ tt
kind_short King = lit≤ tt

file_short : (file : Option ℕ) → length (file_letter file) ≤ 1
file_short None = lit≤ tt
file_short (Some file) = lit≤ tt

rank_short : (rank : Option ℕ) → length (rank_digit rank) ≤ 1
rank_short None = lit≤ tt
rank_short (Some rank) = lit≤ tt

takes_short : (takes : Bool) → length (takes_text takes) ≤ 1
takes_short true = lit≤ tt
takes_short false = lit≤ tt

promoted_short : (promotion : Option Promotion) → length (promoted_text promotion) ≤ 2
promoted_short None = lit≤ tt
promoted_short (Some ToQueen) = lit≤ tt
promoted_short (Some ToRook) = lit≤ tt
promoted_short (Some ToBishop) = lit≤ tt
promoted_short (Some ToKnight) = lit≤ tt

six_short : (a b c d e f : List ℕ) → length a ≤ 1 → length b ≤ 1 → length c ≤ 1 → length d ≤ 1 → length e ≤ 2 → length f ≤ 2 → length (a ++ b ++ c ++ d ++ e ++ f) ≤ 8
six_short a b c d e f ha hb hc hd he hf =
    omega (arith, length-append a b, length-append (a ++ b) c, length-append (a ++ b ++ c) d, length-append (a ++ b ++ c ++ d) e, length-append (a ++ b ++ c ++ d ++ e) f)

told_short : (p : Parts) (m : Move) (wing : Option Wing) → length (told_text (castling_or_man wing (man_told p m))) ≤ 8
told_short p m None =
    let man = man_told p m in
    six_short (kind_text man.kind) (file_letter man.file) (rank_digit man.rank) (takes_text man.takes) (square_text man.to) (promoted_text man.promotion) (kind_short man.kind) (file_short man.file) (rank_short man.rank) (takes_short man.takes) (lit≤ tt) (promoted_short man.promotion)
told_short p m (Some KingSide) = lit≤ tt
told_short p m (Some QueenSide) = lit≤ tt

mark_short : (mate check : Bool) → length (cond mate (codes "#") (cond check (codes "+") [])) ≤ 1
mark_short true check = lit≤ tt
mark_short false true = lit≤ tt
mark_short false false = lit≤ tt

after_short : (q : Option Parts) → length (mark_after q) ≤ 1
unfolding check_mark
after_short None = lit≤ tt
after_short (Some q) = mark_short (is_checkmate q) (is_in_check q.men q.side)

san_length : (p : Parts) (m : Move) → length (san_of p m) ≤ 79
unfolding san_of san_told
san_length p m =
    omega (arith, length-append (told_text (castling_or_man (castling p m) (man_told p m))) (mark_after (position_after p m)), told_short p m (castling p m), after_short (position_after p m))

san_short : (p : Parts) (m : Move) (q : Parts) → Legal p m q → IsShortWord (san_of p m)
san_short p m q legal = record {
  on_line = on_line_by is_score_symbol (san_of p m) refl (san_symbols p m q legal);
  short = san_length p m;
}

periods_on_line : (s : List ℕ) → AllByRecursion (λ b. b ≡ 46) s → IsOnLine s
periods_on_line [] h = tt
periods_on_line (b ∷ s) h = (λ e. absurd (omega (arith, e, h.0)), periods_on_line s h.1)

number_short : (words : List (List ℕ)) (n : ℕ) → n ≤ 9999 → (words ≡ []) ⊎ IsNumberWord words n → AllByRecursion IsShortWord words
number_short words n small (inl none) = subst (AllByRecursion IsShortWord) (sym none) tt
number_short words n small (inr h) =
    let wide : n < 2 ^ 64 = omega (arith, small) in
    let digits : IsOnLine (decimal n) = on_line_by is_digit (decimal n) refl (digits_of n wide).each in
    let few : length (decimal n) ≤ 4 = length-decimal-le 4 n (lit< tt) (omega (arith, small)) wide in
    subst (AllByRecursion IsShortWord) (sym h.is) (
      record {
        on_line = on_line_append (decimal n) h.periods digits (periods_on_line h.periods h.dots);
        short = omega (arith, length-append (decimal n) h.periods, few, h.fewer);
      },
      tt,
    )

all_append : (a b : List (List ℕ)) → AllByRecursion IsShortWord a → AllByRecursion IsShortWord b → AllByRecursion IsShortWord (a ++ b)
all_append [] b h g = g
all_append (x ∷ a) b h g = (h.0, all_append a b h.1 g)

moves_short : PositionAfterIsComputed → PositionAfterIsAPosition → (moves : List Move) (begins : Bool) (p q : Parts) → IsPosition p → PlaysInTurn p moves q → AllByRecursion IsShortWord (movetext_words begins p moves)
moves_short computed position [] begins p q is h =
    subst (AllByRecursion IsShortWord) (sym (no_words begins p)) tt
moves_short computed position (m ∷ moves) begins p q is h =
    let r = h.0 in
    let after : position_after p m ≡ Some r = (computed p m r).1 h.1 in
    let numbers = number_words begins p.side p.fullmove in
    let numbered = number_short numbers p.fullmove is.counters.1 (number_or_none begins p.side p.fullmove) in
    let rest = moves_short computed position moves false r q (position p m r is after) h.2 in
    subst (AllByRecursion IsShortWord) (sym (words_after p r m moves begins after)) (all_append numbers (san_of p m ∷ movetext_words false r moves) numbered (san_short p m r h.1, rest))

result_short : (r : GameResult) → IsShortWord (result_text r)
result_short WhiteWins = record { on_line = result_on_line WhiteWins; short = lit≤ tt }
result_short BlackWins = record { on_line = result_on_line BlackWins; short = lit≤ tt }
result_short Draw = record { on_line = result_on_line Draw; short = lit≤ tt }
result_short Unknown = record { on_line = result_on_line Unknown; short = lit≤ tt }
result_short Missing = record { on_line = result_on_line Missing; short = lit≤ tt }

-- ---- files

score_fits : PositionAfterIsComputed → PositionAfterIsAPosition → (score : GameScore) (t : List ℕ) → IsWritable score → Fits 0 t → Fits 0 (written_score score ++ t)
score_fits computed position score t h rest =
    let words = movetext_words true score.start score.moves ++ result_text score.result ∷ [] in
    let short = all_append (movetext_words true score.start score.moves) (result_text score.result ∷ []) (moves_short computed position score.moves true score.start h.moves.0 h.position h.moves.1) (result_short score.result, tt) in
    let split : written_score score ++ t ≡ tag_section score.tags ++ (lines_of_words words ++ t) =
    ap (λ (u : List ℕ). u ++ t) (written_is score) ∙ append_assoc (tag_section score.tags) (lines_of_words words) t in
    subst (Fits 0) (sym split) (section_fits score.tags (lines_of_words words ++ t) h.tags (all_words_fit words t short rest))

nothing_fits : Fits 0 []
unfolding Fits
nothing_fits = lit≤ tt

scores_fit : PositionAfterIsComputed → PositionAfterIsAPosition → (scores : List GameScore) → AllByRecursion IsWritable scores → Fits 0 (flat_map written_score scores)
scores_fit computed position [] h = nothing_fits
scores_fit computed position (score ∷ scores) h =
    score_fits computed position score (flat_map written_score scores) h.0 (scores_fit computed position scores h.1)

-- each line of a file in export format is read
pub lines_are_read : PositionAfterIsComputed → PositionAfterIsAPosition → (scores : List GameScore) → AllByRecursion IsWritable scores → AllByRecursion IsReadLine (lines_of_text (flat_map written_score scores))
lines_are_read computed position scores h =
    all_fit (lines_of_text (flat_map written_score scores)) (lines_fit 0 (flat_map written_score scores) (scores_fit computed position scores h))

pub export_is_read_back : PositionAfterIsComputed → PositionAfterIsAPosition → ExportSpellsScores → ScoresAreReadBack → ExportIsReadBack
export_is_read_back computed position spells read scores h =
    let same = joined_is scores in
    let short = lines_are_read computed position scores h in
    let w = read (map written_score scores) scores (each_spelled spells scores h) (subst (λ (t : List ℕ). AllByRecursion IsReadLine (lines_of_text t)) (sym same) short) in
    (w.0, subst (λ (t : List ℕ). SpellsGames t w.0) same w.1, w.2)

pub only_export_is_read : ExportIsReadBack → OneListIsSpelled → OnlyExportIsRead
only_export_is_read read one scores h readings spelled =
    let w = read scores h in
    subst (AreScoresRead 1 (map written_score scores) scores) (one (flat_map written_score scores) w.0 readings w.1 spelled) w.2
