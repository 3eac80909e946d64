-- Export format spells the scores that are written.
use Rattle.std.proofs.Common.{◌≡◌, ◌≢◌, ◌∙◌, ℕ, ◌+◌, ◌<◌, ◌≤◌, ◌^◌, ◌%◌, ◌++◌, ◌⊎◌, Bool, true, false, List, [], ◌∷◌, Option, Some, None, length, map, cond, refl, sym, ap, subst, arith, inl, inr, append_assoc, append-nil, length-append, lit<, lit≤}
use Rattle.std.specs.Prelude.{nat_lt, codes, unwrap_or, option_map}
use Rattle.std.specs.Fmt.{decimal}
use Rattle.std.specs.List.{AllByRecursion, AllZip, flat_map}
use Rattle.std.specs.Str.Parse.{digits_value}
use Rattle.std.proofs.lemmas.Bool.Decides.{nat_tests}
use Rattle.std.proofs.lemmas.Fmt.{decimal_by_steps, decimal_is_IsNumeral, length-decimal-le}
use Rattle.board_core.specs.declared.piece.Kind.{Kind}
use Rattle.board_core.specs.declared.piece.Kind.TheVariants.{Pawn, Knight, Bishop, Rook, Queen, King}
use Rattle.board_core.specs.declared.piece.Promotion.{Promotion}
use Rattle.board_core.specs.declared.piece.Promotion.TheVariants.{Queen as ToQueen, Rook as ToRook, Bishop as ToBishop, Knight as ToKnight}
use Rattle.board_core.specs.declared.piece.Side.{Side}
use Rattle.board_core.specs.declared.piece.Side.TheVariants.{White, Black}
use Rattle.board_core.specs.declared.piece.Wing.{Wing}
use Rattle.board_core.specs.declared.piece.Wing.TheVariants.{KingSide, QueenSide}
use Rattle.board_core.specs.declared.parts.Parts.{Parts}
use Rattle.board_core.specs.declared.moves.Move.{Move}
use Rattle.board_core.specs.Square.{file_of, rank_of}
use Rattle.board_core.specs.Position.{IsPosition}
use Rattle.board_core.specs.Moves.{Legal}
use Rattle.board_core.specs.ComputedMoves.{position_after}
use Rattle.board_core.specs.Computed.{is_in_check}
use Rattle.board_core.specs.Ends.{is_checkmate}
use Rattle.board_core.specs.Laws.{PositionAfterIsAPosition, PositionAfterIsComputed}
use Rattle.san_text.specs.declared.origin.Apart.{Apart}
use Rattle.san_text.specs.declared.origin.Apart.TheVariants.{Nothing, ByFile, ByRank, BySquare}
use Rattle.san_text.specs.Agrees.{castling}
use Rattle.san_text.specs.Told.{file_letter, kind_text, promoted_text, rank_digit, square_text, takes_text, told_text}
use Rattle.san_text.specs.Written.{castling_or_man, check_mark, file_by, man_told, mark_after, rank_by, san_of, san_told}
use Rattle.san_text.specs.Laws.{IsReadBack}
use Rattle.pgn_games.specs.Bytes.{is_digit}
use Rattle.pgn_games.specs.Laws.{PlaysInTurn}
use Rattle.pgn_games.specs.Scores.{EachByte, GameScore, PartsTokens, ScoreTag, SpellsMoveNumber, SpellsMovetext, SpellsScore, SpellsSymbol, SpellsTagPair, SpellsTags, escaped_value, is_score_symbol, joined_texts, result_text}
use Rattle.pgn_games.specs.ExportFormat.{ExportSpellsScores, IsWritable, IsWritableTag, lines_of_words, movetext_words, number_words, tag_line, tag_section, words_on_lines, written_score}
use Rattle.pgn_games.proofs.ScoreLaws.{three_then}
use Rattle.pgn_games.proofs.ScoreTokens.{each_append}

-- ---- the text of a move is one symbol

abbrev AreSymbols : List ℕ → Type 0
AreSymbols t = EachByte is_score_symbol t

kind_symbols : (kind : Kind) → AreSymbols (kind_text kind)
kind_symbols Pawn = tt
kind_symbols Knight = (refl, tt)
kind_symbols Bishop = (refl, tt)
kind_symbols Rook = (refl, tt)
kind_symbols Queen = (refl, tt)
kind_symbols King = (refl, tt)

letter_symbol : (n : ℕ) → n < 8 → is_score_symbol (97 + n) ≡ true
letter_symbol n h = grind (arith, nat_tests)

digit_symbol : (n : ℕ) → n < 8 → is_score_symbol (49 + n) ≡ true
digit_symbol n h = grind (arith, nat_tests)

file_below : (s : ℕ) → file_of s < 8
file_below s = omega arith

rank_below : (s : ℕ) → s < 64 → rank_of s < 8
rank_below s h = omega arith

file_symbols : (apart : Apart) (from : ℕ) → AreSymbols (file_letter (file_by apart from))
file_symbols Nothing from = tt
file_symbols ByFile from = (letter_symbol (file_of from) (file_below from), tt)
file_symbols ByRank from = tt
file_symbols BySquare from = (letter_symbol (file_of from) (file_below from), tt)

rank_symbols : (apart : Apart) (from : ℕ) → from < 64 → AreSymbols (rank_digit (rank_by apart from))
rank_symbols Nothing from h = tt
rank_symbols ByFile from h = tt
rank_symbols ByRank from h = (digit_symbol (rank_of from) (rank_below from h), tt)
rank_symbols BySquare from h = (digit_symbol (rank_of from) (rank_below from h), tt)

takes_symbols : (takes : Bool) → AreSymbols (takes_text takes)
takes_symbols true = (refl, tt)
takes_symbols false = tt

square_symbols : (s : ℕ) → s < 64 → AreSymbols (square_text s)
square_symbols s h = (letter_symbol (file_of s) (file_below s), (digit_symbol (rank_of s) (rank_below s h), tt))

promoted_symbols : (promotion : Option Promotion) → AreSymbols (promoted_text promotion)
promoted_symbols None = tt
promoted_symbols (Some ToQueen) = (refl, (refl, tt))
promoted_symbols (Some ToRook) = (refl, (refl, tt))
promoted_symbols (Some ToBishop) = (refl, (refl, tt))
promoted_symbols (Some ToKnight) = (refl, (refl, tt))

man_symbols : (p : Parts) (m : Move) (apart : Apart) (kind : Kind) (takes : Bool) → m.from < 64 → m.to < 64 → AreSymbols (kind_text kind ++ file_letter (file_by apart m.from) ++ rank_digit (rank_by apart m.from) ++ takes_text takes ++ square_text m.to ++ promoted_text m.promotion)
man_symbols p m apart kind takes from to =
    let a = each_append is_score_symbol _ _ (kind_symbols kind) (file_symbols apart m.from) in
    let b = each_append is_score_symbol _ _ a (rank_symbols apart m.from from) in
    let c = each_append is_score_symbol _ _ b (takes_symbols takes) in
    let d = each_append is_score_symbol _ _ c (square_symbols m.to to) in
    each_append is_score_symbol _ _ d (promoted_symbols m.promotion)

told_symbols : (p : Parts) (m : Move) (wing : Option Wing) → m.from < 64 → m.to < 64 → AreSymbols (told_text (castling_or_man wing (man_told p m)))
told_symbols p m None from to = man_symbols p m _ _ _ from to
told_symbols p m (Some KingSide) from to = (refl, (refl, (refl, tt)))
told_symbols p m (Some QueenSide) from to = (refl, (refl, (refl, (refl, (refl, tt)))))

mark_symbols : (mate check : Bool) → AreSymbols (cond mate (codes "#") (cond check (codes "+") []))
mark_symbols true check = (refl, tt)
mark_symbols false true = (refl, tt)
mark_symbols false false = tt

after_symbols : (q : Option Parts) → AreSymbols (mark_after q)
unfolding check_mark
after_symbols None = tt
after_symbols (Some q) = mark_symbols (is_checkmate q) (is_in_check q.men q.side)

pub san_symbols : (p : Parts) (m : Move) (q : Parts) → Legal p m q → AreSymbols (san_of p m)
unfolding san_of san_told
san_symbols p m q legal =
    each_append is_score_symbol _ _ (told_symbols p m (castling p m) legal.from_board legal.to_board) (after_symbols (position_after p m))

-- ---- the number of a move

pub record IsDigits (digits : List ℕ) : Type 0 where
  pub each : EachByte is_digit digits
  pub some : 0 < length digits

digit_byte : (n : ℕ) → n < 10 → is_digit (48 + n) ≡ true
digit_byte n h = grind (arith, nat_tests)

one_digit : (n : ℕ) → n < 10 → IsDigits ((48 + n) ∷ [])
one_digit n h = record { each = (digit_byte n h, tt); some = lit< tt }

more_digits : (n : ℕ) (ds : List ℕ) → 10 ≤ n → IsDigits ds → IsDigits (ds ++ (48 + n % 10) ∷ [])
more_digits n ds h d = record {
  each = each_append is_digit ds ((48 + n % 10) ∷ []) d.each (digit_byte (n % 10) (omega arith), tt);
  some = omega (arith, length-append ds ((48 + n % 10) ∷ []), d.some);
}

pub digits_of : (n : ℕ) → n < 2 ^ 64 → IsDigits (decimal n)
digits_of n h = decimal_by_steps (λ k ds. IsDigits ds) one_digit more_digits n h

pub no_null : (n : ℕ) → n < 2 ^ 64 → decimal n ≢ codes "0000"
no_null n h e =
    let value : digits_value 10 (decimal n) ≡ n = (decimal_is_IsNumeral n h).1 in
    let zero_is : 0 ≡ n = ap (digits_value 10) (sym e) ∙ value in
    let short : length (codes "0000") ≡ length (decimal 0) = ap length (sym e) ∙ ap (λ (k : ℕ). length (decimal k)) (sym zero_is) in
    absurd (omega (arith, short, length-decimal-le 1 0 (lit< tt) (lit< tt) (lit< tt)))

-- ---- words on lines

-- words, each with what parts it from the next one
abbrev AreParted : List (List ℕ) → List ℕ → Type 0
AreParted [] t = t ≡ []
AreParted (word ∷ words) t =
    (white : List ℕ) × (rest : List ℕ) × PartsTokens white × AreParted words rest × (t ≡ word ++ (white ++ rest))

record PartsWords (words : List (List ℕ)) (t : List ℕ) : Type 0 where
  white : List ℕ
  rest : List ℕ
  parts : PartsTokens white
  parted : AreParted words rest
  text : t ≡ white ++ rest

word_parts : (short : Bool) (word : List ℕ) (words : List (List ℕ)) (a b : List ℕ) → PartsWords words a → PartsWords words b → PartsWords (word ∷ words) (cond short (32 ∷ (word ++ a)) (10 ∷ (word ++ b)))
word_parts true word words a b h g = record {
  white = 32 ∷ [];
  rest = word ++ a;
  parts = ((refl, tt), lit< tt);
  parted = (h.white, h.rest, h.parts, h.parted, ap (λ (u : List ℕ). word ++ u) h.text);
  text = refl;
}
word_parts false word words a b h g = record {
  white = 10 ∷ [];
  rest = word ++ b;
  parts = ((refl, tt), lit< tt);
  parted = (g.white, g.rest, g.parts, g.parted, ap (λ (u : List ℕ). word ++ u) g.text);
  text = refl;
}

words_part : (words : List (List ℕ)) (column : ℕ) → PartsWords words (words_on_lines column words)
unfolding words_on_lines
words_part [] column =
    record { white = 10 ∷ 10 ∷ []; rest = []; parts = ((refl, (refl, tt)), lit< tt); parted = refl; text = refl }
words_part (word ∷ words) column =
    word_parts (nat_lt (column + length word) 79) word words _ _ (words_part words (column + 1 + length word)) (words_part words (length word))

words_parted : (words : List (List ℕ)) → AreParted words (lines_of_words words)
words_parted [] = refl
words_parted (word ∷ words) =
    let w = words_part words (length word) in
    (w.white, w.rest, w.parts, w.parted, ap (λ (u : List ℕ). word ++ u) w.text)

-- ---- moves

-- words in front of which stand those of moves
record SpellsThen (p : Parts) (moves : List Move) (tail : List (List ℕ)) (t : List ℕ) : Type 0 where
  movetext : List ℕ
  rest : List ℕ
  spells : SpellsMovetext p moves movetext
  parted : AreParted tail rest
  text : t ≡ movetext ++ rest

-- the words of a number: none, or one
pub record IsNumberWord (words : List (List ℕ)) (n : ℕ) : Type 0 where
  pub periods : List ℕ
  pub dots : AllByRecursion (λ b. b ≡ 46) periods
  pub some : 0 < length periods
  pub fewer : length periods ≤ 3
  pub is : words ≡ (decimal n ++ periods) ∷ []

pub number_or_none : (begins : Bool) (side : Side) (n : ℕ) → (number_words begins side n ≡ []) ⊎ IsNumberWord (number_words begins side n) n
number_or_none begins White n = inr (record { periods = codes "."; dots = (refl, tt); some = lit< tt; fewer = lit≤ tt; is = refl })
number_or_none true Black n =
    inr (record { periods = codes "..."; dots = (refl, (refl, (refl, tt))); some = lit< tt; fewer = lit≤ tt; is = refl })
number_or_none false Black n = inl refl

number_spelled : (periods white : List ℕ) (n : ℕ) → n < 2 ^ 64 → AllByRecursion (λ b. b ≡ 46) periods → 0 < length periods → PartsTokens white → SpellsMoveNumber ((decimal n ++ periods) ++ white)
number_spelled periods white n small dots some parts = record {
  digits = decimal n;
  periods = periods;
  white = white;
  number = ((digits_of n small).each, (digits_of n small).some, no_null n small);
  dots = dots;
  spaces = parts.0;
  apart = omega (arith, some);
  text = append_assoc (decimal n) periods white;
}

move_spelled : (p r : Parts) (m : Move) (moves : List Move) (number text white rest t : List ℕ) (tail : List (List ℕ)) → (number ≡ []) ⊎ SpellsMoveNumber number → SpellsSymbol p m text → PartsTokens white → Legal p m r → SpellsThen r moves tail rest → t ≡ number ++ (text ++ (white ++ rest)) → SpellsThen p (m ∷ moves) tail t
move_spelled p r m moves number text white rest t tail numbered symbol parts legal w is = record {
  movetext = number ++ (text ++ (white ++ w.movetext));
  rest = w.rest;
  spells = (number, text, white, w.movetext, r, numbered, symbol, parts, legal, w.spells, refl);
  parted = w.parted;
  text = is ∙ ap (λ (u : List ℕ). number ++ (text ++ (white ++ u))) w.text ∙ sym (three_then number text white w.movetext w.rest);
}

-- what is known of moves and of their texts
record MoveFacts : Type 0 where
  read : IsReadBack
  computed : PositionAfterIsComputed
  position : PositionAfterIsAPosition

san_spelled : (facts : MoveFacts) (p r : Parts) (m : Move) → IsPosition p → Legal p m r → SpellsSymbol p m (san_of p m)
san_spelled facts p r m is legal =
    record { read = facts.read p m is (r, legal); symbol = san_symbols p m r legal }

pub words_after : (p r : Parts) (m : Move) (moves : List Move) (begins : Bool) → position_after p m ≡ Some r → movetext_words begins p (m ∷ moves) ≡ number_words begins p.side p.fullmove ++ (san_of p m ∷ movetext_words false r moves)
unfolding movetext_words
words_after p r m moves begins e =
    ap (λ (o : Option Parts). number_words begins p.side p.fullmove ++ (san_of p m ∷ unwrap_or (option_map (λ q. movetext_words false q moves) o) [])) e

pub no_words : (begins : Bool) (p : Parts) → movetext_words begins p [] ≡ []
unfolding movetext_words
no_words begins p = refl

-- the words of a number and of a move, before those of others
number_and_move : (facts : MoveFacts) (begins : Bool) (p r : Parts) (m : Move) (moves : List Move) (tail more : List (List ℕ)) (t : List ℕ) → IsPosition p → Legal p m r → (number_words begins p.side p.fullmove ≡ []) ⊎ IsNumberWord (number_words begins p.side p.fullmove) p.fullmove → ((rest : List ℕ) → AreParted more rest → SpellsThen r moves tail rest) → AreParted (number_words begins p.side p.fullmove ++ (san_of p m ∷ more)) t → SpellsThen p (m ∷ moves) tail t
number_and_move facts begins p r m moves tail more t is legal (inl none) next h =
    let w = subst (λ (words : List (List ℕ)). AreParted (words ++ (san_of p m ∷ more)) t) none h in
    move_spelled p r m moves [] (san_of p m) w.0 w.1 t tail (inl refl) (san_spelled facts p r m is legal) w.2 legal (next w.1 w.3) w.4
number_and_move facts begins p r m moves tail more t is legal (inr number) next h =
    let w = subst (λ (words : List (List ℕ)). AreParted (words ++ (san_of p m ∷ more)) t) number.is h in
    let v = w.3 in
    let small : p.fullmove < 2 ^ 64 = omega (arith, is.counters.1) in
    let text : t ≡ ((decimal p.fullmove ++ number.periods) ++ w.0) ++ (san_of p m ++ (v.0 ++ v.1)) =
    w.4 ∙ ap (λ (u : List ℕ). (decimal p.fullmove ++ number.periods) ++ (w.0 ++ u)) v.4 ∙ sym (append_assoc (decimal p.fullmove ++ number.periods) w.0 (san_of p m ++ (v.0 ++ v.1))) in
    move_spelled p r m moves ((decimal p.fullmove ++ number.periods) ++ w.0) (san_of p m) v.0 v.1 t tail (inr (number_spelled number.periods w.0 p.fullmove small number.dots number.some w.2)) (san_spelled facts p r m is legal) v.2 legal (next v.1 v.3) text

moves_spelled : (facts : MoveFacts) (moves : List Move) (begins : Bool) (p q : Parts) (tail : List (List ℕ)) (t : List ℕ) → IsPosition p → PlaysInTurn p moves q → AreParted (movetext_words begins p moves ++ tail) t → SpellsThen p moves tail t
moves_spelled facts [] begins p q tail t is h parted = record {
  movetext = [];
  rest = t;
  spells = refl;
  parted = subst (λ (words : List (List ℕ)). AreParted (words ++ tail) t) (no_words begins p) parted;
  text = refl;
}
moves_spelled facts (m ∷ moves) begins p q tail t is h parted =
    let r = h.0 in
    let after : position_after p m ≡ Some r = (facts.computed p m r).1 h.1 in
    let numbers = number_words begins p.side p.fullmove in
    let words : movetext_words begins p (m ∷ moves) ++ tail ≡ numbers ++ (san_of p m ∷ (movetext_words false r moves ++ tail)) =
    ap (λ (w : List (List ℕ)). w ++ tail) (words_after p r m moves begins after) ∙ append_assoc numbers (san_of p m ∷ movetext_words false r moves) tail in
    number_and_move facts begins p r m moves tail (movetext_words false r moves ++ tail) t is h.1 (number_or_none begins p.side p.fullmove) (λ rest g. moves_spelled facts moves false r q tail rest (facts.position p m r is after) h.2 g) (subst (λ (w : List (List ℕ)). AreParted w t) words parted)

-- ---- tag pairs

pub pair_written : (tag : ScoreTag) → List ℕ
pair_written tag = 91 ∷ (tag.name ++ 32 ∷ 34 ∷ (escaped_value tag.value ++ 34 ∷ 93 ∷ []))

pub line_is : (tag : ScoreTag) → tag_line tag ≡ pair_written tag ++ 10 ∷ []
unfolding pair_written
line_is tag =
    let end = 34 ∷ 93 ∷ [] in
    let value = escaped_value tag.value in
    sym (ap (λ (u : List ℕ). 91 ∷ u) (append_assoc tag.name (32 ∷ 34 ∷ (value ++ end)) (10 ∷ []) ∙ ap (λ (u : List ℕ). tag.name ++ 32 ∷ 34 ∷ u) (append_assoc value end (10 ∷ []))))

pub pair_spelled : (tag : ScoreTag) → IsWritableTag tag → SpellsTagPair (pair_written tag) tag
unfolding pair_written
pair_spelled tag h =
    record { before = []; between = 32 ∷ []; behind = []; spaces = (tt, (refl, tt), tt); name = h.name; value = h.value; text = refl }

section_spelled : (tag : ScoreTag) (tags : List ScoreTag) → AllByRecursion IsWritableTag (tag ∷ tags) → SpellsTags (tag ∷ tags) (flat_map tag_line (tag ∷ tags) ++ 10 ∷ [])
section_spelled tag [] h =
    (pair_written tag, 10 ∷ 10 ∷ [], [], pair_spelled tag h.0, (refl, (refl, tt)), refl, ap (λ (u : List ℕ). (u ++ []) ++ 10 ∷ []) (line_is tag) ∙ ap (λ (u : List ℕ). u ++ 10 ∷ []) (append-nil (pair_written tag ++ 10 ∷ [])) ∙ append_assoc (pair_written tag) (10 ∷ []) (10 ∷ []))
section_spelled tag (next ∷ tags) h =
    let rest = flat_map tag_line (next ∷ tags) in
    (pair_written tag, 10 ∷ [], rest ++ 10 ∷ [], pair_spelled tag h.0, (refl, tt), section_spelled next tags h.1, ap (λ (u : List ℕ). (u ++ rest) ++ 10 ∷ []) (line_is tag) ∙ append_assoc (pair_written tag ++ 10 ∷ []) rest (10 ∷ []) ∙ append_assoc (pair_written tag) (10 ∷ []) (rest ++ 10 ∷ []))

tags_spelled : (tags : List ScoreTag) → AllByRecursion IsWritableTag tags → SpellsTags tags (tag_section tags)
tags_spelled [] h = refl
tags_spelled (tag ∷ tags) h = section_spelled tag tags h

-- ---- scores

pub written_is : (score : GameScore) → written_score score ≡ tag_section score.tags ++ lines_of_words (movetext_words true score.start score.moves ++ result_text score.result ∷ [])
unfolding written_score
written_is score = refl

pub export_spells_scores : IsReadBack → PositionAfterIsComputed → PositionAfterIsAPosition → ExportSpellsScores
export_spells_scores read computed position score h =
    let facts : MoveFacts = record { read = read; computed = computed; position = position } in
    let result = result_text score.result in
    let words = movetext_words true score.start score.moves ++ result ∷ [] in
    let w = moves_spelled facts score.moves true score.start h.moves.0 (result ∷ []) (lines_of_words words) h.position h.moves.1 (words_parted words) in
    let end = w.parted in
    let end_is : w.rest ≡ result ++ end.0 = end.4 ∙ ap (λ (u : List ℕ). result ++ (end.0 ++ u)) end.3 ∙ ap (λ (u : List ℕ). result ++ u) (append-nil end.0) in
    record {
      tags = tag_section score.tags;
      movetext = w.movetext;
      white = end.0;
      usual = h.usual;
      is_usual = h.is_usual;
      start = h.start;
      few = h.few;
      ended = h.ended;
      spells_tags = tags_spelled score.tags h.tags;
      spells_moves = w.spells;
      apart = end.2;
      text = written_is score ∙ ap (λ (u : List ℕ). tag_section score.tags ++ u) (w.text ∙ ap (λ (u : List ℕ). w.movetext ++ u) end_is);
    }

pub each_spelled : ExportSpellsScores → (scores : List GameScore) → AllByRecursion IsWritable scores → AllZip SpellsScore (map written_score scores) scores
each_spelled spells [] h = tt
each_spelled spells (score ∷ scores) h = (spells score h.0, each_spelled spells scores h.1)

pub joined_is : (scores : List GameScore) → joined_texts (map written_score scores) ≡ flat_map written_score scores
joined_is [] = refl
joined_is (score ∷ scores) = ap (λ (t : List ℕ). written_score score ++ t) (joined_is scores)
