-- The tokens of small texts, as the standard has them: each row holds by evaluation alone.
use Rattle.std.proofs.Common.{◌≡◌, ◌≢◌, ◌∙◌, ◌++◌, ℕ, sym, arith, lit<, lit≤, true, false, List, [], ◌∷◌, Some, None, refl, codes}
use Rattle.std.specs.Prelude.{◌==◌}
use Rattle.std.proofs.lemmas.Bool.{false≢true}
use Rattle.std.proofs.lemmas.Bool.Decides.{nat_tests}
use Rattle.board_core.specs.declared.parts.Parts.{Parts}
use Rattle.board_core.specs.declared.piece.Side.TheVariants.{White}
use Rattle.board_core.specs.declared.moves.Move.{Move}
use Rattle.board_core.specs.declared.moves.MoveCase.TheVariants.{Advance}
use Rattle.board_core.specs.Computed.{is_attacked, is_in_check, is_ray, some_below}
use Rattle.board_core.specs.Laws.{CheckIsComputed}
use Rattle.board_core.specs.Moves.{Legal, after, men_after}
use Rattle.pgn_games.proofs.StartLaws.{is_usual_start}
use Rattle.pgn_games.proofs.UsualLaws.{usual, usual_position, usual_spelled}
use Rattle.pgn_games.specs.declared.game.GameResult.TheVariants.{Draw, WhiteWins, Unknown}
use Rattle.pgn_games.specs.Lines.{lines_of_text, read_text}
use Rattle.pgn_games.specs.Tags.{closes_at, tag_pair}
use Rattle.pgn_games.specs.Lexemes.{Tag, MoveText, Begins, Ends, Told, Endless, lexed_at}
use Rattle.pgn_games.specs.Tokens.{token, tokens_from, tokens_of}
use Rattle.pgn_games.specs.Scores.{GameScore, escaped_value}
use Rattle.pgn_games.specs.ExportFormat.{IsWritable, lines_of_words, movetext_words, words_on_lines, written_score}

moves_and_result : tokens_of (codes "1.e4 e5 2. Nf3 1-0") ≡ token 1 (MoveText (codes "e4")) ∷ token 1 (MoveText (codes "e5")) ∷ token 1 (MoveText (codes "Nf3")) ∷ token 1 (Told WhiteWins) ∷ []
unfolding tokens_from lexed_at read_text lines_of_text tag_pair closes_at
moves_and_result = refl

-- a bracket, a parenthesis and a result in a comment are no tokens
comment : tokens_of (codes "e4 {) [ 1-0} (d4)" ++ 10 ∷ codes "; e5" ++ 10 ∷ codes "% e5" ++ 10 ∷ codes "e6 $1 *") ≡ token 1 (MoveText (codes "e4")) ∷ token 1 Begins ∷ token 1 (MoveText (codes "d4")) ∷ token 1 Ends ∷ token 4 (MoveText (codes "e6")) ∷ token 4 (Told Unknown) ∷ []
unfolding tokens_from lexed_at read_text lines_of_text tag_pair closes_at
comment = refl

-- a comment that never ends
endless : tokens_of (codes "e4 {" ++ 10 ∷ codes "e5") ≡ token 1 (MoveText (codes "e4")) ∷ token 1 Endless ∷ []
unfolding tokens_from lexed_at read_text lines_of_text tag_pair closes_at
endless = refl

-- a tag in the first column, one behind it, and one that isn't closed
tags : tokens_of (codes "[A " ++ 34 ∷ codes "x]" ++ 34 ∷ codes "][B]") ≡ token 1 (Tag true (Some (record { name = codes "A"; quoted = codes "x]" }))) ∷ token 1 (Tag false None) ∷ []
unfolding tokens_from lexed_at read_text lines_of_text tag_pair closes_at
tags = refl

-- a game without moves in export format, and what is read of it
abbrev drawn : Parts → GameScore
drawn start = record {
  tags = record { name = codes "Event"; value = codes "a" ++ 34 ∷ 92 ∷ [] } ∷ record { name = codes "Date"; value = codes "?" } ∷ [];
  start = start;
  moves = [];
  result = Draw;
}

abbrev drawn_text : List ℕ
drawn_text =
    codes "[Event " ++ 34 ∷ codes "a" ++ 92 ∷ 34 ∷ 92 ∷ 92 ∷ 34 ∷ 93 ∷ 10 ∷ codes "[Date " ++ 34 ∷ codes "?" ++ 34 ∷ 93 ∷ 10 ∷ 10 ∷ codes "1/2-1/2" ++ 10 ∷ 10 ∷ []

drawn_written : (start : Parts) → written_score (drawn start) ≡ drawn_text
unfolding written_score escaped_value movetext_words words_on_lines
drawn_written start = refl

drawn_read : tokens_of drawn_text ≡ token 1 (Tag true (Some (record { name = codes "Event"; quoted = codes "a" ++ 92 ∷ 34 ∷ 92 ∷ 92 ∷ [] }))) ∷ token 2 (Tag true (Some (record { name = codes "Date"; quoted = codes "?" }))) ∷ token 4 (Told Draw) ∷ []
unfolding tokens_from lexed_at read_text lines_of_text tag_pair closes_at
drawn_read = refl

-- words on a line, and behind 76 bytes of one
words_written : lines_of_words (codes "1." ∷ codes "e4" ∷ codes "e5" ∷ codes "*" ∷ []) ≡ codes "1. e4 e5 *" ++ 10 ∷ 10 ∷ []
unfolding words_on_lines
words_written = refl

line_broken : words_on_lines 76 (codes "e4" ∷ codes "e5" ∷ []) ≡ codes " e4" ++ 10 ∷ codes "e5" ++ 10 ∷ 10 ∷ []
unfolding words_on_lines
line_broken = refl

-- a game that can be written, of one move from the position of a new game
abbrev one_step : Move
one_step = record { from = 12; to = 20; promotion = None }

abbrev stepped : GameScore
stepped = record {
  tags = record { name = codes "Event"; value = codes "a" ++ 34 ∷ 92 ∷ [] } ∷ [];
  start = usual;
  moves = one_step ∷ [];
  result = Draw;
}

no_check : is_in_check (men_after usual one_step Advance) White ≡ false
unfolding is_in_check is_attacked is_ray some_below
no_check = refl

step_legal : CheckIsComputed → Legal usual one_step (after usual one_step Advance)
unfolding after
step_legal computed = record {
  case = Advance;
  from_board = lit< tt;
  to_board = lit< tt;
  rule = record { stands = refl; ahead = (refl, refl); empty = refl; promotes = (λ _ h. absurd (omega (arith, h)), λ k h. absurd (cc)) };
  becomes = refl;
  safe = λ check. absurd (false≢true (sym no_check ∙ (computed (men_after usual one_step Advance) White).1 check));
}

other_byte : (b : ℕ) → (b == 10) ≡ false → b ≢ 10
other_byte b h e = absurd (grind (arith, nat_tests))

stepped_is_writable : CheckIsComputed → IsWritable stepped
unfolding escaped_value
stepped_is_writable computed = record {
  tags = (record { name = ((refl, (refl, (refl, (refl, (refl, tt))))), lit< tt); value = (other_byte 97 refl, (other_byte 34 refl, (other_byte 92 refl, tt))); short = lit≤ tt }, tt);
  usual = usual;
  is_usual = is_usual_start usual usual_spelled (usual_position computed);
  start = (usual, refl, refl);
  position = usual_position computed;
  moves = (after usual one_step Advance, (after usual one_step Advance, step_legal computed, refl));
  few = lit≤ tt;
  ended = λ e. absurd (cc);
}
