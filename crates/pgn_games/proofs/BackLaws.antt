-- A game is read from the tokens of its moves and its result.
use Rattle.std.proofs.Common.{◌≡◌, ℕ, ◌+◌, ◌<◌, ◌≤◌, ◌++◌, List, [], ◌∷◌, length, Option, Some, None, Ok, refl, sym, ap, subst, arith, append_assoc, append-nil, length-append, lit<}
use Rattle.board_core.specs.declared.parts.Parts.{Parts}
use Rattle.board_core.specs.declared.moves.Move.{Move}
use Rattle.pgn_games.specs.declared.game.GameResult.{GameResult}
use Rattle.pgn_games.specs.declared.game.GameResult.TheVariants.{Missing}
use Rattle.pgn_games.specs.declared.phase.Phase.{Phase}
use Rattle.pgn_games.specs.declared.phase.Phase.TheVariants.{Tags, Moves, Over}
use Rattle.pgn_games.specs.Tags.{no_tags}
use Rattle.pgn_games.specs.Lexemes.{MoveText, Told}
use Rattle.pgn_games.specs.Tokens.{Token, token}
use Rattle.pgn_games.specs.Games.{Course, GameRead, ReadingTold, ReadsTokens, behind_game, no_course, of_game}
use Rattle.pgn_games.specs.Laws.{MovesAreReadBack, ReadsInTurn, movetext}
use Rattle.pgn_games.proofs.CourseLaws.{move_read}
use Rattle.pgn_games.proofs.StartLaws.{is_usual_start}

pub none_behind : (ts : List Token) → of_game Over ts ≡ []
unfolding of_game
none_behind [] = refl
none_behind (t ∷ ts) = refl

pub all_behind : (ts : List Token) → behind_game Over ts ≡ ts
unfolding behind_game
all_behind [] = refl
all_behind (t ∷ ts) = refl

of_moves : (line : ℕ) (texts : List (List ℕ)) (result : GameResult) (behind : List Token) → of_game (Moves 0) (movetext line texts (token line (Told result) ∷ behind)) ≡ movetext line texts (token line (Told result) ∷ [])
unfolding of_game
of_moves line [] result behind = ap (λ (ts : List Token). token line (Told result) ∷ ts) (none_behind behind)
of_moves line (text ∷ texts) result behind =
    ap (λ (ts : List Token). token line (MoveText text) ∷ ts) (of_moves line texts result behind)

behind_moves : (line : ℕ) (texts : List (List ℕ)) (result : GameResult) (behind : List Token) → behind_game (Moves 0) (movetext line texts (token line (Told result) ∷ behind)) ≡ behind
unfolding behind_game
behind_moves line [] result behind = all_behind behind
behind_moves line (text ∷ texts) result behind = behind_moves line texts result behind

of_first : (line : ℕ) (texts : List (List ℕ)) (result : GameResult) (behind : List Token) → of_game Tags (movetext line texts (token line (Told result) ∷ behind)) ≡ movetext line texts (token line (Told result) ∷ [])
unfolding of_game
of_first line [] result behind = ap (λ (ts : List Token). token line (Told result) ∷ ts) (none_behind behind)
of_first line (text ∷ texts) result behind =
    ap (λ (ts : List Token). token line (MoveText text) ∷ ts) (of_moves line texts result behind)

behind_first : (line : ℕ) (texts : List (List ℕ)) (result : GameResult) (behind : List Token) → behind_game Tags (movetext line texts (token line (Told result) ∷ behind)) ≡ behind
unfolding behind_game
behind_first line [] result behind = all_behind behind
behind_first line (text ∷ texts) result behind = behind_moves line texts result behind

-- a game after some moves, without tags and without a fault
abbrev at_moves : Option ℕ → ℕ → Parts → Parts → List Move → Phase → Course
at_moves line last start position moves phase = record {
  line = line;
  last = last;
  tags = no_tags;
  start = start;
  position = position;
  moves = moves;
  phase = phase;
  result = Missing;
  fault = None;
}

abbrev read_as : ℕ → Parts → List Move → GameResult → Option ReadingTold
read_as line start moves result =
    Some (GameRead (record { line = line; tags = no_tags; start = start; moves = moves; result = result }))

tells_end : (line last : ℕ) (start position : Parts) (moves : List Move) (result : GameResult) → ReadsTokens (at_moves (Some line) last start position moves (Moves 0)) (token line (Told result) ∷ []) (read_as line start moves result)
unfolding ReadsTokens
tells_end line last start position moves result = (_, (Ok _, refl, refl), refl)

tells_at_once : (line last : ℕ) (start position : Parts) (result : GameResult) → ReadsTokens (at_moves None last start position [] Tags) (token line (Told result) ∷ []) (read_as line start [] result)
unfolding ReadsTokens
tells_at_once line last start position result = (_, (Ok _, refl, refl), refl)

tells_moves : (line last : ℕ) (start position : Parts) (before moves : List Move) (texts : List (List ℕ)) (result : GameResult) → ReadsInTurn position texts moves → length before + length moves ≤ 4096 → ReadsTokens (at_moves (Some line) last start position before (Moves 0)) (movetext line texts (token line (Told result) ∷ [])) (read_as line start (before ++ moves) result)
unfolding ReadsTokens
tells_moves line last start position before [] [] result h few =
    subst (λ (l : List Move). ReadsTokens (at_moves (Some line) last start position before (Moves 0)) (token line (Told result) ∷ []) (read_as line start l result)) (sym (append-nil before)) (tells_end line last start position before result)
tells_moves line last start position before (m ∷ moves) [] result h few = absurd h
tells_moves line last start position before [] (text ∷ texts) result h few = absurd h
tells_moves line last start position before (m ∷ moves) (text ∷ texts) result h few =
    let now = at_moves (Some line) last start position before (Moves 0) in
    let below : length before < 4096 = omega arith in
    let fits : length (before ++ m ∷ []) + length moves ≤ 4096 = omega (arith, length-append before (m ∷ [])) in
    let rest = tells_moves line line start h.0 (before ++ m ∷ []) moves texts result h.3 fits in
    (at_moves (Some line) line start h.0 (before ++ m ∷ []) (Moves 0), (Ok (at_moves (Some line) last start h.0 (before ++ m ∷ []) (Moves 0)), move_read now text (length before) (Ok (at_moves (Some line) last start h.0 (before ++ m ∷ []) (Moves 0))) below (m, h.1, (h.0, h.2, refl)), refl), subst (λ (l : List Move). ReadsTokens (at_moves (Some line) line start h.0 (before ++ m ∷ []) (Moves 0)) (movetext line texts (token line (Told result) ∷ [])) (read_as line start l result)) (append_assoc before (m ∷ []) moves) rest)

tells_all : (line : ℕ) (usual : Parts) (moves : List Move) (texts : List (List ℕ)) (result : GameResult) → ReadsInTurn usual texts moves → length moves ≤ 4096 → ReadsTokens (no_course usual) (movetext line texts (token line (Told result) ∷ [])) (read_as line usual moves result)
unfolding ReadsTokens
tells_all line usual [] [] result h few = tells_at_once line 0 usual usual result
tells_all line usual (m ∷ moves) [] result h few = absurd h
tells_all line usual [] (text ∷ texts) result h few = absurd h
tells_all line usual (m ∷ moves) (text ∷ texts) result h few =
    let below : 0 < 4096 = lit< tt in
    let fits : 1 + length moves ≤ 4096 = omega arith in
    (at_moves (Some line) line usual h.0 (m ∷ []) (Moves 0), (Ok (at_moves None 0 usual h.0 (m ∷ []) Tags), move_read (no_course usual) text 0 (Ok (at_moves None 0 usual h.0 (m ∷ []) Tags)) below (m, h.1, (h.0, h.2, refl)), refl), tells_moves line line usual h.0 (m ∷ []) moves texts result h.3 fits)

pub moves_are_read_back : MovesAreReadBack
moves_are_read_back usual line texts moves result behind spelled position h few = record {
  usual = usual;
  is_usual = is_usual_start usual spelled position;
  tells = subst (λ (ts : List Token). ReadsTokens (no_course usual) ts (read_as line usual moves result)) (sym (of_first line texts result behind)) (tells_all line usual moves texts result h few);
  rest = sym (behind_first line texts result behind);
}
