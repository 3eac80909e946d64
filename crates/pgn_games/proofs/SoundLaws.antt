-- A game that is told is one of chess.
use Rattle.std.proofs.Common.{◌≡◌, ◌∙◌, ℕ, zero, suc, ◌<◌, ◌≤◌, ◌++◌, Bool, true, false, List, [], ◌∷◌, length, Option, Some, None, Result, Ok, Err, refl, sym, ap, subst, arith, length-append, lit≤}
use Rattle.std.specs.Prelude.{nat_lt, MatchOption}
use Rattle.std.proofs.lemmas.Bool.{ltb-true}
use Rattle.pgn_games.specs.declared.game.GameResult.{GameResult}
use Rattle.board_core.specs.declared.parts.Parts.{Parts}
use Rattle.board_core.specs.declared.moves.Move.{Move}
use Rattle.board_core.specs.Moves.{Legal}
use Rattle.fen_text.specs.Written.{fen_of}
use Rattle.pgn_games.specs.declared.fault.Cause.{Cause}
use Rattle.pgn_games.specs.declared.fault.GameFault.{GameFault}
use Rattle.pgn_games.specs.declared.phase.Phase.{Phase}
use Rattle.pgn_games.specs.declared.phase.Phase.TheVariants.{Tags, Moves, Over}
use Rattle.pgn_games.specs.declared.tags.TagName.{TagName}
use Rattle.pgn_games.specs.declared.tags.TagName.TheVariants as name
use Rattle.pgn_games.specs.Tags.{TagPair, tag_by_name, tag_value}
use Rattle.pgn_games.specs.Lexemes.{Telling, Tag, MoveText, Begins, Ends, Told, Stray, Endless, TooLong}
use Rattle.pgn_games.specs.Tokens.{Token, token}
use Rattle.pgn_games.specs.Games.{Course, ClosesVariation, GameRead, GameTold, SetsTag, TakesToken, TakesIfMain, TakesMove, TakesTag, ReadsTokens, phase_after_token, depth_of, fault_of, no_course, of_game, over_at, passed, course_after_token, told_at, reading_unless_fault, told_in, usual_start}
use Rattle.pgn_games.proofs.GameLaws.{taken_phase}
use Rattle.pgn_games.specs.Laws.{BeginsAt, GamesAreOfChess, IsChessGame, PlaysInTurn}
use Rattle.pgn_games.proofs.StartLaws.{usual_spelled_so}

-- what holds of a game so far
record IsSound (c : Course) : Type 0 where
  start : BeginsAt c.tags.fen c.start
  moves : PlaysInTurn c.start c.moves c.position
  few : length c.moves ≤ 4096
  before : c.phase ≡ Tags → c.moves ≡ []

-- what a token leaves, but for where the game has come
record IsSoundFrom (c d : Course) : Type 0 where
  start : BeginsAt d.tags.fen d.start
  moves : PlaysInTurn d.start d.moves d.position
  few : length d.moves ≤ 4096
  before : c.phase ≡ Tags → d.moves ≡ []

one_more_move : (p q r : Parts) (moves : List Move) (m : Move) → PlaysInTurn p moves q → Legal q m r → PlaysInTurn p (moves ++ m ∷ []) r
one_more_move p q r [] m h legal = (r, subst (λ (x : Parts). Legal x m r) h legal, refl)
one_more_move p q r (n ∷ moves) m h legal = (h.0, h.1, one_more_move h.0 q r moves m h.2 legal)

kept : (c : Course) → IsSound c → IsSoundFrom c c
kept c h = record { start = h.start; moves = h.moves; few = h.few; before = h.before }

kept_as : (c d : Course) → IsSound c → d ≡ c → IsSoundFrom c d
kept_as c d h e = subst (IsSoundFrom c) (sym e) (kept c h)

ok_is : (c d : Course) → ◌≡◌ {A = Result Course Cause} (Ok d) (Ok c) → d ≡ c
ok_is c d e = cc

not_err : (c d : Course) (cause : Cause) → ◌≡◌ {A = Result Course Cause} (Ok d) (Err cause) → IsSoundFrom c d
not_err c d cause e = absurd (cc)

other_tag : (c d e : Course) → IsSound c → ◌≡◌ {A = Result Course Cause} (Ok d) (Ok e) → e.tags.fen ≡ c.tags.fen → e.start ≡ c.start → e.position ≡ c.position → e.moves ≡ c.moves → IsSoundFrom c d
other_tag c d e h is fen start position moves =
    subst (IsSoundFrom c) (sym (ok_is e d is)) (record {
      start = subst (λ (f : Option (List ℕ)). BeginsAt f e.start) (sym fen) (subst (BeginsAt c.tags.fen) (sym start) h.start);
      moves = subst (λ (p : Parts). PlaysInTurn p e.moves e.position) (sym start) (subst (λ (p : Parts). PlaysInTurn c.start e.moves p) (sym position) (subst (λ (l : List Move). PlaysInTurn c.start l c.position) (sym moves) h.moves));
      few = subst (λ (l : List Move). length l ≤ 4096) (sym moves) h.few;
      before = λ tags. moves ∙ h.before tags;
    })

tag_set : (c d : Course) (value : List ℕ) (n : Option TagName) → IsSound c → c.phase ≡ Tags → SetsTag c value n (Ok d) → IsSoundFrom c d
tag_set c d value None h tags e = kept_as c d h (ok_is c d e)
tag_set c d value (Some name.Event) h tags e = other_tag c d _ h e refl refl refl refl
tag_set c d value (Some name.White) h tags e = other_tag c d _ h e refl refl refl refl
tag_set c d value (Some name.Black) h tags e = other_tag c d _ h e refl refl refl refl
tag_set c d value (Some name.Round) h tags e = other_tag c d _ h e refl refl refl refl
tag_set c d value (Some name.Result) h tags e = other_tag c d _ h e refl refl refl refl
tag_set c d value (Some name.Fen) h tags e =
    subst (IsSoundFrom c) (sym e.3) (record {
      start = e.1;
      moves = subst (λ (l : List Move). PlaysInTurn e.0 l e.0) (sym (h.before tags)) refl;
      few = h.few;
      before = h.before;
    })

pair_set : (phase : Phase) (c d : Course) (pair : Option TagPair) → IsSound c → c.phase ≡ phase → TakesTag c phase pair (Ok d) → IsSoundFrom c d
pair_set Tags c d None h is e = not_err c d _ e
pair_set Tags c d (Some pair) h is e = tag_set c d (tag_value pair.quoted) (tag_by_name pair.name) h is e
pair_set (Moves depth) c d pair h is e = not_err c d _ e
pair_set Over c d pair h is e = not_err c d _ e

if_main : (depth : ℕ) (c d : Course) (IsTaken : Type 0) → IsSound c → TakesIfMain depth c (Ok d) IsTaken → (IsTaken → IsSoundFrom c d) → IsSoundFrom c d
if_main zero c d IsTaken h e course_after_token = course_after_token e
if_main (suc depth) c d IsTaken h e course_after_token = kept_as c d h (ok_is c d e)

closed : (depth : ℕ) (c d : Course) → IsSound c → ClosesVariation depth c (Ok d) → IsSoundFrom c d
closed zero c d h e = not_err c d _ e
closed (suc depth) c d h e = kept_as c d h (ok_is c d e)

-- a course whose phase is another one
record IsPlayed (d : Course) : Type 0 where
  start : BeginsAt d.tags.fen d.start
  moves : PlaysInTurn d.start d.moves d.position
  few : length d.moves ≤ 4096

move_played : (c d : Course) (text : List ℕ) (few : Bool) → IsSound c → few ≡ nat_lt (length c.moves) 4096 → TakesMove c text few (Ok d) → IsPlayed d
move_played c d text true h few e =
    let below : length c.moves < 4096 = ltb-true (length c.moves) 4096 (sym few) in
    subst IsPlayed (sym e.2.2) (record {
      start = h.start;
      moves = one_more_move c.start c.position e.2.0 c.moves e.0 h.moves e.2.1;
      few = omega (arith, length-append c.moves (e.0 ∷ []));
    })
move_played c d text false h few e = absurd (cc)

result_over : (depth : ℕ) (p : Phase) → over_at depth ≡ Tags → p ≡ Tags
result_over zero p e = absurd (cc)
result_over (suc depth) p e = absurd (cc)

-- no movetext came before a phase of tags
tags_before : (p : Phase) (told : Telling) → phase_after_token p told ≡ Tags → p ≡ Tags
tags_before p (Tag first pair) e = e
tags_before p (MoveText text) e = absurd (cc)
tags_before p Begins e = absurd (cc)
tags_before p Ends e = absurd (cc)
tags_before p (Told result) e = result_over (depth_of p) p e
tags_before p Stray e = e
tags_before p Endless e = e
tags_before p TooLong e = e

sound_passed : (c d : Course) (t : Token) → IsSoundFrom c d → d.phase ≡ c.phase → IsSound (passed d t)
sound_passed c d t h same = record {
  start = h.start;
  moves = h.moves;
  few = h.few;
  before = λ tags. h.before (sym same ∙ tags_before d.phase t.is tags);
}

move_ok : (depth : ℕ) (c d : Course) (line : ℕ) (text : List ℕ) → IsSound c → TakesIfMain depth c (Ok d) (TakesMove c text (nat_lt (length c.moves) 4096) (Ok d)) → IsSound (passed d (token line (MoveText text)))
move_ok zero c d line text h e =
    let p = move_played c d text (nat_lt (length c.moves) 4096) h refl e in
    record { start = p.start; moves = p.moves; few = p.few; before = λ tags. absurd (cc) }
move_ok (suc depth) c d line text h e =
    sound_passed c d (token line (MoveText text)) (kept_as c d h (ok_is c d e)) (ap (λ (x : Course). x.phase) (ok_is c d e))

result_set : (c d : Course) (result : GameResult) → IsSound c → ◌≡◌ {A = Result Course Cause} (Ok d) (Ok (record c { result = result })) → IsSoundFrom c d
result_set c d result h e = other_tag c d _ h e refl refl refl refl

sound_ok : (c d : Course) (line : ℕ) (told : Telling) → IsSound c → TakesToken c told (Ok d) → IsSound (passed d (token line told))
sound_ok c d line (Tag first pair) h e =
    sound_passed c d (token line (Tag first pair)) (pair_set c.phase c d pair h refl e) (taken_phase c d (Tag first pair) e)
sound_ok c d line (MoveText text) h e = move_ok (depth_of c.phase) c d line text h e
sound_ok c d line Begins h e =
    sound_passed c d (token line Begins) (kept_as c d h (ok_is c d e)) (taken_phase c d Begins e)
sound_ok c d line Ends h e =
    sound_passed c d (token line Ends) (closed (depth_of c.phase) c d h e) (taken_phase c d Ends e)
sound_ok c d line (Told result) h e =
    sound_passed c d (token line (Told result)) (if_main (depth_of c.phase) c d _ h e (result_set c d result h)) (taken_phase c d (Told result) e)
sound_ok c d line Stray h e =
    sound_passed c d (token line Stray) (if_main (depth_of c.phase) c d _ h e (not_err c d _)) (taken_phase c d Stray e)
sound_ok c d line Endless h e =
    sound_passed c d (token line Endless) (not_err c d _ e) (taken_phase c d Endless e)
sound_ok c d line TooLong h e =
    sound_passed c d (token line TooLong) (not_err c d _ e) (taken_phase c d TooLong e)

sound_taken : (c : Course) (line : ℕ) (told : Telling) (r : Result Course Cause) → IsSound c → TakesToken c told r → IsSound (passed (course_after_token c line r) (token line told))
sound_taken c line told (Ok d) h e = sound_ok c d line told h e
sound_taken c line told (Err cause) h e =
    sound_passed c (record c { fault = Some (fault_of c line cause) }) (token line told) (record { start = h.start; moves = h.moves; few = h.few; before = h.before }) refl

sound_at : (fault : Option GameFault) (c d : Course) (t : Token) → IsSound c → MatchOption fault ((r : Result Course Cause) × TakesToken c t.is r × (d ≡ passed (course_after_token c t.line r) t)) (λ f. d ≡ passed c t) → IsSound d
sound_at None c d t h e = subst IsSound (sym e.2) (sound_taken c t.line t.is e.0 h e.1)
sound_at (Some f) c d t h e = subst IsSound (sym e) (sound_passed c c t (kept c h) refl)

game_in : (depth line : ℕ) (c : Course) (g : GameTold) → IsSound c → GameRead g ≡ told_in depth line c → IsChessGame g
game_in zero line c g h e =
    let told : GameTold = record { line = line; tags = c.tags; start = c.start; moves = c.moves; result = c.result } in
    let same : g ≡ told = cc in
    subst IsChessGame (sym same) (record { start = h.start; moves = (c.position, h.moves); few = h.few })
game_in (suc depth) line c g h e = absurd (cc)

game_by : (fault : Option GameFault) (line : ℕ) (c : Course) (g : GameTold) → IsSound c → GameRead g ≡ reading_unless_fault fault line c → IsChessGame g
game_by None line c g h e = game_in (depth_of c.phase) line c g h e
game_by (Some fault) line c g h e = absurd (cc)

game_at : (line : Option ℕ) (c : Course) (g : GameTold) → IsSound c → Some (GameRead g) ≡ told_at line c → IsChessGame g
game_at None c g h e = absurd (cc)
game_at (Some line) c g h e = let same : GameRead g ≡ reading_unless_fault c.fault line c = cc in game_by c.fault line c g h same

game_told : (c : Course) (ts : List Token) (g : GameTold) → IsSound c → ReadsTokens c ts (Some (GameRead g)) → IsChessGame g
unfolding ReadsTokens
game_told c [] g h e = game_at c.line c g h e
game_told c (t ∷ ts) g h e = game_told e.0 ts g (sound_at c.fault c e.0 t h e.1) e.2

first_sound : (usual : Parts) → usual_start ≡ fen_of usual → IsSound (no_course usual)
first_sound usual spelled = record { start = spelled; moves = refl; few = lit≤ tt; before = λ tags. refl }

pub games_are_of_chess : GamesAreOfChess
games_are_of_chess tokens behind game h =
    game_told (no_course h.usual) (of_game Tags tokens) game (first_sound h.usual (usual_spelled_so h.usual h.is_usual)) h.tells
