-- The games of scores are read from their bytes.
use Rattle.std.proofs.Common.{◌≡◌, ◌≢◌, ◌∙◌, ℕ, ◌+◌, ◌<◌, ◌≤◌, ◌++◌, ◌⊎◌, Bool, true, false, List, [], ◌∷◌, Option, Some, None, Ok, length, take, refl, sym, ap, subst, arith, inl, inr, append_assoc, append-nil, length-append}
use Rattle.std.specs.Prelude.{unwrap_or}
use Rattle.std.specs.List.{AllByRecursion, AllZip}
use Rattle.board_core.specs.declared.parts.Parts.{Parts}
use Rattle.board_core.specs.declared.moves.Move.{Move}
use Rattle.board_core.specs.Moves.{Legal}
use Rattle.pgn_games.specs.declared.game.GameResult.{GameResult}
use Rattle.pgn_games.specs.declared.game.GameResult.TheVariants.{Missing}
use Rattle.pgn_games.specs.declared.phase.Phase.{Phase}
use Rattle.pgn_games.specs.declared.phase.Phase.TheVariants.{Tags, Moves, Over}
use Rattle.pgn_games.specs.declared.tags.TagName.{TagName}
use Rattle.pgn_games.specs.declared.tags.TagName.TheVariants as name
use Rattle.pgn_games.specs.Bytes.{is_digit}
use Rattle.pgn_games.specs.Tags.{TagPair, TagTexts, tag_by_name, no_tags, tag_value, with_tag}
use Rattle.pgn_games.specs.Lexemes.{MoveText, Tag, Telling, Told}
use Rattle.pgn_games.specs.Tokens.{Token, token, token_if, tokens_from}
use Rattle.pgn_games.specs.Games.{IsUsualStart, Course, PassesToken, ReadingTold, ReadsGame, ReadsGamesInTurn, SetsTag, ReadsTokens, behind_game, goes_on, no_course, of_game, reading_at_end}
use Rattle.pgn_games.specs.Laws.{OneListIsSpelled}
use Rattle.pgn_games.specs.Scores.{AreScoresRead, EachByte, GameScore, LeadsToStart, OnlyScoresAreRead, PartsTokens, ScoreTag, ScoresAreReadBack, SpellsMoveNumber, SpellsMovetext, SpellsScore, SpellsSymbol, SpellsTagPair, SpellsTags, TagsLeadToStart, escaped_value, is_score_symbol, is_white, joined_texts, kept_value, line_behind, result_text, score_read, values_kept, with_value}
use Rattle.pgn_games.specs.Inside.Steps.{Continues}
use Rattle.pgn_games.proofs.BackLaws.{all_behind, none_behind}
use Rattle.pgn_games.proofs.CourseLaws.{move_read}
use Rattle.pgn_games.proofs.GameLaws.{continues_one, continues_same, continues_then}
use Rattle.pgn_games.proofs.TokenLaws.{none_left}
use Rattle.pgn_games.proofs.ScoreBytes.{Calm, calm_append, calm_by, calm_nil, tokens_begin}
use Rattle.pgn_games.proofs.ScoreTokens.{IsOnLine, escaped_well, first_behind, is_parting, line_append, line_kept, number_passed, on_line_by, pair_calm, pair_line, pair_passed, parting_stops, parting_white, periods_part, result_calm, result_on_line, result_passed, score_symbol_passed, white_passed}
use Rattle.pgn_games.proofs.ScoreMoves.{move_symbol}

-- a game after some tags and moves, without a fault and without a result
abbrev scored : Option ℕ → ℕ → TagTexts → Parts → Parts → List Move → Phase → Course
scored line last tags start position moves phase = record {
  line = line;
  last = last;
  tags = tags;
  start = start;
  position = position;
  moves = moves;
  phase = phase;
  result = Missing;
  fault = None;
}

-- ---- tags

tag_set : (o : Option TagName) (value : List ℕ) (line : Option ℕ) (last : ℕ) (kept : TagTexts) (p q : Parts) → LeadsToStart o value p q → SetsTag (scored line last kept p p [] Tags) value o (Ok (scored line last (with_value o value kept) q q [] Tags))
tag_set None value line last kept p q h = ap (λ (x : Parts). Ok (scored line last kept x x [] Tags)) h
tag_set (Some name.Fen) value line last kept p q h = (q, h.0, h.1, refl)
tag_set (Some name.Event) value line last kept p q h = ap (λ (x : Parts). Ok (scored line last (with_tag name.Event value kept) x x [] Tags)) h
tag_set (Some name.White) value line last kept p q h = ap (λ (x : Parts). Ok (scored line last (with_tag name.White value kept) x x [] Tags)) h
tag_set (Some name.Black) value line last kept p q h = ap (λ (x : Parts). Ok (scored line last (with_tag name.Black value kept) x x [] Tags)) h
tag_set (Some name.Round) value line last kept p q h = ap (λ (x : Parts). Ok (scored line last (with_tag name.Round value kept) x x [] Tags)) h
tag_set (Some name.Result) value line last kept p q h = ap (λ (x : Parts). Ok (scored line last (with_tag name.Result value kept) x x [] Tags)) h

abbrev pair_of_tag : ScoreTag → TagPair
pair_of_tag tag = record { name = tag.name; quoted = escaped_value tag.value }

tag_takes : (tag : ScoreTag) (line : Option ℕ) (last n : ℕ) (f : Bool) (kept : TagTexts) (p q : Parts) → tag_value (escaped_value tag.value) ≡ kept_value tag → LeadsToStart (tag_by_name tag.name) (kept_value tag) p q → PassesToken (scored line last kept p p [] Tags) (token n (Tag f (Some (pair_of_tag tag)))) (scored (Some (unwrap_or line n)) n (with_value (tag_by_name tag.name) (kept_value tag) kept) q q [] Tags)
tag_takes tag line last n f kept p q value h =
    let d = scored line last (with_value (tag_by_name tag.name) (kept_value tag) kept) q q [] Tags in
    (Ok d, subst (λ (v : List ℕ). SetsTag (scored line last kept p p [] Tags) v (tag_by_name tag.name) (Ok d)) (sym value) (tag_set (tag_by_name tag.name) (kept_value tag) line last kept p q h), refl)

-- ---- what goes on over bytes

-- the movetext has begun, or not
abbrev main : Bool → Phase
main false = Tags
main true = Moves 0

-- the line of the first token stays
abbrev Keeps : Option ℕ → Option ℕ → Type 0
Keeps old new = (x : ℕ) → old ≡ Some x → new ≡ Some x

keeps_first : (line new : Option ℕ) (n : ℕ) → Keeps (Some (unwrap_or line n)) new → Keeps line new
keeps_first line new n h x is = h x (ap (λ (l : Option ℕ). Some (unwrap_or l n)) is)

-- a game goes on over bytes of its tags or of its movetext
pub record GoesOver (c : Course) (n : ℕ) (f : Bool) (bytes more : List ℕ) (d : Option ℕ → ℕ → Bool → Course) : Type 0 where
  line_then : Option ℕ
  last_then : ℕ
  first_then : Bool
  main_then : Bool
  keeps : Keeps c.line line_then
  goes : Continues c (tokens_from 0 n f (bytes ++ more)) (d line_then last_then main_then) (tokens_from 0 (line_behind n bytes) first_then more)

same_tokens : (c d : Course) (ts ts' us us' : List Token) → ts' ≡ ts → us ≡ us' → Continues c ts d us → Continues c ts' d us'
same_tokens c d ts ts' us us' e g h =
    subst (λ (l : List Token). Continues c l d us') (sym e) (subst (Continues c ts d) g h)

-- over no bytes
no_bytes : (bytes more : List ℕ) (n : ℕ) (f : Bool) → bytes ≡ [] → tokens_from 0 n f (bytes ++ more) ≡ tokens_from 0 (line_behind n bytes) f more
no_bytes bytes more n f e =
    ap (λ (b : List ℕ). tokens_from 0 n f (b ++ more)) e ∙ ap (λ (b : List ℕ). tokens_from 0 (line_behind n b) f more) (sym e)

abbrev after_tags : TagTexts → Parts → Option ℕ → ℕ → Bool → Course
after_tags kept start line last begun = scored line last kept start start [] Tags

no_tags_go : (bytes more : List ℕ) (n : ℕ) (f : Bool) (line : Option ℕ) (last : ℕ) (kept : TagTexts) (p q : Parts) → bytes ≡ [] → q ≡ p → GoesOver (scored line last kept p p [] Tags) n f bytes more (after_tags kept q)
no_tags_go bytes more n f line last kept p q none same =
    let c = scored line last kept p p [] Tags in
    let ts = tokens_from 0 n f (bytes ++ more) in
    let us = tokens_from 0 (line_behind n bytes) f more in
    record {
      line_then = line;
      last_then = last;
      first_then = f;
      main_then = false;
      keeps = λ x e. e;
      goes = subst (λ (x : Parts). Continues c ts (scored line last kept x x [] Tags) us) (sym same) (continues_same c ts us (no_bytes bytes more n f none));
    }

tag_goes : (pair white rest bytes more : List ℕ) (tag : ScoreTag) (n : ℕ) (f : Bool) (line : Option ℕ) (last : ℕ) (kept : TagTexts) (p q start : Parts) (after : TagTexts) → SpellsTagPair pair tag → EachByte is_white white → bytes ≡ pair ++ (white ++ rest) → LeadsToStart (tag_by_name tag.name) (kept_value tag) p q → GoesOver (scored (Some (unwrap_or line n)) n (with_value (tag_by_name tag.name) (kept_value tag) kept) q q [] Tags) (line_behind n white) (first_behind false white) rest more (after_tags after start) → GoesOver (scored line last kept p p [] Tags) n f bytes more (after_tags after start)
tag_goes pair white rest bytes more tag n f line last kept p q start after spells white_is text leads w =
    let c = scored line last kept p p [] Tags in
    let d = scored (Some (unwrap_or line n)) n (with_value (tag_by_name tag.name) (kept_value tag) kept) q q [] Tags in
    let e = scored w.line_then w.last_then after start start [] Tags in
    let t = token n (Tag f (Some (pair_of_tag tag))) in
    let us = tokens_from 0 (line_behind n white) (first_behind false white) (rest ++ more) in
    let value : tag_value (escaped_value tag.value) ≡ kept_value tag = ap (take 255) (escaped_well tag.value spells.value).says in
    let begin : tokens_from 0 n f (bytes ++ more) ≡ t ∷ us =
    ap (λ (b : List ℕ). tokens_from 0 n f (b ++ more)) text
    ∙ ap (tokens_from 0 n f) (append_assoc pair (white ++ rest) more ∙ ap (λ (u : List ℕ). pair ++ u) (append_assoc white rest more))
    ∙ pair_passed pair (white ++ (rest ++ more)) tag n f spells
    ∙ ap (λ (ts : List Token). t ∷ ts) (white_passed white (rest ++ more) n false white_is) in
    let line_is : line_behind (line_behind n white) rest ≡ line_behind n bytes =
    sym (ap (line_behind n) text ∙ line_append pair (white ++ rest) n ∙ ap (λ (k : ℕ). line_behind k (white ++ rest)) (pair_line pair tag n spells) ∙ line_append white rest n) in
    record {
      line_then = w.line_then;
      last_then = w.last_then;
      first_then = w.first_then;
      main_then = false;
      keeps = keeps_first line w.line_then n w.keeps;
      goes = same_tokens c e (t ∷ us) (tokens_from 0 n f (bytes ++ more)) (tokens_from 0 (line_behind (line_behind n white) rest) w.first_then more) (tokens_from 0 (line_behind n bytes) w.first_then more) begin (ap (λ (k : ℕ). tokens_from 0 k w.first_then more) line_is) (continues_then c d e (t ∷ us) us _ (continues_one c d t us (tag_takes tag line last n f kept p q value leads) refl) w.goes);
    }

tags_go_on : (tags : List ScoreTag) (bytes more : List ℕ) (n : ℕ) (f : Bool) (line : Option ℕ) (last : ℕ) (kept : TagTexts) (p q : Parts) → SpellsTags tags bytes → TagsLeadToStart tags p q → GoesOver (scored line last kept p p [] Tags) n f bytes more (after_tags (values_kept kept tags) q)
tags_go_on [] bytes more n f line last kept p q h same = no_tags_go bytes more n f line last kept p q h same
tags_go_on (tag ∷ tags) bytes more n f line last kept p q h leads =
    tag_goes h.0 h.1 h.2 bytes more tag n f line last kept p leads.0 q (values_kept kept (tag ∷ tags)) h.3 h.4 h.6 leads.1 (tags_go_on tags h.2 more (line_behind n h.1) (first_behind false h.1) (Some (unwrap_or line n)) n (with_value (tag_by_name tag.name) (kept_value tag) kept) leads.0 q h.5 leads.2)

-- the tags of a game, on whose first line stands the first of them
pub record TagsGo (tags : List ScoreTag) (bytes more : List ℕ) (n : ℕ) (f : Bool) (p q : Parts) : Type 0 where
  pub goes : GoesOver (no_course p) n f bytes more (after_tags (values_kept no_tags tags) q)
  pub at_tag : tags ≢ [] → goes.line_then ≡ Some n

pub tags_go : (tags : List ScoreTag) (bytes more : List ℕ) (n : ℕ) (f : Bool) (p q : Parts) → SpellsTags tags bytes → TagsLeadToStart tags p q → TagsGo tags bytes more n f p q
unfolding tag_goes
tags_go [] bytes more n f p q h leads =
    record { goes = tags_go_on [] bytes more n f None 0 no_tags p q h leads; at_tag = λ some. absurd (some refl) }
tags_go (tag ∷ tags) bytes more n f p q h leads =
    let rest = tags_go_on tags h.2 more (line_behind n h.1) (first_behind false h.1) (Some n) n (with_value (tag_by_name tag.name) (kept_value tag) no_tags) leads.0 q h.5 leads.2 in
    record {
      goes = tag_goes h.0 h.1 h.2 bytes more tag n f None 0 no_tags p leads.0 q (values_kept no_tags (tag ∷ tags)) h.3 h.4 h.6 leads.1 rest;
      at_tag = λ some. rest.keeps n refl;
    }

-- ---- moves

pub move_takes : (begun : Bool) (line : Option ℕ) (last n : ℕ) (kept : TagTexts) (start p q : Parts) (before : List Move) (m : Move) (text : List ℕ) → SpellsSymbol p m text → Legal p m q → length before < 4096 → PassesToken (scored line last kept start p before (main begun)) (token n (MoveText text)) (scored (Some (unwrap_or line n)) n kept start q (before ++ m ∷ []) (Moves 0))
move_takes false line last n kept start p q before m text spells legal few =
    let d = scored line last kept start q (before ++ m ∷ []) Tags in
    (Ok d, move_read (scored line last kept start p before Tags) text (length before) (Ok d) few (m, spells.read, (q, legal, refl)), refl)
move_takes true line last n kept start p q before m text spells legal few =
    let d = scored line last kept start q (before ++ m ∷ []) (Moves 0) in
    (Ok d, move_read (scored line last kept start p before (Moves 0)) text (length before) (Ok d) few (m, spells.read, (q, legal, refl)), refl)

move_is_on : (begun : Bool) (text : List ℕ) → goes_on (main begun) (MoveText text) ≡ true
move_is_on false text = refl
move_is_on true text = refl

abbrev after_moves : TagTexts → Parts → Parts → List Move → Option ℕ → ℕ → Bool → Course
after_moves kept start position moves line last begun = scored line last kept start position moves (main begun)

no_moves_go : (bytes more : List ℕ) (n : ℕ) (f : Bool) (begun : Bool) (line : Option ℕ) (last : ℕ) (kept : TagTexts) (start p : Parts) (before : List Move) → bytes ≡ [] → GoesOver (scored line last kept start p before (main begun)) n f bytes more (after_moves kept start p (before ++ []))
no_moves_go bytes more n f begun line last kept start p before none =
    let c = scored line last kept start p before (main begun) in
    let ts = tokens_from 0 n f (bytes ++ more) in
    let us = tokens_from 0 (line_behind n bytes) f more in
    record {
      line_then = line;
      last_then = last;
      first_then = f;
      main_then = begun;
      keeps = λ x e. e;
      goes = subst (λ (l : List Move). Continues c ts (scored line last kept start p l (main begun)) us) (sym (append-nil before)) (continues_same c ts us (no_bytes bytes more n f none));
    }

-- a number or none
numbering_passed : (number more : List ℕ) (n : ℕ) (f : Bool) → (number ≡ []) ⊎ SpellsMoveNumber number → (g : Bool) × (tokens_from 0 n f (number ++ more) ≡ tokens_from 0 (line_behind n number) g more)
numbering_passed number more n f (inl none) = (f, no_bytes number more n f none)
numbering_passed number more n f (inr h) = number_passed number more n f h

-- the text of a move, behind its number, and what parts it from what follows
move_passed : (number text white more : List ℕ) (p : Parts) (m : Move) (n : ℕ) (f : Bool) → (number ≡ []) ⊎ SpellsMoveNumber number → SpellsSymbol p m text → PartsTokens white → tokens_from 0 n f (number ++ (text ++ (white ++ more))) ≡ token (line_behind n number) (MoveText text) ∷ tokens_from 0 (line_behind (line_behind n number) white) (first_behind false white) more
move_passed number text white more p m n f numbered spells parts =
    let numbering = numbering_passed number (text ++ (white ++ more)) n f numbered in
    let at = line_behind n number in
    let symbol = move_symbol p m text spells in
    numbering.1
    ∙ score_symbol_passed at numbering.0 text (white ++ more) spells.symbol symbol.1 (parting_stops white more (parting_white white parts.0) parts.1)
    ∙ ap (λ (o : Option Telling). token_if at o ++ tokens_from 0 at false (white ++ more)) symbol.0
    ∙ ap (λ (ts : List Token). token at (MoveText text) ∷ ts) (white_passed white more at false parts.0)

move_line : (number text white rest bytes : List ℕ) (p : Parts) (m : Move) (n : ℕ) → SpellsSymbol p m text → bytes ≡ number ++ (text ++ (white ++ rest)) → line_behind n bytes ≡ line_behind (line_behind (line_behind n number) white) rest
move_line number text white rest bytes p m n spells is =
    let at = line_behind n number in
    ap (line_behind n) is ∙ line_append number (text ++ (white ++ rest)) n ∙ line_append text (white ++ rest) at
    ∙ ap (λ (k : ℕ). line_behind k (white ++ rest)) (line_kept text at (on_line_by is_score_symbol text refl spells.symbol)) ∙ line_append white rest at

-- what stands behind three parts of a text
pub three_then : (a b c d more : List ℕ) → (a ++ (b ++ (c ++ d))) ++ more ≡ a ++ (b ++ (c ++ (d ++ more)))
three_then a b c d more =
    append_assoc a (b ++ (c ++ d)) more ∙ ap (λ (u : List ℕ). a ++ u) (append_assoc b (c ++ d) more ∙ ap (λ (u : List ℕ). b ++ u) (append_assoc c d more))

move_goes : (number text white rest bytes more : List ℕ) (n : ℕ) (f begun : Bool) (line : Option ℕ) (last : ℕ) (kept : TagTexts) (start p q after : Parts) (before moves : List Move) (m : Move) → (number ≡ []) ⊎ SpellsMoveNumber number → SpellsSymbol p m text → PartsTokens white → Legal p m q → bytes ≡ number ++ (text ++ (white ++ rest)) → length before < 4096 → GoesOver (scored (Some (unwrap_or line (line_behind n number))) (line_behind n number) kept start q (before ++ m ∷ []) (Moves 0)) (line_behind (line_behind n number) white) (first_behind false white) rest more (after_moves kept start after ((before ++ m ∷ []) ++ moves)) → GoesOver (scored line last kept start p before (main begun)) n f bytes more (after_moves kept start after (before ++ m ∷ moves))
move_goes number text white rest bytes more n f begun line last kept start p q after before moves m numbered spells parts legal is few w =
    let at = line_behind n number in
    let c = scored line last kept start p before (main begun) in
    let d = scored (Some (unwrap_or line at)) at kept start q (before ++ m ∷ []) (Moves 0) in
    let e = scored w.line_then w.last_then kept start after ((before ++ m ∷ []) ++ moves) (main w.main_then) in
    let t = token at (MoveText text) in
    let us = tokens_from 0 (line_behind at white) (first_behind false white) (rest ++ more) in
    let vs = tokens_from 0 (line_behind (line_behind at white) rest) w.first_then more in
    let begin : tokens_from 0 n f (bytes ++ more) ≡ t ∷ us =
    ap (λ (b : List ℕ). tokens_from 0 n f (b ++ more)) is ∙ ap (tokens_from 0 n f) (three_then number text white rest more) ∙ move_passed number text white (rest ++ more) p m n f numbered spells parts in
    let end : vs ≡ tokens_from 0 (line_behind n bytes) w.first_then more = ap (λ (k : ℕ). tokens_from 0 k w.first_then more) (sym (move_line number text white rest bytes p m n spells is)) in
    let goes = same_tokens c e (t ∷ us) (tokens_from 0 n f (bytes ++ more)) vs (tokens_from 0 (line_behind n bytes) w.first_then more) begin end (continues_then c d e (t ∷ us) us vs (continues_one c d t us (move_takes begun line last at kept start p q before m text spells legal few) (move_is_on begun text)) w.goes) in
    record {
      line_then = w.line_then;
      last_then = w.last_then;
      first_then = w.first_then;
      main_then = w.main_then;
      keeps = keeps_first line w.line_then at w.keeps;
      goes = subst (λ (l : List Move). Continues c (tokens_from 0 n f (bytes ++ more)) (scored w.line_then w.last_then kept start after l (main w.main_then)) (tokens_from 0 (line_behind n bytes) w.first_then more)) (append_assoc before (m ∷ []) moves) goes;
    }

-- where moves that are legal in turn lead
pub record MovesGo (bytes more : List ℕ) (n : ℕ) (f begun : Bool) (line : Option ℕ) (last : ℕ) (kept : TagTexts) (start p : Parts) (before moves : List Move) : Type 0 where
  after : Parts
  goes : GoesOver (scored line last kept start p before (main begun)) n f bytes more (after_moves kept start after (before ++ moves))

pub moves_go : (moves : List Move) (bytes more : List ℕ) (n : ℕ) (f begun : Bool) (line : Option ℕ) (last : ℕ) (kept : TagTexts) (start p : Parts) (before : List Move) → SpellsMovetext p moves bytes → length before + length moves ≤ 4096 → MovesGo bytes more n f begun line last kept start p before moves
moves_go [] bytes more n f begun line last kept start p before h few =
    record { after = p; goes = no_moves_go bytes more n f begun line last kept start p before h }
moves_go (m ∷ moves) bytes more n f begun line last kept start p before h few =
    let at = line_behind n h.0 in
    let below : length before < 4096 = omega arith in
    let fits : length (before ++ m ∷ []) + length moves ≤ 4096 = omega (arith, length-append before (m ∷ [])) in
    let rest = moves_go moves h.3 more (line_behind at h.2) (first_behind false h.2) true (Some (unwrap_or line at)) at kept start h.4 (before ++ m ∷ []) h.9 fits in
    record {
      after = rest.after;
      goes = move_goes h.0 h.1 h.2 h.3 bytes more n f begun line last kept start p h.4 rest.after before moves m h.5 h.6 h.7 h.8 h.10 below rest.goes;
    }

-- ---- results

result_takes : (begun : Bool) (line : Option ℕ) (last n : ℕ) (kept : TagTexts) (start p : Parts) (moves : List Move) (r : GameResult) → PassesToken (scored line last kept start p moves (main begun)) (token n (Told r)) (record (scored (Some (unwrap_or line n)) n kept start p moves Over) { result = r })
result_takes false line last n kept start p moves r =
    (Ok (record (scored line last kept start p moves Tags) { result = r }), refl, refl)
result_takes true line last n kept start p moves r =
    (Ok (record (scored line last kept start p moves (Moves 0)) { result = r }), refl, refl)

result_is_on : (begun : Bool) (r : GameResult) → goes_on (main begun) (Told r) ≡ true
result_is_on false r = refl
result_is_on true r = refl

-- a game that is over is read
pub read_over : (c d : Course) (usual : Parts) (ts us : List Token) (x : ReadingTold) → c ≡ no_course usual → IsUsualStart usual → Continues c ts d us → d.phase ≡ Over → reading_at_end d ≡ Some x → ReadsGame ts (Some x) us
unfolding ReadsTokens
read_over c d usual ts us x first is_usual goes over told =
    let from = subst (λ (k : Course). Continues k ts d us) first goes in
    let none : of_game d.phase us ≡ [] = ap (λ (p : Phase). of_game p us) over ∙ none_behind us in
    let all : behind_game d.phase us ≡ us = ap (λ (p : Phase). behind_game p us) over ∙ all_behind us in
    record {
      usual = usual;
      is_usual = is_usual;
      tells = from.told (Some x) (subst (λ (l : List Token). ReadsTokens d l (Some x)) (sym none) (sym told));
      rest = sym all ∙ from.rest;
    }

-- ---- scores

-- a score is read as its game
record ScoreGoes (bytes more : List ℕ) (score : GameScore) (n : ℕ) (f : Bool) : Type 0 where
  at : ℕ
  at_tag : score.tags ≢ [] → at ≡ n
  first_then : Bool
  reads : ReadsGame (tokens_from 0 n f (bytes ++ more)) (Some (score_read at score)) (tokens_from 0 (line_behind n bytes) first_then more)

some_line : (line : Option ℕ) (n k : ℕ) → line ≡ Some n → unwrap_or line k ≡ n
some_line line n k is = ap (λ (l : Option ℕ). unwrap_or l k) is

-- the result, and what parts it from the next score
result_then : (r : GameResult) (white more : List ℕ) (n : ℕ) (f : Bool) → r ≢ Missing → PartsTokens white → tokens_from 0 n f (result_text r ++ (white ++ more)) ≡ token n (Told r) ∷ tokens_from 0 (line_behind n white) (first_behind false white) more
result_then r white more n f ended parts =
    result_passed r n f (white ++ more) ended (parting_stops white more (parting_white white parts.0) parts.1)
    ∙ ap (λ (ts : List Token). token n (Told r) ∷ ts) (white_passed white more n false parts.0)

score_line : (tags movetext result white bytes : List ℕ) (n : ℕ) → IsOnLine result → bytes ≡ tags ++ (movetext ++ (result ++ white)) → line_behind n bytes ≡ line_behind (line_behind (line_behind n tags) movetext) white
score_line tags movetext result white bytes n on is =
    let at = line_behind (line_behind n tags) movetext in
    ap (line_behind n) is ∙ line_append tags (movetext ++ (result ++ white)) n ∙ line_append movetext (result ++ white) (line_behind n tags) ∙ line_append result white at ∙ ap (λ (k : ℕ). line_behind k white) (line_kept result at on)

score_goes : (bytes more : List ℕ) (score : GameScore) (n : ℕ) (f : Bool) → SpellsScore bytes score → ScoreGoes bytes more score n f
score_goes bytes more score n f h =
    let r = score.result in
    let end = result_text r ++ (h.white ++ more) in
    let n1 = line_behind n h.tags in
    let n2 = line_behind n1 h.movetext in
    let kept = values_kept no_tags score.tags in
    let tags = tags_go score.tags h.tags (h.movetext ++ end) n f h.usual score.start h.spells_tags h.start in
    let a = tags.goes in
    let moves = moves_go score.moves h.movetext end n1 a.first_then false a.line_then a.last_then kept score.start score.start [] h.spells_moves (few h.few) in
    let b = moves.goes in
    let at = unwrap_or b.line_then n2 in
    let c = no_course h.usual in
    let d = scored a.line_then a.last_then kept score.start score.start [] Tags in
    let e = scored b.line_then b.last_then kept score.start moves.after score.moves (main b.main_then) in
    let over = record (scored (Some at) n2 kept score.start moves.after score.moves Over) { result = r } in
    let t = token n2 (Told r) in
    let us = tokens_from 0 (line_behind n2 h.white) (first_behind false h.white) more in
    let ts = tokens_from 0 n f (h.tags ++ (h.movetext ++ end)) in
    let mid = tokens_from 0 n1 a.first_then (h.movetext ++ end) in
    let last : Continues e (tokens_from 0 n2 b.first_then end) over us =
    same_tokens e over (t ∷ us) (tokens_from 0 n2 b.first_then end) us us (result_then r h.white more n2 b.first_then h.ended h.apart) refl (continues_one e over t us (result_takes b.main_then b.line_then b.last_then n2 kept score.start moves.after score.moves r) (result_is_on b.main_then r)) in
    let all : Continues c ts over us = continues_then c d over ts mid us a.goes (continues_then d e over mid (tokens_from 0 n2 b.first_then end) us b.goes last) in
    let begin : tokens_from 0 n f (bytes ++ more) ≡ ts =
    ap (λ (u : List ℕ). tokens_from 0 n f (u ++ more)) h.text ∙ ap (tokens_from 0 n f) (three_then h.tags h.movetext (result_text r) h.white more) in
    let behind : us ≡ tokens_from 0 (line_behind n bytes) (first_behind false h.white) more =
    ap (λ (k : ℕ). tokens_from 0 k (first_behind false h.white) more) (sym (score_line h.tags h.movetext (result_text r) h.white bytes n (result_on_line r) h.text)) in
    record {
      at = at;
      at_tag = λ some. some_line b.line_then n n2 (b.keeps n (tags.at_tag some));
      first_then = first_behind false h.white;
      reads = read_over c over h.usual _ _ (score_read at score) (refl {a = c}) h.is_usual (same_tokens c over ts _ us _ begin behind all) (refl {a = Over}) (refl {a = reading_at_end over});
    }
  where
    few : {n : ℕ} → n ≤ 4096 → 0 + n ≤ 4096
    few h = omega arith

-- ---- files of scores

record ScoresGo (texts : List (List ℕ)) (scores : List GameScore) (n : ℕ) (f : Bool) : Type 0 where
  readings : List ReadingTold
  reads : ReadsGamesInTurn (tokens_from 0 n f (joined_texts texts)) readings
  are : AreScoresRead n texts scores readings

scores_go : (texts : List (List ℕ)) (scores : List GameScore) (n : ℕ) (f : Bool) → AllZip SpellsScore texts scores → ScoresGo texts scores n f
unfolding ReadsGamesInTurn
scores_go [] [] n f h = record { readings = []; reads = none_left 0 n f; are = tt }
scores_go [] (score ∷ scores) n f h = absurd h
scores_go (text ∷ texts) [] n f h = absurd h
scores_go (text ∷ texts) (score ∷ scores) n f h =
    let first = score_goes text (joined_texts texts) score n f h.0 in
    let rest = scores_go texts scores (line_behind n text) first.first_then h.1 in
    record {
      readings = score_read first.at score ∷ rest.readings;
      reads = (tokens_from 0 (line_behind n text) first.first_then (joined_texts texts), first.reads, rest.reads);
      are = (record { at = first.at; at_tag = first.at_tag; is = refl }, rest.are);
    }

-- ---- no line of scores is escaped

tags_calm : (tags : List ScoreTag) (bytes : List ℕ) → SpellsTags tags bytes → Calm bytes
tags_calm [] bytes h = subst Calm (sym h) calm_nil
tags_calm (tag ∷ tags) bytes h =
    subst Calm (sym h.6) (calm_append h.0 (h.1 ++ h.2) (pair_calm h.0 tag h.3) (calm_append h.1 h.2 (calm_by is_white h.1 refl h.4) (tags_calm tags h.2 h.5)))

periods_calm : (periods : List ℕ) → AllByRecursion (λ b. b ≡ 46) periods → Calm periods
periods_calm periods h = calm_by is_parting periods refl (periods_part periods h)

numbering_calm : (number : List ℕ) → (number ≡ []) ⊎ SpellsMoveNumber number → Calm number
numbering_calm number (inl none) = subst Calm (sym none) calm_nil
numbering_calm number (inr h) =
    subst Calm (sym h.text) (calm_append h.digits (h.periods ++ h.white) (calm_by is_digit h.digits refl h.number.0) (calm_append h.periods h.white (periods_calm h.periods h.dots) (calm_by is_white h.white refl h.spaces)))

moves_calm : (moves : List Move) (p : Parts) (bytes : List ℕ) → SpellsMovetext p moves bytes → Calm bytes
moves_calm [] p bytes h = subst Calm (sym h) calm_nil
moves_calm (m ∷ moves) p bytes h =
    let rest = calm_append h.2 h.3 (calm_by is_white h.2 refl h.7.0) (moves_calm moves h.4 h.3 h.9) in
    subst Calm (sym h.10) (calm_append h.0 (h.1 ++ (h.2 ++ h.3)) (numbering_calm h.0 h.5) (calm_append h.1 (h.2 ++ h.3) (calm_by is_score_symbol h.1 refl h.6.symbol) rest))

score_calm : (bytes : List ℕ) (score : GameScore) → SpellsScore bytes score → Calm bytes
score_calm bytes score h =
    let end = calm_append (result_text score.result) h.white (result_calm score.result) (calm_by is_white h.white refl h.apart.0) in
    subst Calm (sym h.text) (calm_append h.tags (h.movetext ++ (result_text score.result ++ h.white)) (tags_calm score.tags h.tags h.spells_tags) (calm_append h.movetext (result_text score.result ++ h.white) (moves_calm score.moves score.start h.movetext h.spells_moves) end))

scores_calm : (texts : List (List ℕ)) (scores : List GameScore) → AllZip SpellsScore texts scores → Calm (joined_texts texts)
scores_calm [] [] h = calm_nil
scores_calm [] (score ∷ scores) h = absurd h
scores_calm (text ∷ texts) [] h = absurd h
scores_calm (text ∷ texts) (score ∷ scores) h = calm_append text (joined_texts texts) (score_calm text score h.0) (scores_calm texts scores h.1)

pub scores_are_read_back : ScoresAreReadBack
scores_are_read_back texts scores h short =
    let w = scores_go texts scores 1 true h in
    (w.readings, subst (λ (ts : List Token). ReadsGamesInTurn ts w.readings) (sym (tokens_begin (joined_texts texts) (scores_calm texts scores h) short)) w.reads, w.are)

pub only_scores_are_read : OneListIsSpelled → OnlyScoresAreRead
only_scores_are_read one texts scores h short readings spelled =
    let w = scores_are_read_back texts scores h short in
    subst (AreScoresRead 1 texts scores) (one (joined_texts texts) w.0 readings w.1 spelled) w.2
