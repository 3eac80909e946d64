-- The games of a list of tokens (PGN standard, sections 8 and 9.7): where each begins and ends, and what it tells.
use Rattle.std.specs.Prelude.{◌≡◌, ◌-◌, ◌++◌, not, nat_lt, ℕ, zero, suc, Bool, true, false, List, [], ◌∷◌, length, Option, Some, None, unwrap_or, Result, Ok, Err, MatchOption, codes, if◌then◌else◌}
use Rattle.board_core.specs.declared.parts.Parts.{Parts}
use Rattle.board_core.specs.declared.moves.Move.{Move}
use Rattle.board_core.specs.Position.{IsPosition}
use Rattle.board_core.specs.Moves.{Legal}
use Rattle.fen_text.specs.declared.fault.FenFault.{FenFault}
use Rattle.fen_text.specs.Fen.{SpellsPosition, IsFirstFenFault}
use Rattle.fen_text.specs.Written.{fen_of}
use Rattle.san_text.specs.declared.fault.SanFault.{SanFault}
use Rattle.san_text.specs.San.{ReadsSan, IsFirstSanFault}
use Rattle.pgn_games.specs.declared.game.GameResult.{GameResult}
use Rattle.pgn_games.specs.declared.game.GameResult.TheVariants.{Missing}
use Rattle.pgn_games.specs.declared.fault.Cause.{Cause}
use Rattle.pgn_games.specs.declared.fault.Cause.TheVariants.{BadTag, BadFen, BadMove, TooManyMoves, StrayToken, OpenVariation, EndlessComment, LongLine}
use Rattle.pgn_games.specs.declared.fault.GameFault.{GameFault}
use Rattle.pgn_games.specs.declared.phase.Phase.{Phase}
use Rattle.pgn_games.specs.declared.phase.Phase.TheVariants.{Tags, Moves, Over}
use Rattle.pgn_games.specs.declared.tags.TagName.{TagName}
use Rattle.pgn_games.specs.declared.tags.TagName.TheVariants.{Fen}
use Rattle.pgn_games.specs.Lines.{one_more}
use Rattle.pgn_games.specs.Tags.{TagPair, TagTexts, no_tags, with_tag, tag_by_name, tag_value}
use Rattle.pgn_games.specs.Lexemes.{Telling, Tag, MoveText, Begins, Ends, Told, Stray, Endless, TooLong}
use Rattle.pgn_games.specs.Tokens.{Token, tokens_of}

-- how many variations are open
abbrev pub depth_of : Phase → ℕ
depth_of Tags = 0
depth_of (Moves depth) = depth
depth_of Over = 0

-- a result ends the game, unless it stands in a variation
abbrev pub over_at : ℕ → Phase
over_at zero = Over
over_at (suc depth) = Moves (suc depth)

-- how far a game has come after a token: the movetext begins with a move, a variation or its end
abbrev pub phase_after_token : Phase → Telling → Phase
phase_after_token phase (Tag first pair) = phase
phase_after_token phase (MoveText text) = Moves (depth_of phase)
phase_after_token phase Begins = Moves (one_more (depth_of phase))
phase_after_token phase Ends = Moves (depth_of phase - 1)
phase_after_token phase (Told result) = over_at (depth_of phase)
phase_after_token phase Stray = phase
phase_after_token phase Endless = phase
phase_after_token phase TooLong = phase

abbrev pub is_tag_in_first_column : Telling → Bool
is_tag_in_first_column (Tag first pair) = first
is_tag_in_first_column (MoveText text) = false
is_tag_in_first_column Begins = false
is_tag_in_first_column Ends = false
is_tag_in_first_column (Told result) = false
is_tag_in_first_column Stray = false
is_tag_in_first_column Endless = false
is_tag_in_first_column TooLong = false

-- whether a token still belongs to a game. A tag in the first column behind movetext is the next game's
abbrev pub goes_on : Phase → Telling → Bool
goes_on Tags lexeme = true
goes_on (Moves depth) lexeme = not (is_tag_in_first_column lexeme)
goes_on Over lexeme = false

-- the tokens of a game that has come so far, and those behind it
unfoldable pub of_game : Phase → List Token → List Token
of_game phase [] = []
of_game phase (t ∷ ts) = if goes_on phase t.is then t ∷ of_game (phase_after_token phase t.is) ts else []

unfoldable pub behind_game : Phase → List Token → List Token
behind_game phase [] = []
behind_game phase (t ∷ ts) = if goes_on phase t.is then behind_game (phase_after_token phase t.is) ts else t ∷ ts

-- what the tokens of a game tell so far
pub record Course : Type 0 where
  -- the line of its first token, and that of its last one
  pub line : Option ℕ
  pub last : ℕ
  pub tags : TagTexts
  pub start : Parts
  -- the position after its moves
  pub position : Parts
  pub moves : List Move
  pub phase : Phase
  pub result : GameResult
  -- the first fault
  pub fault : Option GameFault

-- nothing yet: the usual start, and no result
abbrev pub no_course : Parts → Course
no_course usual = record {
  line = None;
  last = 0;
  tags = no_tags;
  start = usual;
  position = usual;
  moves = [];
  phase = Tags;
  result = Missing;
  fault = None;
}

-- the value of a FEN tag spells the start, whether or not there is a SetUp tag (section 9.7)
abbrev pub SetsStart : Course → List ℕ → Result Course Cause → Type 0
SetsStart c value (Ok d) =
    (start : Parts) × SpellsPosition value start × IsPosition start × (d ≡ record c { tags = with_tag Fen value c.tags; start = start; position = start })
SetsStart c value (Err cause) = (fault : FenFault) × IsFirstFenFault value fault × (cause ≡ BadFen fault)

-- a tag sets its value, where it is one that is kept
abbrev pub SetsTag : Course → List ℕ → Option TagName → Result Course Cause → Type 0
SetsTag c value None r = r ≡ Ok c
SetsTag c value (Some Fen) r = SetsStart c value r
SetsTag c value (Some name) r = r ≡ Ok (record c { tags = with_tag name value c.tags })

-- a tag pair stands before the movetext
abbrev pub TakesTag : Course → Phase → Option TagPair → Result Course Cause → Type 0
TakesTag c Tags None r = r ≡ Err BadTag
TakesTag c Tags (Some pair) r = SetsTag c (tag_value pair.quoted) (tag_by_name pair.name) r
TakesTag c (Moves depth) pair r = r ≡ Err StrayToken
TakesTag c Over pair r = r ≡ Err StrayToken

-- a move is played
abbrev pub Plays : Course → Move → Course → Type 0
Plays c m d = (p : Parts) × Legal c.position m p × (d ≡ record c { moves = c.moves ++ m ∷ []; position = p })

-- a move is read in the position before it, and there are 4,096 at most
abbrev pub ReadsMove : Course → List ℕ → Result Course Cause → Type 0
ReadsMove c text (Ok d) =
    (m : Move) × ReadsSan c.position text m × Plays c m d
ReadsMove c text (Err cause) = (fault : SanFault) × IsFirstSanFault c.position text fault × (cause ≡ BadMove fault)

abbrev pub TakesMove : Course → List ℕ → Bool → Result Course Cause → Type 0
TakesMove c text true r = ReadsMove c text r
TakesMove c text false r = r ≡ Err TooManyMoves

-- what stands in a variation is passed over
abbrev pub TakesIfMain : ℕ → Course → Result Course Cause → Type 0 → Type 0
TakesIfMain zero c r IsTaken = IsTaken
TakesIfMain (suc depth) c r IsTaken = r ≡ Ok c

-- a variation that closes is open
abbrev pub ClosesVariation : ℕ → Course → Result Course Cause → Type 0
ClosesVariation zero c r = r ≡ Err StrayToken
ClosesVariation (suc depth) c r = r ≡ Ok c

-- a game takes a token, or is at fault there
abbrev pub TakesToken : Course → Telling → Result Course Cause → Type 0
TakesToken c (Tag first pair) r = TakesTag c c.phase pair r
TakesToken c (MoveText text) r = TakesIfMain (depth_of c.phase) c r (TakesMove c text (nat_lt (length c.moves) 4096) r)
TakesToken c Begins r = r ≡ Ok c
TakesToken c Ends r = ClosesVariation (depth_of c.phase) c r
TakesToken c (Told result) r = TakesIfMain (depth_of c.phase) c r (r ≡ Ok (record c { result = result }))
TakesToken c Stray r = TakesIfMain (depth_of c.phase) c r (r ≡ Err StrayToken)
TakesToken c Endless r = r ≡ Err EndlessComment
TakesToken c TooLong r = r ≡ Err LongLine

-- why a game is at fault, behind which of its moves and where
abbrev pub fault_of : Course → ℕ → Cause → GameFault
fault_of c line cause = record { line = unwrap_or c.line line; at = line; plies = length c.moves; cause = cause }

-- a token was passed
abbrev pub passed : Course → Token → Course
passed c t = record c { line = Some (unwrap_or c.line t.line); last = t.line; phase = phase_after_token c.phase t.is }

-- what a token makes of a game, or its fault
abbrev pub course_after_token : Course → ℕ → Result Course Cause → Course
course_after_token c line (Ok d) = d
course_after_token c line (Err cause) = record c { fault = Some (fault_of c line cause) }

-- a game goes on over a token. Behind its first fault what the tokens say counts no more
abbrev pub PassesToken : Course → Token → Course → Type 0
PassesToken c t d =
    MatchOption c.fault ((r : Result Course Cause) × TakesToken c t.is r × (d ≡ passed (course_after_token c t.line r) t)) (λ fault. d ≡ passed c t)

-- a game: its line, its tags, its start, its moves and its result
pub record GameTold : Type 0 where
  pub line : ℕ
  pub tags : TagTexts
  pub start : Parts
  pub moves : List Move
  pub result : GameResult

-- a game, or a game at fault
pub data ReadingTold : Type 0 where
  GameRead : GameTold → ReadingTold
  FaultRead : GameFault → ReadingTold

-- without a fault, a game that ends within a variation is at fault at its last token
abbrev pub told_in : ℕ → ℕ → Course → ReadingTold
told_in zero line c =
    GameRead (record { line = line; tags = c.tags; start = c.start; moves = c.moves; result = c.result })
told_in (suc depth) line c = FaultRead (fault_of c c.last OpenVariation)

abbrev pub reading_unless_fault : Option GameFault → ℕ → Course → ReadingTold
reading_unless_fault None line c = told_in (depth_of c.phase) line c
reading_unless_fault (Some fault) line c = FaultRead fault

-- what is told of a game of these tokens; of none nothing
abbrev pub told_at : Option ℕ → Course → Option ReadingTold
told_at None c = None
told_at (Some line) c = Some (reading_unless_fault c.fault line c)

abbrev pub reading_at_end : Course → Option ReadingTold
reading_at_end c = told_at c.line c

-- the tokens that are left of a game tell this of it
unfoldable pub ReadsTokens : Course → List Token → Option ReadingTold → Type 0
ReadsTokens c [] told = told ≡ reading_at_end c
ReadsTokens c (t ∷ ts) told = (d : Course) × PassesToken c t d × ReadsTokens d ts told

-- the position of a new game (FIDE article 2.3) as FEN text
abbrev pub usual_start : List ℕ
usual_start = codes "rnbqkbnr/pppppppp/8/8/8/8/PPPPPPPP/RNBQKBNR w KQkq - 0 1"

-- a position is that of a new game
unfoldable pub IsUsualStart : Parts → Type 0
IsUsualStart p = (usual_start ≡ fen_of p) × IsPosition p

-- the next game of these tokens, or none, and the tokens behind it
pub record ReadsGame (tokens : List Token) (told : Option ReadingTold) (behind : List Token) : Type 0 where
  pub usual : Parts
  pub is_usual : IsUsualStart usual
  pub tells : ReadsTokens (no_course usual) (of_game Tags tokens) told
  pub rest : behind ≡ behind_game Tags tokens

-- the games of a list of tokens, one after another
unfoldable pub ReadsGamesInTurn : List Token → List ReadingTold → Type 0
ReadsGamesInTurn tokens [] = tokens ≡ []
ReadsGamesInTurn tokens (told ∷ others) =
    (behind : List Token) × ReadsGame tokens (Some told) behind × ReadsGamesInTurn behind others

-- the bytes of a file spell these games
abbrev pub SpellsGames : List ℕ → List ReadingTold → Type 0
SpellsGames bytes readings = ReadsGamesInTurn (tokens_of bytes) readings
