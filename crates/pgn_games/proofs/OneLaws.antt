-- Tokens are read as one game.
use Rattle.std.proofs.Common.{◌≡◌, ◌∙◌, ℕ, zero, suc, ◌++◌, Bool, true, false, List, [], ◌∷◌, length, Option, Some, None, Result, Ok, Err, refl, sym, ap, subst}
use Rattle.std.specs.Prelude.{nat_lt, MatchOption}
use Rattle.board_core.specs.declared.parts.Parts.{Parts}
use Rattle.board_core.specs.declared.moves.Move.{Move}
use Rattle.board_core.specs.Position.{IsPosition}
use Rattle.board_core.specs.Moves.{Legal}
use Rattle.board_core.specs.ComputedMoves.{position_after}
use Rattle.board_core.specs.Laws.{PositionAfterIsComputed}
use Rattle.fen_text.specs.declared.fault.FenFault.{FenFault}
use Rattle.fen_text.specs.Laws.{HasOnePosition, HasOneText}
use Rattle.fen_text.specs.Written.{fen_of}
use Rattle.fen_text.proofs.FaultLaws.{fault_one}
use Rattle.fen_text.proofs.FenLaws.{fault_only}
use Rattle.san_text.specs.declared.fault.SanFault.{SanFault}
use Rattle.san_text.specs.declared.fault.SanFault.TheVariants.{BadText, NoMove, Ambiguous}
use Rattle.san_text.specs.Laws.{TellsOneThing}
use Rattle.san_text.specs.San.{IsFirstSanFault, IsMeant, ReadsSan}
use Rattle.pgn_games.specs.declared.fault.Cause.{Cause}
use Rattle.pgn_games.specs.declared.fault.Cause.TheVariants.{BadFen, BadMove}
use Rattle.pgn_games.specs.declared.fault.GameFault.{GameFault}
use Rattle.pgn_games.specs.declared.phase.Phase.{Phase}
use Rattle.pgn_games.specs.declared.phase.Phase.TheVariants.{Tags, Moves, Over}
use Rattle.pgn_games.specs.declared.tags.TagName.{TagName}
use Rattle.pgn_games.specs.declared.tags.TagName.TheVariants as name
use Rattle.pgn_games.specs.Tags.{TagPair, tag_by_name, tag_value, with_tag}
use Rattle.pgn_games.specs.Lexemes.{Telling, Tag, MoveText, Begins, Ends, Told, Stray, Endless, TooLong}
use Rattle.pgn_games.specs.Tokens.{Token, tokens_of}
use Rattle.pgn_games.specs.Games.{ClosesVariation, Course, ReadingTold, ReadsGamesInTurn, ReadsMove, SetsStart, SetsTag, TakesToken, TakesIfMain, TakesMove, TakesTag, ReadsTokens, depth_of, no_course, of_game, passed, course_after_token}
use Rattle.pgn_games.specs.Laws.{NoneIsTheEnd, OneGameIsRead, OneListIsSpelled}
use Rattle.pgn_games.proofs.StartLaws.{usual_is_position, usual_spelled_so}

-- what is known of texts and moves
record TextFacts : Type 0 where
  text : HasOneText
  position : HasOnePosition
  thing : TellsOneThing
  computed : PositionAfterIsComputed

-- ---- moves

one_move : (facts : TextFacts) (p : Parts) (t : List ℕ) (m n : Move) → ReadsSan p t m → ReadsSan p t n → n ≡ m
one_move facts p t m n h g =
    h.only n (subst (λ told. IsMeant p told n) (facts.thing t g.told h.told g.spells h.spells) g.meant)

no_san_fault : (facts : TextFacts) (p : Parts) (t : List ℕ) (m : Move) (fault : SanFault) → ReadsSan p t m → IsFirstSanFault p t fault → ⊥
no_san_fault facts p t m BadText h f = f h.told h.spells
no_san_fault facts p t m NoMove h f =
    f.2 m (subst (λ told. IsMeant p told m) (facts.thing t h.told f.0 h.spells f.1) h.meant)
no_san_fault facts p t m Ambiguous h f =
    let same = facts.thing t f.0 h.told f.1 h.spells in
    let one : f.2 ≡ m = h.only f.2 (subst (λ told. IsMeant p told f.2) same f.4) in
    let other : f.3 ≡ m = h.only f.3 (subst (λ told. IsMeant p told f.3) same f.5) in
    f.6 (one ∙ sym other)

one_san_fault : (facts : TextFacts) (p : Parts) (t : List ℕ) (a b : SanFault) → IsFirstSanFault p t a → IsFirstSanFault p t b → a ≡ b
one_san_fault facts p t BadText BadText f g = refl
one_san_fault facts p t BadText NoMove f g = absurd (f g.0 g.1)
one_san_fault facts p t BadText Ambiguous f g = absurd (f g.0 g.1)
one_san_fault facts p t NoMove BadText f g = absurd (g f.0 f.1)
one_san_fault facts p t NoMove NoMove f g = refl
one_san_fault facts p t NoMove Ambiguous f g =
    absurd (f.2 g.2 (subst (λ told. IsMeant p told g.2) (facts.thing t g.0 f.0 g.1 f.1) g.4))
one_san_fault facts p t Ambiguous BadText f g = absurd (g f.0 f.1)
one_san_fault facts p t Ambiguous NoMove f g =
    absurd (g.2 f.2 (subst (λ told. IsMeant p told f.2) (facts.thing t f.0 g.0 f.1 g.1) f.4))
one_san_fault facts p t Ambiguous Ambiguous f g = refl

one_position_after : (facts : TextFacts) (p q r : Parts) (m n : Move) → Legal p m q → Legal p n r → n ≡ m → r ≡ q
one_position_after facts p q r m n h g e =
    let first : position_after p m ≡ Some q = (facts.computed p m q).1 h in
    let other : position_after p m ≡ Some r = ap (position_after p) (sym e) ∙ (facts.computed p n r).1 g in
    cc

abbrev played : Course → Move → Parts → Course
played c m q = record c { moves = c.moves ++ m ∷ []; position = q }

one_reads_move : (facts : TextFacts) (c : Course) (t : List ℕ) (r s : Result Course Cause) → ReadsMove c t r → ReadsMove c t s → r ≡ s
one_reads_move facts c t (Ok d) (Ok e) h g =
    let m : g.0 ≡ h.0 = one_move facts c.position t h.0 g.0 h.1 g.1 in
    let q : g.2.0 ≡ h.2.0 = one_position_after facts c.position h.2.0 g.2.0 h.0 g.0 h.2.1 g.2.1 m in
    ap (λ (x : Course). Ok x) (h.2.2 ∙ ap (λ (k : Move). played c k h.2.0) (sym m) ∙ ap (λ (k : Parts). played c g.0 k) (sym q) ∙ sym g.2.2)
one_reads_move facts c t (Ok d) (Err b) h g = absurd (no_san_fault facts c.position t h.0 g.0 h.1 g.1)
one_reads_move facts c t (Err a) (Ok e) h g = absurd (no_san_fault facts c.position t g.0 h.0 g.1 h.1)
one_reads_move facts c t (Err a) (Err b) h g =
    ap (λ (x : Cause). Err x) (h.2 ∙ ap (λ (x : SanFault). BadMove x) (one_san_fault facts c.position t h.0 g.0 h.1 g.1) ∙ sym g.2)

-- ---- tokens

one_sets_start : (facts : TextFacts) (c : Course) (v : List ℕ) (r s : Result Course Cause) → SetsStart c v r → SetsStart c v s → r ≡ s
one_sets_start facts c v (Ok d) (Ok e) h g =
    let p : h.0 ≡ g.0 = facts.position v h.0 g.0 h.1 g.1 in
    ap (λ (x : Course). Ok x) (h.3 ∙ ap (λ (k : Parts). record c { tags = with_tag name.Fen v c.tags; start = k; position = k }) p ∙ sym g.3)
one_sets_start facts c v (Ok d) (Err b) h g = absurd (fault_only v g.0 h.0 g.1 h.2 h.1)
one_sets_start facts c v (Err a) (Ok e) h g = absurd (fault_only v h.0 g.0 h.1 g.2 g.1)
one_sets_start facts c v (Err a) (Err b) h g =
    ap (λ (x : Cause). Err x) (h.2 ∙ ap (λ (x : FenFault). BadFen x) (fault_one v h.0 g.0 h.1 g.1) ∙ sym g.2)

one_sets_tag : (facts : TextFacts) (c : Course) (v : List ℕ) (n : Option TagName) (r s : Result Course Cause) → SetsTag c v n r → SetsTag c v n s → r ≡ s
one_sets_tag facts c v None r s h g = h ∙ sym g
one_sets_tag facts c v (Some name.Fen) r s h g = one_sets_start facts c v r s h g
one_sets_tag facts c v (Some name.Event) r s h g = h ∙ sym g
one_sets_tag facts c v (Some name.White) r s h g = h ∙ sym g
one_sets_tag facts c v (Some name.Black) r s h g = h ∙ sym g
one_sets_tag facts c v (Some name.Round) r s h g = h ∙ sym g
one_sets_tag facts c v (Some name.Result) r s h g = h ∙ sym g

one_takes_tag : (facts : TextFacts) (c : Course) (phase : Phase) (pair : Option TagPair) (r s : Result Course Cause) → TakesTag c phase pair r → TakesTag c phase pair s → r ≡ s
one_takes_tag facts c Tags None r s h g = h ∙ sym g
one_takes_tag facts c Tags (Some pair) r s h g =
    one_sets_tag facts c (tag_value pair.quoted) (tag_by_name pair.name) r s h g
one_takes_tag facts c (Moves depth) pair r s h g = h ∙ sym g
one_takes_tag facts c Over pair r s h g = h ∙ sym g

one_takes_move : (facts : TextFacts) (c : Course) (t : List ℕ) (few : Bool) (r s : Result Course Cause) → TakesMove c t few r → TakesMove c t few s → r ≡ s
one_takes_move facts c t true r s h g = one_reads_move facts c t r s h g
one_takes_move facts c t false r s h g = h ∙ sym g

one_if_main : (depth : ℕ) (c : Course) (r s : Result Course Cause) (P Q : Type 0) → TakesIfMain depth c r P → TakesIfMain depth c s Q → (P → Q → r ≡ s) → r ≡ s
one_if_main zero c r s P Q h g one = one h g
one_if_main (suc depth) c r s P Q h g one = h ∙ sym g

one_closes : (depth : ℕ) (c : Course) (r s : Result Course Cause) → ClosesVariation depth c r → ClosesVariation depth c s → r ≡ s
one_closes zero c r s h g = h ∙ sym g
one_closes (suc depth) c r s h g = h ∙ sym g

one_takes : (facts : TextFacts) (c : Course) (told : Telling) (r s : Result Course Cause) → TakesToken c told r → TakesToken c told s → r ≡ s
one_takes facts c (Tag first pair) r s h g = one_takes_tag facts c c.phase pair r s h g
one_takes facts c (MoveText t) r s h g =
    one_if_main (depth_of c.phase) c r s _ _ h g (one_takes_move facts c t (nat_lt (length c.moves) 4096) r s)
one_takes facts c Begins r s h g = h ∙ sym g
one_takes facts c Ends r s h g = one_closes (depth_of c.phase) c r s h g
one_takes facts c (Told result) r s h g = one_if_main (depth_of c.phase) c r s _ _ h g (λ a b. a ∙ sym b)
one_takes facts c Stray r s h g = one_if_main (depth_of c.phase) c r s _ _ h g (λ a b. a ∙ sym b)
one_takes facts c Endless r s h g = h ∙ sym g
one_takes facts c TooLong r s h g = h ∙ sym g

one_passes_at : (facts : TextFacts) (fault : Option GameFault) (c d e : Course) (t : Token) → MatchOption fault ((r : Result Course Cause) × TakesToken c t.is r × (d ≡ passed (course_after_token c t.line r) t)) (λ f. d ≡ passed c t) → MatchOption fault ((r : Result Course Cause) × TakesToken c t.is r × (e ≡ passed (course_after_token c t.line r) t)) (λ f. e ≡ passed c t) → d ≡ e
one_passes_at facts None c d e t h g =
    h.2 ∙ ap (λ (r : Result Course Cause). passed (course_after_token c t.line r) t) (one_takes facts c t.is h.0 g.0 h.1 g.1) ∙ sym g.2
one_passes_at facts (Some fault) c d e t h g = h ∙ sym g

-- ---- games

one_tells : (facts : TextFacts) (c : Course) (ts : List Token) (a b : Option ReadingTold) → ReadsTokens c ts a → ReadsTokens c ts b → a ≡ b
unfolding ReadsTokens
one_tells facts c [] a b h g = h ∙ sym g
one_tells facts c (t ∷ ts) a b h g =
    one_tells facts h.0 ts a b h.2 (subst (λ (d : Course). ReadsTokens d ts b) (sym (one_passes_at facts c.fault c h.0 g.0 t h.1 g.1)) g.2)

one_usual : (facts : TextFacts) (t : List ℕ) (p q : Parts) → t ≡ fen_of p → t ≡ fen_of q → IsPosition p → IsPosition q → p ≡ q
one_usual facts t p q h g a b = facts.position t p q ((facts.text t p a).1 h) ((facts.text t q b).1 g)

one_game : TextFacts → OneGameIsRead
one_game facts tokens behind others a b h g =
    let usual = one_usual facts _ g.usual h.usual (usual_spelled_so g.usual g.is_usual) (usual_spelled_so h.usual h.is_usual) (usual_is_position g.usual g.is_usual) (usual_is_position h.usual h.is_usual) in
    (one_tells facts (no_course h.usual) (of_game Tags tokens) a b h.tells (subst (λ (p : Parts). ReadsTokens (no_course p) (of_game Tags tokens) b) usual g.tells), h.rest ∙ sym g.rest)

one_list : OneGameIsRead → NoneIsTheEnd → (a b : List ReadingTold) (tokens : List Token) → ReadsGamesInTurn tokens a → ReadsGamesInTurn tokens b → a ≡ b
unfolding ReadsGamesInTurn
one_list one end [] [] tokens h g = refl
one_list one end [] (y ∷ b) tokens h g = absurd (let none = (end tokens g.0 (Some y) g.1).1 h in cc)
one_list one end (x ∷ a) [] tokens h g = absurd (let none = (end tokens h.0 (Some x) h.1).1 g in cc)
one_list one end (x ∷ a) (y ∷ b) tokens h g =
    let same = one tokens h.0 g.0 (Some x) (Some y) h.1 g.1 in
    let first : x ≡ y = let s = same.0 in cc in
    let others = one_list one end a b h.0 h.2 (subst (λ (ts : List Token). ReadsGamesInTurn ts b) (sym same.1) g.2) in
    ap (λ (k : ReadingTold). k ∷ a) first ∙ ap (λ (l : List ReadingTold). y ∷ l) others

pub one_game_is_read : HasOneText → HasOnePosition → TellsOneThing → PositionAfterIsComputed → OneGameIsRead
one_game_is_read text position thing computed =
    one_game (record { text = text; position = position; thing = thing; computed = computed })

pub one_list_is_spelled : OneGameIsRead → NoneIsTheEnd → OneListIsSpelled
one_list_is_spelled one end bytes a b h g = one_list one end a b (tokens_of bytes) h g
