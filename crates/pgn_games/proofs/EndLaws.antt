-- Where no game is told.
use Rattle.std.proofs.Common.{◌≡◌, ◌∙◌, ℕ, List, [], ◌∷◌, Option, Some, None, Result, refl, ap, subst}
use Rattle.std.specs.Prelude.{MatchOption}
use Rattle.pgn_games.specs.declared.fault.Cause.{Cause}
use Rattle.pgn_games.specs.declared.fault.GameFault.{GameFault}
use Rattle.pgn_games.specs.declared.phase.Phase.TheVariants.{Tags}
use Rattle.pgn_games.specs.Tokens.{Token}
use Rattle.pgn_games.specs.Games.{Course, ReadingTold, TakesToken, ReadsTokens, phase_after_token, no_course, of_game, passed, course_after_token, told_at, reading_at_end}
use Rattle.pgn_games.specs.Laws.{NoneIsTheEnd}

abbrev HasLine : Course → Type 0
HasLine c = (n : ℕ) × (c.line ≡ Some n)

line_at : (fault : Option GameFault) (c d : Course) (t : Token) → MatchOption fault ((r : Result Course Cause) × TakesToken c t.is r × (d ≡ passed (course_after_token c t.line r) t)) (λ f. d ≡ passed c t) → HasLine d
line_at None c d t h = (_, ap (λ (x : Course). x.line) h.2)
line_at (Some f) c d t h = (_, ap (λ (x : Course). x.line) h)

never_none : (c : Course) (ts : List Token) → HasLine c → ReadsTokens c ts None → ⊥
unfolding ReadsTokens
never_none c [] h e =
    let told : None ≡ told_at (Some h.0) c = e ∙ ap (λ (l : Option ℕ). told_at l c) h.1 in
    absurd (cc)
never_none c (t ∷ ts) h e = never_none e.0 ts (line_at c.fault c e.0 t e.1) e.2

begun : (c d : Course) (t : Token) (ts : List Token) (told : Option ReadingTold) → ReadsTokens c (t ∷ ts) told → told ≡ None → ⊥
unfolding ReadsTokens
begun c d t ts told h none =
    never_none h.0 ts (line_at c.fault c h.0 t h.1) (subst (ReadsTokens h.0 ts) none h.2)

first_of : (t : Token) (ts : List Token) → of_game Tags (t ∷ ts) ≡ t ∷ of_game (phase_after_token Tags t.is) ts
unfolding of_game
first_of t ts = refl

no_token : (tokens : List Token) (c : Course) (told : Option ReadingTold) → ReadsTokens c (of_game Tags tokens) told → told ≡ None → tokens ≡ []
no_token [] c told h none = refl
no_token (t ∷ ts) c told h none =
    absurd (begun c c t (of_game (phase_after_token Tags t.is) ts) told (subst (λ (l : List Token). ReadsTokens c l told) (first_of t ts) h) none)

nothing_told : (tokens : List Token) (c : Course) (told : Option ReadingTold) → reading_at_end c ≡ None → ReadsTokens c (of_game Tags tokens) told → tokens ≡ [] → told ≡ None
unfolding ReadsTokens of_game
nothing_told [] c told none h e = h ∙ none
nothing_told (t ∷ ts) c told none h e = absurd (cc)

pub none_is_the_end : NoneIsTheEnd
none_is_the_end tokens behind told h =
    (λ none. no_token tokens (no_course h.usual) told h.tells none, λ end. nothing_told tokens (no_course h.usual) told refl h.tells end)
