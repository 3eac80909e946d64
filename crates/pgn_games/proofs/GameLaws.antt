-- What tokens tell of a game, one after another.
use Rattle.std.proofs.Common.{◌≡◌, ◌∙◌, ℕ, zero, suc, Bool, true, false, List, [], ◌∷◌, Option, Some, None, Result, Ok, Err, cond, refl, sym, ap, subst}
use Rattle.std.specs.Prelude.{not, MatchOption}
use Rattle.pgn_games.specs.declared.fault.Cause.{Cause}
use Rattle.pgn_games.specs.declared.fault.GameFault.{GameFault}
use Rattle.pgn_games.specs.declared.phase.Phase.{Phase}
use Rattle.pgn_games.specs.declared.phase.Phase.TheVariants.{Tags, Moves, Over}
use Rattle.pgn_games.specs.declared.tags.TagName.{TagName}
use Rattle.pgn_games.specs.declared.tags.TagName.TheVariants as name
use Rattle.pgn_games.specs.Tags.{TagPair, tag_by_name, tag_value}
use Rattle.pgn_games.specs.Lexemes.{Telling, Tag, MoveText, Begins, Ends, Told, Stray, Endless, TooLong}
use Rattle.pgn_games.specs.Tokens.{Token}
use Rattle.pgn_games.specs.Games.{Course, ClosesVariation, PassesToken, ReadingTold, SetsTag, TakesToken, TakesIfMain, TakesMove, TakesTag, ReadsTokens, phase_after_token, behind_game, depth_of, goes_on, is_tag_in_first_column, of_game, passed, course_after_token}
use Rattle.pgn_games.specs.Inside.Steps.{Continues, IsOn, IsGameOver}

ok_same : (c d : Course) → ◌≡◌ {A = Result Course Cause} (Ok d) (Ok c) → d.phase ≡ c.phase
ok_same c d e = let same : d ≡ c = cc in ap (λ (x : Course). x.phase) same

ok_none : (d : Course) (cause : Cause) (phase : Phase) → ◌≡◌ {A = Result Course Cause} (Ok d) (Err cause) → d.phase ≡ phase
ok_none d cause phase e = absurd (cc)

tag_phase : (c d : Course) (value : List ℕ) (n : Option TagName) → SetsTag c value n (Ok d) → d.phase ≡ c.phase
tag_phase c d value None h = ok_same c d h
tag_phase c d value (Some name.Event) h = ok_same _ d h
tag_phase c d value (Some name.White) h = ok_same _ d h
tag_phase c d value (Some name.Black) h = ok_same _ d h
tag_phase c d value (Some name.Round) h = ok_same _ d h
tag_phase c d value (Some name.Result) h = ok_same _ d h
tag_phase c d value (Some name.Fen) h = ap (λ (x : Course). x.phase) h.3

pair_phase : (c d : Course) (phase : Phase) (pair : Option TagPair) → TakesTag c phase pair (Ok d) → d.phase ≡ c.phase
pair_phase c d Tags None h = ok_none d _ c.phase h
pair_phase c d Tags (Some pair) h = tag_phase c d (tag_value pair.quoted) (tag_by_name pair.name) h
pair_phase c d (Moves depth) pair h = ok_none d _ c.phase h
pair_phase c d Over pair h = ok_none d _ c.phase h

move_phase : (c d : Course) (text : List ℕ) (few : Bool) → TakesMove c text few (Ok d) → d.phase ≡ c.phase
move_phase c d text true h = ap (λ (x : Course). x.phase) h.2.2
move_phase c d text false h = ok_none d _ c.phase h

main_phase : (depth : ℕ) (c d : Course) (IsTaken : Type 0) → TakesIfMain depth c (Ok d) IsTaken → (IsTaken → d.phase ≡ c.phase) → d.phase ≡ c.phase
main_phase zero c d IsTaken h same = same h
main_phase (suc depth) c d IsTaken h same = ok_same c d h

close_phase : (depth : ℕ) (c d : Course) → ClosesVariation depth c (Ok d) → d.phase ≡ c.phase
close_phase zero c d h = ok_none d _ c.phase h
close_phase (suc depth) c d h = ok_same c d h

pub taken_phase : (c d : Course) (told : Telling) → TakesToken c told (Ok d) → d.phase ≡ c.phase
taken_phase c d (Tag first pair) h = pair_phase c d c.phase pair h
taken_phase c d (MoveText text) h = main_phase (depth_of c.phase) c d _ h (move_phase c d text _)
taken_phase c d Begins h = ok_same c d h
taken_phase c d Ends h = close_phase (depth_of c.phase) c d h
taken_phase c d (Told result) h = main_phase (depth_of c.phase) c d _ h (ok_same _ d)
taken_phase c d Stray h = main_phase (depth_of c.phase) c d _ h (ok_none d _ c.phase)
taken_phase c d Endless h = ok_none d _ c.phase h
taken_phase c d TooLong h = ok_none d _ c.phase h

result_phase : (c : Course) (line : ℕ) (told : Telling) (r : Result Course Cause) → TakesToken c told r → (course_after_token c line r).phase ≡ c.phase
result_phase c line told (Ok d) h = taken_phase c d told h
result_phase c line told (Err cause) h = refl

passed_phase : (fault : Option GameFault) (c d : Course) (t : Token) → MatchOption fault ((r : Result Course Cause) × TakesToken c t.is r × (d ≡ passed (course_after_token c t.line r) t)) (λ f. d ≡ passed c t) → d.phase ≡ phase_after_token c.phase t.is
passed_phase None c d t h =
    ap (λ (x : Course). x.phase) h.2 ∙ ap (λ (p : Phase). phase_after_token p t.is) (result_phase c t.line t.is h.0 h.1)
passed_phase (Some f) c d t h = ap (λ (x : Course). x.phase) h

pub phase_after : (c d : Course) (t : Token) → PassesToken c t d → d.phase ≡ phase_after_token c.phase t.is
phase_after c d t h = passed_phase c.fault c d t h

-- nothing was told
pub continues_same : (c : Course) (ts us : List Token) → ts ≡ us → Continues c ts c us
continues_same c ts us e = record {
  told = λ x h. subst (λ (l : List Token). ReadsTokens c (of_game c.phase l) x) (sym e) h;
  rest = ap (behind_game c.phase) (sym e);
}

pub continues_then : (c d e : Course) (ts us vs : List Token) → Continues c ts d us → Continues d us e vs → Continues c ts e vs
continues_then c d e ts us vs a b = record { told = λ x h. a.told x (b.told x h); rest = b.rest ∙ a.rest }

of_one : (phase : Phase) (t : Token) (ts : List Token) → goes_on phase t.is ≡ true → of_game phase (t ∷ ts) ≡ t ∷ of_game (phase_after_token phase t.is) ts
unfolding of_game
of_one phase t ts h = ap (λ (b : Bool). cond b (t ∷ of_game (phase_after_token phase t.is) ts) []) h

behind_one : (phase : Phase) (t : Token) (ts : List Token) → goes_on phase t.is ≡ true → behind_game phase (t ∷ ts) ≡ behind_game (phase_after_token phase t.is) ts
unfolding behind_game
behind_one phase t ts h = ap (λ (b : Bool). cond b (behind_game (phase_after_token phase t.is) ts) (t ∷ ts)) h

tells_one : (c d : Course) (t : Token) (ts : List Token) (x : Option ReadingTold) → PassesToken c t d → ReadsTokens d ts x → ReadsTokens c (t ∷ ts) x
unfolding ReadsTokens
tells_one c d t ts x h g = (d, h, g)

-- a token was passed
pub continues_one : (c d : Course) (t : Token) (us : List Token) → PassesToken c t d → goes_on c.phase t.is ≡ true → Continues c (t ∷ us) d us
continues_one c d t us h on =
    let phase : phase_after_token c.phase t.is ≡ d.phase = sym (phase_after c d t h) in
    record {
      told = λ x g. subst (λ (l : List Token). ReadsTokens c l x) (sym (of_one c.phase t us on)) (tells_one c d t (of_game (phase_after_token c.phase t.is) us) x h (subst (λ (p : Phase). ReadsTokens d (of_game p us) x) (sym phase) g));
      rest = sym (behind_one c.phase t us on ∙ ap (λ (p : Phase). behind_game p us) phase);
    }

-- a token that belongs to no game that is over, or to the next one
of_none : (phase : Phase) (t : Token) (ts : List Token) → goes_on phase t.is ≡ false → of_game phase (t ∷ ts) ≡ []
unfolding of_game
of_none phase t ts h = ap (λ (b : Bool). cond b (t ∷ of_game (phase_after_token phase t.is) ts) []) h

behind_none : (phase : Phase) (t : Token) (ts : List Token) → goes_on phase t.is ≡ false → behind_game phase (t ∷ ts) ≡ t ∷ ts
unfolding behind_game
behind_none phase t ts h = ap (λ (b : Bool). cond b (behind_game (phase_after_token phase t.is) ts) (t ∷ ts)) h

pub over_before : (c : Course) (t : Token) (ts : List Token) → goes_on c.phase t.is ≡ false → IsGameOver c (t ∷ ts)
over_before c t ts h = record { none = of_none c.phase t ts h; all = behind_none c.phase t ts h }

over_none : (c : Course) → IsGameOver c []
unfolding of_game behind_game
over_none c = record { none = refl; all = refl }

pub over_at_end : (c : Course) (ts : List Token) → ts ≡ [] → IsGameOver c ts
over_at_end c ts e = subst (IsGameOver c) (sym e) (over_none c)

over_any : (c : Course) (ts : List Token) → c.phase ≡ Over → IsGameOver c ts
over_any c [] e = over_none c
over_any c (t ∷ ts) e = over_before c t ts (ap (λ (p : Phase). goes_on p t.is) e)

pub over_by_result : (c : Course) (ts : List Token) → c.phase ≡ Over → IsGameOver c ts
over_by_result c ts e = over_any c ts e

on_by : (p : Phase) → (p ≡ Over → ⊥) → IsOn p
on_by Tags h = tt
on_by (Moves depth) h = tt
on_by Over h = h refl

pub is_on : (p q : Phase) → p ≡ q → (p ≡ Over → ⊥) → IsOn q
is_on p q e h = subst IsOn e (on_by p h)

-- a fault leaves it as far as it had come
pub still_on : (c d : Course) (t : Token) → PassesToken c t d → phase_after_token c.phase t.is ≡ c.phase → IsOn c.phase → IsOn d.phase
still_on c d t h same on = subst IsOn (sym (phase_after c d t h ∙ same)) on

pub goes_on_by : (p : Phase) (told : Telling) → IsOn p → is_tag_in_first_column told ≡ false → goes_on p told ≡ true
goes_on_by Tags told on none = refl
goes_on_by (Moves depth) told on none = ap not none
goes_on_by Over told on none = absurd on
