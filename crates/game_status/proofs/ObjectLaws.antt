-- Objects that are written token by token, and read back.
use Rattle.std.proofs.Common.{◌≡◌, ◌∙◌, ◌++◌, ◌≤◌, ◌+◌, ℕ, Bool, true, false, List, [], ◌∷◌, Some, refl, sym, ap, append_assoc, append-nil, option_and_then}
use Rattle.std.specs.Prelude.{Result, Ok, Err, OnOk}
use Rattle.std.proofs.lemmas.Bool.{false≢true}
use Rattle.json.specs.Json.{Json, array, object, Members, no_members, member, document, if_last, max_depth, value}
use Rattle.json.specs.Lex.{tokens}
use Rattle.json.specs.Print.{print}
use Rattle.json.specs.Token.{Token, begin_array, begin_object, end_array, end_object, key}
use Rattle.json.specs.Tree.{depth, items_tokens, json_tokens, members_tokens}
use Rattle.json.specs.Written.{Writes, Written}
use Rattle.json.proofs.Printed.Trees.{value-json_tokens}
use Rattle.game_status.specs.StatusObjects.{AddsMembers, AddsTokens, game_json, games_items, json_text, members_if}
use Rattle.game_status.specs.Totals.{FoundGame}
use Rattle.game_status.specs.Inside.Objects.{games_tokens}

-- ---- tokens

pub one : {E : Type 0} (x : Unit {0}) (old new : Written) (t : Token) → Writes {E = E} (Ok x) old new t → AddsTokens old new (t ∷ [])
one x old new t w = record { before = w.room.0; tokens = w.ok }

pub last : {E : Type 0} (r : Result (Unit {0}) E) (old new : Written) (t : Token) → Writes r old new t → OnOk r (AddsTokens old new (t ∷ []))
last (Ok x) old new t w = record { before = w.room.0; tokens = w.ok }
last (Err e) old new t w = tt

pub no_tokens : (w : Written) → AddsTokens w w []
no_tokens w = record { before = refl; tokens = sym (append-nil w.tokens) }

pub both : (a b c : Written) (ts us : List Token) → AddsTokens a b ts → AddsTokens b c us → AddsTokens a c (ts ++ us)
both a b c ts us h k = record { before = k.before ∙ h.before; tokens = k.tokens ∙ ap (λ l. l ++ us) h.tokens ∙ append_assoc a.tokens ts us }

-- ---- members

pub followed : (a b c : Written) (f g : Members → Members) → AddsMembers a b f → AddsMembers b c g → AddsMembers a c (λ more. f (g more))
followed a b c f g h k = record { before = k.before ∙ h.before; tokens = λ more. k.tokens more ∙ h.tokens (g more) }

-- a name, and then a value
pub valued : (a b c : Written) (name : List ℕ) (j : Json) → AddsTokens a b (key name ∷ []) → AddsTokens b c (json_tokens j) → AddsMembers a c (member name j)
valued a b c name j h k =
    let added = both a b c (key name ∷ []) (json_tokens j) h k in
    record {
      before = added.before;
      tokens = λ more. ap (λ l. l ++ members_tokens more) added.tokens ∙ append_assoc a.tokens (key name ∷ json_tokens j) (members_tokens more);
    }

-- members between braces
pub braced : (a b c d : Written) (f : Members → Members) → AddsTokens a b (begin_object ∷ []) → AddsMembers b c f → AddsTokens c d (end_object ∷ []) → AddsTokens a d (json_tokens (object (f no_members)))
braced a b c d f h m k = record {
  before = k.before ∙ m.before ∙ h.before;
  tokens = k.tokens ∙ m.tokens no_members ∙ ap (λ l. l ++ members_tokens (f no_members)) h.tokens ∙ append_assoc a.tokens (begin_object ∷ []) (members_tokens (f no_members));
}

-- an object that is a member
pub object_valued : (a k b c d : Written) (name : List ℕ) (f : Members → Members) → AddsTokens a k (key name ∷ []) → AddsTokens k b (begin_object ∷ []) → AddsMembers b c f → AddsTokens c d (end_object ∷ []) → AddsMembers a d (member name (object (f no_members)))
object_valued a k b c d name f named h m e = valued a k d name (object (f no_members)) named (braced k b c d f h m e)

-- ---- games

games_closed : (compares : Bool) (found : List FoundGame) → games_tokens compares found ++ end_array ∷ [] ≡ items_tokens (games_items compares found)
games_closed compares [] = refl
games_closed compares (f ∷ fs) =
    append_assoc (json_tokens (game_json compares f)) (games_tokens compares fs) (end_array ∷ []) ∙ ap (λ l. json_tokens (game_json compares f) ++ l) (games_closed compares fs)

-- the list of games is a member
pub listed : (a k b c d : Written) (name : List ℕ) (compares : Bool) (found : List FoundGame) → AddsTokens a k (key name ∷ []) → AddsTokens k b (begin_array ∷ []) → AddsTokens b c (games_tokens compares found) → AddsTokens c d (end_array ∷ []) → AddsMembers a d (member name (array (games_items compares found)))
listed a k b c d name compares found named h m e =
    let all = both k c d (begin_array ∷ games_tokens compares found) (end_array ∷ []) (both k b c (begin_array ∷ []) (games_tokens compares found) h m) e in
    valued a k d name (array (games_items compares found)) named (record { before = all.before; tokens = all.tokens ∙ ap (λ l. k.tokens ++ (begin_array ∷ l)) (games_closed compares found) })

-- ---- members that stand only where that is so

pub stand_if : (is_so : Bool) (ms : Members → Members) (old new : Written) → is_so ≡ true → AddsMembers old new ms → AddsMembers old new (members_if is_so ms)
stand_if true ms old new e h = h
stand_if false ms old new e h = absurd (false≢true e)

pub lack_if : (is_so : Bool) (ms : Members → Members) (w : Written) → is_so ≡ false → AddsMembers w w (members_if is_so ms)
lack_if true ms w e = absurd (false≢true (sym e))
lack_if false ms w e = record { before = refl; tokens = λ more. refl }

-- ---- reading back

pub reads_back : (j : Json) → tokens (print (json_tokens j)) ≡ json_tokens j → depth j ≤ max_depth → document (json_text j) ≡ Some j
reads_back j same shallow =
    ap (λ ts. option_and_then (λ p. if_last p.0 p.1) (value max_depth ts)) (same ∙ sym (append-nil (json_tokens j)))
    ∙ ap (option_and_then (λ p. if_last p.0 p.1)) (value-json_tokens j max_depth [] shallow)
