-- A listener in memory, as a stream comes and is closed.
use Rattle.std.proofs.Common.{◌≡◌, ℕ, suc, ◌-◌, ◌<◌, ◌≤◌, List, [], ◌∷◌, ◌++◌, arith, length, map, reverse, set, take, append-nil, get_or, Option, Some, None, refl, sym, ap, subst, ◌∙◌}
use Rattle.std.proofs.lemmas.List.{get_or-set_same, get_or-set_other, get_or_default, get_or_past, map-append, reverse-append, length-append, length-take}
use Rattle.std.specs.Prelude.{option_map, option_to_list, slice_get}
use Rattle.http_loop.specs.declared.memory.Coming.{Coming}
use Rattle.http_loop.specs.declared.memory.Left.{Left}
use Rattle.http_loop.specs.Memory.{ComesFirst, closed_stream, streams_in}
use Rattle.http_loop.specs.Ends.{coming_stream}
use Rattle.http_loop.specs.Streams.{Closed, Closes, Opens, Stream}

pub comes : (opened : List (Option Coming)) (closed : List Left) (key : ℕ) (coming : Coming) (came : Stream) → key < length opened → coming_stream coming ≡ came
    → Opens (Some (streams_in opened closed)) (Some (streams_in (set opened key (Some coming)) closed)) key came
comes opened closed key coming came within is = λ vacant. record {
  here = ap (option_map coming_stream) (get_or-set_same opened key (Some coming) None within) ∙ ap Some is;
  others = λ other differs. ap (option_map coming_stream) (get_or-set_other opened key other (Some coming) None differs);
  closed = refl;
}

same_came : (a b : Stream) → Some a ≡ Some b → a ≡ b
same_came a b is = cc

pub goes : (opened : List (Option Coming)) (closed : List Left) (key : ℕ) (left : Left) (ends : Stream) (d : Option Coming) → key < length opened → get_or opened key d ≡ Some left.came
    → (closed_stream left).left ≡ ends → Closes (Some (streams_in opened closed)) (Some (streams_in (set opened key None) (closed ++ left ∷ []))) key ends
goes opened closed key left ends d within is ended = λ came was.
    let is' = get_or_default opened key None d within ∙ is in
    let same = same_came (coming_stream left.came) came (sym (ap (option_map coming_stream) is') ∙ was) in
    let P : Stream → Stream → Closed = λ a b. record { came = a; left = b } in
    record {
      here = ap (option_map coming_stream) (get_or-set_same opened key None None within);
      others = λ other differs. ap (option_map coming_stream) (get_or-set_other opened key other None None differs);
      closed = map-append closed_stream closed (left ∷ []) ∙ ap (λ (c : Closed). map closed_stream closed ++ c ∷ []) (ap (λ a. P a (closed_stream left).left) same ∙ ap (P came) ended);
    }

-- no stream is open where none stands
pub not_open : (opened opened' : List (Option Coming)) (closed closed' : List Left) (key : ℕ) (d : Option Coming) (ends : Stream) → key < length opened → get_or opened key d ≡ None
    → Closes (Some (streams_in opened closed)) (Some (streams_in opened' closed')) key ends
not_open opened opened' closed closed' key d ends within none = λ came was.
    absurd (none_some came (sym (ap (option_map coming_stream) (get_or_default opened key None d within ∙ none)) ∙ was))
  where
    none_some : (came : Stream) → None ≡ Some came → ⊥
    none_some came is = absurd (cc)

-- nor past the last key
pub not_open_past : (opened : List (Option Coming)) (closed : List Left) (key : ℕ) (ends : Stream) → length opened ≤ key
    → Closes (Some (streams_in opened closed)) (Some (streams_in opened closed)) key ends
not_open_past opened closed key ends past = λ came was.
    absurd (none_some came (sym (ap (option_map coming_stream) (get_or_past opened key None past)) ∙ was))
  where
    none_some : (came : Stream) → None ≡ Some came → ⊥
    none_some came is = absurd (cc)

get_last : (new : List Coming) (last : Coming) → slice_get (new ++ last ∷ []) (length (new ++ last ∷ []) - 1) ≡ Some last
get_last [] last = refl
get_last (first ∷ rest) last =
    let long = length-append rest (last ∷ []) in
    let next : length (first ∷ rest ++ last ∷ []) - 1 ≡ suc (length (rest ++ last ∷ []) - 1) = omega (arith, long) in
    ap (slice_get (first ∷ rest ++ last ∷ [])) next ∙ get_last rest last

some_same : (a b : Coming) → Some a ≡ Some b → a ≡ b
some_same a b is = cc

-- the last of the list, which was popped, is the first of those that come
pub last_comes : (old new : List Coming) (long : ℕ) (popped : Option Coming) (first : Coming) (ends : Stream) → old ≡ new ++ option_to_list popped → new ≡ take (long - 1) old → long ≡ length old
    → slice_get old (length old - 1) ≡ Some first → ends ≡ coming_stream first → ComesFirst (reverse old) (reverse new) ends
last_comes old new long None first ends is rest counted last gives = absurd (none old new first (is ∙ append-nil new) (rest ∙ ap (λ n. take (n - 1) old) counted) last)
  where
    none : (old new : List Coming) (first : Coming) → old ≡ new → new ≡ take (length old - 1) old → slice_get old (length old - 1) ≡ Some first → ⊥
    none [] new first same rest last = absurd (cc)
    none (x ∷ xs) new first same rest last =
        omega (arith, ap length same, ap length rest, length-take (length (x ∷ xs) - 1) (x ∷ xs))
last_comes old new long (Some popped) first ends is rest counted last gives =
    let at = subst (λ (t : List Coming). slice_get t (length t - 1) ≡ Some first) is last in
    let same = some_same popped first (sym (get_last new popped) ∙ at) in
    (popped, ap reverse is ∙ reverse-append new (popped ∷ []), gives ∙ ap coming_stream (sym same))
