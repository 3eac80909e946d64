-- What lingers, step by step.
use Rattle.std.proofs.Common.{◌≡◌, ◌⊎◌, arith, cond, ◌≤◌, ◌-◌, ℕ, Bool, true, false, not, List, [], ◌∷◌, All, Contains, IsFalse, filter, refl, sym, ap, subst, ◌∙◌, inl, inr}
use Rattle.std.proofs.lemmas.Bool.{le-ltb, ltb-false}
use Rattle.std.proofs.lemmas.List.Elements.{All-nil, All-cons, All-contains_itself}
use Rattle.std.specs.Time.{instant_nanos}
use Rattle.std.specs.declared.time.Instant.{Instant}
use Rattle.http_loop.specs.Times.{LingerFrom, Remain, has_passed, linger_nanos, lingers_too_long}

-- what holds of all holds of one that is among them
pub at_one : {X : Type 0} (P : X → Type 0) (xs : List X) (x : X) → All P xs → Contains xs x → P x
at_one P xs x all at = subst P at.2 (all at.0 x at.1)

imp : {X : Type 0} (P Q : X → Type 0) (xs : List X) → ((x : X) → P x → Q x) → All P xs → All Q xs
imp P Q xs f all = λ k d within. f _ (all k d within)

pub remain_all : (times : List Instant) → Remain times times
remain_all times = All-contains_itself times

module _ (now : Instant) where
  abbrev From : List Instant → Instant → Type 0
  From old closed = Contains old closed ⊎ (closed ≡ now)

  pub from_remain : (a b : List Instant) → Remain a b → LingerFrom now a b
  from_remain a b stays = imp (Contains a) (From a) b (λ closed at. inl at) stays

  pub from_same : (a b : List Instant) → b ≡ a → LingerFrom now a b
  from_same a b is = from_remain a b (subst (Remain a) (sym is) (remain_all a))

  pub from_then : (a b c : List Instant) → LingerFrom now a b → LingerFrom now b c → LingerFrom now a c
  from_then a b c x y = imp (From b) (From a) c (λ closed at. elim at [ inl there ↦ at_one (From a) b closed x there | inr anew ↦ inr anew ]) y

not_yet : (swept now : Instant) → instant_nanos swept ≤ instant_nanos now → IsFalse (lingers_too_long swept now)
not_yet swept now later = le-ltb linger_nanos (instant_nanos swept - instant_nanos now) (omega arith)

abbrev pub InTime : Instant → Instant → Type 0
InTime swept closed = IsFalse (lingers_too_long swept closed)

-- what is closed later than the last look doesn't linger too long at it
pub still_in_time : (swept now : Instant) (a b : List Instant) → instant_nanos swept ≤ instant_nanos now → LingerFrom now a b → All (InTime swept) a → All (InTime swept) b
still_in_time swept now a b later from all =
    imp (From now a) (InTime swept) b
    (λ closed at. elim at [ inl there ↦ at_one (InTime swept) a closed all there | inr anew ↦ subst (InTime swept) (sym anew) (not_yet swept now later) ])
    from

pub anew_in_time : (now : Instant) (b : List Instant) → All (λ closed. closed ≡ now) b → All (InTime now) b
anew_in_time now b all = imp (λ closed. closed ≡ now) (InTime now) b (λ closed is. subst (InTime now) (sym is) (not_yet now now (omega arith))) all

not_true : (b : Bool) → not b ≡ true → b ≡ false
not_true true is = absurd (cc)
not_true false is = refl

filter_first : {X : Type 0} (p : X → Bool) (x : X) (kept : List X) → All (λ y. p y ≡ true) kept → (b : Bool) → p x ≡ b → All (λ y. p y ≡ true) (cond b (x ∷ kept) kept)
filter_first p x kept all true is = All-cons (λ y. p y ≡ true) x kept is all
filter_first p x kept all false is = all

all_filter : {X : Type 0} (p : X → Bool) (xs : List X) → All (λ x. p x ≡ true) (filter p xs)
all_filter p [] = All-nil (λ x. p x ≡ true)
all_filter p (x ∷ xs) = filter_first p x (filter p xs) (all_filter p xs) (p x) refl

-- none that lingered too long is left
pub left_in_time : (now : Instant) (nanos : ℕ) (a b : List Instant) → nanos ≡ linger_nanos → b ≡ filter (λ closed. not (has_passed closed now nanos)) a → All (InTime now) b
left_in_time now nanos a b is left =
    subst (All (InTime now)) (sym left)
    (imp (λ closed. not (has_passed closed now nanos) ≡ true) (InTime now) _ (λ closed keeps. ap (λ n. has_passed closed now n) (sym is) ∙ not_true _ keeps) (all_filter (λ closed. not (has_passed closed now nanos)) a))

-- no time has passed since now
pub not_passed : (now : Instant) (nanos : ℕ) → IsFalse (has_passed now now nanos)
not_passed now nanos = le-ltb nanos (instant_nanos now - instant_nanos now) (omega arith)

-- a time that isn't earlier
pub not_earlier : (a b : Instant) → IsFalse (has_passed a b 0) → instant_nanos b ≤ instant_nanos a
not_earlier a b none = omega (arith, ltb-false 0 (instant_nanos b - instant_nanos a) none)

pub none_lingers : (swept : Instant) (times : List Instant) → times ≡ [] → All (InTime swept) times
none_lingers swept times none = subst (All (InTime swept)) (sym none) (All-nil (InTime swept))
