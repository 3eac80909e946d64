-- What was sent in a turn, step by step, and from when its time is counted.
use Rattle.std.proofs.Common.{◌≡◌, ◌<◌, ℕ, Bool, true, false, ◌||◌, ◌&&◌, not, arith, cond, List, ◌++◌, length, ap, length-append, refl, sym, ◌∙◌, inl, inr}
use Rattle.std.specs.Prelude.{IsFalse}
use Rattle.std.specs.declared.time.Instant.{Instant}
use Rattle.http_server.specs.Connection.{history}
use Rattle.http_loop.specs.declared.peer.Peer.{Peer}
use Rattle.http_loop.specs.Turns.{KeepsTime, SendsSome, StaysIdle}

-- what was sent before a step, or in it, was sent after it
pub sends_more : (a b c d : List ℕ) (more went : List ℕ) (was is : Bool) → b ≡ a ++ more → c ≡ b → d ≡ c ++ went → (was ≡ true → length a < length b) → (is ≡ true → length c < length d)
    → (was || is) ≡ true → length a < length d
sends_more a b c d more went was is x y z before now sent =
    by was is before now sent
  where
    by : (was is : Bool) → (was ≡ true → length a < length b) → (is ≡ true → length c < length d) → (was || is) ≡ true → length a < length d
    by true is before now sent = omega (arith, before refl, ap length x ∙ length-append a more, ap length y, ap length z ∙ length-append c went)
    by false true before now sent = omega (arith, now refl, ap length x ∙ length-append a more, ap length y, ap length z ∙ length-append c went)
    by false false before now sent = absurd (cc)

at_now : {R W : Type 0} (now : Instant) (old new : Peer R W) → new.since ≡ now → (IsFalse old.is_idle → (history new.connection).sent ≡ (history old.connection).sent → ⊥) → KeepsTime now old new
at_now now old new is never = record { either = inr is; on = λ waits same. absurd (never waits same) }

-- the time is counted anew where something was sent, or the first bytes came
pub keeps_time : {R W : Type 0} (now : Instant) (old new : Peer R W) (sent began came : Bool) → new.since ≡ cond (sent || began) now old.since → began ≡ (came && old.is_idle)
    → (sent ≡ true → SendsSome (history old.connection) (history new.connection)) → KeepsTime now old new
keeps_time now old new true began came is begins sends =
    at_now now old new is (λ waits same. omega (arith, sends refl, ap length same))
keeps_time now old new false true came is begins sends =
    at_now now old new is (λ waits same. no came old.is_idle waits begins)
  where
    no : (came idle : Bool) → idle ≡ false → true ≡ (came && idle) → ⊥
    no true true waits begins = absurd (cc)
    no true false waits begins = absurd (cc)
    no false idle waits begins = absurd (cc)
keeps_time now old new false false came is begins sends = record { either = inl is; on = λ waits same. is }

-- where nothing was read before a step, nor in it, nothing was read after it
pub reads_none : (a b c d : List ℕ) (was is : Bool) → (was ≡ false → b ≡ a) → c ≡ b → (is ≡ false → d ≡ c) → (was || is) ≡ false → d ≡ a
reads_none a b c d true is before same now none = absurd (cc)
reads_none a b c d false true before same now none = absurd (cc)
reads_none a b c d false false before same now none = now refl ∙ same ∙ before refl

pub stays_idle : {R W : Type 0} (old new : Peer R W) (sent came was : Bool) → was ≡ old.is_idle → new.is_idle ≡ (sent || (was && not came))
    → (sent ≡ true → SendsSome (history old.connection) (history new.connection))
    → (came ≡ false → (history new.connection).received ≡ (history old.connection).received) → StaysIdle old new
stays_idle old new true came was same is sends reads = record { only = λ idle. inl (sends refl) }
stays_idle old new false came false same is sends reads = record { only = λ idle. absurd (let none = is in cc) }
stays_idle old new false true true same is sends reads = record { only = λ idle. absurd (let none = is in cc) }
stays_idle old new false false true same is sends reads = record { only = λ idle. inr (sym same, reads refl) }
