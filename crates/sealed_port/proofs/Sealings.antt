-- What a sealed port passes on, and what it doesn't.
use Rattle.system_io.specs.Ports.{no_tag}
use Rattle.std.proofs.Common.{◌≡◌, ◌≢◌, inl, inr, ◌++◌, ◌-◌, ◌&&◌, ℕ, Bool, true, false, List, length, cond, refl, sym, ap, ◌∙◌, arith}
use Rattle.std.proofs.lemmas.List.{take-append-drop}
use Rattle.std.proofs.lemmas.Slice.Eq.{bytes_eq-Decides}
use Rattle.sealed_port.proofs.Opening.{before_sealed, is_sealed_sealed, length-tag_of}
use Rattle.sealed_port.specs.Laws.{IsSealedAs}
use Rattle.sealed_port.specs.Sealing.{before_tag, is_sealed, is_sealed_by, opened, sealed, tag_of}
use Rattle.sealed_port.specs.declared.seal_port.Keys.{Keys}

second_holds : (a b : Bool) → (a && b) ≡ true → b ≡ true
second_holds a b h = grind arith

pub sealed_by_test : (key datagram : List ℕ) → is_sealed key datagram ≡ true → datagram ≡ sealed key (before_tag datagram)
sealed_by_test key datagram h =
    sym (take-append-drop (length datagram - 16) datagram)
    ∙ ap (λ (t : List ℕ). before_tag datagram ++ t) (sym ((bytes_eq-Decides _ _).0 (second_holds _ _ h)))

by_first : (keys : Keys) (bytes datagram : List ℕ) → is_sealed keys.first datagram ≡ true → before_tag datagram ≡ bytes → IsSealedAs keys bytes datagram
by_first keys bytes datagram h e = inl (sealed_by_test keys.first datagram h ∙ ap (sealed keys.first) e)

by_second : (keys : Keys) (bytes datagram : List ℕ) → is_sealed keys.second datagram ≡ true → before_tag datagram ≡ bytes → IsSealedAs keys bytes datagram
by_second keys bytes datagram h e = inr (sealed_by_test keys.second datagram h ∙ ap (sealed keys.second) e)

pub only_sealed : (keys : Keys) (datagram bytes : List ℕ) → opened (is_sealed_by keys datagram) datagram ≡ bytes → bytes ≢ no_tag → IsSealedAs keys bytes datagram
only_sealed keys datagram bytes h some = by_tests (is_sealed keys.first datagram) (is_sealed keys.second datagram) refl refl h
  where
    by_tests : (a b : Bool) → is_sealed keys.first datagram ≡ a → is_sealed keys.second datagram ≡ b → opened (cond a true b) datagram ≡ bytes → IsSealedAs keys bytes datagram
    by_tests true b p q e = by_first keys bytes datagram p e
    by_tests false true p q e = by_second keys bytes datagram q e
    by_tests false false p q e = absurd (some (sym e))

pub passes_sealed : (keys : Keys) (bytes datagram : List ℕ) → IsSealedAs keys bytes datagram → opened (is_sealed_by keys datagram) datagram ≡ bytes
passes_sealed keys bytes datagram (inl e) =
    ap (λ (d : List ℕ). opened (cond (is_sealed keys.first d) true (is_sealed keys.second d)) d) e
    ∙ ap (λ (b : Bool). opened (cond b true (is_sealed keys.second (sealed keys.first bytes))) (sealed keys.first bytes)) (is_sealed_sealed keys.first bytes)
    ∙ before_sealed bytes (tag_of keys.first bytes) (length-tag_of keys.first bytes)
passes_sealed keys bytes datagram (inr e) =
    ap (λ (d : List ℕ). opened (cond (is_sealed keys.first d) true (is_sealed keys.second d)) d) e
    ∙ ap (λ (b : Bool). opened (cond (is_sealed keys.first (sealed keys.second bytes)) true b) (sealed keys.second bytes)) (is_sealed_sealed keys.second bytes)
    ∙ ap (λ (b : Bool). opened b (sealed keys.second bytes)) (either_true (is_sealed keys.first (sealed keys.second bytes)))
    ∙ before_sealed bytes (tag_of keys.second bytes) (length-tag_of keys.second bytes)
  where
    either_true : (b : Bool) → cond b true true ≡ true
    either_true true = refl
    either_true false = refl
