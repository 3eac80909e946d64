-- A law of traced files.
use Rattle.std.specs.Prelude.{◌≡◌, ◌⊎◌, ℕ, List, [], ◌∷◌, Option}
use Rattle.std.specs.List.{AllByRecursion}
use Rattle.std.proofs.Common.{◌∙◌, inl, inr, ⊎_elim, sym}
use Rattle.system_io.specs.declared.call_log.CallLog.{CallLog}
use Rattle.system_io.specs.FileCalls.{CallFacts}
use Rattle.system_io.specs.Traces.{Bytes, IsAmong, IsOneOf, SaysOneOf}
use Rattle.system_io.specs.KeptFiles.{bytes_of}
use Rattle.system_io.specs.Premises.{IsAsTold}

pub says_one : {C : Type 0} (facts : C → CallFacts) (t : CallLog C) (a b c : Option (List ℕ)) → SaysOneOf facts t a b → SaysOneOf facts t c c → (c ≡ a) ⊎ (c ≡ b)
says_one facts t a b c h k =
    let here : bytes_of t.stands ≡ c = ⊎_elim (λ e. e) (λ e. e) k.names.now in
    ⊎_elim (λ e. inl (sym here ∙ e)) (λ e. inr (sym here ∙ e)) h.names.now

one_among : (a b read : Option (List ℕ)) (os : List (Option Bytes)) → AllByRecursion (IsOneOf a b) os → IsAmong read os → (read ≡ a) ⊎ (read ≡ b)
one_among a b read [] h m = absurd m
one_among a b read (o ∷ os) h (inl e) = ⊎_elim (λ x. inl (e ∙ x)) (λ x. inr (e ∙ x)) h.0
one_among a b read (o ∷ os) h (inr m) = one_among a b read os h.1 m

pub as_told : {C : Type 0} (facts : C → CallFacts) (left : CallLog C) (read a b : Option (List ℕ)) → IsAsTold left read → SaysOneOf facts left a b → (read ≡ a) ⊎ (read ≡ b)
as_told facts left read a b told h = one_among a b read (left.stands ∷ left.earlier.items) (h.names.now, h.names.before) (told.among h.known)
