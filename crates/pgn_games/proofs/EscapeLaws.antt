-- What a string says, byte by byte.
use Rattle.std.proofs.Common.{◌≡◌, ◌≢◌, ◌∙◌, ℕ, ◌+◌, ◌<◌, ◌≤◌, ◌++◌, Bool, true, false, List, [], ◌∷◌, length, drop, get_or, refl, sym, ap, arith, add-one, drop-cons, append_assoc, append-nil, subst}
use Rattle.std.specs.Prelude.{◌==◌}
use Rattle.std.proofs.lemmas.Bool.Decides.{nat_tests}
use Rattle.std.proofs.lemmas.List.{drop_all}
use Rattle.pgn_games.specs.Tags.{unescaped}

cut : (t : List ℕ) (i : ℕ) → i < length t → drop i t ≡ get_or t i 0 ∷ drop (i + 1) t
cut t i h = rw (add-one, drop-cons t i 0) refl

escaped_step : (b : ℕ) (t : List ℕ) → unescaped true (b ∷ t) ≡ b ∷ unescaped false t
unfolding unescaped
escaped_step b t = refl

plain_step : (b : ℕ) (t : List ℕ) → b ≢ 92 → unescaped false (b ∷ t) ≡ b ∷ unescaped false t
unfolding unescaped
plain_step b t other = let e : (b == 92) ≡ false = grind (arith, nat_tests) in rw e refl

sign_step : (b : ℕ) (t : List ℕ) → b ≡ 92 → unescaped false (b ∷ t) ≡ unescaped true t
unfolding unescaped
sign_step b t is = rw is refl

pub nothing_left : (e : Bool) → unescaped e [] ≡ []
unfolding unescaped
nothing_left e = refl

push_one : (v xs : List ℕ) (b : ℕ) → v ++ (b ∷ xs) ≡ (v ++ b ∷ []) ++ xs
push_one v xs b = sym (append_assoc v (b ∷ []) xs)

pub escaped_more : (t : List ℕ) (i : ℕ) (whole v : List ℕ) → i < length t → whole ≡ v ++ unescaped true (drop i t) → whole ≡ (v ++ get_or t i 0 ∷ []) ++ unescaped false (drop (i + 1) t)
escaped_more t i whole v h e =
    e ∙ ap (λ s. v ++ unescaped true s) (cut t i h) ∙ ap (λ s. v ++ s) (escaped_step (get_or t i 0) (drop (i + 1) t)) ∙ push_one v _ _

pub plain_more : (t : List ℕ) (i : ℕ) (whole v : List ℕ) → i < length t → whole ≡ v ++ unescaped false (drop i t) → get_or t i 0 ≢ 92 → whole ≡ (v ++ get_or t i 0 ∷ []) ++ unescaped false (drop (i + 1) t)
plain_more t i whole v h e other =
    e ∙ ap (λ s. v ++ unescaped false s) (cut t i h) ∙ ap (λ s. v ++ s) (plain_step (get_or t i 0) (drop (i + 1) t) other) ∙ push_one v _ _

pub sign_more : (t : List ℕ) (i : ℕ) (whole v : List ℕ) → i < length t → whole ≡ v ++ unescaped false (drop i t) → get_or t i 0 ≡ 92 → whole ≡ v ++ unescaped true (drop (i + 1) t)
sign_more t i whole v h e is =
    e ∙ ap (λ s. v ++ unescaped false s) (cut t i h) ∙ ap (λ s. v ++ s) (sign_step (get_or t i 0) (drop (i + 1) t) is)

pub said : (t : List ℕ) (i : ℕ) (e : Bool) (whole v : List ℕ) → length t ≤ i → whole ≡ v ++ unescaped e (drop i t) → v ≡ whole
said t i e whole v h is =
    sym (is ∙ ap (λ s. v ++ unescaped e s) (drop_all i t h) ∙ ap (λ s. v ++ s) (nothing_left e) ∙ append-nil v)

pub joined : (v w : List ℕ) (d e : Bool) (P : List ℕ → Bool → Type 0) → v ≡ w → d ≡ e → P v d → P w e
joined v w d e P vw de h = subst (P w) de (subst (λ x. P x d) vw h)
