-- A setup is good or not.
use Rattle.std.proofs.Common.{◌≡◌, ◌≤◌, ◌<◌, true, false, length, inl, inr, ◌⊎◌, arith, ⊎_elim}
use Rattle.std.specs.List.{list_all}
use Rattle.std.proofs.lemmas.Bool.{both_ways, cases_Bool, cases_lt}
use Rattle.move_msg.specs.Stamps.{is_printable}
use Rattle.arbiter_core.specs.Setups.{SetupView, IsGood}

-- one that isn't bad is good
pub good_unless : (setup : SetupView) → ((IsGood setup → ⊥) → ⊥) → IsGood setup
good_unless setup h = record { name = (long, short, printable); me = who (cases_lt setup.me 1) (cases_lt 2 setup.me); delay = few }
  where
    long : 1 ≤ length setup.name
    long = ⊎_elim (λ (lt : length setup.name < 1). absurd (h (λ g. let e = g.name.0 in omega arith))) (λ (ge : 1 ≤ length setup.name). ge) (cases_lt (length setup.name) 1)

    short : length setup.name ≤ 64
    short = ⊎_elim (λ (lt : 64 < length setup.name). absurd (h (λ g. let e = g.name.1 in omega arith))) (λ (ge : length setup.name ≤ 64). ge) (cases_lt 64 (length setup.name))

    printable : list_all is_printable setup.name ≡ true
    printable = ⊎_elim (λ (e : list_all is_printable setup.name ≡ true). e) (λ (e : list_all is_printable setup.name ≡ false). absurd (h (λ g. both_ways _ e g.name.2))) (cases_Bool (list_all is_printable setup.name))

    few : setup.delay ≤ 8
    few = ⊎_elim (λ (lt : 8 < setup.delay). absurd (h (λ g. let e = g.delay in omega arith))) (λ (ge : setup.delay ≤ 8). ge) (cases_lt 8 setup.delay)

    none : (setup.me ≡ 1) ⊎ (setup.me ≡ 2) → (setup.me < 1) ⊎ (2 < setup.me) → ⊥
    none (inl a) (inl b) = omega arith
    none (inl a) (inr b) = omega arith
    none (inr a) (inl b) = omega arith
    none (inr a) (inr b) = omega arith

    who : (setup.me < 1) ⊎ (1 ≤ setup.me) → (2 < setup.me) ⊎ (setup.me ≤ 2) → (setup.me ≡ 1) ⊎ (setup.me ≡ 2)
    who (inl lt) more = absurd (h (λ g. none g.me (inl lt)))
    who (inr one) (inl gt) = absurd (h (λ g. none g.me (inr gt)))
    who (inr one) (inr two) = ⊎_elim (λ (lt : setup.me < 2). inl (omega arith)) (λ (ge : 2 ≤ setup.me). inr (omega arith)) (cases_lt setup.me 2)
