use Rattle.std.proofs.Common.{◌≡◌, ◌≤◌, ℕ, false, ap, sym, subst, Ok}
use Rattle.board_core.specs.Delays.{most_delay}
use Rattle.judge_core.specs.Tables.{Holding}
use Rattle.arbiter_core.specs.declared.state.ArbiterState.TheInside.{Inside}
use Rattle.arbiter_core.specs.Recording.{ReorderBuffer}
use Rattle.arbiter_core.specs.Answering.{Identity}
use Rattle.arbiter_core.specs.Setups.{SetupView, terms_with}
use Rattle.arbiter_core.specs.Resting.{awake}
use Rattle.arbiter_core.specs.Views.{View}
use Rattle.arbiter_core.specs.Opens.{OpenResult, running}
use Rattle.arbiter_core.specs.Inside.AtRest.{rest_of}
use Rattle.arbiter_core.specs.Inside.Playing.{IsArbiterInOrder, recorded_in}
use Rattle.arbiter_core.specs.Inside.Starting.{identity_by}
use Rattle.arbiter_core.proofs.Known.{good_terms, stamped_terms}
use Rattle.arbiter_core.proofs.Opened.{first_in_order, opened_keeps, opens_as, runs_is}
use Rattle.arbiter_core.proofs.Waking.{can_wake}
use Rattle.arbiter_core.proofs.state.ArbiterState.open_known.Goals as goal

pub returns-in-Ok-clause-wakes : goal.returns-in-Ok-clause-wakes
returns-in-Ok-clause-wakes g c =
    let set : Holding = c.args.tables.now in
    let terms : SetupView = terms_with c.args.terms set in
    can_wake (record { terms = c.args.terms; played = c.in-Ok.played; window = c.empty.result; down = false }) set
    (subst (λ (w : ReorderBuffer). IsArbiterInOrder terms c.in-Ok.played w) (sym c.empty.ensures)
    (first_in_order terms c.args.stamp c.in-Ok.played (subst (λ (n : ℕ). n ≤ most_delay) c.plies-plies.ensures.value c.plies-plies.ensures.in_range) c.in-Ok.ensures.played))

pub returns-in-Ok-clause-opens : goal.returns-in-Ok-clause-opens
returns-in-Ok-clause-opens g c =
    let set : Holding = c.args.tables.now in
    let terms : SetupView = terms_with c.args.terms set in
    let me : Identity = identity_by c.args.terms c.args.stamp in
    let opened : Inside = record { terms = c.args.terms; played = c.in-Ok.played; window = c.empty.result; down = false } in
    let told : ◌≡◌ {A = OpenResult} (Ok (running terms me (recorded_in c.in-Ok.played))) (Ok (awake (rest_of opened) set)) =
    ap (λ (v : View). Ok v) (sym (runs_is terms c.in-Ok.played.record.stamp c.args.stamp c.args.terms.me (recorded_in c.in-Ok.played) c.empty.result c.in-Ok.ensures.played.stamp_is c.empty.ensures)) in
    record {
      good = λ good. (me, stamped_terms c.args.terms set c.args.stamp c.requires.stamped, opens_as g.K.Keeper.facts terms me c.args.keeper.now c.recorded.new.keeper _ _ told c.in-Ok.ensures.opens);
      bad = λ bad. absurd (bad (good_terms c.args.terms set c.requires.named (subst (λ (n : ℕ). n ≤ most_delay) c.plies-plies.ensures.value c.plies-plies.ensures.in_range)));
    }

pub returns-in-Err-clause-opens : goal.returns-in-Err-clause-opens
returns-in-Err-clause-opens g c =
    let set : Holding = c.args.tables.now in
    record {
      good = λ good. (identity_by c.args.terms c.args.stamp, stamped_terms c.args.terms set c.args.stamp c.requires.stamped, c.in-Err.ensures.opens);
      bad = λ bad. absurd (bad (good_terms c.args.terms set c.requires.named (subst (λ (n : ℕ). n ≤ most_delay) c.plies-plies.ensures.value c.plies-plies.ensures.in_range)));
    }

pub returns-in-Ok-clause-keeps : goal.returns-in-Ok-clause-keeps
returns-in-Ok-clause-keeps g c = λ up.
    let set : Holding = c.args.tables.now in
    let terms : SetupView = terms_with c.args.terms set in
    let me : Identity = identity_by c.args.terms c.args.stamp in
    let opened : Inside = record { terms = c.args.terms; played = c.in-Ok.played; window = c.empty.result; down = false } in
    let told : ◌≡◌ {A = OpenResult} (Ok (running terms me (recorded_in c.in-Ok.played))) (Ok (awake (rest_of opened) set)) =
    ap (λ (v : View). Ok v) (sym (runs_is terms c.in-Ok.played.record.stamp c.args.stamp c.args.terms.me (recorded_in c.in-Ok.played) c.empty.result c.in-Ok.ensures.played.stamp_is c.empty.ensures)) in
    opened_keeps g.K.Keeper.facts terms me c.args.keeper.now c.recorded.new.keeper (awake (rest_of opened) set)
    (opens_as g.K.Keeper.facts terms me c.args.keeper.now c.recorded.new.keeper _ _ told c.in-Ok.ensures.opens)
