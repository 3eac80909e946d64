-- An arbiter but its tables, with the tables that it is lent.
use Rattle.std.proofs.Common.{◌≡◌, ℕ, ◌+◌, ◌-◌, ◌<◌, refl, sym, ap, subst}
use Rattle.board_core.specs.declared.moves.Move.{Move}
use Rattle.judge_core.specs.Tables.{Holding}
use Rattle.move_msg.specs.Numbers.{most_moves}
use Rattle.arbiter_core.specs.declared.state.ArbiterState.TheInside.{Inside}
use Rattle.arbiter_core.specs.Recording.{ReorderBuffer, move_count}
use Rattle.arbiter_core.specs.Answering.{waits_too}
use Rattle.arbiter_core.specs.Resting.{CanWake, Rest, awake}
use Rattle.arbiter_core.specs.Setups.{terms_with}
use Rattle.arbiter_core.specs.Inside.AtRest.{rest_of}
use Rattle.arbiter_core.specs.Inside.Playing.{IsArbiterInOrder}
use Rattle.arbiter_core.proofs.Settling.{near_too}

pub awake_is : {a b : Rest} (set : Holding) → a ≡ b → awake a set ≡ awake b set
awake_is set e = ap (λ (r : Rest). awake r set) e

-- its fields are in order by tables with which it can wake
pub in_order : (a : Inside) (now : Rest) (set : Holding) → rest_of a ≡ now → CanWake now set → IsArbiterInOrder (terms_with a.terms set) a.played a.window
in_order a now set is can =
    let w : CanWake (rest_of a) set = subst (λ (r : Rest). CanWake r set) (sym is) can in
    record {
      played = record { stamp_is = refl; delay_is = w.spelled; at = w.at; ruled = w.ruled; reached = w.reached; short = w.short };
      near = w.near;
      delay = w.delay;
    }

-- it can wake with tables by which its fields are in order
pub can_wake : (a : Inside) (set : Holding) → IsArbiterInOrder (terms_with a.terms set) a.played a.window → CanWake (rest_of a) set
can_wake a set o = record {
  at = o.played.at;
  ruled = o.played.ruled;
  reached = o.played.reached;
  short = o.played.short;
  near = o.near;
  delay = o.delay;
  spelled = o.played.delay_is;
}

abbrev pub waiting : Rest → ReorderBuffer → Rest
waiting r window = record r { window = window }

-- it still can where one move more waits
pub can_wake_too : (r : Rest) (set : Holding) (number : ℕ) (m : Move) → move_count r.kept < number → number < most_moves → CanWake r set → CanWake (waiting r (waits_too r.window (number - (move_count r.kept + 1)) m)) set
can_wake_too r set number m above short w = record {
  at = w.at;
  ruled = w.ruled;
  reached = w.reached;
  short = w.short;
  near = near_too r.window (move_count r.kept) number m above short w.near;
  delay = w.delay;
  spelled = w.spelled;
}
