use Rattle.std.proofs.Common.{rules, ◌≡◌, ◌≤◌, ◌∙◌, sym, ap, subst, refl, ℕ, List, length, Some, None, take}
use Rattle.board_core.specs.declared.moves.Move.{Move}
use Rattle.judge_core.specs.Games.{IsOutcome, plies_to}
use Rattle.judge_core.specs.Standings.{IsAt, ListsMovesInGame}
use Rattle.move_msg.specs.Numbers.{most_moves}
use Rattle.move_msg.specs.declared.record_bytes.Record.{Record}
use Rattle.move_msg.specs.declared.stamp.Stamp.{Stamp}
use Rattle.arbiter_core.specs.Opens.{at_end}
use Rattle.arbiter_core.specs.Setups.{rules_at, terms_with}
use Rattle.arbiter_core.proofs.Opened.{cut_short, is_whole, other_verdict, played_is}
use Rattle.arbiter_core.proofs.opening.go_on_from.Goals as goal

-- a record is of a game if the record that it lends is
of_game : {lent own : Record} {stamp : Stamp} {delay : ℕ} → lent ≡ own → (lent.stamp ≡ stamp) × (lent.delay ≡ delay) → (own.stamp ≡ stamp) × (own.delay ≡ delay)
of_game {stamp = stamp} {delay = delay} same is = subst (λ (r : Record). (r.stamp ≡ stamp) × (r.delay ≡ delay)) same is

pub returns-in_default-clause-err : goal.returns-in_default-clause-err
returns-in_default-clause-err c = (
  of_game c.as_record-record.ensures (c.if-not-is_of_game.ensures.0 refl),
  subst (ListsMovesInGame (rules_at (terms_with c.args.terms.now c.args.tables.now))) (c.as_slice-moves.ensures.moves ∙ ap (λ (r : Record). r.moves) c.as_record-record.ensures) c.in_default.ensures.memory,
)

pub returns-in_default-at_end-clause-err : goal.returns-in_default-at_end-clause-err
returns-in_default-at_end-clause-err c =
    let moves = c.as_slice-moves.ensures.moves ∙ ap (λ (r : Record). r.moves) c.as_record-record.ensures in
    let r = rules_at (terms_with c.args.terms.now c.args.tables.now) in
    let outcome = subst (λ (ms : List Move). IsOutcome r ms c.in-Ok.followed.outcome) moves c.in-Ok.ensures.value in
    let ends : at_end c.in-Ok.followed.outcome (length c.args.kept.moves) ≡ None =
    ap (λ (ms : List Move). at_end c.in-Ok.followed.outcome (length ms)) (sym moves) ∙ sym c.at_end.ensures ∙ c.in_default-at_end.is in
    (of_game c.as_record-record.ensures (c.if-not-is_of_game.ensures.0 refl), cut_short r c.args.kept c.in-Ok.followed.outcome outcome ends)

pub returns-then-ne-clause-err : goal.returns-then-ne-clause-err
returns-then-ne-clause-err c =
    let moves = c.as_slice-moves.ensures.moves ∙ ap (λ (r : Record). r.moves) c.as_record-record.ensures in
    let r = rules_at (terms_with c.args.terms.now c.args.tables.now) in
    let outcome = subst (λ (ms : List Move). IsOutcome r ms c.in-Ok.followed.outcome) moves c.in-Ok.ensures.value in
    let ends : at_end c.in-Ok.followed.outcome (length c.args.kept.moves) ≡ Some c.in-Some.verdict =
    ap (λ (ms : List Move). at_end c.in-Ok.followed.outcome (length ms)) (sym moves) ∙ sym c.at_end.ensures ∙ c.in-Some.is in
    (of_game c.as_record-record.ensures (c.if-not-is_of_game.ensures.0 refl), other_verdict r c.args.kept c.in-Ok.followed.outcome outcome c.in-Some.verdict ends (λ same. let lent : c.as_record-record.result.now.verdict ≡ c.in-Some.verdict = ap (λ (r : Record). r.verdict) c.as_record-record.ensures ∙ same in search rules))

pub returns-clause-ok : goal.returns-clause-ok
returns-clause-ok c =
    let moves = c.as_slice-moves.ensures.moves ∙ ap (λ (r : Record). r.moves) c.as_record-record.ensures in
    let r = rules_at (terms_with c.args.terms.now c.args.tables.now) in
    let outcome = subst (λ (ms : List Move). IsOutcome r ms c.in-Ok.followed.outcome) moves c.in-Ok.ensures.value in
    let standing = subst (λ (ms : List Move). IsAt r (take (plies_to ms c.in-Ok.followed.outcome) ms) c.in-Ok.followed.standing) moves c.in-Ok.ensures.standing in
    let ends : at_end c.in-Ok.followed.outcome (length c.args.kept.moves) ≡ Some c.in-Some.verdict =
    ap (λ (ms : List Move). at_end c.in-Ok.followed.outcome (length ms)) (sym moves) ∙ sym c.at_end.ensures ∙ c.in-Some.is in
    let lent : c.as_record-record.result.now.verdict ≡ c.in-Some.verdict = search rules in
    let ruled : c.args.kept.verdict ≡ c.in-Some.verdict = ap (λ (r : Record). r.verdict) (sym c.as_record-record.ensures) ∙ lent in (
      played_is (terms_with c.args.terms.now c.args.tables.now) c.args.stamp _ c.in-Ok.followed.outcome c.in-Some.verdict (of_game c.as_record-record.ensures (c.if-not-is_of_game.ensures.0 refl)).0 outcome ends ruled (of_game c.as_record-record.ensures (c.if-not-is_of_game.ensures.0 refl)).1 standing (subst (λ (r : Record). length r.moves ≤ most_moves) c.as_record-record.ensures c.as_slice-moves.ensures.few),
      refl,
      is_whole r c.args.kept c.in-Ok.followed.outcome outcome c.in-Some.verdict ends ruled,
    )
