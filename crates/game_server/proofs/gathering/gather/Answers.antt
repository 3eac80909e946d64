use Rattle.std.proofs.Common.{◌≡◌, ◌∙◌, ◌+◌, ◌++◌, ◌∷◌, [], ap, arith, length, length-append, refl, sym}
use Rattle.std.specs.Prelude.{Ok}
use Rattle.game_server.specs.Inside.HeldReplies.{RepliesView}
use Rattle.game_server.specs.Rounds.{IsFull, NoMore}
use Rattle.timeline.proofs.EventLaws.{adds_none}
use Rattle.game_server.proofs.GatherLaws.{failed, gathered, none_heard, one_heard, some_held}
use Rattle.game_server.proofs.Ports.{same_then, sends_to_same}
use Rattle.game_server.proofs.gathering.gather.Goals as goal

pub loop-buffer-init : goal.loop-buffer-init
loop-buffer-init g c =
    let none : c.clear.new.self.held ≡ [] = ap (λ (v : RepliesView). v.held) c.clear.ensures in
    let zero : length c.clear.new.self.held ≡ 0 = ap length none in
    record {
      has = none_heard (g.S.System.outside c.args.system.now) (g.G.Games.facts c.args.system.now) c.args.server.now c.clear.new.self.held c.args.timeline.now none;
      seats = c.requires.seats;
      same = sends_to_same _;
      few = omega (arith, zero);
      most = ap (λ (v : RepliesView). v.most) c.clear.ensures;
    }

pub loop-buffer-preserved : goal.loop-buffer-preserved
loop-buffer-preserved g c =
    let o = g.S.System.outside c.args.system.now in
    let inv = c.loop-buffer.invariant in
    let one = c.hear_one.ensures.made in
    let now : c.hear_one.new.replies.held ≡ c.loop-buffer.replies.held ++ one.2.held ∷ [] = ap (λ (v : RepliesView). v.held) one.2.holds in
    let size : length c.hear_one.new.replies.held ≡ length c.loop-buffer.replies.held + 1 = ap length now ∙ length-append c.loop-buffer.replies.held (one.2.held ∷ []) in
    let test = c.loop-buffer-test.true in
    let len = c.len.ensures in
    record {
      has = one_heard o (g.G.Games.facts c.args.system.now) c.args.server.now c.loop-buffer.server c.hear_one.new.server c.args.timeline.now c.loop-buffer.timeline c.receive_next.new.timeline c.hear_one.new.timeline _ c.sender-sender.result _ c.loop-buffer.replies c.hear_one.new.replies inv.has
          (rw c.in-Ok-Some.field-0-is at c.in-Ok-Some.ensures.made) (sym c.sender-sender.ensures) one;
      seats = one.2.hears.seats;
      same = same_then _ _ _ inv.same c.receive_next.ensures.same;
      few = omega (arith, size, test, len);
      most = ap (λ (v : RepliesView). v.most) one.2.holds ∙ inv.most;
    }

pub hear_one-requires-clause-room : goal.hear_one-requires-clause-room
hear_one-requires-clause-room g c =
    let test = c.loop-buffer-test.true in
    let len = c.len.ensures in
    let most = c.loop-buffer.invariant.most in
    let room = c.requires.room in
    omega (arith, test, len, most, room)

pub returns-in-Ok-None-clause-gathers : goal.returns-in-Ok-None-clause-gathers
returns-in-Ok-None-clause-gathers g c =
    let o = g.S.System.outside c.args.system.now in
    let inv = c.loop-buffer.invariant in
    let test = c.loop-buffer-test.true in
    let len = c.len.ensures in
    let waits = c.in-Ok-None.ensures.awaited (ap Ok c.in-Ok-None.field-0-is) in
    record {
      made = gathered o (g.G.Games.facts c.args.system.now) c.args.most c.args.server.now c.loop-buffer.server c.loop-buffer.replies.held c.args.timeline.now c.loop-buffer.timeline c.receive_next.new.timeline inv.has NoMore
          (rw c.in-Ok-None.field-0-is at c.in-Ok-None.ensures.made) (some_held (length c.loop-buffer.replies.held) (sym c.is_empty.ensures ∙ waits)) inv.few
          (λ whole. absurd (let w : length c.loop-buffer.replies.held ≡ c.args.most = whole in omega (arith, w, len, test))) (λ is. absurd (let f : NoMore ≡ IsFull = is in cc));
      most_is = inv.most;
    }

pub returns-in-Err-clause-gathers : goal.returns-in-Err-clause-gathers
returns-in-Err-clause-gathers g c =
    let o = g.S.System.outside c.args.system.now in
    let inv = c.loop-buffer.invariant in
    let test = c.loop-buffer-test.true in
    let len = c.len.ensures in
    record {
      made = failed o (g.G.Games.facts c.args.system.now) c.args.most c.args.server.now c.loop-buffer.server c.loop-buffer.replies.held c.args.timeline.now c.loop-buffer.timeline c.receive_next.new.timeline inv.has c.is_empty-in-Err.result c.is_empty-in-Err.ensures
          c.in-Err.ensures.made (omega (arith, len, test));
      most_is = inv.most;
    }

pub returns-clause-gathers : goal.returns-clause-gathers
returns-clause-gathers g c =
    let o = g.S.System.outside c.args.system.now in
    let inv = c.loop-buffer.invariant in
    let test = c.loop-buffer-test.false in
    let len = c.len.ensures in
    let some = c.requires.some in
    let few = inv.few in
    record {
      made = gathered o (g.G.Games.facts c.args.system.now) c.args.most c.args.server.now c.loop-buffer.server c.loop-buffer.replies.held c.args.timeline.now c.loop-buffer.timeline c.loop-buffer.timeline inv.has IsFull
          (adds_none o c.loop-buffer.timeline) (omega (arith, len, test, some)) inv.few (λ whole. refl) (λ is. omega (arith, len, test, few));
      most_is = inv.most;
    }

pub returns-in-Ok-None-clause-same : goal.returns-in-Ok-None-clause-same
returns-in-Ok-None-clause-same g c = same_then _ _ _ c.loop-buffer.invariant.same c.receive_next.ensures.same

pub returns-in-Err-clause-same : goal.returns-in-Err-clause-same
returns-in-Err-clause-same g c = same_then _ _ _ c.loop-buffer.invariant.same c.receive_next.ensures.same

pub returns-clause-same : goal.returns-clause-same
returns-clause-same g c = c.loop-buffer.invariant.same
