use Rattle.std.proofs.Common.{List, ℕ, ◌++◌, ap, sym, ◌∙◌, append_assoc}
use Rattle.http_server.proofs.KnownLemmas.{Appends-then, Consumes-then}
use Rattle.http_server.proofs.StreamLemmas.{Calls-then}
use Rattle.http_loop.proofs.PeerLaws.{reads_none, sends_more}
use Rattle.http_loop.proofs.ServingLaws.{aborted_stops, rests_still}
use Rattle.http_loop.proofs.peer.take_turn.Goals as goal

pub returns-in_default : goal.returns-in_default
returns-in_default g c =
    let read = c.loop.invariant.0 in
    let written = c.loop.invariant.1 in
    let quiet = c.advance.ensures.quiet in
    let came = c.step-turn.ensures.read in
    let went = c.step-turn.ensures.written in
    let all = Calls-then g.S.Service.answers _ _ _ _ _ _ c.loop.invariant.2 c.advance.ensures.calls in
    record {
      read = (read.0 ++ came.0, Consumes-then _ _ _ read.0 came.0 read.1 came.1, came.2 ∙ ap (λ (t : List ℕ). t ++ came.0) (quiet.0 ∙ read.2) ∙ append_assoc _ read.0 came.0);
      written = (written.0 ++ went.0, Appends-then _ _ _ written.0 went.0 written.1 went.1, went.2 ∙ ap (λ (t : List ℕ). t ++ went.0) (quiet.2 ∙ written.2) ∙ append_assoc _ written.0 went.0);
      calls = (all.0, c.step-turn.ensures.calls ∙ all.1, all.2);
      sends = sends_more _ _ _ _ _ _ _ _ written.2 quiet.2 went.2 c.loop.invariant.4 c.step-turn.ensures.sends;
      reads = reads_none _ _ _ _ _ _ c.loop.invariant.5 quiet.0 c.step-turn.ensures.reads;
      aborted = λ some is. aborted_stops _ _ _ c.advance.ensures.served (sym c.step-turn.ensures.state ∙ is) c.step-turn.ensures.done;
      config = c.step-turn.ensures.config ∙ c.advance.ensures.config ∙ c.loop.invariant.3;
      rests = λ is. rests_still _ _ _ _ c.step-turn.ensures.config (c.step-turn.ensures.waits is) c.advance.ensures.rests;
    }

pub returns-in_default-2 : goal.returns-in_default-2
returns-in_default-2 g c =
    let read = c.loop.invariant.0 in
    let written = c.loop.invariant.1 in
    let quiet = c.advance.ensures.quiet in
    let came = c.step-turn.ensures.read in
    let went = c.step-turn.ensures.written in
    let all = Calls-then g.S.Service.answers _ _ _ _ _ _ c.loop.invariant.2 c.advance.ensures.calls in
    record {
      read = (read.0 ++ came.0, Consumes-then _ _ _ read.0 came.0 read.1 came.1, came.2 ∙ ap (λ (t : List ℕ). t ++ came.0) (quiet.0 ∙ read.2) ∙ append_assoc _ read.0 came.0);
      written = (written.0 ++ went.0, Appends-then _ _ _ written.0 went.0 written.1 went.1, went.2 ∙ ap (λ (t : List ℕ). t ++ went.0) (quiet.2 ∙ written.2) ∙ append_assoc _ written.0 went.0);
      calls = (all.0, c.step-turn.ensures.calls ∙ all.1, all.2);
      sends = sends_more _ _ _ _ _ _ _ _ written.2 quiet.2 went.2 c.loop.invariant.4 c.step-turn.ensures.sends;
      reads = reads_none _ _ _ _ _ _ c.loop.invariant.5 quiet.0 c.step-turn.ensures.reads;
      aborted = λ some is. aborted_stops _ _ _ c.advance.ensures.served (sym c.step-turn.ensures.state ∙ is) c.step-turn.ensures.done;
      config = c.step-turn.ensures.config ∙ c.advance.ensures.config ∙ c.loop.invariant.3;
      rests = λ is. rests_still _ _ _ _ c.step-turn.ensures.config (c.step-turn.ensures.waits is) c.advance.ensures.rests;
    }

pub loop-preserved : goal.loop-preserved
loop-preserved g c =
    let read = c.loop.invariant.0 in
    let written = c.loop.invariant.1 in
    let quiet = c.advance.ensures.quiet in
    let came = c.step-turn.ensures.read in
    let went = c.step-turn.ensures.written in
    let all = Calls-then g.S.Service.answers _ _ _ _ _ _ c.loop.invariant.2 c.advance.ensures.calls in (
      (read.0 ++ came.0, Consumes-then _ _ _ read.0 came.0 read.1 came.1, came.2 ∙ ap (λ (t : List ℕ). t ++ came.0) (quiet.0 ∙ read.2) ∙ append_assoc _ read.0 came.0),
      (written.0 ++ went.0, Appends-then _ _ _ written.0 went.0 written.1 went.1, went.2 ∙ ap (λ (t : List ℕ). t ++ went.0) (quiet.2 ∙ written.2) ∙ append_assoc _ written.0 went.0),
      (all.0, c.step-turn.ensures.calls ∙ all.1, all.2),
      c.step-turn.ensures.config ∙ c.advance.ensures.config ∙ c.loop.invariant.3,
      sends_more _ _ _ _ _ _ _ _ written.2 quiet.2 went.2 c.loop.invariant.4 c.step-turn.ensures.sends,
      reads_none _ _ _ _ _ _ c.loop.invariant.5 quiet.0 c.step-turn.ensures.reads,
      λ some is. absurd (let ends = aborted_stops _ _ _ c.advance.ensures.served (sym c.step-turn.ensures.state ∙ is) c.step-turn.ensures.done in let on = c.in-GoesOn.is in cc),
    )
