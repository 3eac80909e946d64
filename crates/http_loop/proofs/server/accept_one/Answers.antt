use Rattle.std.proofs.Common.{ℕ, Some, ap, inl, inr, refl, sym, subst, ◌∙◌}
use Rattle.slab.specs.Slab.{Updates}
use Rattle.http_loop.specs.Turns.{is_going}
use Rattle.http_loop.proofs.ServingLaws.{after_accept, after_reserve, new_is_peer}
use Rattle.http_loop.proofs.TimeLaws.{from_same, from_then}
use Rattle.http_loop.proofs.TurnLaws.{after_close_waiting, after_insert, free_at_same, queued_at_same, updates_at_same}
use Rattle.http_loop.proofs.server.accept_one.Goals as goal

pub returns-in_err-reserve-clause-lingering : goal.returns-in_err-reserve-clause-lingering
returns-in_err-reserve-clause-lingering g c = from_same c.args.beginning.now (g.L.Listener.lingering c.args.listener.now) _ refl

pub returns-in_err-reserve-clause-queued : goal.returns-in_err-reserve-clause-queued
returns-in_err-reserve-clause-queued g c = queued_at_same _ _ (rw c.reserve.ensures.rest_kept refl)

pub returns-in_err-reader-clause-lingering : goal.returns-in_err-reader-clause-lingering
returns-in_err-reader-clause-lingering g c = from_same c.args.beginning.now _ _ c.accept.ensures.lingering

pub returns-in_err-reader-clause-queued : goal.returns-in_err-reader-clause-queued
returns-in_err-reader-clause-queued g c = queued_at_same _ _ (rw c.reserve.ensures.rest_kept refl)

pub returns-then-len-beginning-clause-served : goal.returns-then-len-beginning-clause-served
returns-then-len-beginning-clause-served g c = λ calls before h.
    let peer = c.new_peer.result in
    let key = c.insert_reserved.ensures.key ∙ sym c.vacant_key-key.ensures.value in
    c.close_one.ensures.served c.args.beginning.limits.config calls before
    (after_accept _ _ _ calls before _ _ c.reserve.new.self _ c.vacant_key-key.result _ peer c.vacant_key-key.ensures.vacant
    (subst (λ (k : ℕ). Updates c.reserve.new.self c.insert_reserved.new.self k (Some peer)) key c.insert_reserved.ensures.updates)
    (rw (c.new_peer.ensures.reader, c.new_peer.ensures.writer) c.in_ok-reader.ensures.ok)
    (new_is_peer _ _ _ calls peer c.new_peer.ensures.config c.new_peer.ensures.fresh)
    (after_reserve _ _ _ calls before _ _ _ (rw c.reserve.ensures.rest_kept refl) h))

pub returns-then-len-beginning-clause-lingering : goal.returns-then-len-beginning-clause-lingering
returns-then-len-beginning-clause-lingering g c =
    from_then c.args.beginning.now _ _ _ (from_same c.args.beginning.now _ _ c.accept.ensures.lingering) c.close_one.ensures.lingering

pub returns-then-len-beginning-clause-queued : goal.returns-then-len-beginning-clause-queued
returns-then-len-beginning-clause-queued g c = λ queue h.
    let peer = c.new_peer.result in
    let key = c.insert_reserved.ensures.key ∙ sym c.vacant_key-key.ensures.value in
    let updates = subst (λ (k : ℕ). Updates c.reserve.new.self c.insert_reserved.new.self k (Some peer)) key c.insert_reserved.ensures.updates in
    after_close_waiting _ _ _ (c.longest_waiting-longest.ensures.waits (ap is_going updates.changed ∙ c.new_peer.ensures.waits)) c.close_one.ensures.gone queue
    (after_insert _ _ _ peer c.vacant_key-key.ensures.vacant updates c.new_peer.ensures.waits c.new_peer.ensures.fresh queue
    (queued_at_same _ _ (rw c.reserve.ensures.rest_kept refl) queue h))

pub returns-else-len-beginning-clause-served : goal.returns-else-len-beginning-clause-served
returns-else-len-beginning-clause-served g c = λ calls before h.
    let peer = c.new_peer.result in
    let key = c.insert_reserved.ensures.key ∙ sym c.vacant_key-key.ensures.value in
    after_accept _ _ _ calls before _ _ c.reserve.new.self _ c.vacant_key-key.result _ peer c.vacant_key-key.ensures.vacant
    (subst (λ (k : ℕ). Updates c.reserve.new.self c.insert_reserved.new.self k (Some peer)) key c.insert_reserved.ensures.updates)
    (rw (c.new_peer.ensures.reader, c.new_peer.ensures.writer) c.in_ok-reader.ensures.ok)
    (new_is_peer _ _ _ calls peer c.new_peer.ensures.config c.new_peer.ensures.fresh)
    (after_reserve _ _ _ calls before _ _ _ (rw c.reserve.ensures.rest_kept refl) h)

pub returns-else-len-beginning-clause-lingering : goal.returns-else-len-beginning-clause-lingering
returns-else-len-beginning-clause-lingering g c = from_same c.args.beginning.now _ _ c.accept.ensures.lingering

pub returns-else-len-beginning-clause-queued : goal.returns-else-len-beginning-clause-queued
returns-else-len-beginning-clause-queued g c = λ queue h.
    let peer = c.new_peer.result in
    let key = c.insert_reserved.ensures.key ∙ sym c.vacant_key-key.ensures.value in
    let updates = subst (λ (k : ℕ). Updates c.reserve.new.self c.insert_reserved.new.self k (Some peer)) key c.insert_reserved.ensures.updates in
    after_insert _ _ _ peer c.vacant_key-key.ensures.vacant updates c.new_peer.ensures.waits c.new_peer.ensures.fresh queue
    (queued_at_same _ _ (rw c.reserve.ensures.rest_kept refl) queue h)

pub returns-then-len-beginning-clause-ok : goal.returns-then-len-beginning-clause-ok
returns-then-len-beginning-clause-ok g c =
    let peer = c.new_peer.result in
    let same = ap (λ s. s.slots) c.reserve.ensures.rest_kept in
    let key = c.insert_reserved.ensures.key ∙ sym c.vacant_key-key.ensures.value in
    let updates = subst (λ (k : ℕ). Updates c.reserve.new.self c.insert_reserved.new.self k (Some peer)) key c.insert_reserved.ensures.updates in (
      c.vacant_key-key.result,
      peer,
      c.insert_reserved.new.self,
      free_at_same c.args.peers.now c.reserve.new.self _ same c.vacant_key-key.ensures.vacant,
      updates_at_same c.args.peers.now c.reserve.new.self c.insert_reserved.new.self _ _ same updates,
      inr (c.longest_waiting-longest.result, c.longest_waiting-longest.ensures.longest, c.close_one.ensures.gone),
    )

pub returns-else-len-beginning-clause-ok : goal.returns-else-len-beginning-clause-ok
returns-else-len-beginning-clause-ok g c =
    let peer = c.new_peer.result in
    let same = ap (λ s. s.slots) c.reserve.ensures.rest_kept in
    let key = c.insert_reserved.ensures.key ∙ sym c.vacant_key-key.ensures.value in
    let updates = subst (λ (k : ℕ). Updates c.reserve.new.self c.insert_reserved.new.self k (Some peer)) key c.insert_reserved.ensures.updates in (
      c.vacant_key-key.result,
      peer,
      c.insert_reserved.new.self,
      free_at_same c.args.peers.now c.reserve.new.self _ same c.vacant_key-key.ensures.vacant,
      updates_at_same c.args.peers.now c.reserve.new.self c.insert_reserved.new.self _ _ same updates,
      inl (λ k. refl),
    )
