-- Ports that are asked for, and locks.
use Rattle.std.proofs.Common.{◌≡◌, ◌∷◌, ◌++◌, [], ℕ, List, ap, inl, inr, refl, subst, sym}
use Rattle.std.specs.Prelude.{Result, Ok, Err, IfErr, IfOk, ◌<◌, length}
use Rattle.answer_parts.specs.Lines.{refused_in_use}
use Rattle.arbiter_server.specs.ServedLines.{refused_port}
use Rattle.command_line.specs.Addresses.{addresses_of}
use Rattle.line_teller.specs.ToldLines.{refused_memory}
use Rattle.host_commands.specs.Binds.{BindsPort, IsBound, NoRoomForAddresses, NoRoomToBind, Unbound, unbound_line}
use Rattle.host_commands.specs.Inside.Parts.{AsksForPort}
use Rattle.host_commands.specs.Locks.{InUse, LocksFile, held_line}
use Rattle.host_commands.specs.Notes.{MayNote}
use Rattle.system_io.specs.declared.host.BindFault.{BindFault}
use Rattle.system_io.specs.declared.host.BindFault.TheVariants as bind
use Rattle.system_io.specs.declared.host.LockFault.TheVariants as lock
use Rattle.timeline.proofs.EventLaws.{adds_both, adds_more, adds_none, adds_so}
use Rattle.timeline.specs.Events.{Event, Locked, PortBound, done_by}
use Rattle.timeline.specs.Outsides.{Adds, AddsSome, AreNamed, Outside}

module _ {T P F K S L : Type 0} (o : Outside T P F K S L) (address to : List ℕ) where
  -- a port was asked for
  pub asked_for : (a b : T) (all : List (List ℕ)) (r : Result P BindFault) → addresses_of to ≡ all
      → IfOk r (λ port. (o.port port).address ≡ address) → IfOk r (λ port. AreNamed (o.port port).own all (o.port port).to) → IfErr r (o.refuses_port address)
      → Adds o a b (PortBound address all (done_by r) ∷ []) → AddsSome o a b (AsksForPort o address to r)
  asked_for a b all (Ok port) is at each why p =
      let named : AreNamed (o.port port).own (addresses_of to) (o.port port).to = subst (λ words. AreNamed (o.port port).own words (o.port port).to) (sym is) each in
      let made : Adds o a b (PortBound address (addresses_of to) (Ok tt) ∷ []) = subst (λ words. Adds o a b (PortBound address words (Ok tt) ∷ [])) (sym is) p in
      (PortBound address (addresses_of to) (Ok tt) ∷ [], made, (record { at = at; each = named }, refl))
  asked_for a b all (Err fault) is at each why p =
      let made : Adds o a b (PortBound address (addresses_of to) (Err fault) ∷ []) = subst (λ words. Adds o a b (PortBound address words (Err fault) ∷ [])) (sym is) p in
      (PortBound address (addresses_of to) (Err fault) ∷ [], made, inl (why, refl))

  pub no_list : (a : T) → 1 < length (addresses_of to) → AddsSome o a a (AsksForPort o address to (Err bind.OutOfMemory))
  no_list a many = ([], adds_none o a, inr (refl, many, refl))

  pub bound_so : (a b : T) (port : P) → AddsSome o a b (AsksForPort o address to (Ok port)) → AddsSome o a b (BindsPort o address to (Ok port))
  bound_so a b port p = adds_so o a b (AsksForPort o address to (Ok port)) (BindsPort o address to (Ok port)) (λ events h. IsBound port h.0 refl h.1) p

  pub unbound_so : (a b c : T) → AddsSome o a b (AsksForPort o address to (Err bind.Unbound)) → AddsSome o b c (MayNote (unbound_line address)) → AddsSome o a c (BindsPort o address to (Err refused_port))
  unbound_so a b c p q = adds_both o a b c (AsksForPort o address to (Err bind.Unbound)) (MayNote (unbound_line address)) (BindsPort o address to (Err refused_port)) both p q
    where
      both : (x y : List Event) → AsksForPort o address to (Err bind.Unbound) x → MayNote (unbound_line address) y → BindsPort o address to (Err refused_port) (x ++ y)
      both x y (inl (refuses, is)) note = Unbound refuses refl (record { noting = y; notes = note; all = ap (λ (l : List Event). l ++ y) is })
      both x y (inr (wrong, many, none)) note = absurd (cc)

  pub no_room_so : (a b : T) → AddsSome o a b (AsksForPort o address to (Err bind.OutOfMemory)) → AddsSome o a b (BindsPort o address to (Err refused_memory))
  no_room_so a b p = adds_so o a b (AsksForPort o address to (Err bind.OutOfMemory)) (BindsPort o address to (Err refused_memory)) one p
    where
      one : (events : List Event) → AsksForPort o address to (Err bind.OutOfMemory) events → BindsPort o address to (Err refused_memory) events
      one events (inl (refuses, is)) = NoRoomToBind refuses refl is
      one events (inr (same, many, is)) = NoRoomForAddresses many refl is

-- another process holds a lock, and that may have been noted
pub held_so : {T P F K S L : Type 0} (o : Outside T P F K S L) (path : List ℕ) (a b c : T) → o.bars_lock path lock.Held → Adds o a b (Locked path (Err lock.Held) ∷ []) → AddsSome o b c (MayNote (held_line path)) → AddsSome o a c (LocksFile o path (Err refused_in_use))
held_so o path a b c bars p q = (Locked path (Err lock.Held) ∷ [] ++ q.0, adds_more o a b c (Locked path (Err lock.Held) ∷ []) q.0 p q.1, InUse bars refl (record { noting = q.0; notes = q.2; all = refl }))
