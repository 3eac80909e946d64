-- A seat may pass to another thread, as the set that it owns may.
use Rattle.std.specs.Prelude.{Option, Some, None}
use base.Shift.{Keyless}
use denote.RawPtr.{Ptr}
use denote.Struct.Struct.{exits_of}
use denote.Struct.Owning.{shape, fields, to}
use denote.Param.Send.{IsSend, AllSend, owning_send, struct_send}
use Rattle.std.specs.Global.{Global}
use Rattle.std.proofs.alloc.Global.TheSendSync as heap
use Rattle.hofsjurd_c.specs.Owned.{seat_owns}
use Rattle.hofsjurd_c.specs.contracts.owned_pointer.OwnedPointer as seat
use Rattle.hofsjurd_c.specs.contracts.held.Held as held
use Rattle.hofsjurd_c.specs.declared.held.Held.{Held}
use Rattle.hofsjurd_c.proofs.held.Held.TheSendSync as held_sent
use Rattle.hofsjurd_c.proofs.Sending.{box_keyless, pointer_send, quiet}

held_send : IsSend held.the_row
held_send = held_sent.the_send

seat_keyless : (h : Global) (p : Ptr) (o : Option Held) → Keyless (seat_owns h p o)
seat_keyless h p None = tt
seat_keyless h p (Some x) = box_keyless held.the_row held_send h p x

pub send : IsSend seat.the_row
send =
    let O = seat.the_type in let all : AllSend (fields O) = (pointer_send, (heap.the_field_send, tt)) in
    owning_send O all (λ d. seat_keyless d.alloc d.at d.value) (λ k. quiet (to O) (exits_of k (fields O)) ((struct_send (shape O) all).leaving k))
