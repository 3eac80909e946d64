-- What the pointer of a box owns may pass to another thread, as the box's value may.
use mir.Raw.{raw}
use base.Fraction.{full_share}
use base.Shift.{Keyless}
use denote.Exit.{Exit, unchanged, leaves, hidden, under}
use denote.RattleType.{RattleType}
use denote.Memory.{lone}
use denote.RawPtr.{Ptr, block_ptr, null_ptr, lies_at}
use denote.Builtin.{RawPtr}
use denote.Param.Send.{IsSend, Quiet, part_keyless, sendable}
use Rattle.std.specs.Global.{Global}
use Rattle.std.specs.Box.Ownership.{box_owns}
use Rattle.std.below.std_heap.specs.contracts.GlobalAllocator.TheImpl.{ghosts}
use Rattle.std.proofs.Crossing.{frees}

pub pointer_send : IsSend RawPtr
pointer_send = search sendable

lies : (R : RattleType) → IsSend R → (p : Ptr) (x : R.Denot) → Keyless (lies_at R full_share p x)
lies R s (block_ptr b o) x = part_keyless R s full_share x b o
lies R s null_ptr x = tt

pub box_keyless : (R : RattleType) → IsSend R → (h : Global) (p : Ptr) (x : R.Denot) → Keyless (box_owns (ghosts.dealloc_token h) R p x)
box_keyless R s h p x = (lies R s p x, frees.frees h (raw (lone R.mir)) p)

pub quiet : {D X : Type 0} (to : D → X) (e : Exit X) → Quiet e → Quiet (hidden (under to e))
quiet to unchanged q = λ x w. tt
quiet to (leaves L l S s r₀) q = λ d. q (to d)
