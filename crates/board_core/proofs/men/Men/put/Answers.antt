use Rattle.std.proofs.Common.{refl}
use Rattle.board_core.proofs.Coding.{put_man, put_code}
use Rattle.board_core.proofs.men.Men.put.Goals as goal

pub invariant_of-self : goal.invariant_of-self
invariant_of-self c = rw (c.number.ensures.value, c.code_of.ensures) (put_code _ _ _ c.self.invariant)

pub returns : goal.returns
returns c = rw (c.number.ensures.value, c.code_of.ensures, put_man, c.self.view_is) refl
