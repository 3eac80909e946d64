use Rattle.std.proofs.Common.{arith, w64}
use Rattle.std.proofs.lemmas.Nat.Bits.{bit_at-trailing_zeros}
use Rattle.board_core.proofs.bitboard.Bitboard.lowest.Goals as goal

pub returns-clause-here : goal.returns-clause-here
returns-clause-here c = rw (c.at.ensures, c.self.view_is) (bit_at-trailing_zeros w64 c.args.self c.requires (omega arith)).1

pub returns-clause-first : goal.returns-clause-first
returns-clause-first c = rw (c.at.ensures, c.self.view_is) (bit_at-trailing_zeros w64 c.args.self c.requires (omega arith)).2
