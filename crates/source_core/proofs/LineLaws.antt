-- The lengths of words in the lines of a run.
use Rattle.std.proofs.Common.{◌≤◌, length, arith}
use Rattle.board_core.specs.declared.verdict.Verdict.{Verdict}
use Rattle.board_core.specs.declared.verdict.Verdict.TheVariants as verdict
use Rattle.board_core.specs.Verdicts.{verdict_name}

pub short_name : (v : Verdict) → length (verdict_name v) ≤ 10
short_name verdict.WhiteMates = omega arith
short_name verdict.BlackMates = omega arith
short_name verdict.Stalemate = omega arith
short_name verdict.TableDraw = omega arith
short_name verdict.TableWhite = omega arith
short_name verdict.TableBlack = omega arith
short_name verdict.Stopped = omega arith
