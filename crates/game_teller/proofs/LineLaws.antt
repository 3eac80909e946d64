-- The lengths of words in the line of a ply.
use Rattle.std.proofs.Common.{◌≤◌, length, Option, Some, None, arith}
use Rattle.board_core.specs.declared.verdict.Verdict.{Verdict}
use Rattle.board_core.specs.declared.verdict.Verdict.TheVariants as verdict
use Rattle.judge_core.specs.Words.{verdict_words}

pub short_verdict : (v : Option Verdict) → length (verdict_words v) ≤ 10
short_verdict None = omega arith
short_verdict (Some verdict.WhiteMates) = omega arith
short_verdict (Some verdict.BlackMates) = omega arith
short_verdict (Some verdict.Stalemate) = omega arith
short_verdict (Some verdict.TableDraw) = omega arith
short_verdict (Some verdict.TableWhite) = omega arith
short_verdict (Some verdict.TableBlack) = omega arith
short_verdict (Some verdict.Stopped) = omega arith
