-- Both probes of a position.
use Rattle.std.specs.Prelude.{◌≡◌, ◌≢◌, ◌-ℤ◌, ◌&&◌, ℤ, pos, Bool, Result, Ok, Err}
use Rattle.std.specs.Result.{is_ok}
use Rattle.board_core.specs.declared.parts.Parts.{Parts}
use Rattle.judge_core.specs.declared.wdl.Wdl.{Wdl}
use Rattle.judge_core.specs.declared.fault.ProbeFault.{ProbeFault}
use Rattle.judge_core.specs.declared.fault.ProbeFault.TheVariants.{OutOfMemory}
use Rattle.judge_core.specs.declared.probe_result.ProbeResult.{ProbeResult}
use Rattle.judge_core.specs.Answers.{IsProbe, signed_in}
use Rattle.judge_core.specs.Distances.{dtz_of}
use Rattle.judge_core.specs.Probing.{wdl_of}
use Rattle.judge_core.specs.Ruling.{is_out_of_scope}
use Rattle.judge_core.specs.Tables.{Tables}
use Rattle.judge_core.specs.Values.{points}

-- from -2 for a loss to 2 for a win
abbrev pub wdl_number : Wdl → ℤ
wdl_number v = pos (points v) -ℤ pos 2

-- a number, or why there is none
abbrev pub numbered : Result Wdl ProbeFault → Result ℤ ProbeFault
numbered (Ok v) = Ok (wdl_number v)
numbered (Err fault) = Err fault

-- what both probes answer where memory is not refused
pub record AreProbed (tables : Tables) (p : Parts) (wdl : Result Wdl ProbeFault) (dtz : Result ℤ ProbeFault) : Type 0 where
  pub wdl_answered : wdl ≢ Err OutOfMemory
  pub wdl_is : IsProbe wdl (is_out_of_scope p) (wdl_of tables p)
  pub dtz_answered : dtz ≢ Err OutOfMemory
  pub dtz_is : IsProbe dtz (is_out_of_scope p) (signed_in (dtz_of tables p))

-- what they answer, as numbers
pub record IsProbed (tables : Tables) (p : Parts) (probed : ProbeResult) : Type 0 where
  pub wdl : Result Wdl ProbeFault
  pub dtz : Result ℤ ProbeFault
  pub are : AreProbed tables p wdl dtz
  pub told : probed ≡ record { wdl = numbered wdl; dtz = dtz }

-- both are numbers
abbrev pub has_both : ProbeResult → Bool
has_both probed = is_ok probed.wdl && is_ok probed.dtz
