use Rattle.std.proofs.Common.{Bool, rules, ap, not, ◌∙◌}
use Rattle.std.proofs.lemmas.Fn.{filter_same}
use Rattle.std.specs.Duration.{as_nanos}
use Rattle.std.specs.declared.time.Instant.{Instant}
use Rattle.http_loop.specs.declared.lingering.Leaving.{Leaving}
use Rattle.http_loop.specs.Lingering.{closed_times}
use Rattle.http_loop.specs.Times.{has_passed}
use Rattle.http_loop.proofs.LingerLaws.{times_of_filtered}
use Rattle.http_loop.proofs.lingering.Lingering.let_go.Goals as goal

pub returns : goal.returns
returns c =
    let keeps : Instant → Bool = λ closed. not (has_passed closed c.args.now (as_nanos c.args.limit)) in
    ap closed_times (filter_same _ (λ (one : Leaving). keeps one.closed) _ (λ x b f' k. search rules) _ _ c.retain.ensures.filtered) ∙ times_of_filtered keeps _
