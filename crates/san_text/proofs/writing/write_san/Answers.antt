use Rattle.std.proofs.Common.{◌++◌, ℕ, List, ap, ap₂, sym, ◌∙◌}
use Rattle.san_text.specs.Told.{told_text}
use Rattle.san_text.specs.Written.{san_of, mark_after}
use Rattle.san_text.proofs.writing.write_san.Goals as goal

pub returns-in_default-clause-legal : goal.returns-in_default-clause-legal
returns-in_default-clause-legal c = (
  λ e. absurd (let f = e in cc),
  λ l. absurd (let f = sym c.in_default.is ∙ c.play.ensures.only l.0 l.1 in cc),
)

pub returns-clause-value : goal.returns-clause-value
unfolding san_of
returns-clause-value c =
    c.push_str.ensures.bytes
    ∙ ap₂ (λ (s t : List ℕ). s ++ t)
    (c.push_told.ensures.text ∙ ap told_text c.san_told.ensures.value)
    (c.mark.ensures.mark ∙ ap mark_after c.in-Some.ensures.computed)
