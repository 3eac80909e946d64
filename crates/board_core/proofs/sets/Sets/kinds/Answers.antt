use Rattle.std.proofs.Common.{◌≡◌, ◌∙◌, ap, bit_or}
use Rattle.std.specs.Int.{bit_at}
use Rattle.board_core.proofs.Shown.{kinds_shown}
use Rattle.board_core.proofs.sets.Sets.kinds.Goals as goal

pub returns : goal.returns
returns c = λ s.
    let sets = c.args.self.now in
    let is : c.bitor-5.result ≡ bit_or (bit_or (bit_or (bit_or (bit_or sets.kings sets.pawns) sets.rooks) sets.queens) sets.bishops) sets.knights =
    c.bitor-5.ensures ∙ ap (λ x. bit_or x sets.knights) (c.bitor-4.ensures ∙ ap (λ x. bit_or x sets.bishops) (c.bitor-3.ensures ∙ ap (λ x. bit_or x sets.queens) (c.bitor-2.ensures ∙ ap (λ x. bit_or x sets.rooks) c.bitor.ensures))) in
    ap (λ x. bit_at x s) is ∙ kinds_shown sets s
