use Rattle.std.proofs.Common.{◌≡◌, ap, sym, ◌∙◌, arith}
use Rattle.std.proofs.lemmas.Bool.{false≢true, le-leb, leb-true}
use Rattle.table_file.specs.Figures.{block_size}
use Rattle.table_file.specs.Marked.{block_bytes_of, block_bytes}
use Rattle.table_file.proofs.Marks.{view_bytes}
use Rattle.table_file.proofs.table_part.TablePart.has_long_blocks.Goals as goal

pub returns-in-Single : goal.returns-in-Single
returns-in-Single c =
    let none : block_bytes c.args.self.now ≡ 0 = sym (view_bytes c.args.self.now c.view-view.result c.view-view.ensures.part) ∙ ap block_bytes_of c.in-Single.is in
    (λ f. absurd (false≢true f), λ le. absurd (omega (arith, none, le)))

pub returns-in-Pairs : goal.returns-in-Pairs
returns-in-Pairs c =
    let all : block_bytes c.args.self.now ≡ block_size c.in-Pairs.codes = sym (view_bytes c.args.self.now c.view-view.result c.view-view.ensures.part) ∙ ap block_bytes_of c.in-Pairs.is in
    (λ t. omega (arith, leb-true 128 c.block_size.result t, all, c.block_size.ensures.is), λ le. le-leb 128 c.block_size.result (omega (arith, le, all, c.block_size.ensures.is)))
