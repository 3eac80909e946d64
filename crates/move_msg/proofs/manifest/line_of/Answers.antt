use Rattle.std.proofs.Common.{◌∷◌, List, ℕ, sym, ◌∙◌, ap, length, arith}
use Rattle.move_msg.proofs.CutBytes.{tail_same}
use Rattle.move_msg.proofs.ManifestLaws.{digits_first, entry_by, entry_long}
use Rattle.move_msg.proofs.manifest.line_of.Goals as goal

pub returns-then-text-lt64-clause-none : goal.returns-then-text-lt64-clause-none
returns-then-text-lt64-clause-none c = λ e h same. absurd (omega (arith, entry_long e h, ap length same))

pub returns-in_default-clause-none : goal.returns-in_default-clause-none
returns-in_default-clause-none c = λ e h same.
    c.in_default.ensures.none e.digest h.long h.bytes (c.split_at.ensures.front ∙ (digits_first e h c.args.text.now same).0)

pub returns-in_default-after-clause-none : goal.returns-in_default-after-clause-none
returns-in_default-after-clause-none c = λ e h same.
    c.in_default-after.ensures.none (32 ∷ e.name) (c.split_at.ensures.back ∙ (digits_first e h c.args.text.now same).1)

pub returns-in_default-after-2-clause-none : goal.returns-in_default-after-2-clause-none
returns-in_default-after-2-clause-none c = λ e h same.
    c.in_default-after-2.ensures.none e.name (tail_same _ _ _ _ (sym c.in-Some-after.ensures.some ∙ c.split_at.ensures.back ∙ (digits_first e h c.args.text.now same).1))

pub returns-in_default-file_name-clause-none : goal.returns-in_default-file_name-clause-none
returns-in_default-file_name-clause-none c = λ e h same.
    let spaced = tail_same _ _ _ _ (sym c.in-Some-after.ensures.some ∙ c.split_at.ensures.back ∙ (digits_first e h c.args.text.now same).1) in
    c.in_default-file_name.ensures.none (rw (tail_same _ _ _ _ (sym c.in-Some-after-2.ensures.some ∙ spaced)) h.file)

pub returns-clause-some : goal.returns-clause-some
returns-clause-some c =
    let digest = c.in-Some.ensures.some in
    let name = c.in-Some-file_name.ensures.some in (
      record { long = digest.0; bytes = digest.1; file = rw name.0 name.1 },
      entry_by _ c.args.text.now
          (sym c.split_at.ensures.front ∙ digest.2)
          (sym c.split_at.ensures.back ∙ c.in-Some-after.ensures.some ∙ ap (λ (t : List ℕ). 32 ∷ t) (c.in-Some-after-2.ensures.some ∙ ap (λ (t : List ℕ). 32 ∷ t) (sym name.0))),
    )
