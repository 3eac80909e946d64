use Rattle.std.proofs.Common.{◌≡◌, List, [], ◌∷◌, length, map, ap, ◌∙◌}
use Rattle.std.proofs.lemmas.Result.{IfOk-weaker}
use Rattle.move_msg.specs.declared.arbiter_id.ArbiterId.TheVariants.{A, B}
use Rattle.relay_world.specs.Worlds.{World}
use Rattle.answer_parts.specs.declared.answers.lines.Line.{Line}
use Rattle.answer_parts.specs.declared.answers.lines.Line.TheVariants.{Sent}
use Rattle.answer_parts.specs.Lines.{sent_words, words_of}
use Rattle.answer_commands.specs.Run.{side_words, world_words}
use Rattle.answer_commands.proofs.run.lines_of.Goals as goal

three_lines : (lines : List Line) (a b sent : Line) (last : World) → lines ≡ a ∷ b ∷ sent ∷ [] → words_of a ≡ side_words A last.a → words_of b ≡ side_words B last.b → words_of sent ≡ sent_words (length last.log) → map words_of lines ≡ world_words last
three_lines lines a b sent last is first second third =
    ap (map words_of) is
    ∙ ap (λ words. words ∷ words_of b ∷ words_of sent ∷ []) first
    ∙ ap (λ words. side_words A last.a ∷ words ∷ words_of sent ∷ []) second
    ∙ ap (λ words. side_words A last.a ∷ side_words B last.b ∷ words ∷ []) third

pub returns : goal.returns
returns c =
    IfOk-weaker c.from_slice.result _ _
    (λ lines is game last tells. three_lines lines.items c.line_of.result c.line_of-2.result (Sent (length c.log.result.now)) last is (c.line_of.ensures _ _ last.a tells.a) (c.line_of-2.ensures _ _ last.b tells.b) (ap (λ log. sent_words (length log)) (c.log.ensures ∙ tells.log)))
    c.from_slice.ensures.items
