use Rattle.std.proofs.Common.{◌∷◌, [], refl}
use Rattle.hex.specs.Hex.{encode_lower}
use Rattle.move_msg.specs.TextLines.{ended}
use Rattle.answer_parts.specs.Printing.{Prints}
use Rattle.answer_parts.proofs.PrintLaws.{cuts_one, fails_at, writes_one}
use Rattle.answer_commands.proofs.entering.print_stamp.Goals as goal

pub returns-in-Ok-clause-made : goal.returns-in-Ok-clause-made
returns-in-Ok-clause-made g c =
    let made = rw c.stamp_words.ensures at c.in-Ok.ensures.made in
    writes_one (g.S.System.outside c.args.system.now) _ _ (ended (encode_lower c.args.stamp)) (Prints (encode_lower c.args.stamp ∷ []) 0) 0 (refl, refl) made

pub returns-in-Err-clause-made : goal.returns-in-Err-clause-made
returns-in-Err-clause-made g c =
    let made = rw c.stamp_words.ensures at c.in-Err.ensures.made in
    cuts_one (g.S.System.outside c.args.system.now) _ _ (ended (encode_lower c.args.stamp)) c.in-Err.fault (Prints (encode_lower c.args.stamp ∷ []) 0) 0 (refl, refl) made

pub returns-in-Err-clause-cause : goal.returns-in-Err-clause-cause
returns-in-Err-clause-cause g c = fails_at (g.S.System.outside c.args.system.now) _ c.in-Err.ensures.cause
