-- The first line of a list.
use Rattle.std.proofs.Common.{◌≡◌, ◌<◌, ℕ, List, [], ◌∷◌, length, refl, ap, ◌∙◌, arith, length-append}
use Rattle.std.specs.Prelude.{◌==◌}
use Rattle.fen_text.specs.Cuts.{cut_at}
use Rattle.fen_text.proofs.CutLaws.{is_cut}
use Rattle.move_msg.specs.TextLines.{ended, lines_in, whole_lines}
use Rattle.arbiter_server.proofs.CutLines.{cut_text}

whole_front : (line : List ℕ) (parts : List (List ℕ)) → 0 < length parts → whole_lines (line ∷ parts) ≡ line ∷ whole_lines parts
whole_front line [] some = absurd (omega (arith, some))
whole_front line (next ∷ parts) some = refl

-- a line feed ends it
pub line_in_front : (text line rest : List ℕ) → cut_at 10 text ≡ line ∷ cut_at 10 rest → lines_in text ≡ line ∷ lines_in rest
unfolding lines_in
line_in_front text line rest cut = ap whole_lines cut ∙ whole_front line (cut_at 10 rest) (is_cut (λ b. b == 10) rest)

pub shorter_behind : (text line rest : List ℕ) → cut_at 10 text ≡ line ∷ cut_at 10 rest → length rest < length text
shorter_behind text line rest cut =
    let is = ap length (cut_text text line rest cut) in
    omega (arith, is, length-append (ended line) rest, length-append line (10 ∷ []))

last_one : (text : List ℕ) → 0 < length text → whole_lines (text ∷ []) ≡ text ∷ []
last_one [] some = absurd (omega (arith, some))
last_one (b ∷ text) some = refl

no_line : lines_in [] ≡ []
unfolding lines_in
no_line = refl

pub no_lines : (text : List ℕ) → length text ≡ 0 → lines_in text ≡ []
no_lines [] none = no_line
no_lines (b ∷ text) none = absurd (omega (arith, none))

-- nothing ends it
pub line_alone : (text : List ℕ) → 0 < length text → cut_at 10 text ≡ text ∷ [] → lines_in text ≡ text ∷ lines_in []
unfolding lines_in
line_alone text some cut = ap whole_lines cut ∙ last_one text some
