-- The text of a game's file, line after line.
use Rattle.std.proofs.Common.{◌≡◌, ◌≤◌, ◌+◌, ◌++◌, ◌∙◌, ℕ, List, [], ◌∷◌, sym, ap, append_assoc, append-nil}
use Rattle.std.specs.Prelude.{codes}
use Rattle.board_core.specs.Delays.{most_delay}
use Rattle.board_core.specs.declared.parts.Parts.{Parts}
use Rattle.fen_text.specs.Written.{fen_of}
use Rattle.move_msg.specs.TextLines.{ended, text_of}
use Rattle.arbiter_server.specs.GameFiles.{delay_line, game_as_told, game_text, name_line, start_line}
use Rattle.arbiter_server.proofs.Digits.{delay_digit}

three_lines : (x y z a b c d : List ℕ) → a ≡ [] → b ≡ a ++ ended x → c ≡ b ++ ended y → d ≡ c ++ ended z → d ≡ text_of (x ∷ y ∷ z ∷ [])
three_lines x y z a b c d first e f g =
    let two : c ≡ ended x ++ ended y = f ∙ ap (λ (t : List ℕ). t ++ ended y) (e ∙ ap (λ (t : List ℕ). t ++ ended x) first) in
    g ∙ ap (λ (t : List ℕ). t ++ ended z) two
    ∙ append_assoc (ended x) (ended y) (ended z)
    ∙ ap (λ (t : List ℕ). ended x ++ (ended y ++ t)) (sym (append-nil (ended z)))

pub lines_are : (name fen : List ℕ) (start : Parts) (delay : ℕ) (a b c d : List ℕ) → delay ≤ most_delay → fen ≡ fen_of start → a ≡ [] → b ≡ a ++ ended (codes "name " ++ name) → c ≡ b ++ ended (codes "start " ++ fen) → d ≡ c ++ ended (codes "delay " ++ (48 + delay) ∷ []) → d ≡ game_text (game_as_told name start delay)
lines_are name fen start delay a b c d le is first e f g =
    three_lines (name_line name) (start_line start) (delay_line delay) a b c d first e
    (f ∙ ap (λ (t : List ℕ). b ++ ended (codes "start " ++ t)) is)
    (g ∙ ap (λ (t : List ℕ). c ++ ended (codes "delay " ++ t)) (sym (delay_digit delay le)))
