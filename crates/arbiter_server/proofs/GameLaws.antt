-- A text tells one game at most, and a text that tells one has no line at fault.
use Rattle.std.proofs.Common.{◌≡◌, ◌≢◌, ◌≤◌, ◌++◌, ◌∙◌, ℕ, List, [], ◌∷◌, length, refl, sym, ap, arith, subst}
use Rattle.std.specs.Prelude.{◌==◌, codes, false, true}
use Rattle.std.specs.Fmt.{decimal}
use Rattle.std.proofs.lemmas.Fmt.{decimal_injective}
use Rattle.std.proofs.lemmas.List.{append_cancel_left}
use Rattle.board_core.specs.Delays.{most_delay}
use Rattle.board_core.specs.declared.parts.Parts.{Parts}
use Rattle.board_core.specs.Position.{IsPosition}
use Rattle.fen_text.specs.Fen.{SpellsPosition}
use Rattle.fen_text.specs.Written.{fen_of}
use Rattle.fen_text.proofs.FenLaws.{spells_one}
use Rattle.fen_text.proofs.WrittenLaws.{position_spelled}
use Rattle.move_msg.specs.Stamps.{IsGameName}
use Rattle.move_msg.specs.TextLines.{ended}
use Rattle.arbiter_server.specs.declared.game_lines.GameFileFault.{GameFileFault}
use Rattle.arbiter_server.specs.declared.game_lines.GameFileFault.TheVariants.{Name, Start, Delay, More}
use Rattle.arbiter_server.specs.GameFiles.{GameContents, HasDelay, HasName, HasStart, IsFirstGameFault, SpellsGame, delay_line, game_as_told, name_line, start_line}
use Rattle.arbiter_server.specs.Inside.ValueLines.{StartsLine, is_one_line}
use Rattle.arbiter_server.proofs.CutLines.{cut_value, heads_same, rests_same, tails_same}
use Rattle.arbiter_server.proofs.OneLines.{fen_one, name_one, number_one}

-- a line with a value in one way
one_value : (word text a r b s : List ℕ) → is_one_line word ≡ true → StartsLine word text a r → StartsLine word text b s → (a ≡ b) × (r ≡ s)
one_value word text a r b s plain g h =
    let same = sym (cut_value word text a r plain g) ∙ cut_value word text b s plain h in
    (append_cancel_left word a b (heads_same _ _ _ _ same), rests_same r s (tails_same _ _ _ _ same))

one_name : (text a r b s : List ℕ) → HasName text a r → HasName text b s → (a ≡ b) × (r ≡ s)
one_name text a r b s g h =
    one_value (codes "name ") text a r b s refl (record { has = g.1; one = name_one a g.0.2 }) (record { has = h.1; one = name_one b h.0.2 })

one_position : (p q : Parts) → IsPosition p → IsPosition q → fen_of p ≡ fen_of q → p ≡ q
one_position p q g h e = spells_one (fen_of p) p q (position_spelled p g) (subst (λ (t : List ℕ). SpellsPosition t q) (sym e) (position_spelled q h))

one_start : (text : List ℕ) (p : Parts) (r : List ℕ) (q : Parts) (s : List ℕ) → HasStart text p r → HasStart text q s → (p ≡ q) × (r ≡ s)
one_start text p r q s g h =
    let same = one_value (codes "start ") text (fen_of p) r (fen_of q) s refl (record { has = g.1; one = fen_one p g.0 }) (record { has = h.1; one = fen_one q h.0 }) in
    (one_position p q g.0 h.0 same.0, same.1)

few_digits : (d : ℕ) → d ≤ most_delay → is_one_line (decimal d) ≡ true
few_digits d le = number_one d (omega (arith, le))

one_delay : (text : List ℕ) (a : ℕ) (r : List ℕ) (b : ℕ) (s : List ℕ) → HasDelay text a r → HasDelay text b s → (a ≡ b) × (r ≡ s)
one_delay text a r b s g h =
    let same = one_value (codes "delay ") text (decimal a) r (decimal b) s refl (record { has = g.1; one = few_digits a g.0 }) (record { has = h.1; one = few_digits b h.0 }) in
    (decimal_injective a b (omega (arith, g.0)) (omega (arith, h.0)) same.0, same.1)

-- what follows the second line, and the first
abbrev after_start : GameContents → List ℕ
after_start g = ended (delay_line g.delay) ++ []

abbrev after_name : GameContents → List ℕ
after_name g = ended (start_line g.start) ++ after_start g

told_name : (text : List ℕ) (g : GameContents) → SpellsGame text g → HasName text g.name (after_name g)
told_name text g h = (h.0.name, h.1)

told_start : (g : GameContents) (rest : List ℕ) → IsPosition g.start → rest ≡ after_name g → HasStart rest g.start (after_start g)
told_start g rest is e = (is, e)

told_delay : (g : GameContents) (rest : List ℕ) → g.delay ≤ most_delay → rest ≡ after_start g → HasDelay rest g.delay []
told_delay g rest is e = (is, e)

-- a game's text has no line at fault
pub no_fault : (text : List ℕ) (g : GameContents) (fault : GameFileFault) → SpellsGame text g → IsFirstGameFault text fault → ⊥
no_fault text g Name h bad = bad g.name (after_name g) (told_name text g h)
no_fault text g Start h (name, rest, has, bad) =
    let one = one_name text g.name (after_name g) name rest (told_name text g h) has in
    bad g.start (after_start g) (told_start g rest h.0.start (sym one.1))
no_fault text g Delay h (name, rest, has, (start, last, starts, bad)) =
    let one = one_name text g.name (after_name g) name rest (told_name text g h) has in
    let two = one_start rest g.start (after_start g) start last (told_start g rest h.0.start (sym one.1)) starts in
    bad g.delay [] (told_delay g last h.0.delay (sym two.1))
no_fault text g More h (name, rest, has, (start, last, starts, (delay, end, delays, some))) =
    let one = one_name text g.name (after_name g) name rest (told_name text g h) has in
    let two = one_start rest g.start (after_start g) start last (told_start g rest h.0.start (sym one.1)) starts in
    let three = one_delay last g.delay [] delay end (told_delay g last h.0.delay (sym two.1)) delays in
    some (sym three.1)

-- it is that of no other game
pub one_game : (text : List ℕ) (g h : GameContents) → SpellsGame text g → SpellsGame text h → g ≡ h
one_game text g h a b =
    let one = one_name text g.name (after_name g) h.name (after_name h) (told_name text g a) (told_name text h b) in
    let two = one_start (after_name g) g.start (after_start g) h.start (after_start h) (told_start g (after_name g) a.0.start refl) (told_start h (after_name g) b.0.start one.1) in
    let three = one_delay (after_start g) g.delay [] h.delay [] (told_delay g (after_start g) a.0.delay refl) (told_delay h (after_start g) b.0.delay two.1) in
    λ i. game_as_told (one.0 i) (two.0 i) (three.0 i)

-- three good lines, and nothing after them
pub spelled : (text name own rest : List ℕ) (start : Parts) (last : List ℕ) (delay : ℕ) (end : List ℕ) → HasName text name rest → own ≡ name → HasStart rest start last → HasDelay last delay end → end ≡ [] → SpellsGame text (game_as_told own start delay)
spelled text name own rest start last delay end n same s d none =
    let third : last ≡ after_start (game_as_told own start delay) = d.1 ∙ ap (λ (t : List ℕ). ended (delay_line delay) ++ t) none in
    let second : rest ≡ after_name (game_as_told own start delay) = s.1 ∙ ap (λ (t : List ℕ). ended (start_line start) ++ t) third in (
      record { name = subst IsGameName (sym same) n.0; start = s.0; delay = d.0 },
      n.1 ∙ ap (λ (t : List ℕ). ended (name_line name) ++ t) second ∙ ap (λ (t : List ℕ). ended (name_line t) ++ after_name (game_as_told own start delay)) (sym same),
    )

pub is_some : (xs : List ℕ) → false ≡ (length xs == 0) → xs ≢ []
is_some [] e none = absurd cc
is_some (x ∷ xs) e none = absurd cc

pub is_none : (xs : List ℕ) → true ≡ (length xs == 0) → xs ≡ []
is_none [] e = refl
is_none (x ∷ xs) e = grind arith

-- the line of a start, by its text
pub starts : (text fen rest : List ℕ) (start : Parts) → IsPosition start → text ≡ ended (codes "start " ++ fen) ++ rest → fen ≡ fen_of start → HasStart text start rest
starts text fen rest start is has e = (is, has ∙ ap (λ (t : List ℕ). ended (codes "start " ++ t) ++ rest) e)

-- the line of a delay, by its text
pub delays : (text digit rest : List ℕ) (delay : ℕ) → delay ≤ most_delay → text ≡ ended (codes "delay " ++ digit) ++ rest → digit ≡ decimal delay → HasDelay text delay rest
delays text digit rest delay le has e = (le, has ∙ ap (λ (t : List ℕ). ended (codes "delay " ++ t) ++ rest) e)
