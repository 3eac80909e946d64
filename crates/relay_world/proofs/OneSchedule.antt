-- Two schedules that one text spells are one, and come to the same worlds.
use Rattle.std.proofs.Common.{◌≡◌, ℕ, List, [], ◌∷◌, drop, Ok, refl, sym, ap, ◌∙◌, subst, arith}
use Rattle.std.specs.Prelude.{codes}
use Rattle.std.proofs.lemmas.Fmt.{decimal_injective}
use Rattle.hex.specs.Hex.{decode_of}
use Rattle.hex.proofs.HexLemmas.{decode_of-same}
use Rattle.board_core.specs.declared.parts.Parts.{Parts}
use Rattle.board_core.specs.declared.moves.Move.{Move as Moves}
use Rattle.fen_text.specs.Coordinates.{AreMoves}
use Rattle.fen_text.specs.Cuts.{cut_at}
use Rattle.fen_text.specs.Fen.{SpellsPosition}
use Rattle.fen_text.specs.Laws.{HasOneMove, HasOnePosition}
use Rattle.move_msg.specs.declared.arbiter_id.ArbiterId.{ArbiterId}
use Rattle.move_msg.specs.declared.arbiter_id.ArbiterId.TheVariants.{A, B}
use Rattle.arbiter_core.specs.Delivers.{heard}
use Rattle.arbiter_core.specs.declared.keeper.Keep.{Keep}
use Rattle.arbiter_core.specs.declared.keeper.Keep.TheVariants.{Good, FailsOld, FailsNew}
use Rattle.relay_world.specs.declared.event.Event.{Event}
use Rattle.relay_world.specs.declared.event.Event.TheVariants.{Deliver, Noise, Restart, Ask}
use Rattle.relay_world.specs.declared.schedule.Schedule.{Schedule}
use Rattle.relay_world.specs.Texts.{AreEvents, AreSameEvents, IsEvent, IsMovesLine, IsNameLine, IsSameEvent, IsSameSchedule, IsStartLine, SpellsBytes, SpellsPlace, SpellsSchedule, keep_word, who_word}
use Rattle.relay_world.specs.Worlds.{Judged, World, happens, noised, worlds}
use Rattle.relay_world.proofs.Reading.{first_byte, first_word, later_words}

-- ---- words

one_who : (a b : ArbiterId) → who_word a ≡ who_word b → a ≡ b
one_who A A e = refl
one_who A B e = absurd (omega (arith, ap (λ (w : List ℕ). first_byte (w ∷ [])) e))
one_who B A e = absurd (omega (arith, ap (λ (w : List ℕ). first_byte (w ∷ [])) e))
one_who B B e = refl

one_keep : (a b : Keep) → keep_word a ≡ keep_word b → a ≡ b
one_keep Good Good e = refl
one_keep Good FailsOld e = absurd (omega (arith, ap (λ (w : List ℕ). first_byte (w ∷ [])) e))
one_keep Good FailsNew e = absurd (omega (arith, ap (λ (w : List ℕ). first_byte (w ∷ [])) e))
one_keep FailsOld Good e = absurd (omega (arith, ap (λ (w : List ℕ). first_byte (w ∷ [])) e))
one_keep FailsOld FailsOld e = refl
one_keep FailsOld FailsNew e = absurd (omega (arith, ap (λ (w : List ℕ). first_byte (w ∷ [])) e))
one_keep FailsNew Good e = absurd (omega (arith, ap (λ (w : List ℕ). first_byte (w ∷ [])) e))
one_keep FailsNew FailsOld e = absurd (omega (arith, ap (λ (w : List ℕ). first_byte (w ∷ [])) e))
one_keep FailsNew FailsNew e = refl

one_place : (word : List ℕ) (m n : ℕ) → SpellsPlace word m → SpellsPlace word n → m ≡ n
one_place word m n h g = let a = h.small in let b = g.small in decimal_injective m n (omega (arith, a)) (omega (arith, b)) (sym h.text ∙ g.text)

-- a hyphen is not two digits
no_digits : (b : ℕ) (bs : List ℕ) → decode_of (codes "-") ≡ Ok (b ∷ bs) → ⊥
no_digits b bs e = cc

one_bytes : (word xs ys : List ℕ) → SpellsBytes word xs → SpellsBytes word ys → xs ≡ ys
one_bytes word [] [] h g = refl
one_bytes word [] (b ∷ bs) h g = absurd (no_digits b bs (ap decode_of (sym h) ∙ g))
one_bytes word (b ∷ bs) [] h g = absurd (no_digits b bs (ap decode_of (sym g) ∙ h))
one_bytes word (b ∷ bs) (c ∷ cs) h g = decode_of-same word (b ∷ bs) (c ∷ cs) h g

-- ---- lines

one_name : (line m n : List ℕ) → IsNameLine line m → IsNameLine line n → m ≡ n
one_name line m n h g = ap (drop 5) (sym h.0 ∙ g.0)

one_start : HasOnePosition → (line : List ℕ) (p q : Parts) → IsStartLine line p → IsStartLine line q → p ≡ q
one_start law line p q h g =
    let same : h.0 ≡ g.0 = ap (drop 6) (sym h.1 ∙ g.1) in
    law g.0 p q (subst (λ (x : List ℕ). SpellsPosition x p) same h.3) g.3

one_game : HasOneMove → (words : List (List ℕ)) (ms ns : List Moves) → AreMoves words ms → AreMoves words ns → ms ≡ ns
one_game law [] [] [] h g = refl
one_game law [] (m ∷ ms) ns h g = absurd h
one_game law [] [] (n ∷ ns) h g = absurd g
one_game law (word ∷ words) [] ns h g = absurd h
one_game law (word ∷ words) (m ∷ ms) [] h g = absurd g
one_game law (word ∷ words) (m ∷ ms) (n ∷ ns) h g =
    ap (λ (x : Moves). x ∷ ms) (law word m n h.0 g.0) ∙ ap (λ (xs : List Moves). n ∷ xs) (one_game law words ms ns h.1 g.1)

one_moves : HasOneMove → (line : List ℕ) (ms ns : List Moves) → IsMovesLine line ms → IsMovesLine line ns → ms ≡ ns
one_moves law line ms ns h g = one_game law g.0 ms ns (subst (λ ws. AreMoves ws ms) (later_words _ _ _ _ (sym h.1 ∙ g.1)) h.2) g.2

-- the second word and the one after it
abbrev second : List (List ℕ) → List ℕ
second [] = []
second (a ∷ []) = []
second (a ∷ b ∷ ws) = b

abbrev third : List (List ℕ) → List ℕ
third [] = []
third (a ∷ []) = []
third (a ∷ b ∷ []) = []
third (a ∷ b ∷ c ∷ ws) = c

abbrev fourth : List (List ℕ) → List ℕ
fourth [] = []
fourth (a ∷ []) = []
fourth (a ∷ b ∷ []) = []
fourth (a ∷ b ∷ c ∷ []) = []
fourth (a ∷ b ∷ c ∷ d ∷ ws) = d

one_event : (words : List (List ℕ)) (e f : Event) → IsEvent words e → IsEvent words f → IsSameEvent e f
one_event words (Deliver who place keep) (Deliver other index how) h g =
    let e = sym h.1 ∙ g.1 in
    let w = one_who who other (ap second e) in
    let p = one_place g.0 place index (subst (λ (x : List ℕ). SpellsPlace x place) (ap third e) h.2) g.2 in
    let k = one_keep keep how (ap fourth e) in
    ap (λ (x : ArbiterId). Deliver x place keep) w ∙ ap (λ (x : ℕ). Deliver other x keep) p ∙ ap (λ (x : Keep). Deliver other index x) k
one_event words (Deliver who place keep) (Noise other more how) h g = absurd (omega (arith, ap first_byte (sym h.1 ∙ g.1)))
one_event words (Deliver who place keep) (Restart other how) h g = absurd (omega (arith, ap first_byte (sym h.1 ∙ g)))
one_event words (Deliver who place keep) (Ask other) h g = absurd (omega (arith, ap first_byte (sym h.1 ∙ g)))
one_event words (Noise who bytes keep) (Deliver other index how) h g = absurd (omega (arith, ap first_byte (sym h.1 ∙ g.1)))
one_event words (Noise who bytes keep) (Noise other more how) h g =
    let e = sym h.1 ∙ g.1 in
    let w = one_who who other (ap second e) in
    let b = one_bytes g.0 bytes.items more.items (subst (λ (x : List ℕ). SpellsBytes x bytes.items) (ap third e) h.2) g.2 in
    let k = one_keep keep how (ap fourth e) in
    (w, b, k)
one_event words (Noise who bytes keep) (Restart other how) h g = absurd (omega (arith, ap first_byte (sym h.1 ∙ g)))
one_event words (Noise who bytes keep) (Ask other) h g = absurd (omega (arith, ap first_byte (sym h.1 ∙ g)))
one_event words (Restart who keep) (Deliver other index how) h g = absurd (omega (arith, ap first_byte (sym h ∙ g.1)))
one_event words (Restart who keep) (Noise other more how) h g = absurd (omega (arith, ap first_byte (sym h ∙ g.1)))
one_event words (Restart who keep) (Restart other how) h g =
    let e = sym h ∙ g in
    ap (λ (x : ArbiterId). Restart x keep) (one_who who other (ap second e)) ∙ ap (λ (x : Keep). Restart other x) (one_keep keep how (ap third e))
one_event words (Restart who keep) (Ask other) h g = absurd (omega (arith, ap first_byte (sym h ∙ g)))
one_event words (Ask who) (Deliver other index how) h g = absurd (omega (arith, ap first_byte (sym h ∙ g.1)))
one_event words (Ask who) (Noise other more how) h g = absurd (omega (arith, ap first_byte (sym h ∙ g.1)))
one_event words (Ask who) (Restart other how) h g = absurd (omega (arith, ap first_byte (sym h ∙ g)))
one_event words (Ask who) (Ask other) h g = ap Ask (one_who who other (ap second (sym h ∙ g)))

one_events : (lines : List (List ℕ)) (es fs : List Event) → AreEvents lines es → AreEvents lines fs → AreSameEvents es fs
one_events [] es fs h g = absurd h
one_events (last ∷ []) [] [] h g = tt
one_events (last ∷ []) [] (f ∷ fs) h g = absurd g
one_events (last ∷ []) (e ∷ es) fs h g = absurd h
one_events (line ∷ next ∷ lines) [] fs h g = absurd h
one_events (line ∷ next ∷ lines) (e ∷ es) [] h g = absurd g
one_events (line ∷ next ∷ lines) (e ∷ es) (f ∷ fs) h g = (one_event (cut_at 32 line) e f h.0 g.0, one_events (next ∷ lines) es fs h.1 g.1)

pub one_schedule : HasOnePosition → HasOneMove → (text : List ℕ) (s t : Schedule) → SpellsSchedule text s → SpellsSchedule text t → IsSameSchedule s t
one_schedule position move text s t h g =
    let all : h.name ∷ h.start ∷ h.moves ∷ h.events ≡ g.name ∷ g.start ∷ g.moves ∷ g.events = sym h.lines ∙ g.lines in
    let later = later_words _ _ _ _ all in
    let last = later_words _ _ _ _ later in
    record {
      name = one_name g.name s.name.items t.name.items (subst (λ l. IsNameLine l s.name.items) (first_word _ _ _ _ all) h.name_is) g.name_is;
      start = one_start position g.start s.start t.start (subst (λ l. IsStartLine l s.start) (first_word _ _ _ _ later) h.start_is) g.start_is;
      moves = one_moves move g.moves s.moves.items t.moves.items (subst (λ l. IsMovesLine l s.moves.items) (first_word _ _ _ _ last) h.moves_are) g.moves_are;
      events = one_events g.events s.events.items t.events.items (subst (λ ls. AreEvents ls s.events.items) (later_words _ _ _ _ last) h.events_are) g.events_are;
    }

-- ---- the worlds of events that are one

one_step : (game : Judged) (world : World) (e f : Event) → IsSameEvent e f → happens game world e ≡ happens game world f
unfolding happens
one_step game world (Deliver who place keep) f h = ap (happens game world) h
one_step game world (Noise who bytes keep) (Noise other more how) h =
    ap (λ (x : ArbiterId). noised game world x keep (heard game.stamp bytes.items)) h.0
    ∙ ap (λ (xs : List ℕ). noised game world other keep (heard game.stamp xs)) h.1
    ∙ ap (λ (x : Keep). noised game world other x (heard game.stamp more.items)) h.2
one_step game world (Noise who bytes keep) (Deliver other index how) h = ap (happens game world) h
one_step game world (Noise who bytes keep) (Restart other how) h = ap (happens game world) h
one_step game world (Noise who bytes keep) (Ask other) h = ap (happens game world) h
one_step game world (Restart who keep) f h = ap (happens game world) h
one_step game world (Ask who) f h = ap (happens game world) h

one_run : (game : Judged) (world : World) (es fs : List Event) → AreSameEvents es fs → worlds game world es ≡ worlds game world fs
one_run game world [] [] h = refl
one_run game world [] (f ∷ fs) h = absurd h
one_run game world (e ∷ es) [] h = absurd h
one_run game world (e ∷ es) (f ∷ fs) h =
    ap (λ (w : World). world ∷ worlds game w es) (one_step game world e f h.0) ∙ ap (λ (ws : List World). world ∷ ws) (one_run game (happens game world f) es fs h.1)

pub same_worlds : (game : Judged) (world : World) (s t : Schedule) → IsSameSchedule s t → worlds game world s.events.items ≡ worlds game world t.events.items
same_worlds game world s t h = one_run game world s.events.items t.events.items h.events
