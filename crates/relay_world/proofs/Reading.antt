-- Lines and words of a schedule.
use Rattle.std.proofs.Common.{◌≡◌, ◌≢◌, ◌≤◌, ◌+◌, ℕ, suc, List, [], ◌∷◌, ◌++◌, length, refl, sym, ap, ◌∙◌, subst, arith, inl, inr, append_assoc, length-append}
use Rattle.std.specs.Prelude.{◌==◌, codes}
use Rattle.std.proofs.lemmas.List.{append-nil}
use Rattle.board_core.specs.declared.parts.Parts.{Parts}
use Rattle.board_core.specs.declared.moves.Move.{Move as Moves}
use Rattle.fen_text.specs.Coordinates.{AreMoves, SpellsMove}
use Rattle.fen_text.specs.Cuts.{cut_at}
use Rattle.fen_text.proofs.CutLaws.{is_cut}
use Rattle.move_msg.specs.declared.arbiter_id.ArbiterId.{ArbiterId}
use Rattle.move_msg.specs.Numbers.{most_moves}
use Rattle.arbiter_core.specs.declared.keeper.Keep.{Keep}
use Rattle.relay_world.specs.declared.event.Event.{Event}
use Rattle.relay_world.specs.declared.event.Event.TheVariants.{Deliver, Noise, Restart, Ask}
use Rattle.relay_world.specs.Texts.{AreEvents, BeginsByMove, IsBadEvent, IsEvent, IsEventLine, IsFirstBadScheduleLine, IsMovesLine, IsNameLine, IsStartLine, NeedsLine, SpellsBytes, SpellsPlace, TakesForFirst, TakesForLine, keep_word, who_word}

pub has_piece : (byte : ℕ) (t : List ℕ) → 1 ≤ length (cut_at byte t)
has_piece byte t = is_cut (λ b. b == byte) t

-- a text that goes on after a byte is not one piece
pub not_last : (byte : ℕ) (a b t w : List ℕ) → cut_at byte t ≡ a ∷ cut_at byte b → cut_at byte t ≡ w ∷ [] → ⊥
not_last byte a b t w e f =
    let g : length (w ∷ []) ≡ length (a ∷ cut_at byte b) = ap length (sym f ∙ e) in
    let h = has_piece byte b in
    absurd (omega (arith, g, h))

pub first_word : (a b : List ℕ) (c d : List (List ℕ)) → a ∷ c ≡ b ∷ d → a ≡ b
first_word a b c d e = cc

pub later_words : (a b : List ℕ) (c d : List (List ℕ)) → a ∷ c ≡ b ∷ d → c ≡ d
later_words a b c d e = cc

-- ---- events by their first words

abbrev pub first_byte : List (List ℕ) → ℕ
first_byte [] = 0
first_byte ([] ∷ words) = 0
first_byte ((b ∷ bs) ∷ words) = b

pub ask_words : (ws : List (List ℕ)) (e : Event) → IsEvent (codes "ask" ∷ ws) e → (who : ArbiterId) × (ws ≡ who_word who ∷ [])
ask_words ws (Ask who) h = (who, later_words _ _ _ _ h)
ask_words ws (Restart who keep) h = absurd (omega (arith, ap first_byte h))
ask_words ws (Deliver who place keep) h = absurd (omega (arith, ap first_byte h.1))
ask_words ws (Noise who bytes keep) h = absurd (omega (arith, ap first_byte h.1))

pub restart_words : (ws : List (List ℕ)) (e : Event) → IsEvent (codes "restart" ∷ ws) e → (who : ArbiterId) × ((keep : Keep) × (ws ≡ who_word who ∷ keep_word keep ∷ []))
restart_words ws (Restart who keep) h = (who, (keep, later_words _ _ _ _ h))
restart_words ws (Ask who) h = absurd (omega (arith, ap first_byte h))
restart_words ws (Deliver who place keep) h = absurd (omega (arith, ap first_byte h.1))
restart_words ws (Noise who bytes keep) h = absurd (omega (arith, ap first_byte h.1))

pub deliver_words : (ws : List (List ℕ)) (e : Event) → IsEvent (codes "deliver" ∷ ws) e → (who : ArbiterId) × ((keep : Keep) × ((word : List ℕ) × ((place : ℕ) × ((ws ≡ who_word who ∷ word ∷ keep_word keep ∷ []) × SpellsPlace word place))))
deliver_words ws (Deliver who place keep) h = (who, (keep, (h.0, (place, (later_words _ _ _ _ h.1, h.2)))))
deliver_words ws (Ask who) h = absurd (omega (arith, ap first_byte h))
deliver_words ws (Restart who keep) h = absurd (omega (arith, ap first_byte h))
deliver_words ws (Noise who bytes keep) h = absurd (omega (arith, ap first_byte h.1))

pub noise_words : (ws : List (List ℕ)) (e : Event) → IsEvent (codes "noise" ∷ ws) e → (who : ArbiterId) × ((keep : Keep) × ((word : List ℕ) × ((bytes : List ℕ) × ((ws ≡ who_word who ∷ word ∷ keep_word keep ∷ []) × SpellsBytes word bytes))))
noise_words ws (Noise who bytes keep) h = (who, (keep, (h.0, (bytes.items, (later_words _ _ _ _ h.1, h.2)))))
noise_words ws (Ask who) h = absurd (omega (arith, ap first_byte h))
noise_words ws (Restart who keep) h = absurd (omega (arith, ap first_byte h))
noise_words ws (Deliver who place keep) h = absurd (omega (arith, ap first_byte h.1))

-- an event's first word is one of four
pub verb_of : (verb : List ℕ) (ws : List (List ℕ)) (e : Event) → IsEvent (verb ∷ ws) e → (verb ≡ codes "deliver" → ⊥) → (verb ≡ codes "restart" → ⊥) → (verb ≡ codes "ask" → ⊥) → (verb ≡ codes "noise" → ⊥) → ⊥
verb_of verb ws (Deliver who place keep) h a b c d = a (first_word _ _ _ _ h.1)
verb_of verb ws (Restart who keep) h a b c d = b (first_word _ _ _ _ h)
verb_of verb ws (Ask who) h a b c d = c (first_word _ _ _ _ h)
verb_of verb ws (Noise who bytes keep) h a b c d = d (first_word _ _ _ _ h.1)

-- an event has two words at least
pub two_words : (w : List ℕ) (e : Event) → IsEvent (w ∷ []) e → ⊥
two_words w (Deliver who place keep) h = absurd (omega (arith, ap length h.1))
two_words w (Restart who keep) h = absurd (omega (arith, ap length h))
two_words w (Ask who) h = absurd (omega (arith, ap length h))
two_words w (Noise who bytes keep) h = absurd (omega (arith, ap length h.1))

-- ---- moves word by word

pub first_move : (w : List ℕ) (ws : List (List ℕ)) (ms : List Moves) → AreMoves (w ∷ ws) ms → (m : Moves) × SpellsMove w m
first_move w ws [] h = absurd h
first_move w ws (m ∷ ms) h = (m, h.0)

pub later_moves : (w : List ℕ) (ws : List (List ℕ)) (ms : List Moves) → AreMoves (w ∷ ws) ms → (rest : List Moves) × AreMoves ws rest
later_moves w ws [] h = absurd h
later_moves w ws (m ∷ ms) h = (ms, h.1)

-- what is known of the words that are left
pub record AreLeft (text rest : List ℕ) (moves : List Moves) : Type 0 where
  pub some : (ms : List Moves) → AreMoves (cut_at 32 rest) ms → AreMoves (cut_at 32 text) (moves ++ ms)
  pub none : (ms : List Moves) → AreMoves (cut_at 32 text) ms → (left : List Moves) × AreMoves (cut_at 32 rest) left
  pub words : length (cut_at 32 text) ≡ length moves + length (cut_at 32 rest)
  pub first : BeginsByMove (cut_at 32 rest) → BeginsByMove (cut_at 32 text)

-- a word that is a move
pub begins_here : (text rest word : List ℕ) (words : List (List ℕ)) (moves : List Moves) (m : Moves) → AreLeft text rest moves → cut_at 32 rest ≡ word ∷ words → SpellsMove word m → BeginsByMove (cut_at 32 text)
begins_here text rest word words moves m h e s = h.first (subst BeginsByMove (sym e) (m, s))

pub left_first : (text : List ℕ) (moves : List Moves) → moves ≡ [] → AreLeft text text moves
left_first text moves e = record {
  some = λ ms h. subst (λ (xs : List Moves). AreMoves (cut_at 32 text) (xs ++ ms)) (sym e) h;
  none = λ ms h. (ms, h);
  words = let held : length moves ≡ 0 = ap length e in omega (arith, held);
  first = λ b. b;
}

pub left_more : (text rest tail word : List ℕ) (moves more : List Moves) (m : Moves) → AreLeft text rest moves → cut_at 32 rest ≡ word ∷ cut_at 32 tail → SpellsMove word m → more ≡ moves ++ m ∷ [] → AreLeft text tail more
left_more text rest tail word moves more m h e s is = record {
  some = λ ms g.
      let all : AreMoves (cut_at 32 text) (moves ++ m ∷ ms) = h.some (m ∷ ms) (subst (λ ws. AreMoves ws (m ∷ ms)) (sym e) (s, g)) in
      subst (AreMoves (cut_at 32 text)) (sym (ap (λ (xs : List Moves). xs ++ ms) is ∙ append_assoc moves (m ∷ []) ms)) all;
  none = λ ms g. let l = h.none ms g in later_moves word (cut_at 32 tail) l.0 (subst (λ ws. AreMoves ws l.0) e l.1);
  words =
      let all = h.words in
      let one : length (cut_at 32 rest) ≡ length (word ∷ cut_at 32 tail) = ap length e in
      let longer : length more ≡ length moves + length (m ∷ []) = ap length is ∙ length-append moves (m ∷ []) in
      omega (arith, all, one, longer);
  first = λ _. begins_here text rest word (cut_at 32 tail) moves m h e s;
}

pub no_move : (text rest word : List ℕ) (ws : List (List ℕ)) (moves : List Moves) → AreLeft text rest moves → cut_at 32 rest ≡ word ∷ ws → ((m : Moves) → SpellsMove word m → ⊥) → (ms : List Moves) → AreMoves (cut_at 32 text) ms → ⊥
no_move text rest word ws moves h e never ms g =
    let l = h.none ms g in
    let f = first_move word ws l.0 (subst (λ xs. AreMoves xs l.0) e l.1) in
    never f.0 f.1

pub left_last : (text rest : List ℕ) (moves more : List Moves) (m : Moves) → AreLeft text rest moves → cut_at 32 rest ≡ rest ∷ [] → SpellsMove rest m → more ≡ moves ++ m ∷ [] → AreMoves (cut_at 32 text) more
left_last text rest moves more m h e s is = subst (AreMoves (cut_at 32 text)) (sym is) (h.some (m ∷ []) (subst (λ ws. AreMoves ws (m ∷ [])) (sym e) (s, tt)))

-- ---- events line by line

pub events_more : (line : List ℕ) (lines : List (List ℕ)) (e : Event) (es : List Event) → 1 ≤ length lines → IsEventLine line e → AreEvents lines es → AreEvents (line ∷ lines) (e ∷ es)
events_more line [] e es l h g = absurd (omega arith)
events_more line (next ∷ lines) e es l h g = (h, g)

pub bad_more : (n k : ℕ) (line : List ℕ) (lines : List (List ℕ)) (e : Event) → 1 ≤ length lines → IsEventLine line e → IsBadEvent (suc n) k lines → IsBadEvent n k (line ∷ lines)
bad_more n k line [] e l h g = absurd (omega arith)
bad_more n k line (next ∷ lines) e l h g = inr ((e, h), g)

pub bad_here : (n : ℕ) (line : List ℕ) (lines : List (List ℕ)) → 1 ≤ length lines → ((e : Event) → IsEventLine line e → ⊥) → IsBadEvent n n (line ∷ lines)
bad_here n line [] l never = absurd (omega arith)
bad_here n line (next ∷ lines) l never = inl (refl, never)

-- what is known of the lines that are left
pub record AreWaiting (text rest : List ℕ) (events : List Event) : Type 0 where
  pub ok : (es : List Event) → AreEvents (cut_at 10 rest) es → AreEvents (cut_at 10 text) (events ++ es)
  pub bad : (k : ℕ) → IsBadEvent (4 + length events) k (cut_at 10 rest) → IsBadEvent 4 k (cut_at 10 text)
  pub first : TakesForFirst (cut_at 10 rest) → TakesForFirst (cut_at 10 text)

takes_first : (line : List ℕ) (lines : List (List ℕ)) → 1 ≤ length lines → TakesForLine line → TakesForFirst (line ∷ lines)
takes_first line [] l h = absurd (omega arith)
takes_first line (next ∷ lines) l h = h

-- a line that takes memory
pub takes_here : (text rest tail line : List ℕ) (events : List Event) → AreWaiting text rest events → cut_at 10 rest ≡ line ∷ cut_at 10 tail → TakesForLine line → TakesForFirst (cut_at 10 text)
takes_here text rest tail line events h e t = h.first (subst TakesForFirst (sym e) (takes_first line (cut_at 10 tail) (has_piece 10 tail) t))

pub waiting_first : (text : List ℕ) (events : List Event) → events ≡ [] → AreWaiting text text events
waiting_first text events e = record {
  ok = λ es h. subst (λ (xs : List Event). AreEvents (cut_at 10 text) (xs ++ es)) (sym e) h;
  bad = λ k h. subst (λ (n : ℕ). IsBadEvent n k (cut_at 10 text)) (ap (λ (xs : List Event). 4 + length xs) e) h;
  first = λ t. t;
}

pub waiting_more : (text rest tail line : List ℕ) (events more : List Event) (e : Event) → AreWaiting text rest events → cut_at 10 rest ≡ line ∷ cut_at 10 tail → IsEventLine line e → more ≡ events ++ e ∷ [] → AreWaiting text tail more
waiting_more text rest tail line events more e h cut is m = record {
  ok = λ es g.
      let all : AreEvents (cut_at 10 text) (events ++ e ∷ es) = h.ok (e ∷ es) (subst (λ ls. AreEvents ls (e ∷ es)) (sym cut) (events_more line (cut_at 10 tail) e es (has_piece 10 tail) is g)) in
      subst (AreEvents (cut_at 10 text)) (sym (ap (λ (xs : List Event). xs ++ es) m ∙ append_assoc events (e ∷ []) es)) all;
  bad = λ k g.
      let long : 4 + length more ≡ suc (4 + length events) = ap (λ (xs : List Event). 4 + length xs) m ∙ ends events in
      h.bad k (subst (λ ls. IsBadEvent (4 + length events) k ls) (sym cut) (bad_more (4 + length events) k line (cut_at 10 tail) e (has_piece 10 tail) is (subst (λ (n : ℕ). IsBadEvent n k (cut_at 10 tail)) long g)));
  first = λ _. takes_here text rest tail line events h cut (inl (e, is));
}
  where
    one_longer : (xs : List Event) → length (xs ++ e ∷ []) ≡ suc (length xs)
    one_longer [] = refl
    one_longer (x ∷ xs) = ap suc (one_longer xs)

    ends : (xs : List Event) → 4 + length (xs ++ e ∷ []) ≡ suc (4 + length xs)
    ends xs = let h = one_longer xs in omega (arith, h)

pub bad_line : (text rest tail line : List ℕ) (events : List Event) → AreWaiting text rest events → cut_at 10 rest ≡ line ∷ cut_at 10 tail → ((e : Event) → IsEventLine line e → ⊥) → IsBadEvent 4 (4 + length events) (cut_at 10 text)
bad_line text rest tail line events h cut never = h.bad (4 + length events) (subst (λ ls. IsBadEvent (4 + length events) (4 + length events) ls) (sym cut) (bad_here (4 + length events) line (cut_at 10 tail) (has_piece 10 tail) never))

pub bad_end : (text rest : List ℕ) (events : List Event) → AreWaiting text rest events → cut_at 10 rest ≡ rest ∷ [] → rest ≢ [] → IsBadEvent 4 (4 + length events) (cut_at 10 text)
bad_end text rest events h cut some = h.bad (4 + length events) (subst (λ ls. IsBadEvent (4 + length events) (4 + length events) ls) (sym cut) (refl, some))

pub all_events : (text rest : List ℕ) (events : List Event) → AreWaiting text rest events → cut_at 10 rest ≡ rest ∷ [] → rest ≡ [] → AreEvents (cut_at 10 text) events
all_events text rest events h cut none = subst (AreEvents (cut_at 10 text)) (append-nil events) (h.ok [] (subst (λ ls. AreEvents ls []) (sym cut) none))

-- ---- lines that have to be there

module _ (IsGood : List ℕ → Type 0) (n k : ℕ) (Later : List (List ℕ) → Type 0) where
  pub needs_end : (last : List ℕ) (lines : List (List ℕ)) → lines ≡ last ∷ [] → k ≡ n → NeedsLine IsGood n k Later lines
  needs_end last lines e is = subst (NeedsLine IsGood n k Later) (sym e) is

  pub needs_good : (line rest : List ℕ) (lines : List (List ℕ)) → lines ≡ line ∷ cut_at 10 rest → k ≡ n → (IsGood line → ⊥) → NeedsLine IsGood n k Later lines
  needs_good line rest lines e is never = subst (NeedsLine IsGood n k Later) (sym e) (by_more (cut_at 10 rest) (has_piece 10 rest))
    where
      by_more : (ls : List (List ℕ)) → 1 ≤ length ls → NeedsLine IsGood n k Later (line ∷ ls)
      by_more [] l = absurd (omega arith)
      by_more (x ∷ ls) l = inl (is, never)

  pub needs_later : (line rest : List ℕ) (lines : List (List ℕ)) → lines ≡ line ∷ cut_at 10 rest → IsGood line → Later (cut_at 10 rest) → NeedsLine IsGood n k Later lines
  needs_later line rest lines e good later = subst (NeedsLine IsGood n k Later) (sym e) (by_more (cut_at 10 rest) (has_piece 10 rest) later)
    where
      by_more : (ls : List (List ℕ)) → 1 ≤ length ls → Later ls → NeedsLine IsGood n k Later (line ∷ ls)
      by_more [] l h = absurd (omega arith)
      by_more (x ∷ ls) l h = inr (good, h)

-- ---- the first line at fault

abbrev pub IsSomeName : List ℕ → Type 0
IsSomeName line = (name : List ℕ) × IsNameLine line name

abbrev pub IsSomeStart : List ℕ → Type 0
IsSomeStart line = (start : Parts) × IsStartLine line start

abbrev pub IsSomeMoves : List ℕ → Type 0
IsSomeMoves line = (moves : List Moves) × IsMovesLine line moves

pub bad_second : (text one rest two more : List ℕ) → cut_at 10 text ≡ one ∷ cut_at 10 rest → IsSomeName one → cut_at 10 rest ≡ two ∷ cut_at 10 more → (IsSomeStart two → ⊥) → IsFirstBadScheduleLine text 2
bad_second text one rest two more a n b never =
    needs_later IsSomeName 1 2 (NeedsLine IsSomeStart 2 2 (NeedsLine IsSomeMoves 3 2 (IsBadEvent 4 2))) one rest (cut_at 10 text) a n
    (needs_good IsSomeStart 2 2 (NeedsLine IsSomeMoves 3 2 (IsBadEvent 4 2)) two more (cut_at 10 rest) b refl never)

pub bad_third : (text one rest two more three last : List ℕ) → cut_at 10 text ≡ one ∷ cut_at 10 rest → IsSomeName one → cut_at 10 rest ≡ two ∷ cut_at 10 more → IsSomeStart two → cut_at 10 more ≡ three ∷ cut_at 10 last → (IsSomeMoves three → ⊥) → IsFirstBadScheduleLine text 3
bad_third text one rest two more three last a n b s d never =
    needs_later IsSomeName 1 3 (NeedsLine IsSomeStart 2 3 (NeedsLine IsSomeMoves 3 3 (IsBadEvent 4 3))) one rest (cut_at 10 text) a n
    (needs_later IsSomeStart 2 3 (NeedsLine IsSomeMoves 3 3 (IsBadEvent 4 3)) two more (cut_at 10 rest) b s
    (needs_good IsSomeMoves 3 3 (IsBadEvent 4 3) three last (cut_at 10 more) d refl never))

pub bad_later : (k : ℕ) (text one rest two more three last : List ℕ) → cut_at 10 text ≡ one ∷ cut_at 10 rest → IsSomeName one → cut_at 10 rest ≡ two ∷ cut_at 10 more → IsSomeStart two → cut_at 10 more ≡ three ∷ cut_at 10 last → IsSomeMoves three → IsBadEvent 4 k (cut_at 10 last) → IsFirstBadScheduleLine text k
bad_later k text one rest two more three last a n b s d m bad =
    needs_later IsSomeName 1 k (NeedsLine IsSomeStart 2 k (NeedsLine IsSomeMoves 3 k (IsBadEvent 4 k))) one rest (cut_at 10 text) a n
    (needs_later IsSomeStart 2 k (NeedsLine IsSomeMoves 3 k (IsBadEvent 4 k)) two more (cut_at 10 rest) b s
    (needs_later IsSomeMoves 3 k (IsBadEvent 4 k) three last (cut_at 10 more) d m bad))

pub length_moves : (ws : List (List ℕ)) (ms : List Moves) → AreMoves ws ms → length ms ≡ length ws
length_moves [] [] h = refl
length_moves [] (m ∷ ms) h = absurd h
length_moves (w ∷ ws) [] h = absurd h
length_moves (w ∷ ws) (m ∷ ms) h = ap suc (length_moves ws ms h.1)

-- with 4095 moves held, a word that is not the last makes too many
pub too_many : (text rest tail word : List ℕ) (moves ms : List Moves) → AreLeft text rest moves → cut_at 32 rest ≡ word ∷ cut_at 32 tail → 4095 ≤ length moves → AreMoves (cut_at 32 text) ms → length ms ≤ most_moves → ⊥
too_many text rest tail word moves ms h cut held are few =
    let all = h.words in
    let one : length (cut_at 32 rest) ≡ length (word ∷ cut_at 32 tail) = ap length cut in
    let more = has_piece 32 tail in
    let read = length_moves (cut_at 32 text) ms are in
    absurd (omega (arith, all, one, more, read, held, few))
