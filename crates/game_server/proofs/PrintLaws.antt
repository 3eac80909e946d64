-- Lines that are written, one after the other.
use Rattle.std.proofs.Common.{◌≡◌, ◌∙◌, ℕ, Bool, true, false, ◌+◌, ◌<◌, ◌++◌, List, [], ◌∷◌, Option, Some, None, length, take, drop, get_or, refl, sym, ap, ap₂, subst, append_assoc}
use Rattle.std.specs.Prelude.{Result, Ok, Err, OnOk}
use Rattle.std.proofs.lemmas.List.{map-append, take_more, take-append-drop}
use Rattle.arbiter_server.specs.Told.{line_words}
use Rattle.arbiter_server.specs.declared.line.Line.{Line}
use Rattle.move_msg.specs.TextLines.{ended}
use Rattle.system_io.specs.declared.output.WriteFault.{WriteFault}
use Rattle.timeline.specs.Events.{Event, Flushed, Refused, Wrote, by_result, is_done}
use Rattle.timeline.specs.Outsides.{Adds, AddsSome, Outside}
use Rattle.timeline.specs.declared.stream.Stream.TheVariants.{Output}
use Rattle.timeline.proofs.EventLaws.{adds_more, adds_none}
use Rattle.game_server.specs.Printing.{KnowsLines, LineForm, LinesCut, TextEnd, WasCut, WasStuck, WentOut, WritesLines, after_lines, form_in, is_out, lines_out, text_events, text_out, written_text}
use Rattle.game_server.specs.Inside.Running.{IsTextEnd, PicksText, WritesAll, held_line, held_lines}
use Rattle.game_server.specs.declared.lines.Lines.{Lines}
use Rattle.game_server.specs.declared.replies.Held.{Held}

-- ---- a text

module _ {T P F K S L : Type 0} (o : Outside T P F K S L) (a b c : T) (text : List ℕ) where
  pub text_flushed : {A E : Type 0} (r : Result A E) → AddsSome o a b (λ more. more ≡ Wrote Output text ∷ []) → Adds o b c (by_result r (λ _. Flushed Output) (Refused Output) ∷ []) → AddsSome o a c (IsTextEnd (is_done r) text)
  text_flushed (Ok x) p q = (Wrote Output text ∷ Flushed Output ∷ [], adds_more o a b c (Wrote Output text ∷ []) (Flushed Output ∷ []) (subst (Adds o a b) p.2 p.1) q, (WentOut, refl, refl))
  text_flushed (Err e) p q = (Wrote Output text ∷ Refused Output ∷ [], adds_more o a b c (Wrote Output text ∷ []) (Refused Output ∷ []) (subst (Adds o a b) p.2 p.1) q, (WasStuck, refl, refl))

  pub text_refused : AddsSome o a b (λ more. (n : ℕ) × (more ≡ Wrote Output (take n text) ∷ Refused Output ∷ [])) → AddsSome o a b (IsTextEnd false text)
  text_refused p = (p.0, p.1, (WasCut p.2.0, p.2.1, refl))

-- ---- a line

module _ (form : LineForm) (before : List (List ℕ)) (line : Line) (text : List ℕ) (its : written_text form before line ≡ Some text) where
  out_whole : (end : TextEnd) (events : List Event) → events ≡ text_events text end → is_out end ≡ true → events ≡ lines_out form before (line ∷ [])
  out_whole WentOut events is went = is ∙ ap (λ (t : Option (List ℕ)). text_out t ++ []) (sym its)
  out_whole (WasCut n) events is went = absurd (let f : false ≡ true = went in cc)
  out_whole WasStuck events is went = absurd (let f : false ≡ true = went in cc)

  line_end : (done : Bool) (events : List Event) → IsTextEnd done text events → WritesLines form before (line ∷ []) done events
  line_end true events p = out_whole p.0 events p.1 p.2
  line_end false events p = record { first = []; at = line; rest = []; are = refl; text = text; its = its; end = p.0; failed = p.2; events_are = p.1 }

if_ok : (P : Type 0) (r : Result (Unit {0}) WriteFault) → P → OnOk r P
if_ok P (Ok x) h = h
if_ok P (Err e) h = tt

pub line_written : {T P F K S L : Type 0} (o : Outside T P F K S L) (before : List (List ℕ)) (old new : Lines) (line : Line) (text : List ℕ) (a b : T) (r : Result (Unit {0}) WriteFault) → PicksText before old new line (Some text) → AddsSome o a b (IsTextEnd (is_done r) text) → WritesAll o before old new (line ∷ []) a b r
line_written o before old new line text a b r picks p = record {
  made = (p.0, p.1, line_end (form_in old) before line text (sym picks.is) (is_done r) p.0 p.2);
  after = if_ok (KnowsLines new (ended (line_words line) ∷ before)) r picks.after;
  same = picks.same;
}

pub line_left : {T P F K S L : Type 0} (o : Outside T P F K S L) (before : List (List ℕ)) (old new : Lines) (line : Line) (a : T) → PicksText before old new line None → WritesAll o before old new (line ∷ []) a a (Ok tt)
line_left o before old new line a picks = record {
  made = ([], adds_none o a, ap (λ (t : Option (List ℕ)). text_out t ++ []) picks.is);
  after = picks.after;
  same = picks.same;
}

-- ---- some lines, and then others

module _ (form : LineForm) where
  after_join : (before : List (List ℕ)) (xs ys : List Line) → after_lines before (xs ++ ys) ≡ after_lines (after_lines before xs) ys
  after_join before [] ys = refl
  after_join before (l ∷ xs) ys = after_join (ended (line_words l) ∷ before) xs ys

  lines_join : (before : List (List ℕ)) (xs ys : List Line) → lines_out form before (xs ++ ys) ≡ lines_out form before xs ++ lines_out form (after_lines before xs) ys
  lines_join before [] ys = refl
  lines_join before (l ∷ xs) ys =
      let first : List Event = text_out (written_text form before l) in
      let rest : List (List ℕ) = ended (line_words l) ∷ before in
      ap (λ (e : List Event). first ++ e) (lines_join rest xs ys) ∙ sym (append_assoc first (lines_out form rest xs) (lines_out form (after_lines rest xs) ys))

  lines_on : (before : List (List ℕ)) (xs ys : List Line) (done : Bool) (x y : List Event) → x ≡ lines_out form before xs → WritesLines form (after_lines before xs) ys done y → WritesLines form before (xs ++ ys) done (x ++ y)
  lines_on before xs ys true x y p q = ap₂ (λ (s t : List Event). s ++ t) p q ∙ sym (lines_join before xs ys)
  lines_on before xs ys false x y p q =
      let last : List Event = text_events q.text q.end in
      record {
        first = xs ++ q.first;
        at = q.at;
        rest = q.rest;
        are = ap (λ (l : List Line). xs ++ l) q.are ∙ sym (append_assoc xs q.first (q.at ∷ q.rest));
        text = q.text;
        its = ap (λ (t : List (List ℕ)). written_text form t q.at) (after_join before xs q.first) ∙ q.its;
        end = q.end;
        failed = q.failed;
        events_are = ap₂ (λ (s t : List Event). s ++ t) p q.events_are ∙ sym (append_assoc (lines_out form before xs) (lines_out form (after_lines before xs) q.first) last) ∙ ap (λ (l : List Event). l ++ last) (sym (lines_join before xs q.first));
      }

  -- lines behind the one at which the output failed
  cut_on : (before : List (List ℕ)) (xs zs : List Line) (x : List Event) → LinesCut form before xs x → LinesCut form before (xs ++ zs) x
  cut_on before xs zs x q = record {
    first = q.first;
    at = q.at;
    rest = q.rest ++ zs;
    are = ap (λ (l : List Line). l ++ zs) q.are ∙ append_assoc q.first (q.at ∷ q.rest) zs;
    text = q.text;
    its = q.its;
    end = q.end;
    failed = q.failed;
    events_are = q.events_are;
  }

module _ {T P F K S L : Type 0} (o : Outside T P F K S L) (before : List (List ℕ)) where
  pub written_none : (lines : Lines) (a : T) → KnowsLines lines before → WritesAll o before lines lines [] a a (Ok tt)
  written_none lines a knows = record { made = ([], adds_none o a, refl); after = knows; same = refl }

  pub written_on : (old mid new : Lines) (xs ys : List Line) (a b c : T) (r : Result (Unit {0}) WriteFault) → WritesAll o before old mid xs a b (Ok tt) → WritesAll o (after_lines before xs) mid new ys b c r → WritesAll o before old new (xs ++ ys) a c r
  written_on old mid new xs ys a b c r p q = record {
    made = (
      p.made.0 ++ q.made.0,
      adds_more o a b c p.made.0 q.made.0 p.made.1 q.made.1,
      lines_on (form_in old) before xs ys (is_done r) p.made.0 q.made.0 p.made.2 (subst (λ (f : LineForm). WritesLines f (after_lines before xs) ys (is_done r) q.made.0) p.same q.made.2),
    );
    after = subst (λ (t : List (List ℕ)). OnOk r (KnowsLines new t)) (sym (after_join (form_in old) before xs ys)) q.after;
    same = q.same ∙ p.same;
  }

  pub written_cut : (old new : Lines) (xs zs : List Line) (a b : T) (fault : WriteFault) → WritesAll o before old new xs a b (Err fault) → WritesAll o before old new (xs ++ zs) a b (Err fault)
  written_cut old new xs zs a b fault p = record { made = (p.made.0, p.made.1, cut_on (form_in old) before xs zs p.made.0 p.made.2); after = tt; same = p.same }

-- ---- the lines of what is held

module _ (is_sent : Bool) (held : List Held) (i : ℕ) where
  pub lines_to : (x : Held) → i < length held → x ≡ get_or held i x → held_lines is_sent (take (i + 1) held) ≡ held_lines is_sent (take i held) ++ held_line is_sent x ∷ []
  lines_to x lt is = ap (held_lines is_sent) (take_more held i x lt ∙ ap (λ (y : Held). take i held ++ y ∷ []) (sym is)) ∙ map-append (held_line is_sent) (take i held) (x ∷ [])

  pub lines_split : (x : Held) → i < length held → x ≡ get_or held i x → held_lines is_sent held ≡ (held_lines is_sent (take i held) ++ held_line is_sent x ∷ []) ++ held_lines is_sent (drop (i + 1) held)
  lines_split x lt is =
      ap (held_lines is_sent) (sym (take-append-drop (i + 1) held)) ∙ map-append (held_line is_sent) (take (i + 1) held) (drop (i + 1) held)
      ∙ ap (λ (ls : List Line). ls ++ held_lines is_sent (drop (i + 1) held)) (lines_to x lt is)
