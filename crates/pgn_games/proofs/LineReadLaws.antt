-- Lines that are read for a game, one after another, as events.
use Rattle.std.proofs.Common.{◌≡◌, ◌∙◌, ◌++◌, ◌∷◌, [], ℕ, Bool, true, false, List, Option, Some, None, ap, append_assoc, refl, subst, sym}
use Rattle.std.proofs.lemmas.List.{map-append}
use Rattle.std.specs.Prelude.{Result, Ok, Err, map}
use Rattle.std.specs.Result.{IsErrAnd}
use Rattle.system_io.specs.LineReaders.{ReadsIfAny}
use Rattle.system_io.specs.declared.reading.ReadFault.{ReadFault}
use Rattle.system_io.specs.declared.reading.ReadFault.TheVariants.{OutOfMemory}
use Rattle.timeline.proofs.EventLaws.{adds_both, adds_none, adds_so}
use Rattle.timeline.specs.Events.{Event, LineRead, has_line_feed, line_event}
use Rattle.timeline.specs.Outsides.{Adds, AddsSome, Outside}
use Rattle.pgn_games.specs.LineReads.{AreNextLines, FailsToRead, LineAsked, LineFails, NoRoomForLines, ReadsFor, ReadsLines, line_asked}

asked_more : (a b c : Option (List ℕ)) (xs ys : List LineAsked) → AreNextLines a xs b → AreNextLines b ys c → AreNextLines a (xs ++ ys) c
unfolding AreNextLines
asked_more a b c [] ys h k = subst (λ (x : Option (List ℕ)). AreNextLines x ys c) h k
asked_more a b c (x ∷ xs) ys (mid, one, rest) k = (mid, one, asked_more mid b c xs ys rest k)

pub no_lines : (left : Option (List ℕ)) → ReadsLines left left []
unfolding AreNextLines
no_lines left = record { asked = []; lines = refl; is = refl }

one_line : (a b : Option (List ℕ)) (line ahead : List ℕ) (some : Bool) → ReadsIfAny a b line some → ReadsLines a b (line_event (Ok some) line ahead ∷ [])
unfolding AreNextLines
one_line a b line ahead true h = record { asked = record { line = Some line; had_come = has_line_feed ahead } ∷ []; lines = (b, h, refl); is = refl }
one_line a b line ahead false h = record { asked = record { line = None; had_come = has_line_feed ahead } ∷ []; lines = (b, h, refl); is = refl }

more_lines : (a b c : Option (List ℕ)) (x y : List Event) → ReadsLines a b x → ReadsLines b c y → ReadsLines a c (x ++ y)
more_lines a b c x y h k = record {
  asked = h.asked ++ k.asked;
  lines = asked_more a b c h.asked k.asked h.lines k.lines;
  is = ap (λ (l : List Event). l ++ y) h.is ∙ ap (λ (l : List Event). map line_asked h.asked ++ l) k.is ∙ sym (map-append line_asked h.asked k.asked);
}

fails_behind : (a b : Option (List ℕ)) (fault : ReadFault) (x y : List Event) → ReadsLines a b x → FailsToRead b fault y → FailsToRead a fault (x ++ y)
fails_behind a b fault x y h (LineFails mid before had_come lines is) =
    LineFails mid (x ++ before) had_come (more_lines a b mid x before h lines) (ap (λ (l : List Event). x ++ l) is ∙ sym (append_assoc x before (LineRead (Err fault) had_come ∷ [])))
fails_behind a b fault x y h (NoRoomForLines mid lines is) = NoRoomForLines mid (more_lines a b mid x y h lines) is

module _ {T P F K S L : Type 0} (o : Outside T P F K S L) where
  pub read_none : (t : T) (left : Option (List ℕ)) → AddsSome o t t (ReadsLines left left)
  read_none t left = ([], adds_none o t, no_lines left)

  pub read_one : (t u : T) (a b : Option (List ℕ)) (line ahead : List ℕ) (some : Bool) → ReadsIfAny a b line some → Adds o t u (line_event (Ok some) line ahead ∷ []) → AddsSome o t u (ReadsLines a b)
  read_one t u a b line ahead some h p = (line_event (Ok some) line ahead ∷ [], p, one_line a b line ahead some h)

  pub read_fails : (t u : T) (a : Option (List ℕ)) (fault : ReadFault) (had_come : Bool) → Adds o t u (LineRead (Err fault) had_come ∷ []) → AddsSome o t u (FailsToRead a fault)
  read_fails t u a fault had_come p = (LineRead (Err fault) had_come ∷ [], p, LineFails a [] had_come (no_lines a) refl)

  -- lines, and then others
  pub read_then : (t u v : T) (a b c : Option (List ℕ)) → AddsSome o t u (ReadsLines a b) → AddsSome o u v (ReadsLines b c) → AddsSome o t v (ReadsLines a c)
  read_then t u v a b c p q = adds_both o t u v (ReadsLines a b) (ReadsLines b c) (ReadsLines a c) (more_lines a b c) p q

  -- lines, and then what is read for something
  pub read_more : {A : Type 0} (t u v : T) (a b c : Option (List ℕ)) (r : Result A ReadFault) → AddsSome o t u (ReadsLines a b) → AddsSome o u v (ReadsFor b c r) → AddsSome o t v (ReadsFor a c r)
  read_more t u v a b c (Ok x) p q = read_then t u v a b c p q
  read_more t u v a b c (Err fault) p q = adds_both o t u v (ReadsLines a b) (FailsToRead b fault) (FailsToRead a fault) (fails_behind a b fault) p q

  -- no memory for what was read
  pub read_no_room : (t u : T) (a b : Option (List ℕ)) (fault : ReadFault) → fault ≡ OutOfMemory → AddsSome o t u (ReadsLines a b) → AddsSome o t u (FailsToRead a fault)
  read_no_room t u a b fault is p = adds_so o t u (ReadsLines a b) (FailsToRead a fault) (λ more h. NoRoomForLines b h is) p

  -- what can't be read for the one can't be for the other
  pub read_error : {A : Type 0} (t u : T) (a b : Option (List ℕ)) (fault : ReadFault) (r : Result A ReadFault) → IsErrAnd r (λ f. f ≡ fault) → AddsSome o t u (FailsToRead a fault) → AddsSome o t u (ReadsFor a b r)
  read_error t u a b fault (Ok x) is p = absurd is
  read_error t u a b fault (Err e) is p = adds_so o t u (FailsToRead a fault) (FailsToRead a e) (λ more h. subst (λ (f : ReadFault). FailsToRead a f more) (sym is) h) p

  pub no_room : {A : Type 0} (t u : T) (a b now : Option (List ℕ)) (r : Result A ReadFault) → IsErrAnd r (λ f. f ≡ OutOfMemory) → AddsSome o t u (ReadsLines a b) → AddsSome o t u (ReadsFor a now r)
  no_room t u a b now (Ok x) is p = absurd is
  no_room t u a b now (Err e) is p = read_no_room t u a b e is p
