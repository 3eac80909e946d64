-- What is written piece by piece.
use Rattle.std.proofs.Common.{◌≡◌, ◌<◌, ◌+◌, ◌++◌, ◌∙◌, ℕ, suc, List, [], ◌∷◌, length, take, drop, map, take-append-drop, append_assoc, append-nil, get_or, subst, sym, ap, inl, inr, refl}
use Rattle.std.specs.Prelude.{Result, Ok, Err, OnErr, OnOk, false}
use Rattle.std.specs.List.{flat_map}
use Rattle.std.proofs.lemmas.Bool.{cond-false}
use Rattle.std.proofs.lemmas.List.{map-append, take_more}
use Rattle.hex.specs.Hex.{encode_lower}
use Rattle.std.proofs.lemmas.Grind.{flat_map-append}
use Rattle.std.proofs.Math.Seq.{split_at}
use Rattle.timeline.proofs.EventLaws.{adds_more}
use Rattle.timeline.specs.Events.{Event, Flushed, IsWritten, Refused, Wrote, by_result}
use Rattle.timeline.specs.Outsides.{Adds, AddsSome, Outside}
use Rattle.timeline.specs.declared.stream.Stream.TheVariants.{Errors}
use Rattle.command_line.specs.Uses.{CutOff, CutsOff, GoesOut, Gone, IsToldSo, TellsMisuse, WritesText, is_plain_byte, shown_byte, shown_bytes}
use Rattle.command_line.specs.declared.words.usage.Misuse.{Misuse}
use Rattle.command_line.specs.Inside.Putting.{Puts, Tells}

flat : List (List ℕ) → List ℕ
flat pieces = flat_map (λ piece. piece) pieces

-- ---- texts

one_piece : (text : List ℕ) → WritesText text (Wrote Errors text ∷ [])
one_piece text = record { pieces = text ∷ []; whole = append-nil text; written = refl }

both_texts : (a b : List ℕ) (x y : List Event) → WritesText a x → WritesText b y → WritesText (a ++ b) (x ++ y)
both_texts a b x y p q = record {
  pieces = p.pieces ++ q.pieces;
  whole = flat_map-append (λ piece. piece) p.pieces q.pieces ∙ ap (λ (l : List ℕ). l ++ flat_map (λ piece. piece) q.pieces) p.whole ∙ ap (λ (l : List ℕ). a ++ l) q.whole;
  written = ap (λ (l : List Event). l ++ y) p.written ∙ ap (λ (l : List Event). map (Wrote Errors) p.pieces ++ l) q.written ∙ sym (map-append (Wrote Errors) p.pieces q.pieces);
}

-- a text was written; a text was cut off
abbrev pub Writes : {T P F K S L : Type 0} → Outside T P F K S L → T → T → List ℕ → Type 0
Writes o a b text = AddsSome o a b (WritesText text)

abbrev pub Cuts : {T P F K S L : Type 0} → Outside T P F K S L → T → T → List ℕ → Type 0
Cuts o a b text = AddsSome o a b (CutsOff o text)

module _ {T P F K S L : Type 0} (o : Outside T P F K S L) where
  cut_after : (a b : List ℕ) (x y : List Event) → WritesText a x → CutsOff o b y → CutsOff o (a ++ b) (x ++ y)
  cut_after a b x y p q = record {
    front = a ++ q.front;
    rest = q.rest;
    is = ap (λ (l : List ℕ). a ++ l) q.is ∙ sym (append_assoc a q.front q.rest);
    before = x ++ q.before;
    written = both_texts a q.front x q.before p q.written;
    all = ap (λ (l : List Event). x ++ l) q.all ∙ sym (append_assoc x q.before (Refused Errors ∷ []));
    cause = q.cause;
  }

  longer : (a b : List ℕ) (x : List Event) → CutsOff o a x → CutsOff o (a ++ b) x
  longer a b x p = record { front = p.front; rest = p.rest ++ b; is = ap (λ (l : List ℕ). l ++ b) p.is ∙ append_assoc p.front p.rest b; before = p.before; written = p.written; all = p.all; cause = p.cause }

  out_after : (after : T) (a b : List ℕ) (x y : List Event) → WritesText a x → GoesOut o after b y → GoesOut o after (a ++ b) (x ++ y)
  out_after after a b x y p (Gone before q gone all) = Gone (x ++ before) (both_texts a b x before p q) gone (ap (λ (l : List Event). x ++ l) all ∙ sym (append_assoc x before (Flushed Errors ∷ [])))
  out_after after a b x y p (CutOff q) = CutOff (cut_after a b x y p q)

  -- ---- calls

  pub put_so : {X E : Type 0} (a b : T) (bytes : List ℕ) (r : Result X E) → AddsSome o a b (IsWritten Errors bytes r) → OnErr r (o.output a Errors).refuses → Puts o a b bytes r
  put_so a b bytes (Ok x) made cause = (made.0, made.1, subst (WritesText bytes) (sym made.2) (one_piece bytes))
  put_so a b bytes (Err e) made cause = (
    made.0,
    made.1,
    record {
      front = take made.2.0 bytes;
      rest = drop made.2.0 bytes;
      is = sym (take-append-drop made.2.0 bytes);
      before = Wrote Errors (take made.2.0 bytes) ∷ [];
      written = one_piece (take made.2.0 bytes);
      all = made.2.1;
      cause = (a, inl cause);
    },
  )

  pub cut_before : (a b : T) (s t : List ℕ) → Cuts o a b s → Cuts o a b (s ++ t)
  cut_before a b s t p = (p.0, p.1, longer s t p.0 p.2)

  pub cut_as : (a b : T) (s t : List ℕ) → s ≡ t → Cuts o a b s → Cuts o a b t
  cut_as a b s t is p = (p.0, p.1, subst (λ (l : List ℕ). CutsOff o l p.0) is p.2)

  pub both_written : (a b c : T) (s t : List ℕ) → Writes o a b s → Writes o b c t → Writes o a c (s ++ t)
  both_written a b c s t p q = (p.0 ++ q.0, adds_more o a b c p.0 q.0 p.1 q.1, both_texts s t p.0 q.0 p.2 q.2)

  pub second_cut : (a b c : T) (s t : List ℕ) → Writes o a b s → Cuts o b c t → Cuts o a c (s ++ t)
  second_cut a b c s t p q = (p.0 ++ q.0, adds_more o a b c p.0 q.0 p.1 q.1, cut_after s t p.0 q.0 p.2 q.2)

  pub then_put : {X E : Type 0} (a b c : T) (s t : List ℕ) (r : Result X E) → Writes o a b s → Puts o b c t r → Puts o a c (s ++ t) r
  then_put a b c s t (Ok y) p q = both_written a b c s t p q
  then_put a b c s t (Err e) p q = second_cut a b c s t p q

  pub put_as : {X E : Type 0} (a b : T) (s t : List ℕ) (r : Result X E) → s ≡ t → Puts o a b s r → Puts o a b t r
  put_as a b s t r is p = subst (λ (l : List ℕ). Puts o a b l r) is p

  -- ---- what goes out

  -- what was written is flushed
  pub flushed : {X E : Type 0} (a b c : T) (text : List ℕ) (r : Result X E) → Writes o a b text → OnOk r (o.output c Errors).gone → OnErr r (o.output c Errors).stuck → Adds o b c (by_result r (λ _. Flushed Errors) (Refused Errors) ∷ [])
      → Tells o a c text
  flushed a b c text (Ok y) p gone stuck q = (p.0 ++ Flushed Errors ∷ [], adds_more o a b c p.0 (Flushed Errors ∷ []) p.1 q, Gone p.0 p.2 gone refl)
  flushed a b c text (Err e) p gone stuck q = (
    p.0 ++ Refused Errors ∷ [],
    adds_more o a b c p.0 (Refused Errors ∷ []) p.1 q,
    CutOff (record { front = text; rest = []; is = sym (append-nil text); before = p.0; written = p.2; all = refl; cause = (c, inr stuck) }),
  )

  -- a text before what goes out
  pub goes_after : (a b c : T) (s t : List ℕ) → Writes o a b s → Tells o b c t → Tells o a c (s ++ t)
  goes_after a b c s t p q = (p.0 ++ q.0, adds_more o a b c p.0 q.0 p.1 q.1, out_after c s t p.0 q.0 p.2 q.2)

  -- a text that is cut off, before more
  pub cut_goes : (a b : T) (s t : List ℕ) → Cuts o a b s → Tells o a b (s ++ t)
  cut_goes a b s t p = (p.0, p.1, CutOff (longer s t p.0 p.2))

  pub cut_tells : (a b : T) (s : List ℕ) → Cuts o a b s → Tells o a b s
  cut_tells a b s p = (p.0, p.1, CutOff p.2)

  pub tells_so : (a b : T) (m : Misuse) (text : List ℕ) → IsToldSo m text → Tells o a b text → AddsSome o a b (TellsMisuse o b m)
  tells_so a b m text is p = (p.0, p.1, record { text = text; is = is; out = p.2 })

  -- ---- words

  -- words of which some are written, and one byte more
  pub shown_more : (a b c : T) (words : List ℕ) (i : ℕ) → i < length words → Writes o a b (shown_bytes (take i words)) → Writes o b c (shown_byte (get_or words i 0)) → Writes o a c (shown_bytes (take (i + 1) words))
  shown_more a b c words i lt p q =
      let front = take i words in
      let byte = get_or words i 0 in
      let one : shown_bytes (byte ∷ []) ≡ shown_byte byte = append-nil (shown_byte byte) in
      let parts : shown_bytes (front ++ byte ∷ []) ≡ shown_bytes front ++ shown_byte byte = flat_map-append shown_byte front (byte ∷ []) ∙ ap (λ (l : List ℕ). shown_bytes front ++ l) one in
      subst (λ (l : List ℕ). Writes o a c l) (sym (ap shown_bytes (take_more words i 0 lt) ∙ parts)) (both_written a b c (shown_bytes front) (shown_byte byte) p q)

  -- or the next byte is cut off
  pub cut_in : (a b c : T) (words : List ℕ) (i : ℕ) → i < length words → Writes o a b (shown_bytes (take i words)) → Cuts o b c (shown_byte (get_or words i 0)) → Cuts o a c (shown_bytes words)
  cut_in a b c words i lt p q =
      let front = take i words in
      let byte = get_or words i 0 in
      let rest = drop (suc i) words in
      let parts : words ≡ front ++ byte ∷ rest = split_at words i 0 lt in
      cut_as a c _ _ (sym (ap shown_bytes parts ∙ flat_map-append shown_byte front (byte ∷ rest)))
      (second_cut a b c (shown_bytes front) (shown_byte byte ++ shown_bytes rest) p (cut_before b c (shown_byte byte) (shown_bytes rest) q))

  -- a byte by its number
  number_is : (byte : ℕ) (digits : List ℕ) → is_plain_byte byte ≡ false → digits ≡ encode_lower (byte ∷ []) → 92 ∷ 120 ∷ digits ≡ shown_byte byte
  number_is byte digits plain same = sym (cond-false (is_plain_byte byte) (byte ∷ []) (92 ∷ 120 ∷ encode_lower (byte ∷ [])) plain ∙ ap (λ (d : List ℕ). 92 ∷ 120 ∷ d) (sym same))

  pub number_so : {X E : Type 0} (a b c : T) (byte : ℕ) (digits : List ℕ) (r : Result X E) → is_plain_byte byte ≡ false → digits ≡ encode_lower (byte ∷ []) → Writes o a b (92 ∷ 120 ∷ []) → Puts o b c digits r → Puts o a c (shown_byte byte) r
  number_so a b c byte digits r plain same p q = put_as a c _ _ r (number_is byte digits plain same) (then_put a b c (92 ∷ 120 ∷ []) digits r p q)

  pub number_cut : (a b : T) (byte : ℕ) (digits : List ℕ) → is_plain_byte byte ≡ false → digits ≡ encode_lower (byte ∷ []) → Cuts o a b (92 ∷ 120 ∷ []) → Cuts o a b (shown_byte byte)
  number_cut a b byte digits plain same p = cut_as a b _ _ (number_is byte digits plain same) (cut_before a b (92 ∷ 120 ∷ []) digits p)

  -- two parts
  pub two_put : {X E : Type 0} (a b c : T) (s t : List ℕ) (r : Result X E) → Writes o a b (shown_bytes s) → Puts o b c (shown_bytes t) r → Puts o a c (shown_bytes (s ++ t)) r
  two_put a b c s t r p q = put_as a c _ _ r (sym (flat_map-append shown_byte s t)) (then_put a b c (shown_bytes s) (shown_bytes t) r p q)

  pub two_cut : (a b : T) (s t : List ℕ) → Cuts o a b (shown_bytes s) → Cuts o a b (shown_bytes (s ++ t))
  two_cut a b s t p = cut_as a b _ _ (sym (flat_map-append shown_byte s t)) (cut_before a b (shown_bytes s) (shown_bytes t) p)
