-- Each part of a file is missed with exactly the first fault that its relation tells.
use Rattle.std.proofs.Common.{◌≡◌, ℕ, ◌*◌, ◌<◌, ◌≤◌, Bool, true, false, cond, leb, List, length, map, drop, Result, Ok, Err, refl, sym, ap, subst, ◌∙◌, inl, inr}
use Rattle.std.specs.Prelude.{◌⊎◌, ◌%◌, ◌/◌, ◌&&◌}
use Rattle.std.proofs.lemmas.Bool.{cases_Bool, cases_lt, false≢true, leb-true, le-leb, lt-leb, and_parts, and_from}
use Rattle.pair_dict.specs.Codes.{Pairing}
use Rattle.pair_dict.specs.Reading.{dictionary_at}
use Rattle.pair_dict.specs.declared.fault.DictFault.{DictFault}
use Rattle.place_index.specs.Material.{pieces_of}
use Rattle.place_index.specs.Shape.{Layout, layout, both_have_pawns, HasGoodPieces, HasGoodOrder}
use Rattle.table_file.specs.declared.fault.TableFault.{TableFault}
use Rattle.table_file.specs.declared.fault.TableFault.TheVariants.{BadPieces, BadOrder, BadExponent}
use Rattle.table_file.specs.declared.kind.TableKind.{TableKind}
use Rattle.table_file.specs.declared.kind.TableKind.TheVariants.{Wdl, Dtz}
use Rattle.table_file.specs.declared.parts.Part.{Part}
use Rattle.table_file.specs.declared.parts.Section.{Section}
use Rattle.table_file.specs.Reading.{each_at, byte_at, taken_at, word_at, four_bytes_at, exponent_at, risen, has_bit}
use Rattle.table_file.specs.Dictionaries.{dictionary_fault, pairing_and_rest, pairing_at}
use Rattle.table_file.specs.SizeRecords.{single_value, codes_at, single_at, coding_at, size_record_at}
use Rattle.table_file.specs.Shapes.{are_good_pieces, are_good_orders, shape_at}
use Rattle.table_file.specs.Files.{side_of, nibble, second_at, setup_at, part_at, indices, section_size, section_at}
use Rattle.table_file.specs.Maps.{no_maps, map_at, four_at, maps_at, all_maps_at}
use Rattle.table_file.specs.Layouts.{IsByte, AreBytes, IsNumber, IsSecond, IsExponent, IsMap, IsMapStart, AreMaps, IsSection}
use Rattle.table_file.specs.FirstFaults.{PassEnd, IsNot, IsSecondFault, IsShapeFault, IsSetupFault, IsExponentFault, IsDictionaryFault, IsCodesFault, IsCodingFault, IsSizeRecordFault, IsMapFault, IsFourFault, IsMapsFault, IsAllMapsFault, IsSectionFault, InEach}
use Rattle.table_file.proofs.ShapeTests.{good_pieces, pieces_good, good_orders, orders_good}
use Rattle.table_file.proofs.Agreeing.{byte_agrees, number_agrees, word_agrees, taken_agrees}
use Rattle.table_file.proofs.LayoutSteps.{exponent_agrees, second_agrees}
use Rattle.table_file.proofs.LayoutSections.{map_agrees, maps_agrees, section_agrees, start_of, has_start}
use Rattle.table_file.proofs.Missing.{Misses, not_both, like_misses, none_misses, end_misses, then_misses, cond_misses, guard_misses, taken_misses, word_misses, number_misses, byte_misses, raised_misses, each_misses}

-- ---- size records

exponent_misses : (body : List ℕ) (least greatest p : ℕ) → p ≤ length body → Misses (exponent_at least greatest (drop p body)) (IsExponentFault least greatest body p)
unfolding exponent_at IsExponentFault
exponent_misses body least greatest p le =
    then_misses body byte_at (λ a bytes. cond (leb least a && leb a greatest) (Ok (a, bytes)) (Err BadExponent)) (IsByte body) (PassEnd 1 body) (λ a _. IsNot ((least ≤ a) × (a ≤ greatest)) BadExponent) p le
    (byte_agrees body) (byte_misses body p le)
    (λ a q fits. guard_misses (leb least a && leb a greatest) ((least ≤ a) × (a ≤ greatest)) BadExponent (a, drop q body)
    (λ e. let both = and_parts (leb least a) (leb a greatest) e in (leb-true least a both.0, leb-true a greatest both.1))
    (λ h. and_from (leb least a) (leb a greatest) (le-leb least a h.0) (le-leb a greatest h.1)))

after_misses : (bytes : List ℕ) (r : Result (Pairing × ℕ) DictFault) → Misses (pairing_and_rest bytes r) (λ e. (fault : DictFault) × (r ≡ Err fault) × (e ≡ dictionary_fault fault))
after_misses bytes (Ok x) = record { told = λ e is. absurd (not_both (x.0, drop x.1 bytes) e (Ok (x.0, drop x.1 bytes)) refl is); tells = λ e h. absurd (other x h.0 h.1) }
  where
    other : (x : Pairing × ℕ) (d : DictFault) → (let r : Result (Pairing × ℕ) DictFault = Ok x in r) ≡ Err d → ⊥
    other x d e = cc
after_misses bytes (Err d) = record {
  told = λ e is. (d, refl, fault_is (dictionary_fault d) e is);
  tells = λ e h. as_fault (dictionary_fault d) e (h.2 ∙ ap dictionary_fault (sym (same d h.0 h.1)));
}
  where
    fault_is : (a e : TableFault) → (let r : Result (Pairing × List ℕ) TableFault = Err a in r) ≡ Err e → e ≡ a
    fault_is a e is = cc

    as_fault : (a e : TableFault) → e ≡ a → (let r : Result (Pairing × List ℕ) TableFault = Err a in r) ≡ Err e
    as_fault a e is = cc

    same : (a b : DictFault) → (let r : Result (Pairing × ℕ) DictFault = Err a in r) ≡ Err b → a ≡ b
    same a b is = cc

pairing_misses : (body : List ℕ) (p : ℕ) → Misses (pairing_at (drop p body)) (IsDictionaryFault body p)
unfolding pairing_at
pairing_misses body p = after_misses (drop p body) (dictionary_at (drop p body))

codes_misses : (body : List ℕ) (p : ℕ) → p ≤ length body → Misses (codes_at (drop p body)) (IsCodesFault body p)
unfolding codes_at IsCodesFault
codes_misses body p le =
    then_misses body (exponent_at 0 24) _ (IsExponent 0 24 body) (IsExponentFault 0 24 body) _ p le (exponent_agrees body 0 24) (exponent_misses body 0 24 p le) (λ block at_span le_span.
    then_misses body (exponent_at 1 31) _ (IsExponent 1 31 body) (IsExponentFault 1 31 body) _ at_span le_span (exponent_agrees body 1 31) (exponent_misses body 1 31 at_span le_span) (λ span at_padding le_padding.
    then_misses body byte_at _ (IsByte body) (PassEnd 1 body) _ at_padding le_padding (byte_agrees body) (byte_misses body at_padding le_padding) (λ padding at_blocks le_blocks.
    then_misses body four_bytes_at _ (IsNumber 4 body) (PassEnd 4 body) _ at_blocks le_blocks (number_agrees body) (number_misses body at_blocks le_blocks) (λ blocks at_dictionary le_dictionary.
    end_misses (pairing_at (drop at_dictionary body)) _ (IsDictionaryFault body at_dictionary) (pairing_misses body at_dictionary)))))

single_misses : (body : List ℕ) (kind : TableKind) (p : ℕ) → p ≤ length body → Misses (single_at kind (drop p body)) (PassEnd 1 body p)
unfolding single_at
single_misses body kind p le = end_misses (byte_at (drop p body)) (λ x. (single_value kind x.0, x.1)) (PassEnd 1 body p) (byte_misses body p le)

coding_misses : (body : List ℕ) (kind : TableKind) (flags p : ℕ) → p ≤ length body → Misses (coding_at kind flags (drop p body)) (IsCodingFault body flags p)
unfolding coding_at
coding_misses body kind flags p le =
    like_misses
    (cond_misses (leb 128 flags) _ _ (PassEnd 1 body p) (IsCodesFault body p)
    (end_misses (single_at kind (drop p body)) _ (PassEnd 1 body p) (single_misses body kind p le))
    (end_misses (codes_at (drop p body)) _ (IsCodesFault body p) (codes_misses body p le)))
    to from
  where
    to : (e : TableFault) → ((leb 128 flags ≡ true) × PassEnd 1 body p e) ⊎ ((leb 128 flags ≡ false) × IsCodesFault body p e) → IsCodingFault body flags p e
    to e (inl h) = inl (leb-true 128 flags h.0, h.1)
    to e (inr h) =
        elim (cases_lt flags 128) [
          | inl small ↦ inr (small, h.1)
          | inr big ↦ absurd (false≢true (sym h.0 ∙ le-leb 128 flags big))
        ]

    from : (e : TableFault) → IsCodingFault body flags p e → ((leb 128 flags ≡ true) × PassEnd 1 body p e) ⊎ ((leb 128 flags ≡ false) × IsCodesFault body p e)
    from e (inl h) = inl (le-leb 128 flags h.0, h.1)
    from e (inr h) = inr (lt-leb 128 flags h.0, h.1)

size_record_misses : (body : List ℕ) (kind : TableKind) (p : ℕ) → p ≤ length body → Misses (size_record_at kind (drop p body)) (IsSizeRecordFault body p)
unfolding size_record_at IsSizeRecordFault
size_record_misses body kind p le =
    then_misses body byte_at _ (IsByte body) (PassEnd 1 body) _ p le (byte_agrees body) (byte_misses body p le) (λ flags q fits.
    end_misses (coding_at kind flags (drop q body)) _ (IsCodingFault body flags q) (coding_misses body kind flags q fits))

pub part_misses : (body : List ℕ) (kind : TableKind) (shape : Layout) (p : ℕ) → p ≤ length body → Misses (part_at kind shape (drop p body)) (IsSizeRecordFault body p)
unfolding part_at
part_misses body kind shape p le = end_misses (size_record_at kind (drop p body)) _ (IsSizeRecordFault body p) (size_record_misses body kind p le)

-- ---- orders and pieces

second_misses : (body : List ℕ) (m p : ℕ) → p ≤ length body → Misses (second_at m (drop p body)) (IsSecondFault m body p)
unfolding second_at
second_misses body m p le =
    like_misses (cond_misses (both_have_pawns m) (byte_at (drop p body)) (Ok (0, drop p body)) (PassEnd 1 body p) (λ e. ⊥) (byte_misses body p le) (none_misses (0, drop p body) (Ok (0, drop p body)) refl)) to (λ e h. inl h)
  where
    to : (e : TableFault) → ((both_have_pawns m ≡ true) × PassEnd 1 body p e) ⊎ ((both_have_pawns m ≡ false) × ⊥) → IsSecondFault m body p e
    to e (inl h) = h
    to e (inr h) = absurd h.1

shape_misses : (m : ℕ) (pieces : List ℕ) (order second file : ℕ) → m < 145 → Misses (shape_at m pieces order second file) (IsShapeFault m pieces (layout m pieces order second file))
unfolding shape_at
shape_misses m pieces order second file known =
    let l = layout m pieces order second file in
    let orders = guard_misses (are_good_orders l) (HasGoodOrder l) BadOrder l (good_orders l) (orders_good l) in
    elim (cases_Bool (are_good_pieces m pieces)) [
      | inl fine ↦
          let good = good_pieces m pieces known fine in
          rw fine (like_misses orders (λ e h. inr (good, h)) (λ e h. of_orders good e h))
      | inr bad ↦
          let never : HasGoodPieces m pieces → ⊥ = λ g. false≢true (sym bad ∙ pieces_good m pieces g) in
          rw bad (like_misses (guard_misses {B = Layout} false (HasGoodPieces m pieces) BadPieces l (λ e. absurd (false≢true e)) (λ g. absurd (never g))) (λ e h. inl h) (λ e h. of_pieces never e h))
    ]
  where
    of_orders : HasGoodPieces m pieces → (e : TableFault) → IsShapeFault m pieces (layout m pieces order second file) e → IsNot (HasGoodOrder (layout m pieces order second file)) BadOrder e
    of_orders good e (inl h) = absurd (h.0 good)
    of_orders good e (inr h) = h.1

    of_pieces : (HasGoodPieces m pieces → ⊥) → (e : TableFault) → IsShapeFault m pieces (layout m pieces order second file) e → IsNot (HasGoodPieces m pieces) BadPieces e
    of_pieces never e (inl h) = h
    of_pieces never e (inr h) = absurd (never h.0)

pub setup_misses : (body : List ℕ) (m sides k p : ℕ) → m < 145 → p ≤ length body → Misses (setup_at m sides k (drop p body)) (IsSetupFault m sides k body p)
unfolding setup_at IsSetupFault
setup_misses body m sides k p known le =
    then_misses body byte_at _ (IsByte body) (PassEnd 1 body) _ p le (byte_agrees body) (byte_misses body p le) (λ order at_second le_second.
    then_misses body (second_at m) _ (IsSecond m body) (IsSecondFault m body) _ at_second le_second (second_agrees body m) (second_misses body m at_second le_second) (λ second at_men le_men.
    then_misses body (taken_at (length (pieces_of m))) _ (AreBytes (length (pieces_of m)) body) (PassEnd (length (pieces_of m)) body) _ at_men le_men (taken_agrees body (length (pieces_of m)))
    (taken_misses body (length (pieces_of m)) at_men le_men) (λ men at_end le_end.
    end_misses (shape_at m (map (nibble (side_of (k % sides))) men) (nibble (side_of (k % sides)) order) (nibble (side_of (k % sides)) second) (k / sides)) _ _
    (shape_misses m (map (nibble (side_of (k % sides))) men) (nibble (side_of (k % sides)) order) (nibble (side_of (k % sides)) second) (k / sides) known))))

-- ---- value maps

map_misses : (body : List ℕ) (wide : Bool) (p : ℕ) → p ≤ length body → Misses (map_at wide (drop p body)) (IsMapFault wide body p)
unfolding map_at
map_misses body true p le =
    then_misses body word_at (λ n bytes. taken_at (2 * n) bytes) (IsNumber 2 body) (PassEnd 2 body) (λ n. PassEnd (2 * n) body) p le (word_agrees body) (word_misses body p le) (λ n q fits. taken_misses body (2 * n) q fits)
map_misses body false p le =
    then_misses body byte_at (λ n bytes. taken_at n bytes) (IsByte body) (PassEnd 1 body) (λ n. PassEnd n body) p le (byte_agrees body) (byte_misses body p le) (λ n q fits. taken_misses body n q fits)

four_misses : (body : List ℕ) (wide : Bool) (p : ℕ) → p ≤ length body → Misses (four_at wide (drop p body)) (IsFourFault wide body p)
unfolding four_at IsFourFault
four_misses body wide p le =
    then_misses body (map_at wide) _ (IsMap wide body) (IsMapFault wide body) _ p le (map_agrees body wide) (map_misses body wide p le) (λ win at_loss le_loss.
    then_misses body (map_at wide) _ (IsMap wide body) (IsMapFault wide body) _ at_loss le_loss (map_agrees body wide) (map_misses body wide at_loss le_loss) (λ loss at_cursed le_cursed.
    then_misses body (map_at wide) _ (IsMap wide body) (IsMapFault wide body) _ at_cursed le_cursed (map_agrees body wide) (map_misses body wide at_cursed le_cursed) (λ cursed at_blessed le_blessed.
    end_misses (map_at wide (drop at_blessed body)) _ (IsMapFault wide body at_blessed) (map_misses body wide at_blessed le_blessed))))

started_misses : (body : List ℕ) (wide : Bool) (p : ℕ) → length body % 64 ≡ 0 → p ≤ length body → Misses (four_at wide (cond wide (risen 2 (drop p body)) (drop p body))) (λ e. (at : ℕ) × IsMapStart wide p at × IsFourFault wide body at e)
started_misses body true p even le = raised_misses body (four_at true) (IsFourFault true body) p even le (four_misses body true)
started_misses body false p even le = like_misses (four_misses body false p le) (λ e h. (p, refl, h)) (λ e h. subst (λ k. IsFourFault false body k e) h.1 h.2)

maps_misses : (body : List ℕ) (part : Part) (p : ℕ) → length body % 64 ≡ 0 → p ≤ length body → Misses (maps_at part (drop p body)) (IsMapsFault body part p)
unfolding maps_at
maps_misses body part p even le =
    let wide = has_bit 16 part.size_record.flags in
    like_misses
    (cond_misses (has_bit 2 part.size_record.flags) (four_at wide (cond wide (risen 2 (drop p body)) (drop p body))) (Ok (no_maps, drop p body)) (λ e. (at : ℕ) × IsMapStart wide p at × IsFourFault wide body at e) (λ e. ⊥)
    (started_misses body wide p even le) (none_misses (no_maps, drop p body) (Ok (no_maps, drop p body)) refl))
    to (λ e h. inl h)
  where
    to : (e : TableFault) → ((has_bit 2 part.size_record.flags ≡ true) × ((at : ℕ) × IsMapStart (has_bit 16 part.size_record.flags) p at × IsFourFault (has_bit 16 part.size_record.flags) body at e)) ⊎ ((has_bit 2 part.size_record.flags ≡ false) × ⊥)
        → IsMapsFault body part p e
    to e (inl h) = h
    to e (inr h) = absurd h.1

pub all_maps_misses : (body : List ℕ) (kind : TableKind) (parts : List Part) (p : ℕ) → length body % 64 ≡ 0 → p ≤ length body → Misses (all_maps_at kind parts (drop p body)) (IsAllMapsFault kind parts body p)
unfolding all_maps_at
all_maps_misses body Wdl parts p even le = none_misses _ _ refl
all_maps_misses body Dtz parts p even le =
    end_misses (each_at maps_at parts (drop p body)) _ (IsAllMapsFault Dtz parts body p)
    (each_misses body maps_at (λ part. AreMaps part body) (IsMapsFault body) (λ part. maps_agrees body part even) (λ part q fits. maps_misses body part q even fits) parts p le)

-- ---- sections

section_misses : (body : List ℕ) (section : Section) (part : Part) (p : ℕ) → length body % 64 ≡ 0 → p ≤ length body → Misses (section_at section part (drop p body)) (IsSectionFault section body part p)
unfolding section_at
section_misses body section part p even le =
    let n = section_size section (indices part.shape) part.size_record.coding in record {
      told = λ e is.
          let s = has_start section body p even le in
          let a = start_of section body p s.0 even le s.1 in
          (s.0, s.1, (taken_misses body n s.0 a.0).told e (ap (taken_at n) (sym a.1) ∙ is));
      tells = λ e h.
          let a = start_of section body p h.0 even le h.1 in
          ap (taken_at n) a.1 ∙ (taken_misses body n h.0 a.0).tells e h.2;
    }

pub sections_miss : (body : List ℕ) (section : Section) (parts : List Part) (p : ℕ) → length body % 64 ≡ 0 → p ≤ length body
    → Misses (each_at (section_at section) parts (drop p body)) (InEach (IsSectionFault section body) (λ part. IsSection section part body) parts p)
sections_miss body section parts p even le =
    each_misses body (section_at section) (λ part. IsSection section part body) (IsSectionFault section body) (λ part. section_agrees body section part even) (λ part q fits. section_misses body section part q even fits) parts p le
