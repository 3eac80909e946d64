-- Each step of reading agrees with its relation of the layout.
use Rattle.std.proofs.Common.{◌≡◌, ℕ, ◌+◌, ◌-◌, ◌<◌, ◌≤◌, Bool, true, false, cond, leb, eqb, List, length, map, take, drop, Result, Ok, Err, refl, sym, ap, subst, ◌∙◌, inl, inr, arith}
use Rattle.std.specs.Prelude.{◌%◌, ◌/◌, ◌&&◌}
use Rattle.std.proofs.lemmas.Bool.{cases_lt, leb-true, le-leb, lt-leb, and_parts, and_from}
use Rattle.std.proofs.lemmas.List.{length-drop}
use Rattle.pair_dict.specs.Codes.{Pairing}
use Rattle.pair_dict.specs.Beginnings.{SpellsDictionary, ReadsWhatIsSpelled}
use Rattle.pair_dict.specs.Reading.{dictionary_at}
use Rattle.pair_dict.specs.declared.fault.DictFault.{DictFault}
use Rattle.place_index.specs.Material.{pieces_of}
use Rattle.place_index.specs.Shape.{Layout, layout, both_have_pawns, HasGoodOrder}
use Rattle.table_file.specs.declared.fault.TableFault.TheVariants.{BadExponent}
use Rattle.table_file.specs.declared.kind.TableKind.{TableKind}
use Rattle.table_file.specs.declared.size_record.Coding.{Coding}
use Rattle.table_file.specs.declared.size_record.Coding.TheVariants.{Single, Pairs}
use Rattle.table_file.specs.declared.size_record.SizeRecord.{SizeRecord}
use Rattle.table_file.specs.declared.parts.Part.{Part}
use Rattle.table_file.specs.Reading.{byte_at, exponent_at}
use Rattle.table_file.specs.Dictionaries.{pairing_and_rest, pairing_at}
use Rattle.table_file.specs.Figures.{Figures}
use Rattle.table_file.specs.SizeRecords.{codes_at, single_at, coding_at, size_record_at}
use Rattle.table_file.specs.Files.{side_of, nibble, second_at, setup_at, part_at}
use Rattle.table_file.specs.Layouts.{IsByte, IsSecond, IsSetup, IsExponent, IsDictionary, AreCodes, IsSingle, IsCoding, IsSizeRecord, IsPart}
use Rattle.table_file.proofs.ShapeTests.{shape_is, shape_ok}
use Rattle.table_file.proofs.Agreeing.{Agrees, bind_ok, done, is_ok, drops, then_agrees, done_agrees, like_agrees, cond_agrees, guard_agrees, taken_agrees, number_agrees, byte_agrees, next}

abbrev in_range : ℕ → ℕ → ℕ → Bool
in_range least greatest a = leb least a && leb a greatest

pub exponent_agrees : (body : List ℕ) (least greatest : ℕ) → Agrees body (exponent_at least greatest) (IsExponent least greatest body)
unfolding exponent_at
exponent_agrees body least greatest =
    like_agrees body (exponent_at least greatest) (λ p b q. (a : ℕ) × (m : ℕ) × IsByte body p a m × ((in_range least greatest a ≡ true) × (b ≡ a) × (q ≡ m))) (IsExponent least greatest body)
    (then_agrees body byte_at (λ a bytes. cond (in_range least greatest a) (Ok (a, bytes)) (Err BadExponent)) (IsByte body) (λ a p b q. (in_range least greatest a ≡ true) × (b ≡ a) × (q ≡ p))
    (byte_agrees body) (λ a. guard_agrees body (in_range least greatest a) BadExponent a))
    (λ p b q h.
    let both = and_parts (leb least h.0) (leb h.0 greatest) h.3.0 in
    record {
      byte = record { within = h.2.within; is = h.3.1 ∙ h.2.is; next = h.3.2 ∙ h.2.next };
      low = omega (arith, leb-true least h.0 both.0, h.3.1);
      high = omega (arith, leb-true h.0 greatest both.1, h.3.1);
    })
    (λ p b q h. (b, q, h.byte, (and_from (leb least b) (leb b greatest) (le-leb least b h.low) (le-leb b greatest h.high), refl, refl)))

after_ok : (bytes : List ℕ) (r : Result (Pairing × ℕ) DictFault) (y : Pairing × List ℕ) → pairing_and_rest bytes r ≡ Ok y → (taken : ℕ) × (r ≡ Ok (y.0, taken)) × (y.1 ≡ drop taken bytes)
after_ok bytes (Ok x) y e =
    let same = is_ok (x.0, drop x.1 bytes) y e in
    (x.1, ap (λ (d : Pairing). Ok (d, x.1)) (ap (λ (z : Pairing × List ℕ). z.0) same), sym (ap (λ (z : Pairing × List ℕ). z.1) same))
after_ok bytes (Err f) y e = absurd cc

pub pairing_agrees : ReadsWhatIsSpelled → (body : List ℕ) → Agrees body pairing_at (IsDictionary body)
unfolding pairing_at
pairing_agrees law body = record {
  reads = λ p d q le h.
      let fits : q - p ≤ length (drop p body) = omega (arith, length-drop p body, h.within, h.ordered) in
      let e = (law (drop p body) d (q - p)).1 (fits, h.spelled) in
      let n : p + (q - p) ≡ q = omega (arith, h.ordered) in
      (h.within, ap (λ r. pairing_and_rest (drop p body) r) e ∙ ap (λ (l : List ℕ). done (d, l)) (drops body p (q - p) ∙ ap (λ k. drop k body) n));
  tells = λ p d rest le e.
      let x = after_ok (drop p body) (dictionary_at (drop p body)) (d, rest) e in
      let s = (law (drop p body) d x.0).0 x.1 in
      let n : x.0 ≡ p + x.0 - p = omega arith in
      let fits : p + x.0 ≤ length body = omega (arith, s.0, length-drop p body, le) in
      (p + x.0, record { ordered = omega arith; within = fits; spelled = subst (λ k. SpellsDictionary (take k (drop p body)) d) n s.1 }, fits, x.2 ∙ drops body p x.0);
}

pub codes_agrees : ReadsWhatIsSpelled → (body : List ℕ) → Agrees body codes_at (AreCodes body)
unfolding codes_at
codes_agrees law body = record {
  reads = λ p c q le h.
      let a = (exponent_agrees body 0 24).reads p c.block_exponent h.at_span le h.block in
      let b = (exponent_agrees body 1 31).reads h.at_span c.span_exponent h.at_padding a.0 h.span in
      let d = (byte_agrees body).reads h.at_padding c.padding h.at_blocks b.0 h.padding in
      let e = (number_agrees body).reads h.at_blocks c.blocks h.at_dictionary d.0 h.blocks in
      let f = (pairing_agrees law body).reads h.at_dictionary c.dictionary q e.0 h.dictionary in
      (f.0, rw (a.1, b.1, d.1, e.1, f.1) refl);
  tells = λ p c rest le g.
      let a = bind_ok _ _ (c, rest) g in
      let a1 = next (exponent_agrees body 0 24) (drop p body) p a.0 le refl a.1 in
      let b = bind_ok _ _ (c, rest) a.2 in
      let b1 = next (exponent_agrees body 1 31) a.0.1 a1.0 b.0 a1.2 a1.3 b.1 in
      let d = bind_ok _ _ (c, rest) b.2 in
      let d1 = next (byte_agrees body) b.0.1 b1.0 d.0 b1.2 b1.3 d.1 in
      let e = bind_ok _ _ (c, rest) d.2 in
      let e1 = next (number_agrees body) d.0.1 d1.0 e.0 d1.2 d1.3 e.1 in
      let f = bind_ok _ _ (c, rest) e.2 in
      let f1 = next (pairing_agrees law body) e.0.1 e1.0 f.0 e1.2 e1.3 f.1 in
      let same = is_ok _ (c, rest) f.2 in (
        f1.0,
        subst (λ (x : Figures). AreCodes body p x f1.0) (ap (λ (z : Figures × List ℕ). z.0) same)
            (record { at_span = a1.0; at_padding = b1.0; at_blocks = d1.0; at_dictionary = e1.0; block = a1.1; span = b1.1; padding = d1.1; blocks = e1.1; dictionary = f1.1 }),
        f1.2,
        sym (ap (λ (z : Figures × List ℕ). z.1) same) ∙ f1.3,
      );
}

pub single_agrees : (body : List ℕ) (kind : TableKind) → Agrees body (single_at kind) (IsSingle kind body)
unfolding single_at
single_agrees body kind = record {
  reads = λ p v q le h.
      let a = (byte_agrees body).reads p h.byte q le h.byte_is in
      (a.0, rw (a.1, h.is) refl);
  tells = λ p v rest le g.
      let a = bind_ok _ _ (v, rest) g in
      let a1 = next (byte_agrees body) (drop p body) p a.0 le refl a.1 in
      let same = is_ok _ (v, rest) a.2 in
      (a1.0, record { byte = a.0.0; byte_is = a1.1; is = sym (ap (λ (z : ℕ × List ℕ). z.0) same) }, a1.2, sym (ap (λ (z : ℕ × List ℕ). z.1) same) ∙ a1.3);
}

coding_reads : ReadsWhatIsSpelled → (body : List ℕ) (kind : TableKind) (flags p : ℕ) (coding : Coding) (q : ℕ) → p ≤ length body → IsCoding kind flags body p coding q → (q ≤ length body) × (coding_at kind flags (drop p body) ≡ Ok (coding, drop q body))
unfolding coding_at
coding_reads law body kind flags p (Single v) q le h =
    let a = (single_agrees body kind).reads p v q le h.1 in
    (a.0, rw (le-leb 128 flags h.0, a.1) refl)
coding_reads law body kind flags p (Pairs c) q le h =
    let a = (codes_agrees law body).reads p c q le h.1 in
    (a.0, rw (lt-leb 128 flags h.0, a.1) refl)

coding_tells : ReadsWhatIsSpelled → (body : List ℕ) (kind : TableKind) (flags p : ℕ) (coding : Coding) (rest : List ℕ) → p ≤ length body → coding_at kind flags (drop p body) ≡ Ok (coding, rest)
    → (q : ℕ) × IsCoding kind flags body p coding q × (q ≤ length body) × (rest ≡ drop q body)
unfolding coding_at
coding_tells law body kind flags p coding rest le g =
    elim (cases_lt flags 128) [
      | inr big ↦
          let a = bind_ok _ _ (coding, rest) (rw (le-leb 128 flags big) at g) in
          let a1 = next (single_agrees body kind) (drop p body) p a.0 le refl a.1 in
          let same = is_ok _ (coding, rest) a.2 in
          (a1.0, subst (λ (x : Coding). IsCoding kind flags body p x a1.0) (ap (λ (z : Coding × List ℕ). z.0) same) (big, a1.1), a1.2, sym (ap (λ (z : Coding × List ℕ). z.1) same) ∙ a1.3)
      | inl small ↦
          let a = bind_ok _ _ (coding, rest) (rw (lt-leb 128 flags small) at g) in
          let a1 = next (codes_agrees law body) (drop p body) p a.0 le refl a.1 in
          let same = is_ok _ (coding, rest) a.2 in
          (a1.0, subst (λ (x : Coding). IsCoding kind flags body p x a1.0) (ap (λ (z : Coding × List ℕ). z.0) same) (small, a1.1), a1.2, sym (ap (λ (z : Coding × List ℕ). z.1) same) ∙ a1.3)
    ]

pub coding_agrees : ReadsWhatIsSpelled → (body : List ℕ) (kind : TableKind) (flags : ℕ) → Agrees body (coding_at kind flags) (IsCoding kind flags body)
coding_agrees law body kind flags = record { reads = coding_reads law body kind flags; tells = coding_tells law body kind flags }

pub size_record_agrees : ReadsWhatIsSpelled → (body : List ℕ) (kind : TableKind) → Agrees body (size_record_at kind) (IsSizeRecord kind body)
unfolding size_record_at
size_record_agrees law body kind = record {
  reads = λ p r q le h.
      let a = (byte_agrees body).reads p r.flags h.at_coding le h.flags in
      let b = (coding_agrees law body kind r.flags).reads h.at_coding r.coding q a.0 h.coding in
      (b.0, rw (a.1, b.1) refl);
  tells = λ p r rest le g.
      let a = bind_ok _ _ (r, rest) g in
      let a1 = next (byte_agrees body) (drop p body) p a.0 le refl a.1 in
      let b = bind_ok _ _ (r, rest) a.2 in
      let b1 = next (coding_agrees law body kind a.0.0) a.0.1 a1.0 b.0 a1.2 a1.3 b.1 in
      let same = is_ok _ (r, rest) b.2 in (
        b1.0,
        subst (λ (x : SizeRecord). IsSizeRecord kind body p x b1.0) (ap (λ (z : SizeRecord × List ℕ). z.0) same) (record { at_coding = a1.0; flags = a1.1; coding = b1.1 }),
        b1.2,
        sym (ap (λ (z : SizeRecord × List ℕ). z.1) same) ∙ b1.3,
      );
}

pub part_agrees : ReadsWhatIsSpelled → (body : List ℕ) (kind : TableKind) (shape : Layout) → Agrees body (part_at kind shape) (IsPart kind shape body)
unfolding part_at
part_agrees law body kind shape = record {
  reads = λ p part q le h.
      let a = (size_record_agrees law body kind).reads p part.size_record q le h.size_record in
      (a.0, rw a.1 (ap (λ (s : Layout). done (record { shape = s; size_record = part.size_record }, drop q body)) (sym h.shape_is)));
  tells = λ p part rest le g.
      let a = bind_ok _ _ (part, rest) g in
      let a1 = next (size_record_agrees law body kind) (drop p body) p a.0 le refl a.1 in
      let same = is_ok _ (part, rest) a.2 in (
        a1.0,
        subst (λ (x : Part). IsPart kind shape body p x a1.0) (ap (λ (z : Part × List ℕ). z.0) same) (record { shape_is = refl; size_record = a1.1 }),
        a1.2,
        sym (ap (λ (z : Part × List ℕ). z.1) same) ∙ a1.3,
      );
}

-- ---- orders and pieces

pub second_agrees : (body : List ℕ) (m : ℕ) → Agrees body (second_at m) (IsSecond m body)
unfolding second_at
second_agrees body m =
    like_agrees body (second_at m) (λ (p b q : ℕ). (both_have_pawns m ≡ true → IsByte body p b q) × (both_have_pawns m ≡ false → (b ≡ 0) × (q ≡ p))) (IsSecond m body)
    (cond_agrees body (both_have_pawns m) byte_at (λ bytes. Ok (0, bytes)) (IsByte body) (λ (p b q : ℕ). (b ≡ 0) × (q ≡ p)) (byte_agrees body) (done_agrees body 0))
    (λ p b q h. record { pawns = h.0; others = h.1 }) (λ p b q h. (h.pawns, h.others))

rest_of : (last : Bool) (body : List ℕ) (x y : ℕ) → cond last (drop x body) (drop y body) ≡ drop (cond last x y) body
rest_of true body x y = refl
rest_of false body x y = refl

rest_le : (last : Bool) (body : List ℕ) (x y : ℕ) → x ≤ length body → y ≤ length body → cond last x y ≤ length body
rest_le true body x y le more = le
rest_le false body x y le more = more

pub setup_agrees : (body : List ℕ) (m sides k : ℕ) → m < 145 → Agrees body (setup_at m sides k) (IsSetup m sides k body)
unfolding setup_at
setup_agrees body m sides k known = record {
  reads = λ p shape q le h.
      let last = eqb (k % sides + 1) sides in
      let o = (byte_agrees body).reads p h.order h.at_second le h.order_is in
      let s = (second_agrees body m).reads h.at_second h.second h.at_men o.0 h.second_is in
      let t = (taken_agrees body (length (pieces_of m))).reads h.at_men h.men h.at_end s.0 h.men_are in
      let g = shape_is m (map (nibble (side_of (k % sides))) h.men) (nibble (side_of (k % sides)) h.order) (nibble (side_of (k % sides)) h.second) (k / sides) h.pieces (subst HasGoodOrder h.shape_is h.orders) in (
        subst (λ n. n ≤ length body) (sym h.next) (rest_le last body h.at_end p t.0 le),
        rw (o.1, s.1, t.1, g, h.shape_is, h.next) (ap (λ (l : List ℕ). done (layout m (map (nibble (side_of (k % sides))) h.men) (nibble (side_of (k % sides)) h.order) (nibble (side_of (k % sides)) h.second) (k / sides), l)) (rest_of last body h.at_end p)),
      );
  tells = λ p shape rest le g.
      let last = eqb (k % sides + 1) sides in
      let a = bind_ok _ _ (shape, rest) g in
      let a1 = next (byte_agrees body) (drop p body) p a.0 le refl a.1 in
      let b = bind_ok _ _ (shape, rest) a.2 in
      let b1 = next (second_agrees body m) a.0.1 a1.0 b.0 a1.2 a1.3 b.1 in
      let d = bind_ok _ _ (shape, rest) b.2 in
      let d1 = next (taken_agrees body (length (pieces_of m))) b.0.1 b1.0 d.0 b1.2 b1.3 d.1 in
      let e = bind_ok _ _ (shape, rest) d.2 in
      let good = shape_ok m (map (nibble (side_of (k % sides))) d.0.0) (nibble (side_of (k % sides)) a.0.0) (nibble (side_of (k % sides)) b.0.0) (k / sides) e.0 known e.1 in
      let same = is_ok _ (shape, rest) e.2 in
      let shape-is : e.0 ≡ shape = ap (λ (z : Layout × List ℕ). z.0) same in
      let q = cond last d1.0 p in (
        q,
        record {
          order = a.0.0;
          second = b.0.0;
          men = d.0.0;
          at_second = a1.0;
          at_men = b1.0;
          at_end = d1.0;
          order_is = a1.1;
          second_is = b1.1;
          men_are = d1.1;
          shape_is = sym shape-is ∙ good.0;
          pieces = good.1;
          orders = subst HasGoodOrder shape-is good.2;
          next = refl;
        },
        rest_le last body d1.0 p d1.2 le,
        sym (ap (λ (z : Layout × List ℕ). z.1) same) ∙ ap (λ (l : List ℕ). cond last l (drop p body)) d1.3 ∙ rest_of last body d1.0 p,
      );
}
