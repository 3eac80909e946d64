-- Value maps and sections agree with their relations of the layout.
use Rattle.std.proofs.Common.{◌≡◌, ℕ, zero, suc, ◌+◌, ◌*◌, ◌/◌, ◌<◌, ◌≤◌, Bool, true, false, cond, eqb, leb, List, [], ◌∷◌, length, drop, Ok, refl, sym, ap, subst, ◌∙◌, arith}
use Rattle.std.specs.Prelude.{◌%◌, ◌&&◌}
use Rattle.std.proofs.lemmas.Bool.{and_parts, and_from, eq-eqb, le-leb}
use Rattle.table_file.specs.declared.kind.TableKind.{TableKind}
use Rattle.table_file.specs.declared.kind.TableKind.TheVariants.{Wdl, Dtz}
use Rattle.table_file.specs.declared.size_record.Coding.{Coding}
use Rattle.table_file.specs.declared.size_record.Coding.TheVariants.{Single, Pairs}
use Rattle.table_file.specs.declared.parts.Part.{Part}
use Rattle.table_file.specs.declared.parts.Section.{Section}
use Rattle.table_file.specs.declared.parts.Section.TheVariants.{Entries, Lengths, Blocks}
use Rattle.table_file.specs.Reading.{each_at, byte_at, taken_at, word_at, risen, has_bit}
use Rattle.table_file.specs.Figures.{span, sparse_entry_count}
use Rattle.table_file.specs.Files.{indices, section_size, begun, section_at}
use Rattle.table_file.specs.Maps.{ValueMaps, no_maps, map_at, four_at, maps_at, all_maps_at}
use Rattle.table_file.specs.Sparse.{sizes_of, values_before, entry_block, entry_offset, is_entry, are_entries, fits_in, all_fit}
use Rattle.table_file.specs.Layouts.{IsByte, AreBytes, IsNumber, Each, IsMap, AreFour, IsMapStart, AreMaps, AreAllMaps, IsSectionStart, IsSection, IsSparseEntry, AreSparseEntries, AllSparseEntries}
use Rattle.table_file.proofs.Before.{entry_of}
use Rattle.table_file.proofs.Agreeing.{Agrees, bind_ok, done, is_ok, then_agrees, done_agrees, like_agrees, cond_agrees, taken_agrees, word_agrees, byte_agrees, each_agrees, next, raise_to_64, raised_64, raise_to_2, raised_2}

-- ---- value maps

pub map_agrees : (body : List ℕ) (wide : Bool) → Agrees body (map_at wide) (IsMap wide body)
unfolding map_at
map_agrees body true = then_agrees body word_at (λ n bytes. taken_at (2 * n) bytes) (IsNumber 2 body) (λ n. AreBytes (2 * n) body) (word_agrees body) (λ n. taken_agrees body (2 * n))
map_agrees body false = then_agrees body byte_at (λ n bytes. taken_at n bytes) (IsByte body) (λ n. AreBytes n body) (byte_agrees body) (λ n. taken_agrees body n)

pub four_agrees : (body : List ℕ) (wide : Bool) → Agrees body (four_at wide) (AreFour wide body)
unfolding four_at
four_agrees body wide = record {
  reads = λ p maps q le h.
      let a = (map_agrees body wide).reads p maps.win h.at_loss le h.win in
      let b = (map_agrees body wide).reads h.at_loss maps.loss h.at_cursed a.0 h.loss in
      let d = (map_agrees body wide).reads h.at_cursed maps.cursed_win h.at_blessed b.0 h.cursed in
      let e = (map_agrees body wide).reads h.at_blessed maps.blessed_loss q d.0 h.blessed in (
        e.0,
        rw (a.1, b.1, d.1, e.1)
            (ap (λ (w : Bool). done (record { wide = w; win = maps.win; loss = maps.loss; cursed_win = maps.cursed_win; blessed_loss = maps.blessed_loss }, drop q body)) (sym h.wide_is)),
      );
  tells = λ p maps rest le g.
      let a = bind_ok _ _ (maps, rest) g in
      let a1 = next (map_agrees body wide) (drop p body) p a.0 le refl a.1 in
      let b = bind_ok _ _ (maps, rest) a.2 in
      let b1 = next (map_agrees body wide) a.0.1 a1.0 b.0 a1.2 a1.3 b.1 in
      let d = bind_ok _ _ (maps, rest) b.2 in
      let d1 = next (map_agrees body wide) b.0.1 b1.0 d.0 b1.2 b1.3 d.1 in
      let e = bind_ok _ _ (maps, rest) d.2 in
      let e1 = next (map_agrees body wide) d.0.1 d1.0 e.0 d1.2 d1.3 e.1 in
      let same = is_ok _ (maps, rest) e.2 in (
        e1.0,
        subst (λ (x : ValueMaps). AreFour wide body p x e1.0) (ap (λ (z : ValueMaps × List ℕ). z.0) same)
            (record { at_loss = a1.0; at_cursed = b1.0; at_blessed = d1.0; wide_is = refl; win = a1.1; loss = b1.1; cursed = d1.1; blessed = e1.1 }),
        e1.2,
        sym (ap (λ (z : ValueMaps × List ℕ). z.1) same) ∙ e1.3,
      );
}

abbrev Started : (body : List ℕ) → Bool → ℕ → ValueMaps → ℕ → Type 0
Started body wide p maps q = (at : ℕ) × IsMapStart wide p at × AreFour wide body at maps q

started_agrees : (body : List ℕ) (wide : Bool) → length body % 64 ≡ 0 → Agrees body (λ bytes. four_at wide (cond wide (risen 2 bytes) bytes)) (Started body wide)
started_agrees body true even = record {
  reads = λ p maps q le h.
      let a = raise_to_2 body p h.0 even le h.1 in
      let b = (four_agrees body true).reads h.0 maps q a.0 h.2 in
      (b.0, ap (four_at true) a.1 ∙ b.1);
  tells = λ p maps rest le g.
      let r = raised_2 body p even le in
      let a = raise_to_2 body p (p + length (drop p body) % 2) even le r in
      let b = (four_agrees body true).tells (p + length (drop p body) % 2) maps rest a.0 (ap (four_at true) (sym a.1) ∙ g) in
      (b.0, (p + length (drop p body) % 2, r, b.1), b.2, b.3);
}
started_agrees body false even = record {
  reads = λ p maps q le h. (four_agrees body false).reads p maps q le (subst (λ k. AreFour false body k maps q) h.1 h.2);
  tells = λ p maps rest le g.
      let b = (four_agrees body false).tells p maps rest le g in
      (b.0, (p, refl, b.1), b.2, b.3);
}

pub maps_agrees : (body : List ℕ) (part : Part) → length body % 64 ≡ 0 → Agrees body (maps_at part) (AreMaps part body)
unfolding maps_at
maps_agrees body part even =
    let wide = has_bit 16 part.size_record.flags in
    let test = has_bit 2 part.size_record.flags in
    like_agrees body (maps_at part) (λ p maps q. (test ≡ true → Started body wide p maps q) × (test ≡ false → (maps ≡ no_maps) × (q ≡ p))) (AreMaps part body)
    (cond_agrees body test (λ bytes. four_at wide (cond wide (risen 2 bytes) bytes)) (λ bytes. Ok (no_maps, bytes)) (Started body wide) (λ p maps q. (maps ≡ no_maps) × (q ≡ p)) (started_agrees body wide even) (done_agrees body no_maps))
    (λ p maps q h. record { mapped = h.0; others = h.1 }) (λ p maps q h. (h.mapped, h.others))

pub all_maps_agrees : (body : List ℕ) (kind : TableKind) (parts : List Part) → length body % 64 ≡ 0 → Agrees body (all_maps_at kind parts) (AreAllMaps kind parts body)
unfolding all_maps_at
all_maps_agrees body Wdl parts even = done_agrees body []
all_maps_agrees body Dtz parts even = record {
  reads = λ p maps q le h.
      let a = (each_agrees body maps_at (λ part. AreMaps part body) (λ part. maps_agrees body part even) parts).reads p maps h.0 le h.1 in
      let b = raise_to_2 body h.0 q even a.0 h.2 in
      (b.0, rw a.1 (ap (λ (l : List ℕ). done (maps, l)) b.1));
  tells = λ p maps rest le g.
      let a = bind_ok _ _ (maps, rest) g in
      let a1 = next (each_agrees body maps_at (λ part. AreMaps part body) (λ part. maps_agrees body part even) parts) (drop p body) p a.0 le refl a.1 in
      let r = raised_2 body a1.0 even a1.2 in
      let b = raise_to_2 body a1.0 (a1.0 + length (drop a1.0 body) % 2) even a1.2 r in
      let same = is_ok _ (maps, rest) a.2 in (
        a1.0 + length (drop a1.0 body) % 2,
        (a1.0, subst (λ (x : List ValueMaps). Each (λ part. AreMaps part body) parts p x a1.0) (ap (λ (z : List ValueMaps × List ℕ). z.0) same) a1.1, r),
        b.0,
        sym (ap (λ (z : List ValueMaps × List ℕ). z.1) same) ∙ ap (risen 2) a1.3 ∙ b.1,
      );
}

-- ---- sections

-- where a section starts
pub start_of : (section : Section) (body : List ℕ) (p q : ℕ) → length body % 64 ≡ 0 → p ≤ length body → IsSectionStart section p q → (q ≤ length body) × (begun section (drop p body) ≡ drop q body)
start_of Entries body p q even le h = (omega (arith, le, h), ap (λ k. drop k body) (sym h))
start_of Lengths body p q even le h = (omega (arith, le, h), ap (λ k. drop k body) (sym h))
start_of Blocks body p q even le h = raise_to_64 body p q even le h

pub has_start : (section : Section) (body : List ℕ) (p : ℕ) → length body % 64 ≡ 0 → p ≤ length body → (q : ℕ) × IsSectionStart section p q
has_start Entries body p even le = (p, refl)
has_start Lengths body p even le = (p, refl)
has_start Blocks body p even le = (p + length (drop p body) % 64, raised_64 body p even le)

pub section_agrees : (body : List ℕ) (section : Section) (part : Part) → length body % 64 ≡ 0 → Agrees body (section_at section part) (IsSection section part body)
unfolding section_at
section_agrees body section part even =
    let n = section_size section (indices part.shape) part.size_record.coding in record {
      reads = λ p bytes q le h.
          let a = start_of section body p h.start even le h.start_is in
          let b = (taken_agrees body n).reads h.start bytes q a.0 h.bytes_are in
          (b.0, ap (taken_at n) a.1 ∙ b.1);
      tells = λ p bytes rest le g.
          let s = has_start section body p even le in
          let a = start_of section body p s.0 even le s.1 in
          let b = (taken_agrees body n).tells s.0 bytes rest a.0 (ap (taken_at n) (sym a.1) ∙ g) in
          (b.0, record { start = s.0; start_is = s.1; bytes_are = b.1 }, b.2, b.3);
    }

pub sections_agree : (body : List ℕ) (section : Section) (parts : List Part) → length body % 64 ≡ 0 → Agrees body (each_at (section_at section) parts) (λ p runs q. Each (λ part. IsSection section part body) parts p runs q)
sections_agree body section parts even = each_agrees body (section_at section) (λ part. IsSection section part body) (λ part. section_agrees body section part even) parts

-- ---- sparse entries

entries_right : (sizes : List ℕ) (span : ℕ) (entries : List ℕ) (n : ℕ) → ((k : ℕ) → k < n → IsSparseEntry sizes span entries k) → are_entries sizes span entries n ≡ true
unfolding are_entries is_entry
entries_right sizes span entries zero each = refl
entries_right sizes span entries (suc n) each =
    let here = each n (omega arith) in
    and_from (leb (entry_block entries n) (length sizes) && eqb (values_before sizes (entry_block entries n) + entry_offset entries n) (n * span + span / 2)) (are_entries sizes span entries n)
    (and_from (leb (entry_block entries n) (length sizes)) (eqb (values_before sizes (entry_block entries n) + entry_offset entries n) (n * span + span / 2))
    (le-leb (entry_block entries n) (length sizes) here.block) (eq-eqb (values_before sizes (entry_block entries n) + entry_offset entries n) (n * span + span / 2) here.value))
    (entries_right sizes span entries n (λ k lt. each k (omega (arith, lt))))

pub sparse_fits : (size : ℕ) (coding : Coding) (entries lengths : List ℕ) → AreSparseEntries size coding entries lengths → fits_in size coding entries lengths ≡ true
sparse_fits size (Single v) entries lengths each = refl
sparse_fits size (Pairs c) entries lengths each = entries_right (sizes_of lengths) (span c) entries (sparse_entry_count size c) each

pub fits_sparse : (size : ℕ) (coding : Coding) (entries lengths : List ℕ) → fits_in size coding entries lengths ≡ true → AreSparseEntries size coding entries lengths
fits_sparse size (Single v) entries lengths fit = tt
fits_sparse size (Pairs c) entries lengths fit = λ k lt.
    let e = entry_of (sizes_of lengths) (span c) entries k (sparse_entry_count size c) fit lt in
    record { block = e.known; value = e.place }

pub all_sparse_fit : (parts : List Part) (entries lengths : List (List ℕ)) → AllSparseEntries parts entries lengths → all_fit parts entries lengths ≡ true
unfolding all_fit
all_sparse_fit [] entries lengths all = refl
all_sparse_fit (p ∷ parts) [] lengths all = refl
all_sparse_fit (p ∷ parts) (e ∷ entries) [] all = refl
all_sparse_fit (p ∷ parts) (e ∷ entries) (l ∷ lengths) all =
    and_from (fits_in (indices p.shape) p.size_record.coding e l) (all_fit parts entries lengths) (sparse_fits (indices p.shape) p.size_record.coding e l all.0) (all_sparse_fit parts entries lengths all.1)

pub all_fit_sparse : (parts : List Part) (entries lengths : List (List ℕ)) → all_fit parts entries lengths ≡ true → AllSparseEntries parts entries lengths
unfolding all_fit
all_fit_sparse [] entries lengths fit = tt
all_fit_sparse (p ∷ parts) [] lengths fit = tt
all_fit_sparse (p ∷ parts) (e ∷ entries) [] fit = tt
all_fit_sparse (p ∷ parts) (e ∷ entries) (l ∷ lengths) fit =
    let both = and_parts (fits_in (indices p.shape) p.size_record.coding e l) (all_fit parts entries lengths) fit in
    (fits_sparse (indices p.shape) p.size_record.coding e l both.0, all_fit_sparse parts entries lengths both.1)
