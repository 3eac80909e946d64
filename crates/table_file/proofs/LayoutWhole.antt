-- Reading a whole file agrees with its layout.
use Rattle.std.proofs.Common.{◌≡◌, ℕ, zero, suc, ◌+◌, ◌-◌, ◌<◌, ◌≤◌, Bool, true, false, cond, List, length, take, drop, Result, Ok, Err, refl, sym, ap, subst, ◌∙◌, inl, inr, arith}
use Rattle.std.specs.Prelude.{◌%◌}
use Rattle.std.specs.List.{range_with_len}
use Rattle.std.proofs.lemmas.Bool.{cases_Bool, cases_eq, cases_lt, eq-eqb, ne_eqb, lt-ltb, le-ltb}
use Rattle.std.proofs.lemmas.List.{length-take}
use Rattle.pair_dict.specs.Beginnings.{ReadsWhatIsSpelled}
use Rattle.place_index.specs.Material.{TablesAreNumbered}
use Rattle.place_index.specs.Shape.{Layout}
use Rattle.table_file.specs.declared.fault.TableFault.{TableFault}
use Rattle.table_file.specs.declared.fault.TableFault.TheVariants.{BadName, BadSize, BadMagic, BadFlags, BadSparse}
use Rattle.table_file.specs.declared.kind.TableKind.{TableKind}
use Rattle.table_file.specs.declared.kind.TableKind.TheVariants.{Wdl, Dtz}
use Rattle.table_file.specs.declared.parts.Section.TheVariants.{Entries, Lengths, Blocks}
use Rattle.table_file.specs.Reading.{each_at, risen}
use Rattle.table_file.specs.Names.{equal, file_name, title_among, title_of}
use Rattle.table_file.specs.Files.{side_count, body_of, magic_of, magic_at, flags_agree, flags_at, setup_at, part_at}
use Rattle.table_file.specs.Sparse.{all_fit}
use Rattle.table_file.specs.Tables.{Contents, head_at, sections_at, parts_at, contents_at, part_count}
use Rattle.table_file.specs.Layouts.{IsByte, IsNumber, Each, IsSetup, IsPart, IsSection, IsHead, AreParts, IsLayout, ReadsWhatIsLaidOut}
use Rattle.table_file.proofs.NameLemmas.{equal_true, title_is}
use Rattle.table_file.proofs.Agreeing.{Agrees, bind_ok, done, is_ok, number_agrees, byte_agrees, each_agrees, next, raise_to_2, raised_2}
use Rattle.table_file.proofs.LayoutSteps.{setup_agrees, part_agrees}
use Rattle.table_file.proofs.LayoutSections.{all_maps_agrees, sections_agree, all_sparse_fit, all_fit_sparse}

wrong : {C : Type 0} (x : C) (d : TableFault) → (let r : Result C TableFault = Err d in r) ≡ Ok x → ⊥
wrong x d e = cc

-- ---- the head

title_ok : (n : ℕ) (name : List ℕ) (x : TableKind × ℕ) → title_among n name ≡ Ok x → (x.1 < n) × (name ≡ file_name x.0 x.1)
unfolding title_among
title_ok zero name x e = absurd (wrong x BadName e)
title_ok (suc n) name x e =
    elim (cases_Bool (equal name (file_name Wdl n))) [
      | inl wdl ↦
          let same = is_ok (Wdl, n) x (rw wdl at e) in
          subst (λ (y : TableKind × ℕ). (y.1 < suc n) × (name ≡ file_name y.0 y.1)) same (omega arith, equal_true name (file_name Wdl n) wdl)
      | inr other ↦ elim (cases_Bool (equal name (file_name Dtz n))) [
        | inl dtz ↦
            let same = is_ok (Dtz, n) x (rw (other, dtz) at e) in
            subst (λ (y : TableKind × ℕ). (y.1 < suc n) × (name ≡ file_name y.0 y.1)) same (omega arith, equal_true name (file_name Dtz n) dtz)
        | inr more ↦
            let rest = title_ok n name x (rw (other, more) at e) in
            (omega (arith, rest.0), rest.1)
      ]
    ]

pub title_tells : (name : List ℕ) (x : TableKind × ℕ) → title_of name ≡ Ok x → (x.1 < 145) × (name ≡ file_name x.0 x.1)
unfolding title_of
title_tells name x e = title_ok 145 name x e

pub body_reads : (file : List ℕ) → 80 ≤ length file → length file % 64 ≡ 16 → body_of file ≡ Ok (take (length file - 16) file)
unfolding body_of
body_reads file long sized = rw (le-ltb (length file) 80 long, eq-eqb (length file % 64) 16 sized) refl

pub body_tells : (file body : List ℕ) → body_of file ≡ Ok body → (80 ≤ length file) × (length file % 64 ≡ 16) × (body ≡ take (length file - 16) file)
unfolding body_of
body_tells file body e =
    elim (cases_lt (length file) 80) [
      | inl short ↦ absurd (wrong body BadSize (rw (lt-ltb (length file) 80 short) at e))
      | inr long ↦ elim (cases_eq (length file % 64) 16) [
        | inr ne ↦ absurd (wrong body BadSize (rw (le-ltb (length file) 80 long, ne_eqb (length file % 64) 16 ne) at e))
        | inl sized ↦ (long, sized, sym (is_ok _ body (rw (le-ltb (length file) 80 long, eq-eqb (length file % 64) 16 sized) at e)))
      ]
    ]

pub magic_reads : (kind : TableKind) (body : List ℕ) → IsNumber 4 body 0 (magic_of kind) 4 → magic_at kind body ≡ Ok (drop 4 body)
unfolding magic_at
magic_reads kind body h =
    let a = (number_agrees body).reads 0 (magic_of kind) 4 (omega arith) h in
    rw (a.1, eq-eqb (magic_of kind) (magic_of kind) refl) refl

pub magic_tells : (kind : TableKind) (body rest : List ℕ) → magic_at kind body ≡ Ok rest → IsNumber 4 body 0 (magic_of kind) 4 × (rest ≡ drop 4 body)
unfolding magic_at
magic_tells kind body rest e =
    let a = bind_ok _ _ rest e in
    let a1 = next (number_agrees body) body 0 a.0 (omega arith) refl a.1 in
    elim (cases_eq a.0.0 (magic_of kind)) [
      | inr ne ↦ absurd (wrong rest BadMagic (rw (ne_eqb a.0.0 (magic_of kind) ne) at a.2))
      | inl is ↦
          let same = is_ok a.0.1 rest (rw (eq-eqb a.0.0 (magic_of kind) is) at a.2) in
          let four : a1.0 ≡ 4 = omega (arith, a1.1.next) in
          (record { within = a1.1.within; is = sym is ∙ a1.1.is; next = refl }, sym same ∙ a1.3 ∙ ap (λ k. drop k body) four)
    ]

pub flags_reads : (kind : TableKind) (m : ℕ) (body : List ℕ) (flags : ℕ) → 4 ≤ length body → IsByte body 4 flags 5 → flags_agree kind m flags ≡ true → flags_at kind m (drop 4 body) ≡ Ok (drop 5 body)
unfolding flags_at
flags_reads kind m body flags le h agree =
    let a = (byte_agrees body).reads 4 flags 5 le h in
    rw (a.1, agree) refl

pub flags_tells : (kind : TableKind) (m : ℕ) (body rest : List ℕ) → 4 ≤ length body → flags_at kind m (drop 4 body) ≡ Ok rest → (flags : ℕ) × IsByte body 4 flags 5 × (flags_agree kind m flags ≡ true) × (rest ≡ drop 5 body)
unfolding flags_at
flags_tells kind m body rest le e =
    let a = bind_ok _ _ rest e in
    let a1 = next (byte_agrees body) (drop 4 body) 4 a.0 le refl a.1 in
    elim (cases_Bool (flags_agree kind m a.0.0)) [
      | inr bad ↦ absurd (wrong rest BadFlags (rw bad at a.2))
      | inl good ↦
          let same = is_ok a.0.1 rest (rw good at a.2) in
          let five : a1.0 ≡ 5 = omega (arith, a1.1.next) in
          (a.0.0, record { within = a1.1.within; is = a1.1.is; next = refl }, good, sym same ∙ a1.3 ∙ ap (λ k. drop k body) five)
    ]

-- a body is long enough for magic and flags, and a multiple of 64
pub length_body : (file body : List ℕ) → 80 ≤ length file → length file % 64 ≡ 16 → body ≡ take (length file - 16) file → (64 ≤ length body) × (length body % 64 ≡ 0)
length_body file body long sized is =
    let n : length body ≡ length file - 16 = omega (arith, ap length is, length-take (length file - 16) file) in
    (omega (arith, n, long), omega (arith, n, long, sized))

pub head_reads : TablesAreNumbered → (name file : List ℕ) (kind : TableKind) (m : ℕ) (body : List ℕ) → IsHead name file kind m body → head_at name file ≡ Ok ((kind, m), drop 5 body)
unfolding head_at
head_reads law name file kind m body h =
    let size = length_body file body h.long h.sized h.body_is in
    let is : body_of file ≡ Ok body = body_reads file h.long h.sized ∙ ap (λ (b : List ℕ). done b) (sym h.body_is) in
    rw (title_is law kind m name h.known h.named, is, magic_reads kind body h.magic, flags_reads kind m body h.flags (omega (arith, size.0)) h.flags_are h.flags_agree_with_name) refl

pub head_tells : (name file : List ℕ) (x : (TableKind × ℕ) × List ℕ) → head_at name file ≡ Ok x → (body : List ℕ) × IsHead name file x.0.0 x.0.1 body × (x.1 ≡ drop 5 body)
unfolding head_at
head_tells name file x e =
    let t = bind_ok _ _ x e in
    let title = title_tells name t.0 t.1 in
    let b = bind_ok _ _ x t.2 in
    let body = body_tells file b.0 b.1 in
    let size = length_body file b.0 body.0 body.1 body.2 in
    let g = bind_ok _ _ x b.2 in
    let magic = magic_tells t.0.0 b.0 g.0 g.1 in
    let f = bind_ok _ _ x g.2 in
    let flags = flags_tells t.0.0 t.0.1 b.0 f.0 (omega (arith, size.0)) (ap (flags_at t.0.0 t.0.1) (sym magic.1) ∙ f.1) in
    let same = is_ok (t.0, f.0) x f.2 in
    subst (λ (y : (TableKind × ℕ) × List ℕ). (body : List ℕ) × IsHead name file y.0.0 y.0.1 body × (y.1 ≡ drop 5 body)) same
    (b.0, record { known = title.0; named = title.1; long = body.0; sized = body.1; body_is = body.2; magic = magic.0; flags = flags.0; flags_are = flags.1; flags_agree_with_name = flags.2 }, flags.3)

-- ---- the parts

abbrev pub setups_agree : (body : List ℕ) (kind : TableKind) (m : ℕ) → m < 145
    → Agrees body (each_at (setup_at m (side_count kind m)) (range_with_len 0 (part_count kind m))) (λ p shapes q. Each (λ k. IsSetup m (side_count kind m) k body) (range_with_len 0 (part_count kind m)) p shapes q)
setups_agree body kind m known = each_agrees body (setup_at m (side_count kind m)) (λ k. IsSetup m (side_count kind m) k body) (λ k. setup_agrees body m (side_count kind m) k known) (range_with_len 0 (part_count kind m))

abbrev pub records_agree : ReadsWhatIsSpelled → (body : List ℕ) (kind : TableKind) (shapes : List Layout) → Agrees body (each_at (part_at kind) shapes) (λ p parts q. Each (λ shape. IsPart kind shape body) shapes p parts q)
records_agree law body kind shapes = each_agrees body (part_at kind) (λ shape. IsPart kind shape body) (λ shape. part_agrees law body kind shape) shapes

sections_read : (body : List ℕ) (t : Contents) (p a b q : ℕ) → length body % 64 ≡ 0 → p ≤ length body
    → Each (λ part. IsSection Entries part body) t.parts p t.entries a → Each (λ part. IsSection Lengths part body) t.parts a t.lengths b → Each (λ part. IsSection Blocks part body) t.parts b t.blocks q
    → all_fit t.parts t.entries t.lengths ≡ true → sections_at t.kind t.material t.parts t.maps (drop p body) ≡ Ok t
unfolding sections_at
sections_read body t p a b q even le entries lengths blocks fit =
    let e = (sections_agree body Entries t.parts even).reads p t.entries a le entries in
    let l = (sections_agree body Lengths t.parts even).reads a t.lengths b e.0 lengths in
    let k = (sections_agree body Blocks t.parts even).reads b t.blocks q l.0 blocks in
    rw (e.1, l.1, k.1, fit) refl

parts_read : ReadsWhatIsSpelled → (body : List ℕ) (t : Contents) → t.material < 145 → 64 ≤ length body → length body % 64 ≡ 0 → AreParts body t → parts_at t.kind t.material (drop 5 body) ≡ Ok t
unfolding parts_at
parts_read law body t known long even h =
    let a = (setups_agree body t.kind t.material known).reads 5 h.shapes h.at_padding (omega (arith, long)) h.setups in
    let b = raise_to_2 body h.at_padding h.at_size_records even a.0 h.padding in
    let d = (records_agree law body t.kind h.shapes).reads h.at_size_records t.parts h.at_maps b.0 h.size_records in
    let e = (all_maps_agrees body t.kind t.parts even).reads h.at_maps t.maps h.at_entries d.0 h.maps in
    rw (a.1, b.1, d.1, e.1) (sections_read body t h.at_entries h.at_lengths h.at_blocks h.at_end even e.0 h.entries h.lengths h.blocks (all_sparse_fit t.parts t.entries t.lengths h.sparse))

-- what reading the parts told
record Told (body : List ℕ) (kind : TableKind) (m : ℕ) (t : Contents) : Type 0 where
  kind_is : t.kind ≡ kind
  material_is : t.material ≡ m
  parts : AreParts body t

guard_ok : (b : Bool) (x y : Contents) → cond b (Ok x) (Err BadSparse) ≡ Ok y → (b ≡ true) × (x ≡ y)
guard_ok true x y e = (refl, is_ok x y e)
guard_ok false x y e = absurd (wrong y BadSparse e)

parts_tell : ReadsWhatIsSpelled → (body : List ℕ) (kind : TableKind) (m : ℕ) (t : Contents) → m < 145 → 64 ≤ length body → length body % 64 ≡ 0 → parts_at kind m (drop 5 body) ≡ Ok t → Told body kind m t
unfolding parts_at sections_at
parts_tell law body kind m t known long even g =
    let a = bind_ok _ _ t g in
    let a1 = next (setups_agree body kind m known) (drop 5 body) 5 a.0 (omega (arith, long)) refl a.1 in
    let r = raised_2 body a1.0 even a1.2 in
    let at = a1.0 + length (drop a1.0 body) % 2 in
    let b = raise_to_2 body a1.0 at even a1.2 r in
    let d = bind_ok _ _ t a.2 in
    let d1 = next (records_agree law body kind a.0.0) (risen 2 a.0.1) at d.0 b.0 (ap (risen 2) a1.3 ∙ b.1) d.1 in
    let e = bind_ok _ _ t d.2 in
    let e1 = next (all_maps_agrees body kind d.0.0 even) d.0.1 d1.0 e.0 d1.2 d1.3 e.1 in
    let x = bind_ok _ _ t e.2 in
    let x1 = next (sections_agree body Entries d.0.0 even) e.0.1 e1.0 x.0 e1.2 e1.3 x.1 in
    let y = bind_ok _ _ t x.2 in
    let y1 = next (sections_agree body Lengths d.0.0 even) x.0.1 x1.0 y.0 x1.2 x1.3 y.1 in
    let z = bind_ok _ _ t y.2 in
    let z1 = next (sections_agree body Blocks d.0.0 even) y.0.1 y1.0 z.0 y1.2 y1.3 z.1 in
    let same = guard_ok (all_fit d.0.0 x.0.0 y.0.0) _ t z.2 in
    subst (Told body kind m) same.1 (record {
      kind_is = refl;
      material_is = refl;
      parts = record {
        shapes = a.0.0;
        at_padding = a1.0;
        at_size_records = at;
        at_maps = d1.0;
        at_entries = e1.0;
        at_lengths = x1.0;
        at_blocks = y1.0;
        at_end = z1.0;
        setups = a1.1;
        padding = r;
        size_records = d1.1;
        maps = e1.1;
        entries = x1.1;
        lengths = y1.1;
        blocks = z1.1;
        sparse = all_fit_sparse d.0.0 x.0.0 y.0.0 same.0;
      };
    })

-- ---- the law

laid_out : ReadsWhatIsSpelled → TablesAreNumbered → (name file : List ℕ) (t : Contents) → IsLayout name file t → contents_at name file ≡ Ok t
unfolding contents_at
laid_out spelled numbered name file t h =
    let size = length_body file h.body h.head.long h.head.sized h.head.body_is in
    rw (head_reads numbered name file t.kind t.material h.body h.head) (parts_read spelled h.body t h.head.known size.0 size.1 h.parts)

read : ReadsWhatIsSpelled → (name file : List ℕ) (t : Contents) → contents_at name file ≡ Ok t → IsLayout name file t
unfolding contents_at
read spelled name file t e =
    let x = bind_ok _ _ t e in
    let head = head_tells name file x.0 x.1 in
    let size = length_body file head.0 head.1.long head.1.sized head.1.body_is in
    let told = parts_tell spelled head.0 x.0.0.0 x.0.0.1 t head.1.known size.0 size.1 (ap (parts_at x.0.0.0 x.0.0.1) (sym head.2) ∙ x.2) in
    record {
      body = head.0;
      head = subst (λ (m : ℕ). IsHead name file t.kind m head.0) (sym told.material_is) (subst (λ (k : TableKind). IsHead name file k x.0.0.1 head.0) (sym told.kind_is) head.1);
      parts = told.parts;
    }

pub reads_layout : ReadsWhatIsSpelled → TablesAreNumbered → ReadsWhatIsLaidOut
reads_layout spelled numbered name file t = (read spelled name file t, laid_out spelled numbered name file t)
