-- A whole file is missed with exactly its first fault.
use Rattle.std.proofs.Common.{◌≡◌, ◌≢◌, ℕ, zero, suc, ◌+◌, ◌-◌, ◌<◌, ◌≤◌, true, List, length, slice_index, take, drop, Result, Ok, Err, refl, sym, ap, subst, ◌∙◌, inl, inr, arith}
use Rattle.std.specs.Prelude.{◌%◌, IfErr}
use Rattle.std.specs.List.{range_with_len}
use Rattle.std.proofs.lemmas.Bool.{cases_Bool, cases_eq, cases_lt, lt-ltb, le-ltb, eq-eqb, ne_eqb}
use Rattle.pair_dict.specs.Beginnings.{ReadsWhatIsSpelled}
use Rattle.place_index.specs.Material.{TablesAreNumbered}
use Rattle.place_index.specs.Shape.{Layout}
use Rattle.table_file.specs.declared.fault.TableFault.{TableFault}
use Rattle.table_file.specs.declared.fault.TableFault.TheVariants.{BadName, BadSize, BadMagic, BadFlags, Truncated, BadSparse, OutOfMemory}
use Rattle.table_file.specs.declared.kind.TableKind.{TableKind}
use Rattle.table_file.specs.declared.kind.TableKind.TheVariants.{Wdl, Dtz}
use Rattle.table_file.specs.declared.parts.Part.{Part}
use Rattle.table_file.specs.declared.parts.Section.TheVariants.{Entries, Lengths, Blocks}
use Rattle.table_file.specs.Reading.{◌>>=◌, Gives, Fails, each_at, byte_at, four_bytes_at, risen}
use Rattle.table_file.specs.Names.{equal, file_name, title_among, title_of}
use Rattle.table_file.specs.Files.{side_count, body_of, magic_of, magic_at, flags_agree, flags_at, setup_at, part_at, section_at}
use Rattle.table_file.specs.Sparse.{all_fit}
use Rattle.table_file.specs.Maps.{ValueMaps, all_maps_at}
use Rattle.table_file.specs.Tables.{Contents, head_at, sections_at, parts_at, contents_at, part_count}
use Rattle.table_file.specs.Layouts.{IsByte, IsNumber, Each, IsSetup, IsPart, IsSection, AreAllMaps, AllSparseEntries}
use Rattle.table_file.specs.FirstFaults.{IsNot, IsSetupFault, IsSizeRecordFault, IsAllMapsFault, IsSectionsFault, IsRecordsFault, IsPartsFault, IsTableFileName, IsSized, IsFirstTableFault, bad_name, bad_size, bad_magic, bad_flags, in_parts, TellsFirstFault}
use Rattle.table_file.proofs.NameLemmas.{title_is}
use Rattle.table_file.proofs.Loops.{fault_is}
use Rattle.table_file.proofs.Agreeing.{done}
use Rattle.table_file.proofs.LayoutSteps.{setup_agrees, part_agrees}
use Rattle.table_file.proofs.Refusing.{bad_head}
use Rattle.table_file.proofs.LayoutSections.{all_maps_agrees, sections_agree, all_sparse_fit, all_fit_sparse}
use Rattle.table_file.proofs.LayoutWhole.{title_tells, body_reads, body_tells, magic_reads, magic_tells, flags_reads, flags_tells, length_body, head_reads, head_tells, setups_agree, records_agree}
use Rattle.table_file.proofs.Missing.{Misses, not_both, bind_err, then_misses, guard_misses, only_misses, number_misses, byte_misses, raised_misses, each_misses}
use Rattle.table_file.proofs.MissingParts.{part_misses, setup_misses, all_maps_misses, sections_miss}

-- ---- the parts

sections_misses : (body : List ℕ) (kind : TableKind) (m : ℕ) (parts : List Part) (maps : List ValueMaps) (p : ℕ) → length body % 64 ≡ 0 → p ≤ length body → Misses (sections_at kind m parts maps (drop p body)) (IsSectionsFault body parts p)
unfolding sections_at IsSectionsFault
sections_misses body kind m parts maps p even le =
    then_misses body (each_at (section_at Entries) parts) _ (λ p runs q. Each (λ part. IsSection Entries part body) parts p runs q) _ _ p le (sections_agree body Entries parts even) (sections_miss body Entries parts p even le) (λ entries at_lengths le_lengths.
    then_misses body (each_at (section_at Lengths) parts) _ (λ p runs q. Each (λ part. IsSection Lengths part body) parts p runs q) _ _ at_lengths le_lengths (sections_agree body Lengths parts even) (sections_miss body Lengths parts at_lengths even le_lengths) (λ lengths at_blocks le_blocks.
    then_misses body (each_at (section_at Blocks) parts) _ (λ p runs q. Each (λ part. IsSection Blocks part body) parts p runs q) _ _ at_blocks le_blocks (sections_agree body Blocks parts even) (sections_miss body Blocks parts at_blocks even le_blocks) (λ blocks at_end le_end.
    guard_misses (all_fit parts entries lengths) (AllSparseEntries parts entries lengths) BadSparse _ (all_fit_sparse parts entries lengths) (all_sparse_fit parts entries lengths))))

records_misses : ReadsWhatIsSpelled → (body : List ℕ) (kind : TableKind) (m : ℕ) (shapes : List Layout) (p : ℕ) → length body % 64 ≡ 0 → p ≤ length body
    → Misses (each_at (part_at kind) shapes (risen 2 (drop p body)) >>= λ parts. all_maps_at kind parts.0 parts.1 >>= λ maps. sections_at kind m parts.0 maps.0 maps.1) (IsRecordsFault kind body shapes p)
unfolding IsRecordsFault
records_misses law body kind m shapes p even le =
    raised_misses body (λ bytes. each_at (part_at kind) shapes bytes >>= λ parts. all_maps_at kind parts.0 parts.1 >>= λ maps. sections_at kind m parts.0 maps.0 maps.1) _ p even le (λ q fits.
    then_misses body (each_at (part_at kind) shapes) _ (λ p parts q. Each (λ shape. IsPart kind shape body) shapes p parts q) _ _ q fits (records_agree law body kind shapes)
    (each_misses body (part_at kind) (λ shape. IsPart kind shape body) (λ _. IsSizeRecordFault body) (λ shape. part_agrees law body kind shape) (λ shape p le. part_misses body kind shape p le) shapes q fits) (λ parts at_maps le_maps.
    then_misses body (all_maps_at kind parts) _ (AreAllMaps kind parts body) (IsAllMapsFault kind parts body) _ at_maps le_maps (all_maps_agrees body kind parts even) (all_maps_misses body kind parts at_maps even le_maps) (λ maps at_entries le_entries.
    sections_misses body kind m parts maps at_entries even le_entries)))

parts_misses : ReadsWhatIsSpelled → (body : List ℕ) (kind : TableKind) (m p : ℕ) → m < 145 → length body % 64 ≡ 0 → p ≤ length body → Misses (parts_at kind m (drop p body)) (IsPartsFault kind m body p)
unfolding parts_at IsPartsFault
parts_misses law body kind m p known even le =
    let ks = range_with_len 0 (part_count kind m) in
    let s = side_count kind m in
    then_misses body (each_at (setup_at m s) ks) _ (λ p shapes q. Each (λ k. IsSetup m s k body) ks p shapes q) _ _ p le (setups_agree body kind m known)
    (each_misses body (setup_at m s) (λ k. IsSetup m s k body) (λ k. IsSetupFault m s k body) (λ k. setup_agrees body m s k known) (λ k p le. setup_misses body m s k p known le) ks p le) (λ shapes q fits.
    records_misses law body kind m shapes q even fits)

-- ---- the head

title_fault : (n : ℕ) (name : List ℕ) (e : TableFault) → title_among n name ≡ Err e → e ≡ BadName
unfolding title_among
title_fault zero name e is = same BadName e is
  where
    same : (d e : TableFault) → (let r : Result (TableKind × ℕ) TableFault = Err d in r) ≡ Err e → e ≡ d
    same d e is = cc
title_fault (suc n) name e is =
    elim (cases_Bool (equal name (file_name Wdl n))) [
      | inl wdl ↦ absurd (not_both (Wdl, n) e (Ok (Wdl, n)) refl (rw wdl at is))
      | inr other ↦ elim (cases_Bool (equal name (file_name Dtz n))) [
        | inl dtz ↦ absurd (not_both (Dtz, n) e (Ok (Dtz, n)) refl (rw (other, dtz) at is))
        | inr more ↦ title_fault n name e (rw (other, more) at is)
      ]
    ]

-- some kind and material have that name
abbrev Named : List ℕ → Type 0
Named name = (kind : TableKind) × (m : ℕ) × IsTableFileName name kind m

title_misses : TablesAreNumbered → (name : List ℕ) → Misses (title_of name) (IsNot (Named name) BadName)
unfolding title_of
title_misses law name =
    only_misses (title_of name) (Named name) BadName
    (λ x is. let t = title_tells name x is in (x.0, x.1, record { known = t.0; named = t.1 }))
    (λ h. ((h.0, h.1), title_is law h.0 h.1 name h.2.known h.2.named))
    (λ e is. title_fault 145 name e is)

body_fault : (file : List ℕ) (e : TableFault) → body_of file ≡ Err e → e ≡ BadSize
unfolding body_of
body_fault file e is =
    elim (cases_lt (length file) 80) [
      | inl short ↦ same BadSize e (rw (lt-ltb (length file) 80 short) at is)
      | inr long ↦ elim (cases_eq (length file % 64) 16) [
        | inr ne ↦ same BadSize e (rw (le-ltb (length file) 80 long, ne_eqb (length file % 64) 16 ne) at is)
        | inl sized ↦ absurd (not_both (take (length file - 16) file) e (Ok (take (length file - 16) file)) refl (rw (le-ltb (length file) 80 long, eq-eqb (length file % 64) 16 sized) at is))
      ]
    ]
  where
    same : (d e : TableFault) → (let r : Result (List ℕ) TableFault = Err d in r) ≡ Err e → e ≡ d
    same d e is = cc

body_misses : (file : List ℕ) → Misses (body_of file) (IsNot ((body : List ℕ) × IsSized file body) BadSize)
body_misses file =
    only_misses (body_of file) ((body : List ℕ) × IsSized file body) BadSize
    (λ body is. let t = body_tells file body is in (body, record { long = t.0; sized = t.1; body_is = t.2 }))
    (λ h. (take (length file - 16) file, body_reads file h.1.long h.1.sized))
    (body_fault file)

magic_fault : (kind : TableKind) (body : List ℕ) (e : TableFault) → 4 ≤ length body → magic_at kind body ≡ Err e → e ≡ BadMagic
unfolding magic_at
magic_fault kind body e long is =
    elim (bind_err (four_bytes_at body) _ e is) [
      | inl short ↦ absurd (past ((number_misses body 0 (omega arith)).told e short))
      | inr x ↦ elim (cases_eq x.0.0 (magic_of kind)) [
        | inl good ↦ absurd (not_both x.0.1 e (Ok x.0.1) refl (rw (eq-eqb x.0.0 (magic_of kind) good) at x.2))
        | inr ne ↦ same BadMagic e (rw (ne_eqb x.0.0 (magic_of kind) ne) at x.2)
      ]
    ]
  where
    past : (length body < 0 + 4) × (e ≡ Truncated) → ⊥
    past h = omega (arith, h.0, long)

    same : (d e : TableFault) → (let r : Result (List ℕ) TableFault = Err d in r) ≡ Err e → e ≡ d
    same d e is = cc

magic_misses : (kind : TableKind) (body : List ℕ) → 4 ≤ length body → Misses (magic_at kind body) (IsNot (IsNumber 4 body 0 (magic_of kind) 4) BadMagic)
magic_misses kind body long =
    only_misses (magic_at kind body) (IsNumber 4 body 0 (magic_of kind) 4) BadMagic
    (λ rest is. (magic_tells kind body rest is).0) (λ h. (drop 4 body, magic_reads kind body h)) (λ e is. magic_fault kind body e long is)

-- the flags byte agrees with the name
abbrev Flagged : TableKind → ℕ → List ℕ → Type 0
Flagged kind m body = (flags : ℕ) × IsByte body 4 flags 5 × (flags_agree kind m flags ≡ true)

flags_fault : (kind : TableKind) (m : ℕ) (body : List ℕ) (e : TableFault) → 5 ≤ length body → flags_at kind m (drop 4 body) ≡ Err e → e ≡ BadFlags
unfolding flags_at
flags_fault kind m body e long is =
    elim (bind_err (byte_at (drop 4 body)) _ e is) [
      | inl short ↦ absurd (past ((byte_misses body 4 (omega (arith, long))).told e short))
      | inr x ↦ elim (cases_Bool (flags_agree kind m x.0.0)) [
        | inl good ↦ absurd (not_both x.0.1 e (Ok x.0.1) refl (rw good at x.2))
        | inr bad ↦ same BadFlags e (rw bad at x.2)
      ]
    ]
  where
    past : (length body < 4 + 1) × (e ≡ Truncated) → ⊥
    past h = omega (arith, h.0, long)

    same : (d e : TableFault) → (let r : Result (List ℕ) TableFault = Err d in r) ≡ Err e → e ≡ d
    same d e is = cc

flags_misses : (kind : TableKind) (m : ℕ) (body : List ℕ) → 5 ≤ length body → Misses (flags_at kind m (drop 4 body)) (IsNot (Flagged kind m body) BadFlags)
flags_misses kind m body long =
    only_misses (flags_at kind m (drop 4 body)) (Flagged kind m body) BadFlags
    (λ rest is. let t = flags_tells kind m body rest (omega (arith, long)) is in (t.0, t.1, t.2)) (λ h. (drop 5 body, flags_reads kind m body h.0 (omega (arith, long)) h.1 h.2)) (λ e is. flags_fault kind m body e long is)

-- the byte behind the magic number
flags_byte : (body : List ℕ) → 5 ≤ length body → (flags : ℕ) × IsByte body 4 flags 5
flags_byte body long = (slice_index body 4, record { within = omega (arith, long); is = refl; next = refl })

-- ---- the law

head_told : TablesAreNumbered → (name file : List ℕ) (e : TableFault) → head_at name file ≡ Err e → IsFirstTableFault name file e
unfolding head_at
head_told law name file e is =
    elim (bind_err (title_of name) _ e is) [
      | inl bad ↦
          let h = (title_misses law name).told e bad in
          subst (IsFirstTableFault name file) (sym h.1) (bad_name (λ kind m named. h.0 (kind, m, named)))
      | inr t ↦
          let title = title_tells name t.0 t.1 in
          let named : IsTableFileName name t.0.0 t.0.1 = record { known = title.0; named = title.1 } in
          elim (bind_err (body_of file) _ e t.2) [
            | inl bad ↦
                let h = (body_misses file).told e bad in
                subst (IsFirstTableFault name file) (sym h.1) (bad_size t.0.0 t.0.1 named (λ body sized. h.0 (body, sized)))
            | inr b ↦
                let body = body_tells file b.0 b.1 in
                let size = length_body file b.0 body.0 body.1 body.2 in
                let sized : IsSized file b.0 = record { long = body.0; sized = body.1; body_is = body.2 } in
                elim (bind_err (magic_at t.0.0 b.0) _ e b.2) [
                  | inl bad ↦
                      let h = (magic_misses t.0.0 b.0 (omega (arith, size.0))).told e bad in
                      subst (IsFirstTableFault name file) (sym h.1) (bad_magic t.0.0 t.0.1 b.0 named sized h.0)
                  | inr g ↦
                      let magic = magic_tells t.0.0 b.0 g.0 g.1 in
                      elim (bind_err (flags_at t.0.0 t.0.1 g.0) _ e g.2) [
                        | inl bad ↦
                            let h = (flags_misses t.0.0 t.0.1 b.0 (omega (arith, size.0))).told e (ap (flags_at t.0.0 t.0.1) (sym magic.1) ∙ bad) in
                            let byte = flags_byte b.0 (omega (arith, size.0)) in
                            subst (IsFirstTableFault name file) (sym h.1) (bad_flags t.0.0 t.0.1 b.0 byte.0 named sized magic.0 byte.1 (λ agree. h.0 (byte.0, byte.1, agree)))
                        | inr f ↦ absurd (not_both (t.0, f.0) e (Ok (t.0, f.0)) refl f.2)
                      ]
                ]
          ]
    ]

named_reads : TablesAreNumbered → (name : List ℕ) (kind : TableKind) (m : ℕ) → IsTableFileName name kind m → title_of name ≡ Ok (kind, m)
named_reads law name kind m h = title_is law kind m name h.known h.named

sized_reads : (file body : List ℕ) → IsSized file body → body_of file ≡ Ok body
sized_reads file body h = body_reads file h.long h.sized ∙ ap (λ (b : List ℕ). done b) (sym h.body_is)

no_title : (name file : List ℕ) (e : TableFault) → title_of name ≡ Err e → contents_at name file ≡ Err e
unfolding contents_at head_at
no_title name file e is = rw is refl

no_body : (name file : List ℕ) (x : TableKind × ℕ) (e : TableFault) → title_of name ≡ Ok x → body_of file ≡ Err e → contents_at name file ≡ Err e
unfolding contents_at head_at
no_body name file x e title is = rw (title, is) refl

no_magic : (name file : List ℕ) (x : TableKind × ℕ) (body : List ℕ) (e : TableFault) → title_of name ≡ Ok x → body_of file ≡ Ok body → magic_at x.0 body ≡ Err e → contents_at name file ≡ Err e
unfolding contents_at head_at
no_magic name file x body e title sized is = rw (title, sized, is) refl

no_flags : (name file : List ℕ) (x : TableKind × ℕ) (body rest : List ℕ) (e : TableFault) → title_of name ≡ Ok x → body_of file ≡ Ok body → magic_at x.0 body ≡ Ok rest → flags_at x.0 x.1 rest ≡ Err e → contents_at name file ≡ Err e
unfolding contents_at head_at
no_flags name file x body rest e title sized magic is = rw (title, sized, magic, is) refl

no_parts : (name file : List ℕ) (kind : TableKind) (m : ℕ) (rest : List ℕ) (e : TableFault) → head_at name file ≡ Ok ((kind, m), rest) → parts_at kind m rest ≡ Err e → contents_at name file ≡ Err e
unfolding contents_at
no_parts name file kind m rest e head is = rw (head, is) refl

module _ (spelled : ReadsWhatIsSpelled) (numbered : TablesAreNumbered) where
  told : (name file : List ℕ) (e : TableFault) → contents_at name file ≡ Err e → IsFirstTableFault name file e
  unfolding contents_at
  told name file e is =
      elim (bind_err (head_at name file) _ e is) [
        | inl bad ↦ head_told numbered name file e bad
        | inr x ↦
            let head = head_tells name file x.0 x.1 in
            let size = length_body file head.0 head.1.long head.1.sized head.1.body_is in
            in_parts x.0.0.0 x.0.0.1 head.0 head.1
            ((parts_misses spelled head.0 x.0.0.0 x.0.0.1 5 head.1.known size.1 (omega (arith, size.0))).told e (ap (parts_at x.0.0.0 x.0.0.1) (sym head.2) ∙ x.2))
      ]

  tells : (name file : List ℕ) (e : TableFault) → IsFirstTableFault name file e → contents_at name file ≡ Err e
  tells name file e (bad_name none) = no_title name file BadName ((title_misses numbered name).tells BadName ((λ h. none h.0 h.1 h.2), refl))
  tells name file e (bad_size kind m named none) =
      no_body name file (kind, m) BadSize (named_reads numbered name kind m named) ((body_misses file).tells BadSize ((λ h. none h.0 h.1), refl))
  tells name file e (bad_magic kind m body named sized none) =
      let size = length_body file body sized.long sized.sized sized.body_is in
      no_magic name file (kind, m) body BadMagic (named_reads numbered name kind m named) (sized_reads file body sized) ((magic_misses kind body (omega (arith, size.0))).tells BadMagic (none, refl))
  tells name file e (bad_flags kind m body flags named sized magic byte none) =
      let size = length_body file body sized.long sized.sized sized.body_is in
      no_flags name file (kind, m) body (drop 4 body) BadFlags (named_reads numbered name kind m named) (sized_reads file body sized) (magic_reads kind body magic)
      ((flags_misses kind m body (omega (arith, size.0))).tells BadFlags ((λ h. none (ap (flags_agree kind m) (byte.is ∙ sym h.1.is) ∙ h.2)), refl))
  tells name file e (in_parts kind m body head parts) =
      let size = length_body file body head.long head.sized head.body_is in
      no_parts name file kind m (drop 5 body) e (head_reads numbered name file kind m body head) ((parts_misses spelled body kind m 5 head.known size.1 (omega (arith, size.0))).tells e parts)

  pub tells_first : TellsFirstFault
  tells_first name file e = (told name file e, tells name file e)

-- ---- what a function tells

pub first_of_head : TellsFirstFault → (name file : List ℕ) (e : TableFault) → Fails e (head_at name file) → e ≢ OutOfMemory → IsFirstTableFault name file e
first_of_head law name file e fails ne =
    elim (fault_is e (head_at name file) fails) [
      | inl memory ↦ absurd (ne memory)
      | inr bad ↦ (law name file e).0 (bad_head name file e bad)
    ]

pub first_of_parts : TellsFirstFault → (name file : List ℕ) (kind : TableKind) (m : ℕ) (rest : List ℕ) (r : Result Contents TableFault) → head_at name file ≡ Ok ((kind, m), rest) → Gives {X = Contents} {Y = Contents} (λ x. x) r (parts_at kind m rest)
    → IfErr r (λ e. e ≢ OutOfMemory → IsFirstTableFault name file e)
first_of_parts law name file kind m rest (Ok x) head gives = tt
first_of_parts law name file kind m rest (Err e) head fails = λ ne.
    elim (fault_is e (parts_at kind m rest) fails) [
      | inl memory ↦ absurd (ne memory)
      | inr bad ↦ (law name file e).0 (no_parts name file kind m rest e head bad)
    ]
