-- The steps of opening a file make the whole.
use Rattle.std.proofs.Common.{◌≡◌, ℕ, ◌+◌, ◌/◌, Bool, true, false, cond, eqb, List, length, map, Result, Ok, Err, refl, sym, ap, ◌∙◌}
use Rattle.std.specs.Prelude.{IfOk, ◌%◌}
use Rattle.std.specs.List.{range_with_len}
use Rattle.place_index.specs.Material.{pieces_of}
use Rattle.place_index.specs.Shape.{Layout}
use Rattle.table_file.specs.declared.fault.TableFault.{TableFault}
use Rattle.table_file.specs.declared.fault.TableFault.TheVariants.{BadSparse}
use Rattle.table_file.specs.declared.kind.TableKind.{TableKind}
use Rattle.table_file.specs.declared.parts.Part.{Part}
use Rattle.table_file.specs.declared.parts.Section.TheVariants.{Entries, Lengths, Blocks}
use Rattle.table_file.specs.Reading.{◌>>=◌, each_at, byte_at, taken_at, risen, Fails, Gives}
use Rattle.table_file.specs.Files.{side_of, side_count, second_at, nibble, setup_at, part_at, section_at}
use Rattle.table_file.specs.Shapes.{shape_at}
use Rattle.table_file.specs.Maps.{ValueMaps, all_maps_at}
use Rattle.table_file.specs.Sparse.{all_fit}
use Rattle.table_file.specs.Tables.{Contents, part_count, sections_at, parts_at}
use Rattle.table_file.specs.Inside.Opening.{SectionBytes, section_bytes_at, checked_at, both_setups_at, all_parts_at}
use Rattle.table_file.proofs.Loops.{fails_on}

-- a step after two is the third
in_turn : {A B C : Type 0} (r : Result A TableFault) (f : A → Result B TableFault) (g : B → Result C TableFault) → (r >>= λ x. f x >>= g) ≡ ((r >>= f) >>= g)
in_turn (Ok x) f g = refl
in_turn (Err e) f g = refl

-- ---- sections

abbrev table : TableKind → ℕ → List Part → List ValueMaps → SectionBytes → Contents
table kind material parts maps r = record { kind = kind; material = material; parts = parts; maps = maps; entries = r.entries; lengths = r.lengths; blocks = r.blocks }

abbrev fitting : List Part → SectionBytes → Result SectionBytes TableFault
fitting parts r = cond (all_fit parts r.entries r.lengths) (Ok r) (Err BadSparse)

fit : {A B : Type 0} (test : Bool) (x : A) (f : A → B) → cond test (let r : Result B TableFault = Ok (f x) in r) (Err BadSparse) ≡ (cond test (let r : Result A TableFault = Ok x in r) (Err BadSparse) >>= λ y. Ok (f y))
fit true x f = refl
fit false x f = refl

third : (b : Result (List (List ℕ) × List ℕ) TableFault) (parts : List Part) (e l : List (List ℕ)) (f : SectionBytes → Contents)
    → (b >>= λ b. cond (all_fit parts e l) (Ok (f (record { entries = e; lengths = l; blocks = b.0 }))) (Err BadSparse))
    ≡ (((b >>= λ b. Ok (record { entries = e; lengths = l; blocks = b.0 })) >>= fitting parts) >>= λ r. Ok (f r))
third (Ok b) parts e l f = fit (all_fit parts e l) (record { entries = e; lengths = l; blocks = b.0 }) f
third (Err d) parts e l f = refl

second : (l : Result (List (List ℕ) × List ℕ) TableFault) (blocks : List ℕ → Result (List (List ℕ) × List ℕ) TableFault) (parts : List Part) (e : List (List ℕ)) (f : SectionBytes → Contents)
    → (l >>= λ l. blocks l.1 >>= λ b. cond (all_fit parts e l.0) (Ok (f (record { entries = e; lengths = l.0; blocks = b.0 }))) (Err BadSparse))
    ≡ (((l >>= λ l. blocks l.1 >>= λ b. Ok (record { entries = e; lengths = l.0; blocks = b.0 })) >>= fitting parts) >>= λ r. Ok (f r))
second (Ok l) blocks parts e f = third (blocks l.1) parts e l.0 f
second (Err d) blocks parts e f = refl

first : (e : Result (List (List ℕ) × List ℕ) TableFault) (lengths blocks : List ℕ → Result (List (List ℕ) × List ℕ) TableFault) (parts : List Part) (f : SectionBytes → Contents)
    → (e >>= λ e. lengths e.1 >>= λ l. blocks l.1 >>= λ b. cond (all_fit parts e.0 l.0) (Ok (f (record { entries = e.0; lengths = l.0; blocks = b.0 }))) (Err BadSparse))
    ≡ (((e >>= λ e. lengths e.1 >>= λ l. blocks l.1 >>= λ b. Ok (record { entries = e.0; lengths = l.0; blocks = b.0 })) >>= fitting parts) >>= λ r. Ok (f r))
first (Ok e) lengths blocks parts f = second (lengths e.1) blocks parts e.0 f
first (Err d) lengths blocks parts f = refl

checked_first : (kind : TableKind) (material : ℕ) (parts : List Part) (maps : List ValueMaps) (bytes : List ℕ)
    → sections_at kind material parts maps bytes
    ≡ (checked_at parts bytes >>= λ r. Ok (record { kind = kind; material = material; parts = parts; maps = maps; entries = r.entries; lengths = r.lengths; blocks = r.blocks }))
unfolding sections_at checked_at section_bytes_at
checked_first kind material parts maps bytes =
    first (each_at (section_at Entries) parts bytes) (each_at (section_at Lengths) parts) (each_at (section_at Blocks) parts) parts (table kind material parts maps)

pub table_made : (kind : TableKind) (material : ℕ) (parts : List Part) (maps : List ValueMaps) (bytes : List ℕ) (r : SectionBytes) → checked_at parts bytes ≡ Ok r
    → sections_at kind material parts maps bytes ≡ Ok (record { kind = kind; material = material; parts = parts; maps = maps; entries = r.entries; lengths = r.lengths; blocks = r.blocks })
table_made kind material parts maps bytes r is =
    checked_first kind material parts maps bytes ∙ ap (λ (x : Result SectionBytes TableFault). x >>= λ r. Ok (table kind material parts maps r)) is

pub no_table : (kind : TableKind) (material : ℕ) (parts : List Part) (maps : List ValueMaps) (bytes : List ℕ) (e : TableFault) → Fails e (checked_at parts bytes) → Fails e (sections_at kind material parts maps bytes)
no_table kind material parts maps bytes e h =
    fails_on e (checked_at parts bytes) (sections_at kind material parts maps bytes) h
    (λ is. checked_first kind material parts maps bytes ∙ ap (λ (x : Result SectionBytes TableFault). x >>= λ r. Ok (table kind material parts maps r)) is)

-- ---- parts

parts_first : (kind : TableKind) (material : ℕ) (bytes : List ℕ)
    → parts_at kind material bytes ≡ (all_parts_at kind material bytes >>= λ p. all_maps_at kind p.0 p.1 >>= λ maps. sections_at kind material p.0 maps.0 maps.1)
unfolding parts_at all_parts_at
parts_first kind material bytes =
    in_turn (each_at (setup_at material (side_count kind material)) (range_with_len 0 (part_count kind material)) bytes) (λ s. each_at (part_at kind) s.0 (risen 2 s.1))
    (λ p. all_maps_at kind p.0 p.1 >>= λ maps. sections_at kind material p.0 maps.0 maps.1)

pub no_parts : (kind : TableKind) (material : ℕ) (bytes : List ℕ) (e : TableFault) → Fails e (all_parts_at kind material bytes) → Fails e (parts_at kind material bytes)
no_parts kind material bytes e h =
    fails_on e (all_parts_at kind material bytes) (parts_at kind material bytes) h
    (λ is. parts_first kind material bytes ∙ ap (λ (x : Result (List Part × List ℕ) TableFault). x >>= λ p. all_maps_at kind p.0 p.1 >>= λ maps. sections_at kind material p.0 maps.0 maps.1) is)

pub with_read : (kind : TableKind) (material : ℕ) (bytes : List ℕ) (p : List Part × List ℕ) → all_parts_at kind material bytes ≡ Ok p
    → parts_at kind material bytes ≡ (all_maps_at kind p.0 p.1 >>= λ maps. sections_at kind material p.0 maps.0 maps.1)
with_read kind material bytes p is =
    parts_first kind material bytes ∙ ap (λ (x : Result (List Part × List ℕ) TableFault). x >>= λ p. all_maps_at kind p.0 p.1 >>= λ maps. sections_at kind material p.0 maps.0 maps.1) is

pub no_maps : (kind : TableKind) (material : ℕ) (bytes : List ℕ) (p : List Part × List ℕ) (e : TableFault) → all_parts_at kind material bytes ≡ Ok p → Fails e (all_maps_at kind p.0 p.1)
    → Fails e (parts_at kind material bytes)
no_maps kind material bytes p e is h =
    fails_on e (all_maps_at kind p.0 p.1) (parts_at kind material bytes) h
    (λ fault. with_read kind material bytes p is ∙ ap (λ (x : Result (List ValueMaps × List ℕ) TableFault). x >>= λ maps. sections_at kind material p.0 maps.0 maps.1) fault)

pub with_mapped : (kind : TableKind) (material : ℕ) (bytes : List ℕ) (p : List Part × List ℕ) (maps : List ValueMaps × List ℕ) → all_parts_at kind material bytes ≡ Ok p → all_maps_at kind p.0 p.1 ≡ Ok maps
    → sections_at kind material p.0 maps.0 maps.1 ≡ parts_at kind material bytes
with_mapped kind material bytes p maps is mapped =
    sym (with_read kind material bytes p is ∙ ap (λ (x : Result (List ValueMaps × List ℕ) TableFault). x >>= λ maps. sections_at kind material p.0 maps.0 maps.1) mapped)

pub if_given : {X Y : Type 0} (view : X → Y) (r : Result X TableFault) (read : Result Y TableFault) (P : X → Type 0) → Gives view r read → ((x : X) → read ≡ Ok (view x) → P x) → IfOk r P
if_given view (Ok x) read P g f = f x g
if_given view (Err e) read P g f = tt

-- ---- shapes

abbrev shaped : ℕ → ℕ → ℕ → List ℕ → (ℕ × ℕ × List ℕ) × List ℕ → Result (Layout × List ℕ) TableFault
shaped m sides k bytes s =
    shape_at m (map (nibble (side_of (k % sides))) s.0.2) (nibble (side_of (k % sides)) s.0.0) (nibble (side_of (k % sides)) s.0.1) (k / sides) >>= λ shape. Ok (shape, cond (eqb (k % sides + 1) sides) s.1 bytes)

men_first : (men : Result (List ℕ × List ℕ) TableFault) (m sides k : ℕ) (bytes : List ℕ) (order second : ℕ)
    → (men >>= λ n. shaped m sides k bytes ((order, second, n.0), n.1)) ≡ ((men >>= λ n. Ok ((order, second, n.0), n.1)) >>= shaped m sides k bytes)
men_first (Ok n) m sides k bytes order second = refl
men_first (Err e) m sides k bytes order second = refl

second_first : (second : Result (ℕ × List ℕ) TableFault) (men : List ℕ → Result (List ℕ × List ℕ) TableFault) (m sides k : ℕ) (bytes : List ℕ) (order : ℕ)
    → (second >>= λ s. men s.1 >>= λ n. shaped m sides k bytes ((order, s.0, n.0), n.1)) ≡ ((second >>= λ s. men s.1 >>= λ n. Ok ((order, s.0, n.0), n.1)) >>= shaped m sides k bytes)
second_first (Ok s) men m sides k bytes order = men_first (men s.1) m sides k bytes order s.0
second_first (Err e) men m sides k bytes order = refl

order_first : (order : Result (ℕ × List ℕ) TableFault) (second : List ℕ → Result (ℕ × List ℕ) TableFault) (men : List ℕ → Result (List ℕ × List ℕ) TableFault) (m sides k : ℕ) (bytes : List ℕ)
    → (order >>= λ o. second o.1 >>= λ s. men s.1 >>= λ n. shaped m sides k bytes ((o.0, s.0, n.0), n.1)) ≡ ((order >>= λ o. second o.1 >>= λ s. men s.1 >>= λ n. Ok ((o.0, s.0, n.0), n.1)) >>= shaped m sides k bytes)
order_first (Ok o) second men m sides k bytes = second_first (second o.1) men m sides k bytes o.0
order_first (Err e) second men m sides k bytes = refl

setup_first : (m sides k : ℕ) (bytes : List ℕ) → setup_at m sides k bytes ≡ (both_setups_at m bytes >>= shaped m sides k bytes)
unfolding setup_at both_setups_at
setup_first m sides k bytes = order_first (byte_at bytes) (second_at m) (taken_at (length (pieces_of m))) m sides k bytes

pub no_setup : (m sides k : ℕ) (bytes : List ℕ) (e : TableFault) → Fails e (both_setups_at m bytes) → Fails e (setup_at m sides k bytes)
no_setup m sides k bytes e h =
    fails_on e (both_setups_at m bytes) (setup_at m sides k bytes) h (λ is. setup_first m sides k bytes ∙ ap (λ (x : Result ((ℕ × ℕ × List ℕ) × List ℕ) TableFault). x >>= shaped m sides k bytes) is)

with_setups : (m sides k : ℕ) (bytes : List ℕ) (s : (ℕ × ℕ × List ℕ) × List ℕ) → both_setups_at m bytes ≡ Ok s → setup_at m sides k bytes ≡ shaped m sides k bytes s
with_setups m sides k bytes s is = setup_first m sides k bytes ∙ ap (λ (x : Result ((ℕ × ℕ × List ℕ) × List ℕ) TableFault). x >>= shaped m sides k bytes) is

pub no_shape : (m sides k : ℕ) (bytes : List ℕ) (s : (ℕ × ℕ × List ℕ) × List ℕ) (e : TableFault) → both_setups_at m bytes ≡ Ok s
    → Fails e (shape_at m (map (nibble (side_of (k % sides))) s.0.2) (nibble (side_of (k % sides)) s.0.0) (nibble (side_of (k % sides)) s.0.1) (k / sides)) → Fails e (setup_at m sides k bytes)
no_shape m sides k bytes s e is h =
    fails_on e (shape_at m (map (nibble (side_of (k % sides))) s.0.2) (nibble (side_of (k % sides)) s.0.0) (nibble (side_of (k % sides)) s.0.1) (k / sides)) (setup_at m sides k bytes) h
    (λ fault. with_setups m sides k bytes s is ∙ ap (λ (x : Result Layout TableFault). x >>= λ shape. Ok (shape, cond (eqb (k % sides + 1) sides) s.1 bytes)) fault)

pub with_shape : (m sides k : ℕ) (bytes : List ℕ) (s : (ℕ × ℕ × List ℕ) × List ℕ) (l : Layout) → both_setups_at m bytes ≡ Ok s
    → shape_at m (map (nibble (side_of (k % sides))) s.0.2) (nibble (side_of (k % sides)) s.0.0) (nibble (side_of (k % sides)) s.0.1) (k / sides) ≡ Ok l
    → setup_at m sides k bytes ≡ Ok (l, cond (eqb (k % sides + 1) sides) s.1 bytes)
with_shape m sides k bytes s l is shape =
    with_setups m sides k bytes s is ∙ ap (λ (x : Result Layout TableFault). x >>= λ shape. Ok (shape, cond (eqb (k % sides + 1) sides) s.1 bytes)) shape

-- what is left after a side's shape
pub left_after : (n sides : ℕ) (last : Bool) (rest bytes : List ℕ) → last ≡ eqb n sides → cond (eqb n sides) rest bytes ≡ cond last rest bytes
left_after n sides last rest bytes is = ap (λ b. cond b rest bytes) (sym is)
