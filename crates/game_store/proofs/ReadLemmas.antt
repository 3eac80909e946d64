-- What a new table has, and what the list of the games shows.
use Rattle.std.proofs.Common.{◌≡◌, ◌⊎◌, inl, inr, ℕ, pos, negsuc, List, [], ◌∷◌, map, flat_map, codes, false, None, Option, Ok, Err, Result, refl, sym, ap, subst, subst₂, ◌∙◌}
use Rattle.std.specs.List.Sorted.{IsPermutation}
use Rattle.std.proofs.lemmas.List.Sorted.{IsPermutation-map}
use Rattle.sqlite.specs.declared.types.Value.TheVariants.{Null, Int}
use Rattle.sqlite.specs.Order.{Row}
use Rattle.sqlite.specs.Term.{lit, col}
use Rattle.sqlite.specs.Query.{Query, inner, end, IsAnswer, output, Output}
use Rattle.sqlite.specs.Program.{overlay}
use Rattle.sqlite.specs.Command.TheVariants.{Select, CreateTable}
use Rattle.sqlite.specs.Compile.{table_defined_by}
use Rattle.sqlite.specs.Change.{created, next_tree}
use Rattle.sqlite.specs.Does.{Tally, Does, lacks_sequence}
use Rattle.sqlite_value.specs.Keys.{ascending}
use Rattle.sqlite_value.specs.declared.keys.Collation.TheVariants.{Binary}
use Rattle.sqlite.specs.declared.run.Mode.{Mode}
use Rattle.sqlite.specs.Tree.{Trees}
use Rattle.sqlite_tied.specs.Compute.{everything}
use Rattle.sqlite.specs.Listing.{understood, reads_listing}
use Rattle.sqlite.specs.Effect.{Database}
use Rattle.sqlite.specs.State.{State, mode_of, Writes, Executes, Shown, IsUnchanged, CommitsBy, CommitsShowing, ShowsRows, MayCommit}
use Rattle.sqlite.specs.Clock.{timed}
use Rattle.sqlite_catalog.specs.Listing.{IsSound}
use Rattle.sqlite.proofs.Callers.{IsPlain, command_of, statement_of, runs_as, reads_as, never_commits}
use Rattle.game_store.specs.Rows.{table, game_schema, no_schema, create_text, list_text, list_row}

abbrev query : Query
query = record {
  from = inner 0 end;
  filter = [];
  group = None;
  project = col 1 0 ∷ col 1 2 ∷ col 1 3 ∷ col 1 4 ∷ [];
  distinct = false;
  collations = [];
  order = (col 1 0, ascending Binary) ∷ [];
  limit = lit (Int (negsuc 0));
  offset = lit (Int (pos 0));
}

create_is : (command_of (understood no_schema create_text) ≡ CreateTable) × (statement_of create_text (understood no_schema create_text) ≡ create_text) × (table_defined_by create_text ≡ Ok table)
unfolding understood everything
create_is = (refl, refl, refl)

create_plain : IsPlain (understood no_schema create_text)
unfolding understood everything
create_plain = (refl, refl)

list_is : (command_of (understood game_schema list_text) ≡ Select (record { lets = []; body = query }) (codes "id" ∷ codes "stamp" ∷ codes "count" ∷ codes "record" ∷ [])) × (reads_listing game_schema list_text ≡ false)
unfolding understood everything
list_is = (refl, refl)

list_plain : IsPlain (understood game_schema list_text)
unfolding understood everything
list_plain = (refl, refl)

went : {B E R : Type 0} {b : B} {Stops : E → Type 0} → ((stop : E) × Stops stop × (Ok b ≡ Err stop)) ⊎ R → R
went (inl stopped) = absurd (let e = stopped.2 in cc)
went (inr on) = on

same_value : {B E : Type 0} {a b : B} → ◌≡◌ {A = Result B E} (Ok a) (Ok b) → a ≡ b
same_value e = cc

-- a new table is that of the games, with no row
made : (limit : Option ℕ) (mode : Mode) (db after : Database) (tally : Tally) → db.schema ≡ no_schema → Does limit mode [] db create_text None CreateTable (Ok (tally, after))
    → (after.schema ≡ game_schema) × (after.trees 0 ≡ [])
made limit mode db after tally has h =
    let all = went h in
    let first = went all.1 in
    let it = first.1 in
    let both : Ok it.table ≡ Ok table = sym it.defined ∙ create_is.2 in
    let same : it.table ≡ table = cc in
    let schema : first.0.schema ≡ game_schema = it.is ∙ ap (λ s. created s it.table) has ∙ ap (created no_schema) same in
    let plain : lacks_sequence first.0.schema ≡ false = ap lacks_sequence schema in
    let now : after ≡ first.0 = ap (λ (p : Tally × Database). p.1) (same_value all.2) ∙ same_value (rw plain at first.2) in
    (ap (λ (d : Database). d.schema) now ∙ schema, ap (λ (d : Database). d.trees 0) now ∙ subst (λ s. first.0.trees (next_tree s) ≡ []) has it.empty)

pub creates : (old new : State) (count : ℕ) → old.now.schema ≡ no_schema → Executes create_text [] old new (Ok count)
    → Writes old new None CreateTable create_text [] count × (new.now.schema ≡ game_schema) × (new.now.trees 0 ≡ [])
creates old new count has h =
    let w = subst (λ t. Writes old new None CreateTable t [] count) create_is.1 (runs_as create_text [] old new no_schema has CreateTable create_is.0 create_plain count h) in
    let now = made old.step_limit (mode_of old) old.now new.now w.tally has w.changed in (w, now.0, now.1)

pub list_commits_nothing : (s : State) (db : Trees) → s.now.schema ≡ game_schema → ¬ CommitsShowing list_text [] s db
list_commits_nothing s db has = never_commits list_text [] s db (subst (λ sc. IsPlain (understood sc list_text)) (sym has) list_plain)

outputs : (rows : List Row) → map (λ (o : Output). o.1) (map (output query) (flat_map (λ r. ([] ∷ r ∷ []) ∷ []) rows)) ≡ map list_row rows
outputs [] = refl
outputs (r ∷ rows) = ap (λ more. list_row r ∷ more) (outputs rows)

pub lists : (old new : State) (rows : List Row) → old.now.schema ≡ game_schema → Shown list_text [] old new rows → IsPermutation (map list_row (old.now.trees 0)) rows
lists old new rows has h =
    let got = (reads_as list_text [] old new game_schema has _ list_is.0 list_plain list_is.1 rows h).answer in
    let a : IsAnswer query (overlay old.now.trees []) [] rows = got Null in
    let kept : a.kept ≡ map (output query) (flat_map (λ r. ([] ∷ r ∷ []) ∷ []) (old.now.trees 0)) = a.distinct ∙ ap (map (output query)) a.grouped in
    let all : map (λ (o : Output). o.1) a.kept ≡ map list_row (old.now.trees 0) = ap (map (λ (o : Output). o.1)) kept ∙ outputs (old.now.trees 0) in
    let given : rows ≡ map (λ (o : Output). o.1) a.ordered = a.shown in
    subst (λ xs. IsPermutation xs rows) all (subst (IsPermutation (map (λ (o : Output). o.1) a.kept)) (sym given) (IsPermutation-map (λ (o : Output). o.1) a.kept a.ordered a.same))

pub list_keeps : (old new : State) (rows : List Row) → old.now.schema ≡ game_schema → Shown list_text [] old new rows → IsUnchanged old new
unfolding Shown
list_keeps old new rows has h =
    let plain = subst (λ sc. IsPlain (understood sc list_text)) (sym has) list_plain in
    let none = (subst IsPlain h.1.is plain).0 in
    (subst (ShowsRows old new list_text h.0 (timed [] h.0.formats h.1.now) rows) none h.2).3

written : (s : State) (db : Trees) → s.now.schema ≡ no_schema → MayCommit s None CreateTable create_text [] db → IsSound game_schema db × (db 0 ≡ [])
written s db has (inl (inl other, is)) = absurd (let e = other in cc)
written s db has (inl (inr other, is)) = absurd (let e = other.2 in cc)
written s db has (inr it) =
    let now = made s.step_limit (mode_of s) s.now it.2 it.1 has it.3 in
    (subst (IsSound game_schema) (sym it.5) (subst (λ sc. IsSound sc it.2.trees) now.0 it.4), ap (λ (t : Trees). t 0) it.5 ∙ now.1)

-- a stop while the table is made leaves the database, or the table with no row
pub creates_nothing : (s : State) (db : Trees) → s.now.schema ≡ no_schema → CommitsBy create_text [] s db → IsSound game_schema db × (db 0 ≡ [])
unfolding CommitsBy
creates_nothing s db has h =
    let known : understood no_schema create_text ≡ Ok h.0 = sym (ap (λ sc. understood sc create_text) has) ∙ h.1.is in
    let bare = subst IsPlain known create_plain in
    written s db has (subst₂ (λ k t. MayCommit s None k t [] db) (sym (ap command_of known) ∙ create_is.0) (sym (ap (statement_of create_text) known) ∙ create_is.1) (rw (bare.0, bare.1) at h.2))
