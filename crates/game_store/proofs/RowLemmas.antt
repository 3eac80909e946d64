-- What the texts of the store mean.
use Rattle.std.proofs.Common.{◌≡◌, ◌⊎◌, inl, inr, ℕ, ℤ, pos, List, [], ◌∷◌, Bool, true, false, cond, Some, None, Option, Ok, Err, Result, refl, sym, ap, subst, ◌∙◌}
use Rattle.sqlite.specs.Term.{Term, lit, col}
use Rattle.sqlite.specs.Ops.{unary}
use Rattle.sqlite.specs.Order.{Row}
use Rattle.sqlite.specs.Tree.{Trees}
use Rattle.sqlite.specs.Source.TheVariants.{Values}
use Rattle.sqlite.specs.Command.TheVariants.{InsertOr}
use Rattle.sqlite.specs.Kind.TheVariants.{Integer}
use Rattle.sqlite.specs.declared.types.Value.{Value}
use Rattle.sqlite.specs.declared.types.Value.TheVariants.{Null, Int, Blob}
use Rattle.sqlite_schema.specs.declared.command.Conflict.TheVariants.{Replace}
use Rattle.sqlite_schema.specs.declared.schema.Keys.TheVariants.{Enforced}
use Rattle.sqlite.specs.Listing.{understood}
use Rattle.sqlite_tied.specs.Compute.{everything}
use Rattle.sqlite.proofs.Callers.{IsPlain, command_of, statement_of, runs_as, one_step}
use Rattle.sqlite.specs.Cast.{cast}
use Rattle.sqlite_rules.specs.Cast.{cast_row}
use Rattle.sqlite.specs.Edit.{edit_of}
use Rattle.sqlite_rules.specs.Edit.{with_rowid, without_all}
use Rattle.sqlite_rules.specs.Calls.{ids_of}
use Rattle.sqlite.specs.Rowids.TheVariants.{Given}
use Rattle.sqlite_trees.specs.Tree.{put_row}
use Rattle.sqlite_rules.specs.declared.error.Refusal.{Refusal}
use Rattle.sqlite.specs.Does.{Tally, Does}
use Rattle.sqlite.specs.Rows.{Written, Task, TriesEach, Tries, Clears, Puts, Judged, nothing, rowids_for, mended, count_of}
use Rattle.sqlite.specs.Effect.{Database, IsDatabase}
use Rattle.sqlite.specs.State.{State, mode_of, Executes}
use Rattle.system_io.specs.declared.record_store.Entry.{Entry}
use Rattle.game_store.specs.Rows.{HasPut, table, game_schema, put_parameters, put_text, stored_row}

abbrev terms : List Term
terms = col 0 0 ∷ lit Null ∷ col 0 1 ∷ col 0 2 ∷ col 0 3 ∷ []

put_is : command_of (understood game_schema put_text) ≡ InsertOr 0 Replace (Values terms 5) []
unfolding understood everything
put_is = refl

put_plain : IsPlain (understood game_schema put_text)
unfolding understood everything
put_plain = (refl, refl)

either : (b : Bool) (x : Value) → cond b x x ≡ x
either true x = refl
either false x = refl

cast_null : cast Integer Null ≡ Null
unfolding unary
cast_null = either _ Null

cast_int : (n : ℤ) → cast Integer (Int n) ≡ Int n
unfolding unary
cast_int n = either _ (Int n)

went : {B E R : Type 0} {b : B} {Stops : E → Type 0} → ((stop : E) × Stops stop × (Ok b ≡ Err stop)) ⊎ R → R
went (inl stopped) = absurd (let e = stopped.2 in cc)
went (inr on) = on

same_value : {B E : Type 0} {a b : B} → ◌≡◌ {A = Result B E} (Ok a) (Ok b) → a ≡ b
same_value e = cc

again : (id : ℕ) (e : Entry) → cast_row table (stored_row id e) ≡ stored_row id e
again id e =
    let row = λ (a b c : Value). a ∷ b ∷ Blob e.stamp ∷ c ∷ Blob e.record.items ∷ [] in
    ap (λ a. row a (cast Integer Null) (cast Integer (Int (pos e.count)))) (cast_int (pos id))
    ∙ ap (λ b. row (Int (pos id)) b (cast Integer (Int (pos e.count)))) cast_null
    ∙ ap (λ c. row (Int (pos id)) Null c) (cast_int (pos e.count))

-- the row as it is stored is what a write makes of it
fixed : (top : ℤ) (rows : List Row) (id : ℕ) (e : Entry)
    → with_rowid (rowids_for table top) rows (cast_row table (mended Replace table (stored_row id e))) ≡ stored_row id e
fixed top rows id e = ap (with_rowid (rowids_for table top) rows) (again id e)

module _ (limit : Option ℕ) (params : Row) (id : ℕ) (e : Entry) where
  abbrev task : Task
  task = record { limit = limit; keys = Enforced; schema = game_schema; table = table; params = params }

  abbrev row : Row
  row = stored_row id e

  placed : (db : Trees) (out : Written) → Puts task row db (Ok out) → out.trees 0 ≡ put_row row (db 0)
  placed db out h =
      let p = went h in
      ap (λ (w : Written). w.trees 0) (same_value p.2)
      ∙ (one_step game_schema Enforced db p.0 (edit_of db table [] Given 0 (row ∷ [])) refl p.1).rows
      ∙ ap (λ r. put_row r (db 0)) (again id e)

  cleared : (db : Trees) (out : Written) (found : List Row) → Clears task Replace row db found (Ok out) → out.trees 0 ≡ put_row row (without_all (db 0) (ids_of found))
  cleared db out [] h = placed db out h
  cleared db out (x ∷ more) h =
      let p = went h in
      placed p.0 out p.2 ∙ ap (put_row row) (one_step game_schema Enforced db p.0 (edit_of db table (ids_of (x ∷ more)) Given 0 []) refl p.1).rows

  judged : (db : Trees) (out : Written) (verdict : Option Refusal) → Judged task Replace [] row db verdict (Ok out) → HasPut row (db 0) (out.trees 0)
  judged db out None h = record { found = h.0; are = h.1; rows = cleared db out h.0 h.2 }
  judged db out (Some why) h = absurd (let e = h in cc)

  met : (db : Trees) (out : Written) → Tries task Replace [] row db (Ok out) → HasPut row (db 0) (out.trees 0)
  met db out (inl none) = absurd (let e = none.1 in cc)
  met db out (inr it) = judged db out it.0 it.2

pub puts : (old new : State) (id : ℕ) (e : Entry) (n : ℕ) → old.now.schema ≡ game_schema → Executes put_text (put_parameters id e) old new (Ok n)
    → (new.now.schema ≡ game_schema) × IsDatabase new.now × HasPut (stored_row id e) (old.now.trees 0) (new.now.trees 0)
puts old new id e n has h =
    let params = put_parameters id e in
    let db = old.now.trees in
    let command = InsertOr 0 Replace (Values terms 5) [] in
    let w = runs_as put_text params old new game_schema has command put_is put_plain n h in
    let text = statement_of put_text (understood game_schema put_text) in
    let done = went (subst (λ s. Does old.step_limit (mode_of old) params (record old.now { schema = s }) text None command (Ok (w.tally, new.now))) has w.changed) in
    let now = ap (λ (p : Tally × Database). p.1) (same_value (went (went done.2).2).2) in
    let values = went done.1 in
    let counter = went values.2 in
    let tried = went counter.2 in
    let counted = went tried.2 in
    let trees : done.0.trees ≡ tried.0.0.trees = ap (λ (it : Written). it.trees) (same_value counted.2) ∙ same_value counted.1 in
    let task : Task = record { limit = old.step_limit; keys = Enforced; schema = game_schema; table = table; params = params } in
    let row = stored_row id e in
    let tries = subst (λ rows. TriesEach task Replace [] rows (count_of counter.0) (nothing db) (Ok tried.0)) values.1.1 tried.1 in
    let one = went tries in
    let last : tried.0.0.trees ≡ one.0.trees = ap (λ (p : Written × ℤ). p.0.trees) (same_value one.2) in
    let single = subst (λ r. Tries task Replace [] r db (Ok one.0)) (fixed (count_of counter.0) (db 0) id e) one.1 in
    let all : new.now.trees 0 ≡ one.0.trees 0 = ap (λ (d : Database). d.trees 0) now ∙ ap (λ (t : Trees). t 0) (trees ∙ last) in
    (ap (λ (d : Database). d.schema) now, w.sound, subst (HasPut row (db 0)) (sym all) (met old.step_limit params id e db one.0 single))
