-- What the rows say of games once one is put.
use Rattle.std.proofs.Common.{◌≡◌, inl, inr, ◌<◌, ◌^◌, ◌&&◌, ◌||◌, ℕ, pos, List, [], ◌∷◌, length, Bool, true, false, cond, not, Some, None, refl, sym, ap, ◌∙◌, subst, arith, Ordering, Less, Equal, Greater}
use Rattle.std.specs.Ordering.{is_eq, match_ordering, int_cmp}
use Rattle.std.specs.Str.{bytes_eq}
use Rattle.std.proofs.lemmas.Bool.{cases_Bool}
use Rattle.std.proofs.lemmas.Bool.Decides.{nat_tests}
use Rattle.std.proofs.lemmas.Cmp.{tied_itself}
use Rattle.sqlite_value.specs.declared.value.Value.TheVariants.{Int}
use Rattle.sqlite_value.specs.Order.{Row, column, value_cmp}
use Rattle.sqlite_value.proofs.OrderLemmas.{value_cmp_total, value_cmp-Int}
use Rattle.sqlite_value.specs.declared.keys.Collation.{Collation}
use Rattle.sqlite_value.specs.declared.keys.Collation.TheVariants.{Binary, NoCase, RTrim}
use Rattle.sqlite_value.specs.Keys.{collated}
use Rattle.sqlite_sql.specs.Ops.{binary, is_true, from_truth}
use Rattle.sqlite_schema.specs.Rules.{equal}
use Rattle.sqlite_trees.specs.Tree.{rowid, has_rowid, put_row, without_rowid}
use Rattle.sqlite_rules.specs.Lists.{Has}
use Rattle.sqlite_rules.specs.Edit.{without_all, id_in}
use Rattle.sqlite_rules.specs.Calls.{ids_of}
use Rattle.sqlite_rules.specs.Keys.{conflicts}
use Rattle.system_io.specs.declared.record_store.Entry.{Entry}
use Rattle.system_io.specs.Records.{entry_record, with_entry}
use Rattle.game_store.specs.Rows.{HasPut, IsRow, AreRows, AreApart, Numbers, game_in, games_in, is_stamp_value, stored_row, table}
use Rattle.std.proofs.lemmas.Int.{ints}
use Rattle.game_store.proofs.SlotLemmas.{one_stamp, own_stamp}

pub same_id : (m n : ℕ) → value_cmp (Int (pos m)) (Int (pos n)) ≡ Equal → m ≡ n
same_id m n h = let k : int_cmp (pos m) (pos n) ≡ Equal = sym (value_cmp-Int (pos m) (pos n)) ∙ h in grind (arith, ints, nat_tests)

tied_ids : (how : Collation) (m n : ℕ) → collated how (Int (pos m)) (Int (pos n)) ≡ Equal → m ≡ n
tied_ids Binary m n h = same_id m n h
tied_ids NoCase m n h = same_id m n h
tied_ids RTrim m n h = same_id m n h

tested : (o : Ordering) → is_true (from_truth (Some (is_eq o))) ≡ true → o ≡ Equal
tested Less h = absurd (let e = h in cc)
tested Equal h = refl
tested Greater h = absurd (let e = h in cc)

equal_ids : (how : Collation) (m n : ℕ) → equal how (Int (pos m)) (Int (pos n)) ≡ true → m ≡ n
unfolding binary
equal_ids how m n h = tied_ids how m n (tested (collated how (Int (pos m)) (Int (pos n))) h)

first_part : (b : Bool) → ((b && true) || false) ≡ true → b ≡ true
first_part true h = refl
first_part false h = h

module _ (numbers : Numbers) (apart : AreApart numbers) (number : ℕ) (e : Entry) (has : numbers e.stamp ≡ Some number) (whole : length e.stamp ≡ 16) (low : number < 2 ^ 32) (few : e.count < 2 ^ 32) where
  abbrev new : Row
  new = stored_row number e

  is_row : IsRow numbers (stored_row number e)
  is_row = record { stamp = e.stamp; number = number; count = e.count; text = e.record.items; numbered = has; whole = whole; low = low; few = few; id_is = refl; stamp_is = refl; count_is = refl; text_is = refl }

  -- a row of the game has its number
  numbered : (r : Row) (s : List ℕ) → IsRow numbers r → s ≡ e.stamp → is_stamp_value s (column r 2) ≡ true → rowid r ≡ Int (pos number)
  numbered r s row is of =
      let said : bytes_eq row.stamp s ≡ true = rw row.stamp_is at of in
      let same : row.stamp ≡ e.stamp = one_stamp row.stamp s said ∙ is in
      let n : Some row.number ≡ Some number = sym row.numbered ∙ ap numbers same ∙ has in
      row.id_is ∙ ap (λ k. Int (pos k)) cc

  -- and a row with its number is of the game
  other : (r : Row) (s : List ℕ) → IsRow numbers r → (bytes_eq e.stamp s ≡ false) → value_cmp (rowid r) (Int (pos number)) ≡ Equal → is_stamp_value s (column r 2) ≡ false
  other r s row unlike tied =
      let n : row.number ≡ number = same_id row.number number (rw row.id_is at tied) in
      let same : row.stamp ≡ e.stamp = apart row.stamp e.stamp number (row.numbered ∙ ap (λ k. Some k) n) has in
      ap (is_stamp_value s) row.stamp_is ∙ ap (λ a. bytes_eq a s) same ∙ unlike

  -- ---- the rows without those of the number

  dropped : (r : Row) (rows : List Row) (b : Bool) → AreRows numbers (without_rowid (pos number) rows) → IsRow numbers r → AreRows numbers (cond b (r ∷ without_rowid (pos number) rows) (without_rowid (pos number) rows))
  dropped r rows true all one = (one, all)
  dropped r rows false all one = all

  rows_without : (rows : List Row) → AreRows numbers rows → AreRows numbers (without_rowid (pos number) rows)
  rows_without [] all = all
  rows_without (r ∷ rows) all = dropped r rows (not (has_rowid (pos number) r)) (rows_without rows all.1) all.0

  stays : (s : List ℕ) (r : Row) (rows : List Row) → games_in (without_rowid (pos number) rows) s ≡ games_in rows s → is_eq (value_cmp (rowid r) (Int (pos number))) ≡ false
      → games_in (without_rowid (pos number) (r ∷ rows)) s ≡ games_in (r ∷ rows) s
  stays s r rows tail apart_of = rw apart_of (ap (cond (is_stamp_value s (column r 2)) (Some (game_in r))) tail)

  one_less : (s : List ℕ) → bytes_eq e.stamp s ≡ false → (r : Row) (rows : List Row) → IsRow numbers r → games_in (without_rowid (pos number) rows) s ≡ games_in rows s
      → (o : Ordering) → value_cmp (rowid r) (Int (pos number)) ≡ o → games_in (without_rowid (pos number) (r ∷ rows)) s ≡ games_in (r ∷ rows) s
  one_less s unlike r rows row tail Less tied = stays s r rows tail (ap is_eq tied)
  one_less s unlike r rows row tail Greater tied = stays s r rows tail (ap is_eq tied)
  one_less s unlike r rows row tail Equal tied = rw (tied, other r s row unlike tied) tail

  games_without : (s : List ℕ) → bytes_eq e.stamp s ≡ false → (rows : List Row) → AreRows numbers rows → games_in (without_rowid (pos number) rows) s ≡ games_in rows s
  games_without s unlike [] all = refl
  games_without s unlike (r ∷ rows) all = one_less s unlike r rows all.0 (games_without s unlike rows all.1) (value_cmp (rowid r) (Int (pos number))) refl

  -- ---- the rows with the new one

  rows_by : (r : Row) (rows : List Row) → AreRows numbers (r ∷ rows) → AreRows numbers (put_row new rows) → (o : Ordering) → AreRows numbers (match_ordering o (r ∷ put_row new rows) (new ∷ rows) (new ∷ r ∷ rows))
  rows_by r rows all tail Less = (all.0, tail)
  rows_by r rows all tail Equal = (is_row, all.1)
  rows_by r rows all tail Greater = (is_row, all)

  rows_put : (rows : List Row) → AreRows numbers rows → AreRows numbers (put_row new rows)
  rows_put [] all = (is_row, tt)
  rows_put (r ∷ rows) all = rows_by r rows all (rows_put rows all.1) (value_cmp (rowid r) (Int (pos number)))

  games_by : (s : List ℕ) → bytes_eq e.stamp s ≡ false → (r : Row) (rows : List Row) → IsRow numbers r → games_in (put_row new rows) s ≡ games_in rows s
      → (o : Ordering) → value_cmp (rowid r) (Int (pos number)) ≡ o → games_in (match_ordering o (r ∷ put_row new rows) (new ∷ rows) (new ∷ r ∷ rows)) s ≡ games_in (r ∷ rows) s
  games_by s unlike r rows row tail Less tied = ap (cond (is_stamp_value s (column r 2)) (Some (game_in r))) tail
  games_by s unlike r rows row tail Equal tied = rw (unlike, other r s row unlike tied) refl
  games_by s unlike r rows row tail Greater tied = rw unlike refl

  games_put : (s : List ℕ) → bytes_eq e.stamp s ≡ false → (rows : List Row) → AreRows numbers rows → games_in (put_row new rows) s ≡ games_in rows s
  games_put s unlike [] all = rw unlike refl
  games_put s unlike (r ∷ rows) all = games_by s unlike r rows all.0 (games_put s unlike rows all.1) (value_cmp (rowid r) (Int (pos number))) refl

  first_here : (s : List ℕ) → s ≡ e.stamp → (more : List Row) → games_in (new ∷ more) s ≡ Some (entry_record e)
  first_here s is more = ap (λ b. cond b (Some (entry_record e)) (games_in more s)) (ap (bytes_eq e.stamp) is ∙ own_stamp e.stamp)

  skips : (s : List ℕ) → s ≡ e.stamp → (r : Row) → IsRow numbers r → value_cmp (rowid r) (Int (pos number)) ≡ Less → (b : Bool) → is_stamp_value s (column r 2) ≡ b → b ≡ false
  skips s is r row low false of = refl
  skips s is r row low true of =
      let tied : Less ≡ Equal = sym low ∙ ap (λ v. value_cmp v (Int (pos number))) (numbered r s row is of) ∙ tied_itself value_cmp_total (Int (pos number)) in
      absurd cc

  own_by : (s : List ℕ) → s ≡ e.stamp → (r : Row) (rows : List Row) → IsRow numbers r → games_in (put_row new rows) s ≡ Some (entry_record e)
      → (o : Ordering) → value_cmp (rowid r) (Int (pos number)) ≡ o → games_in (match_ordering o (r ∷ put_row new rows) (new ∷ rows) (new ∷ r ∷ rows)) s ≡ Some (entry_record e)
  own_by s is r rows row tail Less low = ap (λ b. cond b (Some (game_in r)) (games_in (put_row new rows) s)) (skips s is r row low (is_stamp_value s (column r 2)) refl) ∙ tail
  own_by s is r rows row tail Equal tied = first_here s is rows
  own_by s is r rows row tail Greater tied = first_here s is (r ∷ rows)

  own_put : (s : List ℕ) → s ≡ e.stamp → (rows : List Row) → AreRows numbers rows → games_in (put_row new rows) s ≡ Some (entry_record e)
  own_put s is [] all = first_here s is []
  own_put s is (r ∷ rows) all = own_by s is r rows all.0 (own_put s is rows all.1) (value_cmp (rowid r) (Int (pos number))) refl

  -- ---- a put

  without : (old found : List Row) → ((x : Row) → Has found x → id_in (rowid x) ≡ pos number) → AreRows numbers old
      → AreRows numbers (without_all old (ids_of found)) × ((s : List ℕ) → bytes_eq e.stamp s ≡ false → games_in (without_all old (ids_of found)) s ≡ games_in old s)
  without old [] is all = (all, λ s unlike. refl)
  without old (x ∷ more) is all =
      let rest = without (without_rowid (pos number) old) more (λ y has. is y (inr has)) (rows_without old all) in
      subst (λ n. AreRows numbers (without_all (without_rowid n old) (ids_of more))
      × ((s : List ℕ) → bytes_eq e.stamp s ≡ false → games_in (without_all (without_rowid n old) (ids_of more)) s ≡ games_in old s))
      (sym (is x (inl refl))) (rest.0, λ s unlike. rest.1 s unlike ∙ games_without s unlike old all)

  row_among : (rows : List Row) (r : Row) → AreRows numbers rows → Has rows r → IsRow numbers r
  row_among [] r all has = absurd has
  row_among (x ∷ rows) r all (inl is) = subst (IsRow numbers) (sym is) all.0
  row_among (x ∷ rows) r all (inr has) = row_among rows r all.1 has

  found_id : (r : Row) → IsRow numbers r → conflicts None [] table new r ≡ true → id_in (rowid r) ≡ pos number
  found_id r row met = ap id_in row.id_is ∙ ap pos (equal_ids _ row.number number (first_part _ (rw row.id_is at met)))

  pub put_rows : (old now : List Row) → AreRows numbers old → HasPut (stored_row number e) old now → AreRows numbers now × ((s : List ℕ) → games_in now s ≡ with_entry (games_in old) e s)
  put_rows old now all put =
      let ids = λ (x : Row) (has : Has put.found x).
      let it = put.are.sound x has in
      let id : id_in (rowid x) ≡ pos number = ap (λ (y : Row). id_in (rowid y)) it.3 ∙ found_id it.0 (row_among old it.0 all it.1) it.2 in id in
      let left = without old put.found ids all in
      let gone = without_all old (ids_of put.found) in
      let games : (s : List ℕ) → games_in (put_row new gone) s ≡ with_entry (games_in old) e s = λ s. elim (cases_Bool (bytes_eq e.stamp s)) [
        | inl is ↦ own_put s (sym (one_stamp e.stamp s is)) gone left.0 ∙ rw is refl
        | inr unlike ↦ games_put s unlike gone left.0 ∙ left.1 s unlike ∙ rw unlike refl
      ] in
      (subst (AreRows numbers) (sym put.rows) (rows_put gone left.0), λ s. ap (λ rows. games_in rows s) put.rows ∙ games s)
