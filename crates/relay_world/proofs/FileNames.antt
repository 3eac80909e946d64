-- The file names that a manifest may have are those of table files.
use Rattle.std.proofs.Common.{◌≡◌, ◌<◌, ◌≤◌, ◌+◌, ◌-◌, ◌⊎◌, ℕ, zero, suc, Bool, true, false, cond, List, [], ◌∷◌, ◌++◌, map, length, refl, sym, ap, ◌∙◌, arith, inl, inr}
use Rattle.std.specs.Prelude.{◌==◌, slice_index}
use Rattle.std.proofs.lemmas.Bool.{and_from, and_parts, or_cases, eqb-true, leb-true, ltb-true, le-leb, lt-ltb}
use Rattle.std.proofs.lemmas.List.{length-map}
use Rattle.place_index.specs.Material.{Men, IsInOrder, IsTable, TablesAreNumbered, letter, name_at, name_of, men_of}
use Rattle.table_file.specs.declared.kind.TableKind.{TableKind}
use Rattle.table_file.specs.declared.kind.TableKind.TheVariants.{Wdl, Dtz}
use Rattle.table_file.specs.Names.{ending, file_name}
use Rattle.move_msg.specs.TableNames.{man_place, are_men_from, are_paired, IsTableName, IsFileName}
use Rattle.relay_world.specs.FileNames.{FileNamesAreThoseOfTables}

-- ---- the name of a table's file is a file name

place_of : (a : ℕ) → 1 ≤ a → a ≤ 5 → man_place (letter a) ≡ 5 - a
place_of zero l u = absurd (omega arith)
place_of (suc zero) l u = refl
place_of (suc (suc zero)) l u = refl
place_of (suc (suc (suc zero))) l u = refl
place_of (suc (suc (suc (suc zero)))) l u = refl
place_of (suc (suc (suc (suc (suc zero))))) l u = refl
place_of (suc (suc (suc (suc (suc (suc n)))))) l u = absurd (omega arith)

men_from : (most : ℕ) (xs : List ℕ) → most ≤ 5 → IsInOrder most xs → are_men_from (5 - most) (map letter xs) ≡ true
unfolding are_men_from
men_from most [] l h = refl
men_from most (a ∷ rest) l h =
    let one : 1 ≤ a = h.0 in
    let low : a ≤ most = h.1 in
    rw (place_of a one (omega arith)) (and_from _ _ (le-leb (5 - most) (5 - a) (omega arith)) (and_from _ _ (lt-ltb (5 - a) 5 (omega arith)) (men_from a rest (omega arith) h.2)))

paired_by : (first second : List ℕ) → IsInOrder 5 first → IsInOrder 5 second → 1 ≤ length first → length second ≤ length first → length first + length second ≤ 3 → (length first ≡ length second → slice_index second 0 ≤ slice_index first 0) → are_paired (map letter first) (map letter second) ≡ true
paired_by [] second f s one more few earlier = absurd (omega arith)
paired_by (a ∷ []) [] f s one more few earlier = refl
paired_by (a ∷ []) (b ∷ []) f s one more few earlier =
    let le : b ≤ a = earlier refl in
    rw (place_of a f.0 f.1, place_of b s.0 s.1) (le-leb (5 - a) (5 - b) (omega arith))
paired_by (a ∷ []) (b ∷ c ∷ d) f s one more few earlier = absurd (omega arith)
paired_by (a ∷ b ∷ []) [] f s one more few earlier = refl
paired_by (a ∷ b ∷ []) (c ∷ []) f s one more few earlier = refl
paired_by (a ∷ b ∷ []) (c ∷ d ∷ e) f s one more few earlier = absurd (omega arith)
paired_by (a ∷ b ∷ c ∷ []) [] f s one more few earlier = refl
paired_by (a ∷ b ∷ c ∷ []) (d ∷ e) f s one more few earlier = absurd (omega arith)
paired_by (a ∷ b ∷ c ∷ d ∷ e) second f s one more few earlier = absurd (omega arith)

is_table_name : (m : Men) → IsTable m → IsTableName (75 ∷ map letter m.first ++ 118 ∷ 75 ∷ map letter m.second)
is_table_name m t = record {
  first = map letter m.first;
  second = map letter m.second;
  first_men = men_from 5 m.first (omega arith) t.first;
  second_men = men_from 5 m.second (omega arith) t.second;
  paired = paired_by m.first m.second t.first t.second t.one t.more t.few t.earlier;
  text = refl;
}

pub is_file_name : TablesAreNumbered → (kind : TableKind) (m : ℕ) → m < 145 → IsFileName (file_name kind m)
unfolding file_name
is_file_name law Wdl m l = record { table = name_at m; is_table = is_table_name (men_of m) (law.0 m l); ending = inl refl }
is_file_name law Dtz m l = record { table = name_at m; is_table = is_table_name (men_of m) (law.0 m l); ending = inr refl }

-- ---- a file name is the name of a table's file

-- the letter of a man's place
letter_at : (x : ℕ) → man_place x < 5 → letter (5 - man_place x) ≡ x
letter_at x lt = by (x == 81) (x == 82) (x == 66) (x == 78) (x == 80) refl refl refl refl refl lt
  where
    by : (q r b n p : Bool) → (x == 81) ≡ q → (x == 82) ≡ r → (x == 66) ≡ b → (x == 78) ≡ n → (x == 80) ≡ p → cond q 0 (cond r 1 (cond b 2 (cond n 3 (cond p 4 5)))) < 5 → letter (5 - cond q 0 (cond r 1 (cond b 2 (cond n 3 (cond p 4 5))))) ≡ x
    by true r b n p eq er eb en ep lt = sym (eqb-true x 81 eq)
    by false true b n p eq er eb en ep lt = sym (eqb-true x 82 er)
    by false false true n p eq er eb en ep lt = sym (eqb-true x 66 eb)
    by false false false true p eq er eb en ep lt = sym (eqb-true x 78 en)
    by false false false false true eq er eb en ep lt = sym (eqb-true x 80 ep)
    by false false false false false eq er eb en ep lt = absurd (omega arith)

-- the men whose letters these are
record AreLetters (most : ℕ) (letters : List ℕ) : Type 0 where
  pub men : List ℕ
  pub in_order : IsInOrder most men
  pub are : letters ≡ map letter men

men_of_letters : (least : ℕ) (letters : List ℕ) → are_men_from least letters ≡ true → AreLetters (5 - least) letters
unfolding are_men_from
men_of_letters least [] e = record { men = []; in_order = tt; are = refl }
men_of_letters least (x ∷ rest) e =
    let a = and_parts _ _ e in
    let b = and_parts _ _ a.1 in
    let low : least ≤ man_place x = leb-true _ _ a.0 in
    let man : man_place x < 5 = ltb-true _ _ b.0 in
    let more = men_of_letters (man_place x) rest b.1 in
    record {
      men = (5 - man_place x) ∷ more.men;
      in_order = (omega arith, omega arith, more.in_order);
      are = ap (λ y. y ∷ rest) (sym (letter_at x man)) ∙ ap (λ ys. letter (5 - man_place x) ∷ ys) more.are;
    }

-- what pairs two sides
record ArePaired (first second : List ℕ) : Type 0 where
  pub one : 1 ≤ length first
  pub few : length first + length second ≤ 3
  pub more : (length second < length first) ⊎ ((length first ≡ length second) × (man_place (slice_index first 0) ≤ man_place (slice_index second 0)))

paired : (first second : List ℕ) → are_paired first second ≡ true → ArePaired first second
paired first second e =
    let a = and_parts _ _ e in
    let b = and_parts _ _ a.1 in
    record {
      one = ltb-true _ _ a.0;
      few = leb-true _ _ b.0;
      more = elim (or_cases _ _ b.1) [
        | inl less ↦ inl (ltb-true _ _ less)
        | inr same ↦ let c = and_parts _ _ same in inr (eqb-true _ _ c.0, leb-true _ _ c.1)
      ];
    }

-- at equal numbers the earlier letter is that of the first side
earlier : (first second : List ℕ) → IsInOrder 5 first → IsInOrder 5 second → 1 ≤ length first → ArePaired (map letter first) (map letter second) → length first ≡ length second → slice_index second 0 ≤ slice_index first 0
earlier [] second f s one p same = absurd (omega arith)
earlier (a ∷ xs) [] f s one p same = absurd (omega arith)
earlier (a ∷ xs) (b ∷ ys) f s one p same =
    let al : length (map letter xs) ≡ length xs = length-map xs letter in
    let bl : length (map letter ys) ≡ length ys = length-map ys letter in
    elim p.more [
      | inl less ↦ absurd (omega (arith, less, al, bl, same))
      | inr le ↦ let places : 5 - a ≤ 5 - b = rw (sym (place_of a f.0 f.1), sym (place_of b s.0 s.1)) le.1 in let low : b ≤ 5 = s.1 in omega arith
    ]

table_of : (name : List ℕ) → IsTableName name → (m : Men) × IsTable m × (name_of m ≡ name)
table_of name t =
    let f = men_of_letters 0 t.first t.first_men in
    let s = men_of_letters 0 t.second t.second_men in
    let p : ArePaired (map letter f.men) (map letter s.men) = rw (sym f.are, sym s.are) (paired t.first t.second t.paired) in
    let fs : length (map letter f.men) ≡ length f.men = length-map f.men letter in
    let ss : length (map letter s.men) ≡ length s.men = length-map s.men letter in
    let one : 1 ≤ length f.men = omega (arith, p.one, fs) in (
      record { first = f.men; second = s.men },
      record {
        first = f.in_order;
        second = s.in_order;
        one = one;
        more = elim p.more [
          | inl less ↦ omega (arith, less, fs, ss)
          | inr same ↦ omega (arith, same.0, fs, ss)
        ];
        few = omega (arith, p.few, fs, ss);
        earlier = earlier f.men s.men f.in_order s.in_order one p;
      },
      rw (sym f.are, sym s.are) (sym t.text),
    )

pub file_names_are_those_of_tables : TablesAreNumbered → FileNamesAreThoseOfTables
unfolding file_name
file_names_are_those_of_tables law = (
  λ name file.
      let t = table_of file.table file.is_table in
      let k = law.1 t.0 t.1 in
      let is : name_at k.0 ≡ file.table = ap name_of k.2 ∙ t.2 in
      elim file.ending [
        | inl w ↦ (Wdl, k.0, k.1, w ∙ ap (λ n. n ++ ending Wdl) (sym is))
        | inr z ↦ (Dtz, k.0, k.1, z ∙ ap (λ n. n ++ ending Dtz) (sym is))
      ],
  is_file_name law,
)
