-- Names of files: how long they are, and how they stand among others.
use Rattle.std.proofs.Common.{◌≡◌, ◌<◌, ◌≤◌, ◌+◌, ◌++◌, ℕ, zero, suc, Bool, true, false, List, [], ◌∷◌, length, map, take, drop, get_or, codes, refl, sym, ap, ◌∙◌, subst, inl, inr, arith, length-append, append_assoc, take-append-drop}
use Rattle.std.proofs.lemmas.List.{take_more, map-append}
use Rattle.std.proofs.lemmas.List.Elements.{Contains-push_cases, Contains-append_right, Contains-append_left, Contains-append_cases, Contains-push}
use Rattle.std.specs.Prelude.{◌&&◌}
use Rattle.std.specs.List.{Contains}
use Rattle.std.specs.Ordering.{nat_cmp}
use Rattle.std.specs.Cmp.Lexicographic.{slice_cmp}
use Rattle.std.specs.declared.cmp.Ordering.TheVariants.{Less, Equal, Greater}
use Rattle.std.proofs.lemmas.Bool.{leb-true}
use Rattle.std.proofs.lemmas.Cmp.{nat_list_cmp_total}
use Rattle.std.proofs.lemmas.Map.Lookups.{exact_bytes}
use Rattle.std.specs.Ordering.{ordering_reverse}
use Rattle.std.specs.Prelude.{String, string_bytes}
use Rattle.std.specs.Global.{Global}
use Rattle.move_msg.specs.declared.manifest.Line.{Line}
use Rattle.move_msg.specs.Manifests.{Entry, entry_of}
use Rattle.move_msg.specs.Files.{File, AreFiles, AreNamed, AreSorted}
use Rattle.task_files.specs.FileNames.{AreRisingNames, IsNameBefore, names_of}
use Rattle.std.specs.Str.{bytes_eq}
use Rattle.std.proofs.lemmas.Slice.Eq.{bytes_eq-Decides}
use Rattle.std.proofs.Common.{Option}
use Rattle.move_msg.specs.ToldManifests.{ToldManifest}
use Rattle.task_files.specs.Outside.{AreWantedOf, IsWanted, ListsTwice}
use Rattle.task_files.specs.Inside.Placing.{IsNamePlace, AddsName}
use Rattle.move_msg.specs.TableNames.{IsTableName, IsFileName}

both : (a b : Bool) → (a && b) ≡ true → (a ≡ true) × (b ≡ true)
both true b e = (refl, e)
both false b e = let f = e in cc

table_short : (name : List ℕ) → IsTableName name → length name ≤ 6
table_short name t =
    let few : length t.first + length t.second ≤ 3 = leb-true (length t.first + length t.second) 3 (both _ _ (both _ _ t.paired).1).0 in
    rw t.text (omega (arith, length-append (75 ∷ t.first) (118 ∷ 75 ∷ t.second)))

-- a file's name has at most 11 bytes
pub name_short : (name : List ℕ) → IsFileName name → length name ≤ 16
name_short name f =
    let short = table_short f.table f.is_table in
    elim f.ending [
      | inl w ↦ rw w (omega (arith, length-append f.table (codes ".rtbw")))
      | inr z ↦ rw z (omega (arith, length-append f.table (codes ".rtbz")))
    ]

-- ---- names one by one

-- what is told of a list is told of its elements in turn
pub record InTurn {X : Type 0} (names : List X → List (List ℕ)) (view : X → List ℕ) : Type 0 where
  pub joined : (xs ys : List X) → names (xs ++ ys) ≡ names xs ++ names ys
  pub one : (x : X) → names (x ∷ []) ≡ view x ∷ []

pub one_more : {X : Type 0} {names : List X → List (List ℕ)} {view : X → List ℕ} (t : InTurn names view) (xs : List X) (i : ℕ) (d : X) → i < length xs → names (take (i + 1) xs) ≡ names (take i xs) ++ view (get_or xs i d) ∷ []
one_more {names = names} t xs i d within =
    ap names (take_more xs i d within) ∙ t.joined (take i xs) (get_or xs i d ∷ []) ∙ ap (λ last. names (take i xs) ++ last) (t.one (get_or xs i d))

pub split_at : {X : Type 0} {names : List X → List (List ℕ)} {view : X → List ℕ} (t : InTurn names view) (xs : List X) (i : ℕ) → names xs ≡ names (take i xs) ++ names (drop i xs)
split_at {names = names} t xs i = sym (ap names (take-append-drop i xs)) ∙ t.joined (take i xs) (drop i xs)

pub parted : {X : Type 0} {names : List X → List (List ℕ)} {view : X → List ℕ} (t : InTurn names view) (xs : List X) (i : ℕ) (d : X) → i < length xs → names xs ≡ names (take i xs) ++ (view (get_or xs i d) ∷ names (drop (i + 1) xs))
parted {names = names} {view = view} t xs i d within =
    split_at t xs (i + 1) ∙ ap (λ first. first ++ names (drop (i + 1) xs)) (one_more t xs i d within)
    ∙ append_assoc (names (take i xs)) (view (get_or xs i d) ∷ []) (names (drop (i + 1) xs))

pub lacks_more : (old new : List (List ℕ)) (other name : List ℕ) → new ≡ old ++ other ∷ [] → (Contains old name → ⊥) → (other ≡ name → ⊥) → Contains new name → ⊥
lacks_more old new other name is none differs h =
    elim (Contains-push_cases old other name (subst (λ ns. Contains ns name) is h)) [ inl before ↦ none before | inr same ↦ differs same ]

pub has_at : (names before after : List (List ℕ)) (name other : List ℕ) → names ≡ before ++ (other ∷ after) → other ≡ name → Contains names name
has_at names before after name other is same =
    subst (λ ns. Contains ns name) (sym is) (Contains-append_right before (other ∷ after) name (0, omega arith, same))

-- the names of a manifest's lines
pub entry_names : InTurn {X = Line} (λ lines. map (λ (e : Entry). e.name) (map entry_of lines)) (λ line. line.name.bytes)
entry_names = record {
  joined = λ xs ys. ap (map (λ (e : Entry). e.name)) (map-append entry_of xs ys) ∙ map-append (λ (e : Entry). e.name) (map entry_of xs) (map entry_of ys);
  one = λ x. refl;
}

-- the names of a folder
pub texts : InTurn {X = String Global} (map string_bytes) string_bytes
texts = record { joined = map-append string_bytes; one = λ x. refl }

-- names that compare equal are the same
pub same_names : (a b : List ℕ) → slice_cmp nat_cmp a b ≡ Equal → a ≡ b
same_names = exact_bytes

pub later : (a b : List ℕ) → slice_cmp nat_cmp a b ≡ Greater → slice_cmp nat_cmp b a ≡ Less
later a b greater = nat_list_cmp_total.antisymm b a ∙ ap ordering_reverse greater

pub same_bytes : (a b : List ℕ) → bytes_eq a b ≡ true → a ≡ b
same_bytes a b e = (bytes_eq-Decides a b).0 e

pub other_bytes : (a b : List ℕ) → bytes_eq a b ≡ false → a ≡ b → ⊥
other_bytes a b e same = let d = (bytes_eq-Decides a b).1 same in let f = sym e ∙ d in cc

-- ---- a name more among rising ones

-- the first of rising names
first_before : (a : List ℕ) (names : List (List ℕ)) → (0 < length names → IsNameBefore a (get_or names 0 a)) → AreRisingNames names → AreRisingNames (a ∷ names)
first_before a [] h r = tt
first_before a (b ∷ names) h r = (h (omega arith), r)

tail_rises : (a : List ℕ) (names : List (List ℕ)) → AreRisingNames (a ∷ names) → AreRisingNames names
tail_rises a [] r = tt
tail_rises a (b ∷ names) r = r.1

rises : (names : List (List ℕ)) (name : List ℕ) (place : ℕ) → AreRisingNames names → place ≤ length names → ((k : ℕ) → k < place → IsNameBefore (get_or names k name) name) → (place < length names → IsNameBefore name (get_or names place name)) → AreRisingNames (take place names ++ name ∷ drop place names)
rises [] name zero r within before after = tt
rises [] name (suc place) r within before after = absurd (omega arith)
rises (a ∷ names) name zero r within before after = (after (omega arith), r)
rises (a ∷ []) name (suc zero) r within before after = (before 0 (omega arith), tt)
rises (a ∷ []) name (suc (suc place)) r within before after = absurd (omega arith)
rises (a ∷ b ∷ names) name (suc zero) r within before after =
    (before 0 (omega arith), (after (omega arith), r.1))
rises (a ∷ b ∷ names) name (suc (suc place)) r within before after =
    (r.0, rises (b ∷ names) name (suc place) r.1 (omega arith) (λ k lt. before (suc k) (omega arith)) (λ lt. after (omega arith)))

pub adds : (old new : List (List ℕ)) (name : List ℕ) (place : ℕ) → AreRisingNames old → IsNamePlace old name place → new ≡ take place old ++ name ∷ drop place old → AddsName old name new
adds old new name place r p is = record {
  rising = subst AreRisingNames (sym is) (rises old name place r p.within p.before p.after);
  here = has_at new (take place old) (drop place old) name name is refl;
  kept = λ other h.
      elim (Contains-append_cases (take place old) (drop place old) other (subst (λ ns. Contains ns other) (sym (take-append-drop place old)) h)) [
        | inl first ↦ subst (λ ns. Contains ns other) (sym is) (Contains-append_left (take place old) (name ∷ drop place old) other first)
        | inr last ↦ subst (λ ns. Contains ns other) (sym is) (Contains-append_right (take place old) (name ∷ drop place old) other (Contains-append_right (name ∷ []) (drop place old) other last))
      ];
  only = λ other h.
      elim (Contains-append_cases (take place old) (name ∷ drop place old) other (subst (λ ns. Contains ns other) is h)) [
        | inl first ↦ inl (subst (λ ns. Contains ns other) (take-append-drop place old) (Contains-append_left (take place old) (drop place old) other first))
        | inr last ↦
            elim (Contains-append_cases (name ∷ []) (drop place old) other last) [
              | inl here ↦ inr (only_one name other here)
              | inr rest ↦ inl (subst (λ ns. Contains ns other) (take-append-drop place old) (Contains-append_right (take place old) (drop place old) other rest))
            ]
      ];
}
  where
    only_one : (a b : List ℕ) → Contains (a ∷ []) b → a ≡ b
    only_one a b h = elim (Contains-push_cases [] a b h) [ inl none ↦ absurd (let lt = none.1 in omega arith) | inr same ↦ same ]

-- ---- the wanted names so far

pub none_wanted : (told : Option ToldManifest) → AreWantedOf told [] []
none_wanted told = record {
  all = λ name h f w. h;
  only = λ name h. absurd (let lt = h.1 in omega arith);
  rising = tt;
}

pub wants_more : (told : Option ToldManifest) (names more old new : List (List ℕ)) (name : List ℕ) → more ≡ names ++ name ∷ [] → IsFileName name → IsWanted told name → AreWantedOf told names old → AddsName old name new → AreWantedOf told more new
wants_more told names more old new name is file wanted h a = record {
  all = λ other m f w.
      elim (Contains-push_cases names name other (subst (λ ns. Contains ns other) is m)) [
        | inl before ↦ a.kept other (h.all other before f w)
        | inr same ↦ subst (Contains new) same a.here
      ];
  only = λ other m.
      elim (a.only other m) [
        | inl before ↦ (
          subst (λ ns. Contains ns other) (sym is) (Contains-append_left names (name ∷ []) other (h.only other before).0),
          (h.only other before).1,
          (h.only other before).2,
        )
        | inr same ↦ subst (λ other. Contains more other × IsFileName other × IsWanted told other) same (subst (λ ns. Contains ns name) (sym is) (Contains-push names name), file, wanted)
      ];
  rising = a.rising;
}

pub wants_no_more : (told : Option ToldManifest) (names more old : List (List ℕ)) (name : List ℕ) → more ≡ names ++ name ∷ [] → (IsFileName name → IsWanted told name → ⊥) → AreWantedOf told names old → AreWantedOf told more old
wants_no_more told names more old name is none h = record {
  all = λ other m f w.
      elim (Contains-push_cases names name other (subst (λ ns. Contains ns other) is m)) [
        | inl before ↦ h.all other before f w
        | inr same ↦ absurd (none (subst IsFileName (sym same) f) (subst (IsWanted told) (sym same) w))
      ];
  only = λ other m. (
    subst (λ ns. Contains ns other) (sym is) (Contains-append_left names (name ∷ []) other (h.only other m).0),
    (h.only other m).1,
    (h.only other m).2,
  );
  rising = h.rising;
}

-- a wanted name that is there already was listed before
pub twice : (told : Option ToldManifest) (before names after old : List (List ℕ)) (name : List ℕ) → names ≡ before ++ (name ∷ after) → AreWantedOf told before old → Contains old name → ListsTwice told names
twice told before names after old name is h there =
    record {
      before = before;
      name = name;
      after = after;
      file = (h.only name there).1;
      wanted = (h.only name there).2;
      listed = is;
      again = (h.only name there).0;
    }

-- ---- files that were read

pub any_default : {X : Type 0} (xs : List X) (i : ℕ) (d e : X) → i < length xs → get_or xs i d ≡ get_or xs i e
any_default [] i d e within = absurd (omega arith)
any_default (x ∷ xs) zero d e within = refl
any_default (x ∷ xs) (suc i) d e within = any_default xs i d e (omega arith)

-- the wanted files of a folder are files that a manifest may have
all_named : (files : List File) → ((name : List ℕ) → Contains (names_of files) name → IsFileName name) → AreNamed files
all_named [] h = tt
all_named (f ∷ files) h = (h f.name (0, omega arith, refl), all_named files (λ name c. h name (suc c.0, omega (arith, c.1), c.2)))

all_sorted : (files : List File) → AreRisingNames (names_of files) → AreSorted files
all_sorted [] h = tt
all_sorted (f ∷ []) h = tt
all_sorted (f ∷ g ∷ files) h = (h.0, all_sorted (g ∷ files) h.1)

pub are_files : (told : Option ToldManifest) (names : List (List ℕ)) (files : List File) → AreWantedOf told names (names_of files) → AreFiles files
are_files told names files h = (all_named files (λ name c. (h.only name c).1), all_sorted files h.rising)
