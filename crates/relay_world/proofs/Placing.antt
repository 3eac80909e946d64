-- Entries by rising name, with one more.
use Rattle.std.proofs.Common.{◌≡◌, ◌<◌, ◌≤◌, ◌+◌, ℕ, zero, suc, List, [], ◌∷◌, ◌++◌, map, length, take, drop, get_or, refl, sym, ap, ◌∙◌, subst, arith}
use Rattle.std.specs.Ordering.{nat_cmp}
use Rattle.std.specs.declared.cmp.Ordering.{Ordering}
use Rattle.std.specs.declared.cmp.Ordering.TheVariants.{Less, Equal, Greater}
use Rattle.std.specs.Cmp.Lexicographic.{slice_cmp}
use Rattle.std.specs.Ordering.{ordering_reverse}
use Rattle.std.specs.FinMap.{nat_cmp-IsAntisymmetric, slice_cmp-IsAntisymmetric}
use Rattle.std.specs.List.{insert}
use Rattle.std.specs.List.Sorted.{IsPermutation}
use Rattle.std.proofs.lemmas.Cmp.{nat_list_cmp_total}
use Rattle.std.proofs.lemmas.List.{take_more, drop_more, drop_all}
use Rattle.std.proofs.lemmas.List.Sorted.{IsPermutation-refl, IsPermutation-trans, IsPermutation-cons, IsPermutation-to_front, IsPermutation-insert}
use Rattle.move_msg.specs.Files.{File, entry_for, entries_of}
use Rattle.move_msg.specs.declared.manifest.Line.{Line}
use Rattle.move_msg.specs.Manifests.{AreEntries, AreOfFiles, AreRising, Entry, IsAfter, IsBefore, IsEntry, entry_of}
use Rattle.move_msg.specs.TableNames.{IsFileName}
use Rattle.relay_world.specs.Gathering.{AreTables, IsNew, Inserts, IsAhead}

-- ---- the place of an entry

after_last : (xs : List Entry) (x e : Entry) → IsBefore x e → IsAfter (xs ++ x ∷ []) e
after_last [] x e h = h
after_last (a ∷ []) x e h = h
after_last (a ∷ b ∷ xs) x e h = after_last (b ∷ xs) x e h

pub after_more : (es : List Entry) (i : ℕ) (x e : Entry) → i < length es → x ≡ get_or es i x → IsBefore x e → IsAfter (take (i + 1) es) e
after_more es i x e l is h = subst (λ xs. IsAfter xs e) (sym (take_more es i x l ∙ ap (λ y. take i es ++ y ∷ []) (sym is))) (after_last (take i es) x e h)

-- of two names that are not one, one comes before the other
pub other_way : (x e : Entry) → (e.name ≡ x.name → ⊥) → (IsBefore x e → ⊥) → IsBefore e x
other_way x e differ never = by_order (slice_cmp nat_cmp e.name x.name) refl
  where
    by_order : (o : Ordering) → slice_cmp nat_cmp e.name x.name ≡ o → IsBefore e x
    by_order Less h = h
    by_order Equal h = absurd (differ (slice_cmp-IsAntisymmetric nat_cmp-IsAntisymmetric e.name x.name h))
    by_order Greater h = absurd (never (nat_list_cmp_total.antisymm x.name e.name ∙ ap ordering_reverse h))

other_at : (e : Entry) (es : List Entry) (i : ℕ) (x : Entry) → IsNew e es → i < length es → x ≡ get_or es i x → e.name ≡ x.name → ⊥
other_at e [] i x h l is = absurd (omega arith)
other_at e (y ∷ es) zero x h l is = λ same. h.0 (same ∙ ap (λ (z : Entry). z.name) is)
other_at e (y ∷ es) (suc i) x h l is = other_at e es i x h.1 (omega arith) is

pub ahead_at : (e : Entry) (es : List Entry) (i : ℕ) (x : Entry) → IsNew e es → i < length es → x ≡ get_or es i x → (IsBefore x e → ⊥) → IsAhead e (drop i es)
ahead_at e es i x h l is never =
    subst (IsAhead e) (sym (drop_more es i x l)) (other_way (get_or es i x) e (subst (λ (y : Entry). e.name ≡ y.name → ⊥) is (other_at e es i x h l is)) (subst (λ (y : Entry). IsBefore y e → ⊥) is never))

pub ahead_end : (e : Entry) (es : List Entry) (i : ℕ) → length es ≤ i → IsAhead e (drop i es)
ahead_end e es i l = subst (IsAhead e) (sym (drop_all i es l)) tt

-- ---- an entry more

rising_seam : (xs : List Entry) (e : Entry) (ys : List Entry) → AreRising xs → IsAfter xs e → IsAhead e ys → AreRising ys → AreRising (xs ++ e ∷ ys)
rising_seam [] e [] a b c d = tt
rising_seam [] e (y ∷ ys) a b c d = (c, d)
rising_seam (x ∷ []) e [] a b c d = (b, tt)
rising_seam (x ∷ []) e (y ∷ ys) a b c d = (b, (c, d))
rising_seam (x ∷ y ∷ xs) e ys a b c d = (a.0, rising_seam (y ∷ xs) e ys a.1 b c d)

rising_tail : (x : Entry) (xs : List Entry) → AreRising (x ∷ xs) → AreRising xs
rising_tail x [] h = tt
rising_tail x (y ∷ xs) h = h.1

rising_drop : (i : ℕ) (xs : List Entry) → AreRising xs → AreRising (drop i xs)
rising_drop zero xs h = h
rising_drop (suc i) [] h = h
rising_drop (suc i) (x ∷ xs) h = rising_drop i xs (rising_tail x xs h)

rising_take : (i : ℕ) (xs : List Entry) → AreRising xs → AreRising (take i xs)
rising_take zero xs h = tt
rising_take (suc i) [] h = tt
rising_take (suc zero) (x ∷ xs) h = tt
rising_take (suc (suc i)) (x ∷ []) h = tt
rising_take (suc (suc i)) (x ∷ y ∷ xs) h = (h.0, rising_take (suc i) (y ∷ xs) h.1)

of_insert : (i : ℕ) (xs : List Entry) (e : Entry) → AreOfFiles xs → IsEntry e → AreOfFiles (insert xs i e)
of_insert zero xs e h is = (is, h)
of_insert (suc i) [] e h is = (is, tt)
of_insert (suc i) (x ∷ xs) e h is = (h.0, of_insert i xs e h.1 is)

entries_insert : (i : ℕ) (xs : List Entry) (e : Entry) → AreEntries xs → IsEntry e → Inserts e xs i → AreEntries (insert xs i e)
entries_insert i xs e h is p = (of_insert i xs e h.0 is, rising_seam (take i xs) e (drop i xs) (rising_take i xs h.1) p.after p.before (rising_drop i xs h.1))

other_insert : (g : Entry) (i : ℕ) (xs : List Entry) (e : Entry) → IsNew g xs → (g.name ≡ e.name → ⊥) → IsNew g (insert xs i e)
other_insert g zero xs e h n = (n, h)
other_insert g (suc i) [] e h n = (n, tt)
other_insert g (suc i) (x ∷ xs) e h n = (h.0, other_insert g i xs e h.1 n)

-- ---- file after file

-- no file has the name of an entry
abbrev pub AreFresh : List Entry → List File → Type 0
AreFresh es [] = Unit {0}
AreFresh es (f ∷ others) = IsNew (entry_for f) es × AreFresh es others

pub fresh_first : (files : List File) → AreFresh [] files
fresh_first [] = tt
fresh_first (f ∷ others) = (tt, fresh_first others)

fresh_insert : (i : ℕ) (es : List Entry) (e : Entry) (others : List File) → AreFresh es others → IsNew e (entries_of others) → AreFresh (insert es i e) others
fresh_insert i es e [] h o = tt
fresh_insert i es e (g ∷ others) h o = (other_insert (entry_for g) i es e h.0 (λ same. o.0 (sym same)), fresh_insert i es e others h.1 o.1)

-- what is known of the entries of the files so far and of the files that are left
pub record AreListed (so_far : List File) (left : List File) (es : List Entry) : Type 0 where
  pub entries : AreEntries es
  pub all : IsPermutation (entries_of so_far) es
  pub tables : AreTables left
  pub fresh : AreFresh es left

pub listed_more : (so_far left : List File) (f : File) (es : List Entry) (i : ℕ) → AreListed so_far (f ∷ left) es → IsEntry (entry_for f) → Inserts (entry_for f) es i → AreListed (so_far ++ f ∷ []) left (insert es i (entry_for f))
listed_more so_far left f es i h is p = record {
  entries = entries_insert i es (entry_for f) h.entries is p;
  all = subst (λ xs. IsPermutation xs (insert es i (entry_for f))) (sym (map_more so_far f))
      (IsPermutation-trans _ _ _ (IsPermutation-to_front (entries_of so_far) (entry_for f)) (IsPermutation-trans _ _ _ (IsPermutation-cons (entry_for f) (entries_of so_far) es h.all) (IsPermutation-insert es i (entry_for f))));
  tables = h.tables.2;
  fresh = fresh_insert i es (entry_for f) left h.fresh.1 h.tables.1;
}
  where
    map_more : (xs : List File) (f : File) → entries_of (xs ++ f ∷ []) ≡ entries_of xs ++ entry_for f ∷ []
    map_more [] f = refl
    map_more (x ∷ xs) f = ap (λ ys. entry_for x ∷ ys) (map_more xs f)

-- ---- of the files as they are given

first_listed : (files : List File) (es : List Entry) → es ≡ [] → AreTables files → AreListed [] files es
first_listed files es e h = subst (AreListed [] files) (sym e) (record { entries = (tt, tt); all = IsPermutation-refl []; tables = h; fresh = fresh_first files })

pub begins : (files : List File) (lines : List Line) → lines ≡ [] → AreTables files → AreListed [] files (map entry_of lines)
begins files lines e h = first_listed files (map entry_of lines) (ap (map entry_of) e) h

-- the file at this place is listed
pub goes_on : (xs : List File) (i : ℕ) (x : File) → i < length xs → x ≡ get_or xs i x → (lines more : List Line) (line : Line) (place : ℕ) → AreListed (take i xs) (drop i xs) (map entry_of lines) → entry_of line ≡ entry_for x → IsEntry (entry_of line) → Inserts (entry_of line) (map entry_of lines) place → more ≡ insert lines place line → AreListed (take (i + 1) xs) (drop (i + 1) xs) (map entry_of more)
goes_on xs i x l is lines more line place h e entry p m =
    let left : drop i xs ≡ x ∷ drop (i + 1) xs = drop_more xs i x l ∙ ap (λ y. y ∷ drop (i + 1) xs) (sym is) in
    let done : take (i + 1) xs ≡ take i xs ++ x ∷ [] = take_more xs i x l ∙ ap (λ y. take i xs ++ y ∷ []) (sym is) in
    let here : AreListed (take i xs) (x ∷ drop (i + 1) xs) (map entry_of lines) = subst (λ fs. AreListed (take i xs) fs (map entry_of lines)) left h in
    let next : AreListed (take i xs ++ x ∷ []) (drop (i + 1) xs) (insert (map entry_of lines) place (entry_for x)) =
    listed_more (take i xs) (drop (i + 1) xs) x (map entry_of lines) place here (subst IsEntry e entry) (subst (λ (y : Entry). Inserts y (map entry_of lines) place) e p) in
    let same : map entry_of more ≡ insert (map entry_of lines) place (entry_for x) = ap (map entry_of) m ∙ map_insert place lines ∙ ap (insert (map entry_of lines) place) e in
    subst (λ fs. AreListed fs (drop (i + 1) xs) (map entry_of more)) (sym done) (subst (AreListed (take i xs ++ x ∷ []) (drop (i + 1) xs)) (sym same) next)
  where
    map_insert : (n : ℕ) (ls : List Line) → map entry_of (insert ls n line) ≡ insert (map entry_of ls) n (entry_of line)
    map_insert zero ls = refl
    map_insert (suc n) [] = refl
    map_insert (suc n) (y ∷ ls) = ap (λ zs. entry_of y ∷ zs) (map_insert n ls)

-- the file whose turn it is
pub turn_of : (xs : List File) (i : ℕ) (x : File) → i < length xs → x ≡ get_or xs i x → (es : List Entry) → AreListed (take i xs) (drop i xs) es → IsFileName x.name × IsNew (entry_for x) es
turn_of xs i x l is es h =
    let left : drop i xs ≡ x ∷ drop (i + 1) xs = drop_more xs i x l ∙ ap (λ y. y ∷ drop (i + 1) xs) (sym is) in
    let here : AreListed (take i xs) (x ∷ drop (i + 1) xs) es = subst (λ fs. AreListed (take i xs) fs es) left h in
    (here.tables.0, here.fresh.0)
