-- What a loss of power leaves under a name, call by call.
use Rattle.std.proofs.Common.{◌≡◌, ◌⊎◌, inl, inr, ⊎_elim, ◌++◌, ◌∷◌, ◌<◌, ◌≤◌, ℕ, [], List, Option, Some, None, Bool, true, false, cond, length, length-append, get_or, zero, suc, ◌∙◌, sym, ap, refl, subst, arith}
use Rattle.std.specs.Prelude.{OnOk, Result, Ok, Err}
use Rattle.std.proofs.lemmas.Bool.{cases_lt}
use Rattle.std.proofs.lemmas.List.{get_or_past, get_or_append_left}
use Rattle.std.proofs.Math.Seq.{get_or-append_seam}
use Rattle.system_fakes.specs.declared.disk_file.Crash.{Crash}
use Rattle.system_fakes.specs.declared.disk_file.Crash.TheVariants.{StaysUp, PowerLost}
use Rattle.system_fakes.specs.declared.disk_file.Content.{Content}
use Rattle.system_fakes.specs.declared.disk_file.DiskFile.{DiskFile}
use Rattle.system_io.specs.KeptFiles.{IsOneOfFound, Renamed}
use Rattle.system_fakes.specs.PowerLosses.{HasReached, HoldsBytes, HoldsSynced, IsAtRest, IsLeftBy, IsOnPlatter, IsReadAfter, LeavesOneOf, RestsAfter, after_stop, disk_facts, left_of, seen, shown_content}

abbrev pub Held : Type 0
Held = Option Content

-- of a list of files and one more: each leaves the one or the other
abbrev pub Each : List Held → Held → Option (List ℕ) → Option (List ℕ) → Type 0
Each earlier stands a b = (which : ℕ) (bytes : List ℕ) → (left_of (get_or earlier which stands) bytes ≡ a) ⊎ (left_of (get_or earlier which stands) bytes ≡ b)

-- what counts is who has the name and who had it
pub still : (d e : DiskFile) (a b : Option (List ℕ)) → e.stands ≡ d.stands → e.earlier ≡ d.earlier → LeavesOneOf d a b → LeavesOneOf e a b
still d e a b p q h = λ which bytes.
    let same : after_stop e which bytes ≡ after_stop d which bytes = λ i. left_of (get_or (q i).items which (p i)) bytes in
    subst (λ (o : Option (List ℕ)). (o ≡ a) ⊎ (o ≡ b)) (sym same) (h which bytes)

-- of the files it is one
stands_too : (earlier : List Held) (stands : Held) (a b : Option (List ℕ)) → Each earlier stands a b → (bytes : List ℕ) → (left_of stands bytes ≡ a) ⊎ (left_of stands bytes ≡ b)
stands_too earlier stands a b h bytes =
    subst (λ (x : Held). (left_of x bytes ≡ a) ⊎ (left_of x bytes ≡ b)) (get_or_past earlier (length earlier) stands (omega arith)) (h (length earlier) bytes)

-- where the names are synced, fewer may have it
pub fewer : (d e : DiskFile) (a b : Option (List ℕ)) → e.earlier.items ≡ [] → e.stands ≡ d.stands → LeavesOneOf d a b → LeavesOneOf e a b
fewer d e a b none p h = λ which bytes.
    let same : after_stop e which bytes ≡ left_of d.stands bytes = λ i. left_of (get_or (none i) which (p i)) bytes in
    subst (λ (o : Option (List ℕ)). (o ≡ a) ⊎ (o ≡ b)) (sym same) (stands_too d.earlier.items d.stands a b h bytes)

synced_left : (held : Held) (bytes garbage : List ℕ) → HoldsSynced held bytes → left_of held garbage ≡ Some bytes
synced_left held bytes garbage h =
    let is : left_of held garbage ≡ left_of (Some h.content) garbage = ap (λ (x : Held). left_of x garbage) h.is in
    let on : left_of (Some h.content) garbage ≡ Some h.content.bytes.items = ap (λ b. cond b (Some h.content.bytes.items) (Some garbage)) h.synced in
    is ∙ on ∙ ap Some h.bytes_are

-- one more has the name
one_more : (earlier : List Held) (was now : Held) (old : Option (List ℕ)) (bytes : List ℕ) → Each earlier was old old → HoldsSynced now bytes → Each (earlier ++ was ∷ []) now old (Some bytes)
one_more earlier was now old bytes h s = λ which garbage.
    let P : Held → Type 0 = λ x. (left_of x garbage ≡ old) ⊎ (left_of x garbage ≡ Some bytes) in
    let both : (x : Held) → (left_of x garbage ≡ old) ⊎ (left_of x garbage ≡ old) → P x = λ x o. ⊎_elim (λ e. inl e) (λ e. inl e) o in
    ⊎_elim
    (λ (lt : which < length earlier).
    let front : get_or (earlier ++ was ∷ []) which now ≡ get_or earlier which now = get_or_append_left earlier (was ∷ []) now which lt in
    let any : get_or earlier which now ≡ get_or earlier which was = any_default earlier which now was lt in
    subst P (sym (front ∙ any)) (both _ (h which garbage)))
    (λ (ge : length earlier ≤ which).
    ⊎_elim
    (λ (lt : length earlier < which).
    let long : length (earlier ++ was ∷ []) ≤ which = simp length-append (omega arith) in
    subst P (sym (get_or_past (earlier ++ was ∷ []) which now long)) (inr (synced_left now bytes garbage s)))
    (λ (le : which ≤ length earlier).
    let at : which ≡ length earlier = omega arith in
    let seam : get_or (earlier ++ was ∷ []) which now ≡ was = ap (λ (k : ℕ). get_or (earlier ++ was ∷ []) k now) at ∙ get_or-append_seam earlier was [] now in
    subst P (sym seam) (both _ (stands_too earlier was old old h garbage)))
    (cases_lt (length earlier) which))
    (cases_lt which (length earlier))
  where
    any_default : (xs : List Held) (k : ℕ) (c d : Held) → k < length xs → get_or xs k c ≡ get_or xs k d
    any_default [] k c d lt = absurd (omega arith)
    any_default (x ∷ xs) zero c d lt = refl
    any_default (x ∷ xs) (suc k) c d lt = any_default xs k c d (omega arith)

pub renamed_either : (d : DiskFile) (earlier : List Held) (now : Held) (old : Option (List ℕ)) (bytes : List ℕ) → earlier ≡ d.earlier.items ++ d.stands ∷ [] → now ≡ d.beside → LeavesOneOf d old old → HoldsSynced d.beside bytes → Each earlier now old (Some bytes)
renamed_either d earlier now old bytes more p h s =
    let moved : Each (d.earlier.items ++ d.stands ∷ []) d.beside old (Some bytes) = one_more d.earlier.items d.stands d.beside old bytes h s in
    λ which garbage.
    let same : left_of (get_or earlier which now) garbage ≡ left_of (get_or (d.earlier.items ++ d.stands ∷ []) which d.beside) garbage = λ i. left_of (get_or (more i) which (p i)) garbage in
    subst (λ (o : Option (List ℕ)). (o ≡ old) ⊎ (o ≡ Some bytes)) (sym same) (moved which garbage)

-- nothing else may have the name
pub sole : (e : DiskFile) (bytes : List ℕ) → e.earlier.items ≡ [] → HoldsSynced e.stands bytes → LeavesOneOf e (Some bytes) (Some bytes)
sole e bytes none s = λ which garbage. inl (ap (λ (xs : List Held). left_of (get_or xs which e.stands) garbage) none ∙ synced_left e.stands bytes garbage s)

on_left : (held : Held) (garbage : List ℕ) → IsOnPlatter held → left_of held garbage ≡ shown_content held
on_left None garbage on = refl
on_left (Some c) garbage on = ap (λ b. cond b (Some c.bytes.items) (Some garbage)) on

-- a disk at rest leaves what is seen
rest_left : (d : DiskFile) (which : ℕ) (garbage : List ℕ) → IsAtRest d → after_stop d which garbage ≡ seen d
rest_left d which garbage rest =
    ap (λ (xs : List Held). left_of (get_or xs which d.stands) garbage) rest.names ∙ on_left d.stands garbage rest.bytes

bytes_in : Held → List ℕ
bytes_in None = []
bytes_in (Some c) = c.bytes.items

both_so : (b : Bool) (x : Option (List ℕ)) → cond b x x ≡ x
both_so true x = refl
both_so false x = refl

-- what is seen is one of the things that a loss of power may leave
shown_left : (held : Held) → left_of held (bytes_in held) ≡ shown_content held
unfolding bytes_in
shown_left None = refl
shown_left (Some c) = both_so c.is_synced (Some c.bytes.items)

-- what is seen and brought to the platter
pub settles : (d e : DiskFile) (now : Held) (a b : Option (List ℕ)) → e.earlier.items ≡ [] → e.stands ≡ now → IsOnPlatter now → shown_content now ≡ shown_content d.stands → LeavesOneOf d a b → LeavesOneOf e a b
settles d e now a b none is on same h = λ which garbage.
    let left : after_stop e which garbage ≡ left_of d.stands (bytes_in d.stands) =
    (λ i. left_of (get_or (none i) which (is i)) garbage) ∙ on_left now garbage on ∙ same ∙ sym (shown_left d.stands) in
    subst (λ (o : Option (List ℕ)). (o ≡ a) ⊎ (o ≡ b)) (sym left) (stands_too d.earlier.items d.stands a b h (bytes_in d.stands))

-- a sync brings whole bytes to the platter
pub synced_so : (was : Held) (content now : Content) → Some content ≡ was → now.bytes.items ≡ content.bytes.items → (content.is_spoiled ≡ false → now.is_synced ≡ true) → (bytes : List ℕ) → HoldsBytes was bytes → HoldsSynced (Some now) bytes
synced_so was content now there same synced bytes h =
    let one : ◌≡◌ {A = Held} (Some content) (Some h.content) = there ∙ h.is in
    let is : content ≡ h.content = cc in
    record { content = now; is = refl; bytes_are = same ∙ ap (λ (c : Content). c.bytes.items) is ∙ h.bytes_are; synced = synced (ap (λ (c : Content). c.is_spoiled) is ∙ h.whole) }

-- what a disk at rest leaves is what is seen, each time
at_rest : (d : DiskFile) → IsAtRest d → LeavesOneOf d (seen d) (seen d)
at_rest d rest = λ which garbage. inl (rest_left d which garbage rest)

-- so one of any two that it leaves is what is seen
pub left_so : (d : DiskFile) (got : Option (List ℕ)) → IsOneOfFound (disk_facts d) got → IsAtRest d → got ≡ seen d
left_so d got one rest = ⊎_elim (λ e. e) (λ e. e) (one (seen d) (seen d) (at_rest d rest))

-- what was to be found before a loss of power is to be found after it
pub stopped : (d : DiskFile) (earlier : List Held) (now : Held) (which : ℕ) (bytes : List ℕ) (a b : Option (List ℕ)) → earlier ≡ [] → IsOnPlatter now → shown_content now ≡ after_stop d which bytes → LeavesOneOf d a b → Each earlier now a b
stopped d earlier now which bytes a b none on left h = λ w garbage.
    let is : left_of (get_or earlier w now) garbage ≡ after_stop d which bytes = ap (λ (xs : List Held). left_of (get_or xs w now) garbage) none ∙ on_left now garbage on ∙ left in
    subst (λ (o : Option (List ℕ)). (o ≡ a) ⊎ (o ≡ b)) (sym is) (h which bytes)

-- a file that was synced beside has got the name
pub renamed_so : {E : Type 0} (result : Result (Unit {0}) E) (beside mid : Held) (e : DiskFile) → mid ≡ beside → OnOk result ((bytes : List ℕ) → HoldsSynced mid bytes → HoldsSynced e.stands bytes) → OnOk result (e.is_name_lost ≡ false) → OnOk result ((bytes : List ℕ) → HoldsSynced beside bytes → HasReached e Renamed bytes)
renamed_so (Err fault) beside mid e same named name = tt
renamed_so (Ok x) beside mid e same named name = λ bytes s. (named bytes (subst (λ (h : Held). HoldsSynced h bytes) (sym same) s), name)

-- what is read after a loss of power is what it left
pub read_so : (d e : DiskFile) (choice : Crash) (got : Option (List ℕ)) → IsOneOfFound (disk_facts e) got → RestsAfter choice e → IsLeftBy d choice (seen e) → IsReadAfter d choice got
read_so d e StaysUp got one rest left = tt
read_so d e (PowerLost which bytes beside) got one rest left = left_so e got one rest ∙ left

-- one of any two that a disk leaves after a stop is one of any two that it left before
pub kept_one : (d e : DiskFile) (got : Option (List ℕ)) → ((a b : Option (List ℕ)) → LeavesOneOf d a b → LeavesOneOf e a b) → IsOneOfFound (disk_facts e) got → IsOneOfFound (disk_facts d) got
kept_one d e got same one = λ a b h. one a b (same a b h)
