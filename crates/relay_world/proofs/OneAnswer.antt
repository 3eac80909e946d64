-- A run tells one thing.
use Rattle.std.proofs.Common.{◌≡◌, ℕ, zero, suc, List, [], ◌∷◌, length, Option, Some, None, Result, Ok, sym, refl, ap, ◌∙◌, subst, arith, inl, inr}
use Rattle.std.specs.Prelude.{◌⊎◌, slice_get, slice_index}
use Rattle.std.specs.List.{Contains}
use Rattle.std.specs.Ordering.{nat_cmp, ordering_reverse}
use Rattle.std.specs.Cmp.Lexicographic.{slice_cmp}
use Rattle.std.proofs.lemmas.Cmp.{nat_list_cmp_total}
use Rattle.std.proofs.lemmas.List.Sorted.{Contains-permutation, IsPermutation-sym, IsPermutation-trans}
use Rattle.move_msg.specs.declared.message.Message.{Message}
use Rattle.move_msg.specs.declared.record_bytes.Record.{Record}
use Rattle.move_msg.specs.declared.stamp.Stamp.{Stamp}
use Rattle.move_msg.specs.Files.{File, entries_of}
use Rattle.move_msg.specs.Manifests.{AreRising, Entry, IsBefore, lines_text}
use Rattle.move_msg.specs.Records.{WritesRecord, record_frame}
use Rattle.move_msg.proofs.RecordLaws.{is_spelled, one_record_spelling}
use Rattle.judge_core.specs.Tables.{Tables}
use Rattle.arbiter_core.specs.Recording.{Recorded}
use Rattle.arbiter_core.specs.Views.{spelled_as}
use Rattle.relay_world.specs.declared.event.Event.{Event}
use Rattle.relay_world.specs.declared.fault.WorldFault.{WorldFault}
use Rattle.relay_world.specs.declared.world.State.{State}
use Rattle.relay_world.specs.Gathering.{IsManifestOf}
use Rattle.relay_world.specs.Runs.{GameView, KeptIs, Runs, SideView, TellsSide, TellsWorld, WorldView, judged_by}
use Rattle.relay_world.specs.Worlds.{Judged, Side, World, first_world, world_after_all}
use Rattle.relay_world.proofs.Faithful.{last_of, one_list}

-- ---- one manifest

-- a member of a list is its head or one of the others
member : (x y : Entry) (xs : List Entry) → Contains (x ∷ xs) y → (x ≡ y) ⊎ Contains xs y
member x y xs (zero, l, e) = inl e
member x y xs (suc k, l, e) = inr (k, omega (arith, l), e)

later : (x : Entry) (xs : List Entry) (y : Entry) → Contains xs y → Contains (x ∷ xs) y
later x xs y (k, l, e) = (suc k, omega (arith, l), e)

head : (x : Entry) (xs : List Entry) → Contains (x ∷ xs) x
head x xs = (0, omega arith, refl)

nothing : (y : Entry) → Contains [] y → ⊥
nothing y (k, l, e) = omega (arith, l)

before_on : (x y z : Entry) → IsBefore x y → IsBefore y z → IsBefore x z
before_on x y z a b = nat_list_cmp_total.trans x.name y.name z.name a b

not_both : (x y : Entry) → IsBefore x y → IsBefore y x → ⊥
not_both x y a b = let e : slice_cmp nat_cmp y.name x.name ≡ ordering_reverse (slice_cmp nat_cmp x.name y.name) = nat_list_cmp_total.antisymm y.name x.name in cc

-- the head of a rising list comes before the others
rises_to : (x : Entry) (xs : List Entry) (y : Entry) → AreRising (x ∷ xs) → Contains xs y → IsBefore x y
rises_to x [] y r c = absurd (nothing y c)
rises_to x (z ∷ xs) y r c = by_member (member z y xs c) (rises_to z xs y r.1)
  where
    by_member : (z ≡ y) ⊎ Contains xs y → (Contains xs y → IsBefore z y) → IsBefore x y
    by_member (inl e) later = subst (IsBefore x) e r.0
    by_member (inr m) later = before_on x z y r.0 (later m)

tail : (x : Entry) (xs : List Entry) → AreRising (x ∷ xs) → AreRising xs
tail x [] r = tt
tail x (y ∷ xs) r = r.1

-- two rising lists with the same members are one
one_rising : (xs ys : List Entry) → AreRising xs → AreRising ys → ((z : Entry) → Contains xs z → Contains ys z) → ((z : Entry) → Contains ys z → Contains xs z) → xs ≡ ys
one_rising [] [] r s f g = refl
one_rising [] (y ∷ ys) r s f g = absurd (nothing y (g y (head y ys)))
one_rising (x ∷ xs) [] r s f g = absurd (nothing x (f x (head x xs)))
one_rising (x ∷ xs) (y ∷ ys) r s f g = made x y xs ys same (one_rising xs ys (tail x xs r) (tail y ys s) to from)
  where
    heads : (y ≡ x) ⊎ Contains ys x → (x ≡ y) ⊎ Contains xs y → x ≡ y
    heads (inl e) m = sym e
    heads (inr l) (inl e) = e
    heads (inr l) (inr m) = absurd (not_both x y (rises_to x xs y r m) (rises_to y ys x s l))

    same : x ≡ y
    same = heads (member y x ys (f x (head x xs))) (member x y xs (g y (head y ys)))

    others : (a b z : Entry) (us vs : List Entry) → a ≡ b → AreRising (a ∷ us) → Contains us z → (b ≡ z) ⊎ Contains vs z → Contains vs z
    others a b z us vs e rising c (inr m) = m
    others a b z us vs e rising c (inl d) = let h : IsBefore z z = subst (λ (w : Entry). IsBefore w z) (e ∙ d) (rises_to a us z rising c) in absurd (not_both z z h h)

    to : (z : Entry) → Contains xs z → Contains ys z
    to z c = others x y z xs ys same r c (member y z ys (f z (later x xs z c)))

    from : (z : Entry) → Contains ys z → Contains xs z
    from z c = others y x z ys xs (sym same) s c (member x z xs (g z (later y ys z c)))

    made : (a b : Entry) (us vs : List Entry) → a ≡ b → us ≡ vs → ◌≡◌ {A = List Entry} (a ∷ us) (b ∷ vs)
    made a b us vs e d = cc

one_manifest : (files : List File) (m n : List ℕ) → IsManifestOf files m → IsManifestOf files n → m ≡ n
one_manifest files m n f g =
    let to = IsPermutation-trans f.entries (entries_of files) g.entries (IsPermutation-sym (entries_of files) f.entries f.all) g.all in
    let from = IsPermutation-trans g.entries (entries_of files) f.entries (IsPermutation-sym (entries_of files) g.entries g.all) f.all in
    let same : f.entries ≡ g.entries = one_rising f.entries g.entries f.spells.0.1 g.spells.0.1 (λ z. Contains-permutation f.entries g.entries z to) (λ z. Contains-permutation g.entries f.entries z from) in
    f.spells.1 ∙ ap lines_text same ∙ sym g.spells.1

-- ---- one world told

version : (s : List ℕ) (d : ℕ) (b : List ℕ) → slice_index (record_frame s d b) 2 ≡ 2
unfolding record_frame
version s d b = refl

-- a record is written in one way
one_written : (t u : List ℕ) (r : Record) → WritesRecord t r → WritesRecord u r → t ≡ u
one_written t u r w x =
    one_record_spelling t u r (is_spelled t r w) (is_spelled u r x)
    (ap (λ (bytes : List ℕ). slice_index bytes 2) w.text ∙ version r.stamp r.delay w.body ∙ sym (version r.stamp r.delay x.body) ∙ sym (ap (λ (bytes : List ℕ). slice_index bytes 2) x.text))

one_kept : (stamp : Stamp) (delay : ℕ) (a b : Option (List ℕ)) (kept : Option Recorded) → KeptIs stamp delay a kept → KeptIs stamp delay b kept → a ≡ b
one_kept stamp delay a b None f g = f ∙ sym g
one_kept stamp delay None b (Some kept) f g = absurd f
one_kept stamp delay (Some t) None (Some kept) f g = absurd g
one_kept stamp delay (Some t) (Some u) (Some kept) f g = ap Some (one_written t u (spelled_as stamp delay kept) f g)

one_side : (stamp : Stamp) (delay : ℕ) (told other : SideView) (side : Side) → TellsSide stamp delay told side → TellsSide stamp delay other side → told ≡ other
one_side stamp delay told other side f g = made told.state other.state told.bytes other.bytes (f.state ∙ sym g.state) (one_kept stamp delay told.bytes other.bytes side.kept f.bytes g.bytes)
  where
    made : (s t : State) (a b : Option (List ℕ)) → s ≡ t → a ≡ b → ◌≡◌ {A = SideView} (record { state = s; bytes = a }) (record { state = t; bytes = b })
    made s t a b e d = cc

one_told : (game : Judged) (told other : WorldView) (world : World) → TellsWorld game told world → TellsWorld game other world → told ≡ other
one_told game told other world f g =
    made told.a other.a told.b other.b told.log other.log (one_side game.stamp game.rules.delay told.a other.a world.a f.a g.a) (one_side game.stamp game.rules.delay told.b other.b world.b f.b g.b) (f.log ∙ sym g.log)
  where
    made : (a c b d : SideView) (l m : List Message) → a ≡ c → b ≡ d → l ≡ m → ◌≡◌ {A = WorldView} (record { a = a; b = b; log = l }) (record { a = c; b = d; log = m })
    made a c b d l m e h i = cc

tells_after : (given : GameView) (files : List File) (events : List Event) (told : WorldView) (tables : Tables) (manifest : List ℕ) → (h : Runs given files events told) → h.tables ≡ tables → h.manifest ≡ manifest
    → let game = judged_by given tables manifest in TellsWorld game told (world_after_all game (first_world game) events)
tells_after given files events told tables manifest h e f =
    let own : Judged = judged_by given h.tables h.manifest in
    let game : Judged = judged_by given tables manifest in
    let same : own ≡ game = ap (λ t. judged_by given t h.manifest) e ∙ ap (judged_by given tables) f in
    let at : slice_get h.worlds (length events) ≡ Some (world_after_all own (first_world own) events) = ap (λ (ws : List World). slice_get ws (length events)) (one_list own events h.worlds h.are) ∙ last_of own (first_world own) events in
    subst (λ (g : Judged). TellsWorld g told (world_after_all g (first_world g) events)) same (h.last (world_after_all own (first_world own) events) at)

pub runs_tell_one : (given : GameView) (files : List File) (events : List Event) (told other : WorldView) → Runs given files events told → Runs given files events other → told ≡ other
runs_tell_one given files events told other f g =
    let game : Judged = judged_by given g.tables g.manifest in
    one_told game told other (world_after_all game (first_world game) events)
    (tells_after given files events told g.tables g.manifest f (one_ok f.tables g.tables (sym f.gathered ∙ g.gathered)) (one_manifest files f.manifest g.manifest f.listed g.listed))
    (tells_after given files events other g.tables g.manifest g refl refl)
  where
    one_ok : (s t : Tables) → ◌≡◌ {A = Result Tables WorldFault} (Ok s) (Ok t) → s ≡ t
    one_ok s t e = cc
