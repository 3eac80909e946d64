-- Games that are found and counted in turn.
use Rattle.std.proofs.Common.{◌≡◌, ◌∙◌, ◌<◌, ◌+◌, ◌++◌, ◌^◌, ℕ, Bool, cond, List, [], ◌∷◌, length, min, take, refl, sym, ap, subst, arith}
use Rattle.std.specs.List.{count_by, sum_by}
use Rattle.std.proofs.lemmas.List.{length-map, map-append, length-take-le}
use Rattle.std.proofs.lemmas.List.Sums.{count_by-le-length, sum_by-append}
use Rattle.std.proofs.lemmas.Slice.Zip.{AllZip-long}
use Rattle.game_status.specs.declared.status_lines.Look.{Look}
use Rattle.game_status.specs.declared.status_lines.Look.TheVariants as look
use Rattle.game_status.specs.declared.telling.GameTold.{GameTold}
use Rattle.game_status.specs.declared.telling.Mark.{Mark}
use Rattle.game_status.specs.declared.telling.Sums.{Sums}
use Rattle.game_status.specs.declared.totals.Totals.{Totals}
use Rattle.game_status.specs.Statuses.{game_told_by, status_mark}
use Rattle.game_status.specs.Tellings.{count_marked, is_apart, is_fault, is_ruled_mark, sums_of}
use Rattle.game_status.specs.Totals.{AreFound, FoundGame, is_behind_in, is_open_mark, most_total, moves_in, lines_told, totals_of}
use Rattle.game_status.specs.Inside.Counting.{AddsMark}
use Rattle.game_status.specs.Inside.Totalling.{AddsLook, CanAddOneMore}
use Rattle.game_status.proofs.TellingLaws.{at_most, count_more, sums_more}

-- ---- one game more

mark_of_told : (stamp : List ℕ) (l : Look) → (game_told_by stamp l).mark ≡ status_mark l
mark_of_told stamp (look.One side) = refl
mark_of_told stamp (look.Both side other compared) = refl
mark_of_told stamp (look.AtFault fault) = refl
mark_of_told stamp (look.OtherAtFault fault) = refl

told_more : (found : List FoundGame) (f : FoundGame) → lines_told (found ++ f ∷ []) ≡ lines_told found ++ game_told_by f.stamp f.look ∷ []
told_more found f = map-append (λ (f : FoundGame). game_told_by f.stamp f.look) found (f ∷ [])

count_by_more : {X : Type 0} (p : X → Bool) (xs : List X) (x : X) → count_by p (xs ++ x ∷ []) ≡ count_by p xs + cond (p x) 1 0
count_by_more p xs x = sum_by-append (λ y. cond (p y) 1 0) xs (x ∷ []) ∙ last (count_by p xs) (cond (p x) 1 0)
  where
    last : (s c : ℕ) → s + (0 + c) ≡ s + c
    last s c = omega arith

same_parts : (s s' : Sums) (o o' b b' m m' : ℕ) → s ≡ s' → o ≡ o' → b ≡ b' → m ≡ m' → ◌≡◌ {A = Totals} (record { sums = s; open_games = o; behind = b; moves = m }) (record { sums = s'; open_games = o'; behind = b'; moves = m' })
same_parts s s' o o' b b' m m' e f g h = cc

same_totals : (a b : Totals) → a.sums ≡ b.sums → a.open_games ≡ b.open_games → a.behind ≡ b.behind → a.moves ≡ b.moves → a ≡ b
same_totals a b e f g h = same_parts a.sums b.sums a.open_games b.open_games a.behind b.behind a.moves b.moves e f g h

at_last : (s m t : ℕ) → t ≡ s + m → min (min s most_total + m) most_total ≡ min t most_total
at_last s m t is = omega (arith, is)

pub totals_more : (found : List FoundGame) (f : FoundGame) (t new : Totals) → t ≡ totals_of found → AddsLook t f.look new → new ≡ totals_of (found ++ f ∷ [])
totals_more found f t new is h =
    let told : GameTold = game_told_by f.stamp f.look in
    let mark = mark_of_told f.stamp f.look in
    let both = sym (told_more found f) in
    let marked = subst (λ (m : Mark). AddsMark t.sums m new.sums) (sym mark) h.sums in
    same_totals new (totals_of (found ++ f ∷ []))
    (sums_more (lines_told found) told t.sums new.sums (ap (λ (x : Totals). x.sums) is) marked ∙ ap sums_of both)
    (h.open_games ∙ ap (λ (x : Totals). x.open_games + cond (is_open_mark (status_mark f.look)) 1 0) is ∙ ap (λ m. count_marked is_open_mark (lines_told found) + cond (is_open_mark m) 1 0) (sym mark) ∙ sym (count_more is_open_mark (lines_told found) told) ∙ ap (count_marked is_open_mark) both)
    (h.behind ∙ ap (λ (x : Totals). x.behind + cond (is_behind_in f.look) 1 0) is ∙ sym (count_by_more (λ (g : FoundGame). is_behind_in g.look) found f))
    (h.moves ∙ ap (λ (x : Totals). min (x.moves + moves_in f.look) most_total) is ∙ at_last (sum_by (λ (g : FoundGame). moves_in g.look) found) (moves_in f.look) (sum_by (λ (g : FoundGame). moves_in g.look) (found ++ f ∷ [])) (sum_by-append (λ (g : FoundGame). moves_in g.look) found (f ∷ []) ∙ omega arith))

-- ---- games in turn

module _ (F : List ℕ → Look → Type 0) (stamps : List (List ℕ)) where
  pub few_found : (i : ℕ) (found : List FoundGame) (t : Totals) → i < length stamps → length stamps < 2 ^ 63 → AreFound F (take i stamps) found → t ≡ totals_of found → CanAddOneMore t
  few_found i found t within small are is =
      let long : length found ≡ i = AllZip-long _ (take i stamps) found are ∙ length-take-le i stamps (omega arith) in
      let told : length (lines_told found) ≡ length found = length-map found _ in
      let ruled = at_most is_ruled_mark (lines_told found) in
      let faults = at_most is_fault (lines_told found) in
      let differ = at_most is_apart (lines_told found) in
      let open_games = at_most is_open_mark (lines_told found) in
      let behind = count_by-le-length (λ (f : FoundGame). is_behind_in f.look) found in
      subst CanAddOneMore (sym is) (record {
        sums = record { games = omega (arith, long, told); ruled = ruled; faults = faults; differ = differ };
        open_games = open_games;
        behind = omega (arith, told, behind);
      })
