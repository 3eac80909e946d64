-- What the parts of a new shape are.
use Rattle.std.proofs.Common.{◌≡◌, ℕ, ◌-◌, ◌<◌, ◌≤◌, List, ◌∷◌, length, take, drop, slice_index, ap, ◌∙◌, arith, length-drop}
use Rattle.std.specs.Prelude.{sum_by}
use Rattle.std.proofs.lemmas.List.{take_rest}
use Rattle.place_index.specs.Shape.{layout, HasGoodPieces, group, groups_of, other_groups, lead_men, lead_size, other_sizes, group_sizes}
use Rattle.place_index.specs.declared.group.Group.{Group}
use Rattle.place_index.proofs.Shapes.Greatest.{good_length, rest_men}
use Rattle.place_index.proofs.Materials.MenTables.{men_most}
use Rattle.place_index.proofs.Shapes.Sizing.{men}

-- the groups after the first one
pub made_rest : (slice : List Group) (g : Group) (rest : List Group) → slice ≡ g ∷ rest → take (length slice - 1) (drop 1 slice) ≡ rest
made_rest slice g rest is = take_rest slice 1 ∙ ap (drop 1) is

pub made_length : (slice : List Group) → length (take (length slice - 1) (drop 1 slice)) ≡ length slice - 1
made_length slice = ap length (take_rest slice 1) ∙ length-drop 1 slice

pub made_sizes : (key lead order second file first : ℕ) (pieces : List ℕ) (slice : List Group) (sizes : List ℕ) → lead ≡ lead_men key → slice ≡ groups_of (layout key pieces order second file)
    → first ≡ lead_size key file → sizes ≡ first ∷ other_sizes lead (64 - lead) (take (length slice - 1) (drop 1 slice)) → sizes ≡ group_sizes (layout key pieces order second file)
made_sizes key lead order second file first pieces slice sizes lead-is slice-is first-is is =
    is ∙ ap (λ f. f ∷ other_sizes lead (64 - lead) (take (length slice - 1) (drop 1 slice))) first-is
    ∙ ap (λ l. lead_size key file ∷ other_sizes l (64 - l) (take (length slice - 1) (drop 1 slice))) lead-is
    ∙ ap (λ gs. lead_size key file ∷ other_sizes (lead_men key) (64 - lead_men key) gs)
    (made_rest slice (group (slice_index pieces 0) (lead_men key)) (other_groups key pieces) slice-is)

-- the men of the groups after the first one
pub made_men : (key : ℕ) (pieces : List ℕ) (order second file : ℕ) (slice : List Group) → key < 145 → HasGoodPieces key pieces → slice ≡ groups_of (layout key pieces order second file)
    → sum_by (λ g. g.men) (take (length slice - 1) (drop 1 slice)) ≤ 5
made_men key pieces order second file slice lt good is =
    omega (arith, ap (sum_by men) (made_rest slice (group (slice_index pieces 0) (lead_men key)) (other_groups key pieces) is), rest_men key pieces, good_length key pieces good, men_most key lt)
