use Rattle.std.proofs.Common.{◌≡◌, [], ◌++◌, map, append-nil, sym, subst, ◌∙◌}
use Rattle.std.proofs.lemmas.Map.Iter.{rest_all}
use Rattle.std.specs.Map.Iter.{deref_pair}
use Rattle.game_store.specs.Slots.{Slots, game_at}
use Rattle.game_store.specs.Listing.{Listed, ListsGames, as_listed, listed_games}
use Rattle.std.proofs.Common.{List}
use Rattle.game_store.proofs.ListLemmas.{lists}
use Rattle.game_store.proofs.memory.Memory.list.Goals as goal

pub returns : goal.returns
returns c =
    let empty : c.loop-stamp.stamp-iterator ≡ [] = rest_all deref_pair _ _ c.next.result c.in-None.is c.next.ensures.steps in
    let all : map as_listed c.loop-stamp.all.items ++ [] ≡ listed_games c.args.self.now = subst (λ (es : Slots). map as_listed c.loop-stamp.all.items ++ listed_games es ≡ listed_games c.args.self.now) empty c.loop-stamp.invariant in
    subst (λ (xs : List Listed). ListsGames xs (game_at c.args.self.now)) (sym all ∙ append-nil (map as_listed c.loop-stamp.all.items))
    (subst (λ (es : Slots). ListsGames (listed_games es) (game_at es)) c.self.view_is (lists c.self.inside.slots.entries c.iter-stamp-items.ensures.ordered))
