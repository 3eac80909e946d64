use Rattle.std.proofs.Common.{◌≡◌, ◌∙◌, ap₂, None, List, subst, [], ◌∷◌, Some, Err, inl, map, refl, false, true, ap, sym}
use Rattle.timeline.specs.Events.{Committed, Noted, stamped}
use Rattle.timeline.proofs.EventLaws.{adds_more, adds_none}
use Rattle.arbiter_server.specs.declared.fault.Uncommitted.{Uncommitted}
use Rattle.system_io.specs.Records.{with_all}
use Rattle.system_io.specs.declared.record_store.Entry.{Entry}
use Rattle.game_folder.specs.StoreGames.{CouldNot, HadNone, HasAll, LacksMemory, LeavesNoted, LosesStore, MayCommit, StoredGames, store_lost}
use Rattle.game_folder.specs.declared.store_games.Loss.TheVariants.{OfStore}
use Rattle.game_folder.proofs.StoreLaws.{commits_noted, committed_as, given_back, given_settled, is_empty_list, is_filled_list, noted_same, refused_leaves}
use Rattle.game_folder.proofs.store_games.StoreGamesGames.commit.Goals as goal

pub returns-in-Some-clause-why : goal.returns-in-Some-clause-why
returns-in-Some-clause-why g c = ([], adds_none (g.S.System.outside c.args.system.now) c.args.timeline.now, CouldNot c.in-Some.loss (sym (ap (λ v. v.loss) c.self.view_is) ∙ c.in-Some.is) (ap Err c.told.ensures) refl)

pub returns-in-Some-clause-left : goal.returns-in-Some-clause-left
returns-in-Some-clause-left g c = subst (λ (why : Uncommitted). LeavesNoted {A = Unit {0}} (Err why) c.args.self.now c.args.self.now) (sym c.told.ensures) (refused_leaves c.args.self.now c.in-Some.loss (sym (ap (λ v. v.loss) c.self.view_is) ∙ c.in-Some.is))

pub returns-in-Some-clause-stored : goal.returns-in-Some-clause-stored
returns-in-Some-clause-stored g c = search

pub returns-in-Some-clause-made : goal.returns-in-Some-clause-made
returns-in-Some-clause-made g c =
    let w = returns-in-Some-clause-why g c in
    (w.0, w.1, commits_noted (g.S.System.outside c.args.system.now) c.args.self.now c.args.self.now _ w.0 refl refl (λ stamp bytes noted. noted) (returns-in-Some-clause-left g c) (returns-in-Some-clause-stored g c) w.2)

pub returns-then-is_empty-clause-why : goal.returns-then-is_empty-clause-why
returns-then-is_empty-clause-why g c =
    let inside = c.self.inside in (
      [],
      adds_none (g.S.System.outside c.args.system.now) c.args.timeline.now,
      HadNone (sym (ap (λ v. v.loss) c.self.view_is) ∙ c.in_default.is)
          (sym (ap (λ v. v.noted) c.self.view_is) ∙ is_empty_list inside.noted.len inside.noted.items inside.noted.ok.0 (sym c.is_empty.ensures ∙ c.if-is_empty.true)) refl refl,
    )

pub returns-then-is_empty-clause-left : goal.returns-then-is_empty-clause-left
returns-then-is_empty-clause-left g c =
    let inside = c.self.inside in
    let old = c.args.self.now in
    ap (λ (es : List Entry). record old { noted = es }) (sym (ap (λ v. v.noted) c.self.view_is) ∙ is_empty_list inside.noted.len inside.noted.items inside.noted.ok.0 (sym c.is_empty.ensures ∙ c.if-is_empty.true))

pub returns-then-is_empty-clause-stored : goal.returns-then-is_empty-clause-stored
returns-then-is_empty-clause-stored g c =
    let o = g.S.System.outside c.args.system.now in
    let inside = c.self.inside in
    let old = c.args.self.now in
    let none : old.noted ≡ [] = sym (ap (λ v. v.noted) c.self.view_is) ∙ is_empty_list inside.noted.len inside.noted.items inside.noted.ok.0 (sym c.is_empty.ensures ∙ c.if-is_empty.true) in
    record { all = λ stamp. ap (λ (es : List Entry). with_all (o.store old.store).has es stamp) (sym none); same = tt; settled = λ loss is. is }

pub returns-then-is_empty-clause-made : goal.returns-then-is_empty-clause-made
returns-then-is_empty-clause-made g c =
    let w = returns-then-is_empty-clause-why g c in
    (w.0, w.1, commits_noted (g.S.System.outside c.args.system.now) c.args.self.now c.args.self.now _ w.0 refl refl tt (returns-then-is_empty-clause-left g c) (returns-then-is_empty-clause-stored g c) w.2)

pub returns-in-Ok-clause-why : goal.returns-in-Ok-clause-why
returns-in-Ok-clause-why g c =
    let o = g.S.System.outside c.args.system.now in
    let inside = c.self.inside in
    let old = c.args.self.now in
    let filled = is_filled_list inside.noted.len inside.noted.items inside.noted.ok.0 (sym c.is_empty.ensures ∙ c.if-is_empty.false) in
    let may : MayCommit old = (sym (ap (λ v. v.loss) c.self.view_is) ∙ c.in_default.is, λ none. filled (ap (λ v. v.noted) c.self.view_is ∙ none)) in
    let all = committed_as o inside.store old.store c.replace-noted.result.items old.noted true [] (ap (λ v. v.store) c.self.view_is) (ap (λ v. v.items) c.replace-noted.ensures.value ∙ ap (λ v. v.noted) c.self.view_is) in
    (Committed (o.store_path inside.store) (map stamped c.replace-noted.result.items) true ∷ [], c.in-Ok.ensures.made, HasAll may refl all)

pub returns-in-Ok-clause-left : goal.returns-in-Ok-clause-left
returns-in-Ok-clause-left g c =
    let left : List Entry = c.replace-noted.new.dest.items in
    let none : left ≡ [] = ap (λ v. v.items) c.replace-noted.ensures.after ∙ c.new.ensures.items in
    ap (λ (v : StoredGames g.row.S-Store.Denot). record v { store = c.commit.new.store; noted = left }) c.self.view_is ∙ ap (λ (es : List Entry). record c.args.self.now { store = c.commit.new.store; noted = es }) none

pub returns-in-Ok-clause-stored : goal.returns-in-Ok-clause-stored
returns-in-Ok-clause-stored g c =
    let o = g.S.System.outside c.args.system.now in
    let store_is = ap (λ v. v.store) c.self.view_is in
    let noted_is : c.replace-noted.result.items ≡ c.args.self.now.noted = ap (λ v. v.items) c.replace-noted.ensures.value ∙ ap (λ v. v.noted) c.self.view_is in
    record {
      all = λ stamp. c.in-Ok.ensures.all stamp ∙ ap₂ (λ (store : g.row.S-Store.Denot) (es : List Entry). with_all (o.store store).has es stamp) store_is noted_is;
      same = tt;
      settled = λ loss is. c.in-Ok.ensures.kept;
    }

pub returns-in-Ok-clause-made : goal.returns-in-Ok-clause-made
returns-in-Ok-clause-made g c =
    let o = g.S.System.outside c.args.system.now in
    let inside = c.self.inside in
    let new : StoredGames g.row.S-Store.Denot = record { folder = inside.folder.now; store = c.commit.new.store; noted = c.replace-noted.new.dest.items; left = inside.left.items; loss = inside.loss } in
    let w = returns-in-Ok-clause-why g c in
    (w.0, w.1, commits_noted o c.args.self.now new _ w.0 (c.commit.ensures.path ∙ ap (λ v. o.store_path v.store) c.self.view_is) (ap (λ v. v.folder) c.self.view_is) tt (returns-in-Ok-clause-left g c) (returns-in-Ok-clause-stored g c) w.2)

pub returns-in-Err-OutOfMemory-clause-why : goal.returns-in-Err-OutOfMemory-clause-why
returns-in-Err-OutOfMemory-clause-why g c =
    let o = g.S.System.outside c.args.system.now in
    let inside = c.self.inside in
    let old = c.args.self.now in
    let filled = is_filled_list inside.noted.len inside.noted.items inside.noted.ok.0 (sym c.is_empty.ensures ∙ c.if-is_empty.false) in
    let may : MayCommit old = (sym (ap (λ v. v.loss) c.self.view_is) ∙ c.in_default.is, λ none. filled (ap (λ v. v.noted) c.self.view_is ∙ none)) in
    let all = committed_as o inside.store old.store c.replace-noted.result.items old.noted false [] (ap (λ v. v.store) c.self.view_is) (ap (λ v. v.items) c.replace-noted.ensures.value ∙ ap (λ v. v.noted) c.self.view_is) in
    (Committed (o.store_path inside.store) (map stamped c.replace-noted.result.items) false ∷ [], c.in-Err-OutOfMemory.ensures.made, LacksMemory may refl all)

pub returns-in-Err-OutOfMemory-clause-left : goal.returns-in-Err-OutOfMemory-clause-left
returns-in-Err-OutOfMemory-clause-left g c =
    let old = c.args.self.now in
    let batch : List Entry = c.in-Err-OutOfMemory.batch.items in
    let back : batch ≡ old.noted = given_back _ c.replace-noted.result.items _ c.in-Err-OutOfMemory.batch c.in-Err-OutOfMemory.field-0-is c.in-Err-OutOfMemory.ensures.refused ∙ ap (λ v. v.items) c.replace-noted.ensures.value ∙ ap (λ v. v.noted) c.self.view_is in (
      sym (ap (λ v. v.loss) c.self.view_is) ∙ c.in_default.is,
      ap (λ (v : StoredGames g.row.S-Store.Denot). record v { store = c.commit.new.store; noted = batch }) c.self.view_is ∙ ap (λ (es : List Entry). record old { store = c.commit.new.store; noted = es }) back,
    )

pub returns-in-Err-OutOfMemory-clause-stored : goal.returns-in-Err-OutOfMemory-clause-stored
returns-in-Err-OutOfMemory-clause-stored g c =
    let o = g.S.System.outside c.args.system.now in
    let store_is = ap (λ v. v.store) c.self.view_is in
    record {
      all = tt;
      same = λ stamp. c.in-Err-OutOfMemory.ensures.same stamp ∙ ap (λ (store : g.row.S-Store.Denot). (o.store store).has stamp) store_is;
      settled = λ loss is. given_settled (o.store c.commit.new.store) c.replace-noted.result.items _ c.in-Err-OutOfMemory.batch c.in-Err-OutOfMemory.field-0-is c.in-Err-OutOfMemory.ensures.refused;
    }

pub returns-in-Err-OutOfMemory-clause-made : goal.returns-in-Err-OutOfMemory-clause-made
returns-in-Err-OutOfMemory-clause-made g c =
    let o = g.S.System.outside c.args.system.now in
    let inside = c.self.inside in
    let old = c.args.self.now in
    let new : StoredGames g.row.S-Store.Denot = record { folder = inside.folder.now; store = c.commit.new.store; noted = c.in-Err-OutOfMemory.batch.items; left = inside.left.items; loss = inside.loss } in
    let back = given_back _ c.replace-noted.result.items _ c.in-Err-OutOfMemory.batch c.in-Err-OutOfMemory.field-0-is c.in-Err-OutOfMemory.ensures.refused in
    let stays = noted_same old new (ap (λ v. v.loss) c.self.view_is) (back ∙ ap (λ v. v.items) c.replace-noted.ensures.value ∙ ap (λ v. v.noted) c.self.view_is) in
    let w = returns-in-Err-OutOfMemory-clause-why g c in
    (w.0, w.1, commits_noted o old new _ w.0 (c.commit.ensures.path ∙ ap (λ v. o.store_path v.store) c.self.view_is) (ap (λ v. v.folder) c.self.view_is) stays (returns-in-Err-OutOfMemory-clause-left g c) (returns-in-Err-OutOfMemory-clause-stored g c) w.2)

pub returns-in-Err-Failed-clause-why : goal.returns-in-Err-Failed-clause-why
returns-in-Err-Failed-clause-why g c =
    let o = g.S.System.outside c.args.system.now in
    let inside = c.self.inside in
    let old = c.args.self.now in
    let first = Committed (o.store_path inside.store) (map stamped c.replace-noted.result.items) false in
    let filled = is_filled_list inside.noted.len inside.noted.items inside.noted.ok.0 (sym c.is_empty.ensures ∙ c.if-is_empty.false) in
    let may : MayCommit old = (sym (ap (λ v. v.loss) c.self.view_is) ∙ c.in_default.is, λ none. filled (ap (λ v. v.noted) c.self.view_is ∙ none)) in
    let all = committed_as o inside.store old.store c.replace-noted.result.items old.noted false (Noted store_lost ∷ []) (ap (λ v. v.store) c.self.view_is) (ap (λ v. v.items) c.replace-noted.ensures.value ∙ ap (λ v. v.noted) c.self.view_is) in
    (first ∷ Noted store_lost ∷ [], adds_more o c.args.timeline.now c.commit.new.timeline c.note.new.timeline (first ∷ []) (Noted store_lost ∷ []) c.in-Err-Failed.ensures.made c.note.ensures.made, LosesStore may refl all)

pub returns-in-Err-Failed-clause-stored : goal.returns-in-Err-Failed-clause-stored
returns-in-Err-Failed-clause-stored g c =
    let o = g.S.System.outside c.args.system.now in
    let store_is = ap (λ v. v.store) c.self.view_is in
    record {
      all = tt;
      same = λ stamp. c.in-Err-Failed.ensures.same stamp ∙ ap (λ (store : g.row.S-Store.Denot). (o.store store).has stamp) store_is;
      settled = λ loss is. absurd (let wrong : Some OfStore ≡ None = loss in cc);
    }

pub returns-in-Err-Failed-clause-made : goal.returns-in-Err-Failed-clause-made
returns-in-Err-Failed-clause-made g c =
    let o = g.S.System.outside c.args.system.now in
    let inside = c.self.inside in
    let new : StoredGames g.row.S-Store.Denot = record { folder = inside.folder.now; store = c.commit.new.store; noted = c.replace-noted.new.dest.items; left = inside.left.items; loss = Some OfStore } in
    let w = returns-in-Err-Failed-clause-why g c in
    (w.0, w.1, commits_noted o c.args.self.now new _ w.0 (c.commit.ensures.path ∙ ap (λ v. o.store_path v.store) c.self.view_is) (ap (λ v. v.folder) c.self.view_is) (λ stamp bytes noted. inl refl) refl (returns-in-Err-Failed-clause-stored g c) w.2)
