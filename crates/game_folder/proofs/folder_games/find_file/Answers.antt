use Rattle.std.proofs.Common.{◌≡◌, ◌∙◌, ℕ, List, [], ◌∷◌, ap, refl, subst}
use Rattle.std.specs.Prelude.{Ok, Err}
use Rattle.system_io.specs.declared.reading.ReadFault.{ReadFault}
use Rattle.system_io.specs.declared.reading.ReadFault.TheVariants as read
use Rattle.timeline.specs.Events.{FileSought}
use Rattle.game_folder.specs.FolderGames.{IsToldBy, Sought}
use Rattle.game_folder.proofs.FolderLaws.{faulty}
use Rattle.game_folder.proofs.folder_games.find_file.Goals as goal

sought_at : (p path : List ℕ) (f fault : ReadFault) → p ≡ path → f ≡ fault → FileSought p (Err f) ∷ [] ≡ FileSought path (Err fault) ∷ []
sought_at p path f fault at is = ap (λ (q : List ℕ). FileSought q (Err f) ∷ []) at ∙ ap (λ (e : ReadFault). FileSought path (Err e) ∷ []) is

pub returns-in-Ok-look_within-clause-made : goal.returns-in-Ok-look_within-clause-made
returns-in-Ok-look_within-clause-made g c =
    let text = c.in-Ok-look_within.text.items in
    let told = subst (λ (t : List ℕ). IsToldBy (Ok t) c.game_told.result) c.deref.ensures.value c.game_told.ensures in
    (_, c.in-Ok-look_within.ensures.made, Sought (Ok text) c.in-Ok-look_within.ensures.short told (ap (λ (p : List ℕ). FileSought p (Ok text) ∷ []) (c.as_str.ensures.value ∙ c.in-Ok.ensures)))

pub returns-in-Ok-look_within-clause-lacks : goal.returns-in-Ok-look_within-clause-lacks
returns-in-Ok-look_within-clause-lacks g c =
    let disk = (g.S.System.outside c.args.system.now).disk in
    let text = c.in-Ok-look_within.text.items in
    let told = subst (λ (t : List ℕ). IsToldBy (Ok t) c.game_told.result) c.deref.ensures.value c.game_told.ensures in
    faulty disk c.args.folder.now c.args.stamp text c.game_told.result (subst (λ (p : List ℕ). disk.holds p text) (c.as_str.ensures.value ∙ c.in-Ok.ensures) c.in-Ok-look_within.ensures.bytes) told

pub returns-in-Err-Unreadable-clause-made : goal.returns-in-Err-Unreadable-clause-made
returns-in-Err-Unreadable-clause-made g c =
    (_, c.in-Err-Unreadable.ensures.made, Sought (Err read.Unreadable) tt refl (sought_at _ _ _ _ (c.as_str.ensures.value ∙ c.in-Ok.ensures) c.in-Err-Unreadable.field-0-is))

pub returns-clause-made : goal.returns-clause-made
returns-clause-made g c =
    (_, c.in-Err-OutOfMemory.ensures.made, Sought (Err read.OutOfMemory) tt refl (sought_at _ _ _ _ (c.as_str.ensures.value ∙ c.in-Ok.ensures) c.in-Err-OutOfMemory.field-0-is))
