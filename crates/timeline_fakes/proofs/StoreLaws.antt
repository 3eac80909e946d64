-- What is found in the batches of a store, one after the other.
use Rattle.std.proofs.Common.{◌≡◌, ◌∙◌, ◌++◌, ◌+◌, ◌<◌, ℕ, List, [], ◌∷◌, length, take, get_or, Option, None, append-nil, refl, sym, ap}
use Rattle.std.specs.Prelude.{Vec}
use Rattle.std.specs.Borrow.{Bor}
use Rattle.std.specs.Global.{Global}
use Rattle.std.specs.List.{flat_map}
use Rattle.std.proofs.lemmas.Grind.{flat_map-append}
use Rattle.std.proofs.lemmas.List.{take_more}
use Rattle.system_io.specs.declared.record_store.Entry.{Entry}
use Rattle.system_io.specs.Records.{Records, records_of, with_all, with_entry}
use Rattle.timeline.specs.Events.{bytes_found}
use Rattle.timeline_fakes.specs.Memories.{bytes_at}

pub with_both : (records : Records) (xs ys : List Entry) → with_all records (xs ++ ys) ≡ with_all (with_all records xs) ys
with_both records [] ys = refl
with_both records (x ∷ xs) ys = with_both (with_entry records x) xs ys

abbrev pub all_in : List (Vec Entry Global) → List Entry
all_in = flat_map (λ b. b.items)

-- the records of some batches and one more
pub with_batch : (batches : List (Vec Entry Global)) (b : Vec Entry Global) → records_of (all_in (batches ++ b ∷ [])) ≡ with_all (records_of (all_in batches)) b.items
with_batch batches b =
    ap records_of (flat_map-append (λ (x : Vec Entry Global). x.items) batches (b ∷ []) ∙ ap (λ (l : List Entry). all_in batches ++ l) (append-nil b.items)) ∙ with_both (λ stamp. None) (all_in batches) b.items

-- with one batch more
pub found_next : (batches : List (Vec Entry Global)) (i : ℕ) (b : Vec Entry Global) (stamp : List ℕ) (before after : Option (Bor (List ℕ))) → i < length batches → b ≡ get_or batches i b
    → ((records : Records) → bytes_found before ≡ bytes_at records stamp → bytes_found after ≡ bytes_at (with_all records b.items) stamp)
    → bytes_found before ≡ bytes_at (records_of (all_in (take i batches))) stamp
    → bytes_found after ≡ bytes_at (records_of (all_in (take (i + 1) batches))) stamp
found_next batches i b stamp before after lt is step had =
    let more : take (i + 1) batches ≡ take i batches ++ b ∷ [] = take_more batches i b lt ∙ ap (λ (x : Vec Entry Global). take i batches ++ x ∷ []) (sym is) in
    step (records_of (all_in (take i batches))) had ∙ sym (ap (λ (r : Records). bytes_at r stamp) (ap (λ (l : List (Vec Entry Global)). records_of (all_in l)) more ∙ with_batch (take i batches) b))
