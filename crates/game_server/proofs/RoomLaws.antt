-- Games that are open, by their stamps and in the order of use.
use Rattle.std.proofs.Common.{◌≡◌, inl, inr, ◌∙◌, ℕ, zero, suc, ◌-◌, ◌≤◌, Bool, true, false, cond, List, [], ◌∷◌, length, take, Option, Some, None, refl, sym, ap, arith}
use Rattle.std.specs.List.{IsDistinct}
use Rattle.std.specs.Map.{keys_of, lookup_entry, remove_entry, set_value}
use Rattle.std.specs.Option.{option_map_or}
use Rattle.std.specs.Str.{bytes_eq}
use Rattle.std.specs.Cmp.Lexicographic.{nat_list_eq_equiv}
use Rattle.std.proofs.lemmas.Slice.Eq.{bytes_eq-Decides}
use Rattle.lru.specs.LruCache.{LruCache, promoted, put_entries}
use Rattle.arbiter_server.proofs.Rooms.{taken}
use Rattle.arbiter_server.specs.Room.{at_stamp}
use Rattle.game_server.specs.Datagrams.{IsLeftOpen}
use Rattle.game_server.specs.Seats.{without}

pub own_stamp : (stamp : List ℕ) → bytes_eq stamp stamp ≡ true
own_stamp stamp = nat_list_eq_equiv.refl stamp

-- ---- stamps

pub without_first : (stamp : List ℕ) (used : List (List ℕ)) → without stamp (stamp ∷ used) ≡ used
without_first stamp used = ap (λ (b : Bool). cond b used (stamp ∷ without stamp used)) (own_stamp stamp)

take_all : {X : Type 0} (n : ℕ) (xs : List X) → length xs ≤ n → take n xs ≡ xs
take_all zero [] h = refl
take_all (suc n) [] h = refl
take_all zero (x ∷ xs) h = absurd (omega arith)
take_all {X = X} (suc n) (x ∷ xs) h = ap (λ (l : List X). x ∷ l) (take_all n xs (omega arith))

module _ {S : Type 0} where
  -- ---- a game is put in

  entry_none : (es : List (List ℕ × S)) (stamp : List ℕ) → at_stamp es stamp ≡ None → lookup_entry (bytes_eq stamp) es ≡ None
  entry_none [] stamp h = refl
  entry_none (e ∷ es) stamp h = by (bytes_eq stamp e.0) h (entry_none es stamp)
    where
      by : (b : Bool) → cond b (Some e.1) (at_stamp es stamp) ≡ None → (at_stamp es stamp ≡ None → lookup_entry (bytes_eq stamp) es ≡ None) → cond b (Some e) (lookup_entry (bytes_eq stamp) es) ≡ None
      by true is rest = absurd (let f : Some e.1 ≡ None = is in cc)
      by false is rest = rest is

  pub put_first : (c : LruCache (List ℕ) S) (stamp : List ℕ) (seat : S) → at_stamp c.entries stamp ≡ None → put_entries bytes_eq c stamp seat ≡ (stamp, seat) ∷ take (c.cap - 1) c.entries
  put_first c stamp seat absent =
      ap (λ (o : Option (List ℕ × S)). option_map_or (λ (e : List ℕ × S). (e.0, seat) ∷ remove_entry (bytes_eq stamp) c.entries) o ((stamp, seat) ∷ take (c.cap - 1) c.entries)) (entry_none c.entries stamp absent)

  -- others stay, or are closed
  pub left_take : (n : ℕ) (es : List (List ℕ × S)) (other : List ℕ) → IsLeftOpen (at_stamp es other) (at_stamp (take n es) other)
  left_take zero [] other = inr refl
  left_take zero (e ∷ es) other = inr refl
  left_take (suc n) [] other = inr refl
  left_take (suc n) (e ∷ es) other = by (bytes_eq other e.0) (left_take n es other)
    where
      by : (b : Bool) → IsLeftOpen (at_stamp es other) (at_stamp (take n es) other) → IsLeftOpen (cond b (Some e.1) (at_stamp es other)) (cond b (Some e.1) (at_stamp (take n es) other))
      by true rest = inl refl
      by false rest = rest

  pub at_first : (es : List (List ℕ × S)) (stamp : List ℕ) (seat : S) → at_stamp ((stamp, seat) ∷ es) stamp ≡ Some seat
  at_first es stamp seat = ap (λ (b : Bool). cond b (Some seat) (at_stamp es stamp)) (own_stamp stamp)

  pub at_other : (es : List (List ℕ × S)) (stamp other : List ℕ) (seat : S) → bytes_eq stamp other ≡ false → at_stamp ((stamp, seat) ∷ es) other ≡ at_stamp es other
  at_other es stamp other seat apart = ap (λ (b : Bool). cond b (Some seat) (at_stamp es other)) (nat_list_eq_equiv.symm other stamp ∙ apart)

  -- ---- the order of use

  pub keys_take : (n : ℕ) (es : List (List ℕ × S)) → keys_of (take n es) ≡ take n (keys_of es)
  keys_take zero [] = refl
  keys_take zero (e ∷ es) = refl
  keys_take (suc n) [] = refl
  keys_take (suc n) (e ∷ es) = ap (λ (l : List (List ℕ)). e.0 ∷ l) (keys_take n es)

  pub keys_removed : (stamp : List ℕ) (es : List (List ℕ × S)) → keys_of (remove_entry (bytes_eq stamp) es) ≡ without stamp (keys_of es)
  keys_removed stamp [] = refl
  keys_removed stamp (e ∷ es) = by (bytes_eq stamp e.0) (keys_removed stamp es)
    where
      by : (b : Bool) → keys_of (remove_entry (bytes_eq stamp) es) ≡ without stamp (keys_of es) → keys_of (cond b es (e ∷ remove_entry (bytes_eq stamp) es)) ≡ cond b (keys_of es) (e.0 ∷ without stamp (keys_of es))
      by true rest = refl
      by false rest = ap (λ (l : List (List ℕ)). e.0 ∷ l) rest

  pub absent_without : (stamp : List ℕ) (es : List (List ℕ × S)) → at_stamp es stamp ≡ None → without stamp (keys_of es) ≡ keys_of es
  absent_without stamp [] h = refl
  absent_without stamp (e ∷ es) h = by (bytes_eq stamp e.0) h (absent_without stamp es)
    where
      by : (b : Bool) → cond b (Some e.1) (at_stamp es stamp) ≡ None → (at_stamp es stamp ≡ None → without stamp (keys_of es) ≡ keys_of es) → cond b (keys_of es) (e.0 ∷ without stamp (keys_of es)) ≡ e.0 ∷ keys_of es
      by true is rest = absurd (let f : Some e.1 ≡ None = is in cc)
      by false is rest = ap (λ (l : List (List ℕ)). e.0 ∷ l) (rest is)

  count_keys : (es : List (List ℕ × S)) → length (keys_of es) ≡ length es
  count_keys [] = refl
  count_keys (e ∷ es) = ap suc (count_keys es)

  one_less : (stamp : List ℕ) (es : List (List ℕ × S)) (seat : S) → at_stamp es stamp ≡ Some seat → suc (length (without stamp (keys_of es))) ≡ length es
  one_less stamp [] seat h = absurd cc
  one_less stamp (e ∷ es) seat h = by (bytes_eq stamp e.0) h (one_less stamp es seat)
    where
      by : (b : Bool) → cond b (Some e.1) (at_stamp es stamp) ≡ Some seat → (at_stamp es stamp ≡ Some seat → suc (length (without stamp (keys_of es))) ≡ length es) → suc (length (cond b (keys_of es) (e.0 ∷ without stamp (keys_of es)))) ≡ suc (length es)
      by true is rest = ap suc (count_keys es)
      by false is rest = ap suc (rest is)

  -- where one is used that is open, there is room for all others
  pub others_fit : (stamp : List ℕ) (es : List (List ℕ × S)) (seat : S) (most : ℕ) → at_stamp es stamp ≡ Some seat → length es ≤ most → without stamp (keys_of es) ≡ take (most - 1) (without stamp (keys_of es))
  others_fit stamp es seat most there fits = let one = one_less stamp es seat there in sym (take_all (most - 1) (without stamp (keys_of es)) (omega (arith, one, fits)))

  -- ---- a game is used

  found_entry : (stamp : List ℕ) (es : List (List ℕ × S)) (seat : S) → at_stamp es stamp ≡ Some seat → (k : List ℕ) × (lookup_entry (bytes_eq stamp) es ≡ Some (k, seat)) × (bytes_eq stamp k ≡ true)
  found_entry stamp [] seat h = absurd cc
  found_entry stamp (e ∷ es) seat h = by (bytes_eq stamp e.0) refl h (found_entry stamp es seat)
    where
      by : (b : Bool) → bytes_eq stamp e.0 ≡ b → cond b (Some e.1) (at_stamp es stamp) ≡ Some seat
          → (at_stamp es stamp ≡ Some seat → (k : List ℕ) × (lookup_entry (bytes_eq stamp) es ≡ Some (k, seat)) × (bytes_eq stamp k ≡ true))
          → (k : List ℕ) × (cond b (Some e) (lookup_entry (bytes_eq stamp) es) ≡ Some (k, seat)) × (bytes_eq stamp k ≡ true)
      by true is same rest = let own : e.1 ≡ seat = cc in (e.0, ap (λ (x : S). Some (e.0, x)) own, is)
      by false is same rest = rest same

  pub used_entries : (stamp : List ℕ) (es : List (List ℕ × S)) (seat left : S) → at_stamp es stamp ≡ Some seat → set_value (bytes_eq stamp) (promoted (bytes_eq stamp) es) left ≡ (stamp, left) ∷ remove_entry (bytes_eq stamp) es
  used_entries stamp es seat left there =
      let f = found_entry stamp es seat there in
      let own : stamp ≡ f.0 = (bytes_eq-Decides stamp f.0).0 f.2 in
      let first : promoted (bytes_eq stamp) es ≡ (f.0, seat) ∷ remove_entry (bytes_eq stamp) es = ap (λ (o : Option (List ℕ × S)). option_map_or (λ (e : List ℕ × S). e ∷ remove_entry (bytes_eq stamp) es) o es) f.1 in
      ap (λ (l : List (List ℕ × S)). set_value (bytes_eq stamp) l left) first
      ∙ ap (λ (b : Bool). cond b ((f.0, left) ∷ remove_entry (bytes_eq stamp) es) ((f.0, seat) ∷ set_value (bytes_eq stamp) (remove_entry (bytes_eq stamp) es) left)) f.2
      ∙ ap (λ (k : List ℕ). (k, left) ∷ remove_entry (bytes_eq stamp) es) (sym own)

  module _ (es : List (List ℕ × S)) (stamp : List ℕ) (apart : IsDistinct bytes_eq (keys_of es)) where
    pub removed_own : at_stamp (remove_entry (bytes_eq stamp) es) stamp ≡ None
    removed_own = taken es stamp stamp apart ∙ ap (λ (b : Bool). cond b None (at_stamp es stamp)) (own_stamp stamp)

    pub removed_other : (other : List ℕ) → bytes_eq stamp other ≡ false → at_stamp (remove_entry (bytes_eq stamp) es) other ≡ at_stamp es other
    removed_other other is = taken es stamp other apart ∙ ap (λ (b : Bool). cond b None (at_stamp es other)) is

  -- one that was used, and is taken out then
  pub used_removed : (es : List (List ℕ × S)) (stamp : List ℕ) (left : S) → remove_entry (bytes_eq stamp) ((stamp, left) ∷ es) ≡ es
  used_removed es stamp left = ap (λ (b : Bool). cond b es ((stamp, left) ∷ remove_entry (bytes_eq stamp) es)) (own_stamp stamp)
