-- The values of a block, code by code.
use Rattle.std.proofs.Common.{◌≡◌, ℕ, zero, suc, ◌+◌, ◌-◌, ◌*◌, ◌<◌, ◌≤◌, List, [], ◌∷◌, ◌++◌, length, get_or, take, drop, Some, None, append_assoc, refl, sym, ap, ◌∙◌, arith}
use Rattle.std.proofs.lemmas.List.{append-nil, take-append-le, length-append, get_or_append_left, drop_at, drop-drop, length-drop, length-take, take_all, get_or-drop}
use Rattle.std.proofs.lemmas.Option.{slice_get-get_or}
use Rattle.std.specs.Prelude.{slice_get}
use Rattle.pair_dict.specs.Symbols.{values_of}
use Rattle.pair_dict.specs.Codes.{Pairing, code_at}
use Rattle.pair_dict.specs.Blocks.{then_values, values_from, block_values}
use Rattle.pair_dict.specs.Inside.Runs.{IsLeft}

-- the values from a bit on begin with those of its code
pub values_from_code : (d : Pairing) (block : List ℕ) (most p s n : ℕ) → code_at d block p ≡ Some (s, n) → values_from d block (suc most) p ≡ values_of d.symbols s ++ values_from d block most (p + n)
unfolding values_from
values_from_code d block most p s n e = ap (λ o. then_values d o (λ m. values_from d block most (p + m))) e

pub values_from_none : (d : Pairing) (block : List ℕ) (most p : ℕ) → code_at d block p ≡ None → values_from d block most p ≡ []
unfolding values_from
values_from_none d block zero p e = refl
values_from_none d block (suc most) p e = ap (λ o. then_values d o (λ m. values_from d block most (p + m))) e

-- the value that is looked for stands in the next symbol
pub found_in : (xs ys bs : List ℕ) (left offset : ℕ) → left < length xs → drop left (xs ++ ys) ≡ drop offset bs → slice_get bs offset ≡ Some (get_or xs left 0)
found_in xs ys bs left offset lt e =
    let longer : offset < length bs = omega (arith, ap length e, length-drop left (xs ++ ys), length-drop offset bs, length-append xs ys) in
    let same : get_or bs offset 0 ≡ get_or xs left 0 =
    ap (λ (i : ℕ). get_or bs i 0) (omega arith) ∙ sym (get_or-drop offset bs 0 0) ∙ sym (ap (λ (zs : List ℕ). get_or zs 0 0) e) ∙ get_or-drop left (xs ++ ys) 0 0
    ∙ ap (λ (i : ℕ). get_or (xs ++ ys) i 0) (omega arith) ∙ get_or_append_left xs ys 0 left lt in
    slice_get-get_or bs offset 0 longer ∙ ap Some same

-- the next symbol is skipped
pub skipped_in : (xs ys bs : List ℕ) (left offset : ℕ) → length xs ≤ left → drop left (xs ++ ys) ≡ drop offset bs → drop (left - length xs) ys ≡ drop offset bs
skipped_in xs ys bs left offset le e =
    let k : length xs + (left - length xs) ≡ left = omega arith in
    ap (λ (zs : List ℕ). drop (left - length xs) zs) (sym (drop_at xs ys (length xs) refl)) ∙ drop-drop (left - length xs) (length xs) (xs ++ ys) ∙ ap (λ (i : ℕ). drop i (xs ++ ys)) k ∙ e

pub left_first : (d : Pairing) (block : List ℕ) (offset : ℕ) → IsLeft d block 0 offset offset
unfolding block_values
left_first d block offset = record { most = 8 * length block; enough = omega arith; same = refl }

opened : (d : Pairing) (block : List ℕ) (p s n most : ℕ) → code_at d block p ≡ Some (s, n) → 0 < most → values_from d block most p ≡ values_of d.symbols s ++ values_from d block (most - 1) (p + n)
opened d block p s n zero code some = absurd (omega arith)
opened d block p s n (suc most) code some = values_from_code d block most p s n code ∙ ap (λ (m : ℕ). values_of d.symbols s ++ values_from d block m (p + n)) (omega arith)

pub left_next : (d : Pairing) (block : List ℕ) (p left offset s n : ℕ) → code_at d block p ≡ Some (s, n) → 1 ≤ n → p + n ≤ 8 * length block → length (values_of d.symbols s) ≤ left → IsLeft d block p left offset
    → IsLeft d block (p + n) (left - length (values_of d.symbols s)) offset
left_next d block p left offset s n code some within le h =
    record {
      most = h.most - 1;
      enough = omega (arith, h.enough);
      same = skipped_in (values_of d.symbols s) (values_from d block (h.most - 1) (p + n)) (block_values d block) left offset le
          (ap (λ (zs : List ℕ). drop left zs) (sym (opened d block p s n h.most code (omega (arith, h.enough)))) ∙ h.same);
    }

pub left_found : (d : Pairing) (block : List ℕ) (p left offset s n : ℕ) → code_at d block p ≡ Some (s, n) → 1 ≤ n → p + n ≤ 8 * length block → left < length (values_of d.symbols s) → IsLeft d block p left offset
    → slice_get (block_values d block) offset ≡ Some (get_or (values_of d.symbols s) left 0)
left_found d block p left offset s n code some within lt h =
    found_in (values_of d.symbols s) (values_from d block (h.most - 1) (p + n)) (block_values d block) left offset lt
    (ap (λ (zs : List ℕ). drop left zs) (sym (opened d block p s n h.most code (omega (arith, h.enough)))) ∙ h.same)

pub left_none : (d : Pairing) (block : List ℕ) (p left offset : ℕ) → code_at d block p ≡ None → IsLeft d block p left offset → length (block_values d block) ≤ offset
left_none d block p left offset code h =
    let e = sym h.same ∙ ap (λ (zs : List ℕ). drop left zs) (values_from_none d block h.most p code) in
    omega (arith, ap length e, length-drop offset (block_values d block), length-drop {A = ℕ} left [])

-- the values so far and those from bit p on are the block's
pub record IsRest (d : Pairing) (block : List ℕ) (p : ℕ) (front : List ℕ) : Type 0 where
  pub most : ℕ
  pub enough : 8 * length block ≤ p + most
  pub same : front ++ values_from d block most p ≡ block_values d block

pub rest_first : (d : Pairing) (block : List ℕ) → IsRest d block 0 []
unfolding block_values
rest_first d block = record { most = 8 * length block; enough = omega arith; same = refl }

pub rest_next : (d : Pairing) (block : List ℕ) (p : ℕ) (front : List ℕ) (s n : ℕ) → code_at d block p ≡ Some (s, n) → 1 ≤ n → p + n ≤ 8 * length block → IsRest d block p front → IsRest d block (p + n) (front ++ values_of d.symbols s)
rest_next d block p front s n code some within h =
    record {
      most = h.most - 1;
      enough = omega (arith, h.enough);
      same = append_assoc front (values_of d.symbols s) (values_from d block (h.most - 1) (p + n))
          ∙ ap (λ (zs : List ℕ). front ++ zs) (sym (opened d block p s n h.most code (omega (arith, h.enough)))) ∙ h.same;
    }

-- no code is left
pub rest_none : (d : Pairing) (block : List ℕ) (p : ℕ) (front : List ℕ) (limit : ℕ) → code_at d block p ≡ None → IsRest d block p front → take limit front ≡ take limit (block_values d block)
rest_none d block p front limit code h =
    ap (λ (zs : List ℕ). take limit zs) (sym (append-nil front) ∙ ap (λ (zs : List ℕ). front ++ zs) (sym (values_from_none d block h.most p code)) ∙ h.same)

-- enough values are there
pub rest_full : (d : Pairing) (block : List ℕ) (p : ℕ) (front : List ℕ) (limit : ℕ) → limit ≤ length front → IsRest d block p front → take limit front ≡ take limit (block_values d block)
rest_full d block p front limit le h =
    sym (take-append-le limit front (values_from d block h.most p) le) ∙ ap (λ (zs : List ℕ). take limit zs) h.same

-- the front of a front
take-cut : (n : ℕ) (xs ys : List ℕ) → take n (take n xs ++ ys) ≡ take n (xs ++ ys)
take-cut zero xs ys = refl
take-cut (suc n) [] ys = refl
take-cut (suc n) (x ∷ xs) ys = ap (λ (zs : List ℕ). x ∷ zs) (take-cut n xs ys)

-- what is decoded so far: the values of some codes, up to a limit
pub record IsCut (d : Pairing) (block : List ℕ) (p limit : ℕ) (values : List ℕ) : Type 0 where
  pub front : List ℕ
  pub cut : values ≡ take limit front
  pub rest : IsRest d block p front

pub cut_first : (d : Pairing) (block : List ℕ) (limit : ℕ) → IsCut d block 0 limit []
cut_first d block limit = record { front = []; cut = sym (take_all {A = ℕ} limit [] (omega arith)); rest = rest_first d block }

pub cut_next : (d : Pairing) (block : List ℕ) (p limit : ℕ) (values more : List ℕ) (s n : ℕ) → code_at d block p ≡ Some (s, n) → 1 ≤ n → p + n ≤ 8 * length block → more ≡ take limit (values ++ values_of d.symbols s)
    → IsCut d block p limit values → IsCut d block (p + n) limit more
cut_next d block p limit values more s n code some within is h =
    record {
      front = h.front ++ values_of d.symbols s;
      cut = is ∙ ap (λ (zs : List ℕ). take limit (zs ++ values_of d.symbols s)) h.cut ∙ take-cut limit h.front (values_of d.symbols s);
      rest = rest_next d block p h.front s n code some within h.rest;
    }

pub cut_none : (d : Pairing) (block : List ℕ) (p limit : ℕ) (values : List ℕ) → code_at d block p ≡ None → IsCut d block p limit values → values ≡ take limit (block_values d block)
cut_none d block p limit values code h = h.cut ∙ rest_none d block p h.front limit code h.rest

pub cut_full : (d : Pairing) (block : List ℕ) (p limit : ℕ) (values : List ℕ) → limit ≤ length values → IsCut d block p limit values → values ≡ take limit (block_values d block)
cut_full d block p limit values le h =
    h.cut ∙ rest_full d block p h.front limit (omega (arith, le, ap length h.cut, length-take limit h.front)) h.rest
