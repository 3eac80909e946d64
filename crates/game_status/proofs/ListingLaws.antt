-- Stamps that are found in names, and sets of them.
use Rattle.std.proofs.Common.{Global, ◌≡◌, ◌≢◌, ◌<◌, ◌+◌, ◌++◌, ◌∙◌, ◌⊎◌, inl, inr, ℕ, Bool, true, false, cond, List, [], ◌∷◌, length, map, take, get_or, refl, sym, ap, subst, string_bytes, Option, Some, None, Ok, arith}
use Rattle.std.specs.Prelude.{Result, String}
use Rattle.std.specs.Borrow.{Bor}
use Rattle.std.specs.Option.{MatchOption}
use Rattle.std.specs.List.{Contains}
use Rattle.std.specs.Ordering.{nat_cmp}
use Rattle.std.specs.Cmp.Lexicographic.{slice_cmp}
use Rattle.std.specs.BTreeMap.{is_at}
use Rattle.std.specs.BTreeSet.{BTreeSet, Updates, contains}
use Rattle.std.specs.declared.cmp.Ordering.{Ordering}
use Rattle.std.specs.declared.cmp.Ordering.TheVariants.{Less, Equal, Greater}
use Rattle.std.specs.Ordering.{is_eq}
use Rattle.std.proofs.lemmas.Cmp.{nat_cmp_total, lists_total}
use Rattle.std.proofs.lemmas.Map.Lookups.{exact_bytes}
use Rattle.std.proofs.lemmas.Map.Views.{btree_set_contains_iff}
use Rattle.std.proofs.lemmas.List.{append_cancel_right, map-append, take_more}
use Rattle.std.proofs.lemmas.List.Elements.{Contains-append_left, Contains-append_right, Contains-append_cases, Contains-push, Contains-push_cases}
use Rattle.hex.specs.Hex.{decode_of, decode_sized, encode_lower, lower_digits}
use Rattle.hex.proofs.HexLemmas.{decode_of-encode_lower, decode_sized-twice, length-encode_with}
use Rattle.move_msg.specs.Stamps.{IsStamp}
use Rattle.game_status.specs.Listings.{AddsStamps, AreStampsIn, stamp_file_name}

-- thirty-two lower-case digits are read as the bytes that they are written for
pub decoded : (text stamp : List ℕ) → IsStamp stamp → text ≡ encode_lower stamp → decode_sized text 16 ≡ Ok stamp
decoded text stamp is e =
    let len = is.0 in
    ap (λ (t : List ℕ). decode_sized t 16) e ∙ decode_sized-twice (encode_lower stamp) 16 (omega (arith, length-encode_with lower_digits stamp, len)) ∙ decode_of-encode_lower stamp is.1

-- ---- names

pub some_front : (name ending : List ℕ) (r : Option (Bor (List ℕ))) (x : Bor (List ℕ)) → r ≡ Some x → MatchOption r ((front : List ℕ) → name ≢ front ++ ending) (λ x. name ≡ x.now ++ ending) → name ≡ x.now ++ ending
some_front name ending r x is h = subst (λ o. MatchOption o ((front : List ℕ) → name ≢ front ++ ending) (λ x. name ≡ x.now ++ ending)) is h

pub no_front : (name ending : List ℕ) (r : Option (Bor (List ℕ))) → r ≡ None → MatchOption r ((front : List ℕ) → name ≢ front ++ ending) (λ x. name ≡ x.now ++ ending) → (front : List ℕ) → name ≢ front ++ ending
no_front name ending r is h = subst (λ o. MatchOption o ((front : List ℕ) → name ≢ front ++ ending) (λ x. name ≡ x.now ++ ending)) is h

some_same : {A E : Type 0} (x y : A) → ◌≡◌ {A = Result A E} (Ok x) (Ok y) → x ≡ y
some_same x y e = cc

pub one_stamp : (a b ending : List ℕ) → IsStamp a → IsStamp b → stamp_file_name a ending ≡ stamp_file_name b ending → a ≡ b
one_stamp a b ending is also e =
    some_same a b (sym (decode_of-encode_lower a is.1) ∙ ap decode_of (append_cancel_right (encode_lower a) (encode_lower b) ending e) ∙ decode_of-encode_lower b also.1)

-- ---- a set with one more

abbrev order : List ℕ → List ℕ → Ordering
order = slice_cmp nat_cmp

equal_case : (o : Ordering) → is_eq o ≡ true → o ≡ Equal
equal_case Less e = absurd (cc)
equal_case Equal e = refl
equal_case Greater e = absurd (cc)

either : (b t : Bool) → cond b true t ≡ true → (b ≡ true) ⊎ (t ≡ true)
either true t e = inl refl
either false t e = inr e

stays : (b t : Bool) → t ≡ true → cond b true t ≡ true
stays true t e = refl
stays false t e = e

module _ (old new : BTreeSet (List ℕ)) (stamp : List ℕ) (h : Updates order old new stamp true) where
  has : (s : BTreeSet (List ℕ)) (q : List ℕ) → contains order s q ≡ true → Contains s.keys q
  has s q e = (btree_set_contains_iff (lists_total nat_cmp_total) exact_bytes s q).0 e

  tells : (s : BTreeSet (List ℕ)) (q : List ℕ) → Contains s.keys q → contains order s q ≡ true
  tells s q e = (btree_set_contains_iff (lists_total nat_cmp_total) exact_bytes s q).1 e

  set_keeps : (q : List ℕ) → Contains old.keys q → Contains new.keys q
  set_keeps q e = has new q (h.0 q ∙ stays (is_at (order stamp) q) (contains order old q) (tells old q e))

  set_has : Contains new.keys stamp
  set_has = has new stamp h.1

  set_only : (q : List ℕ) → Contains new.keys q → Contains old.keys q ⊎ (stamp ≡ q)
  set_only q e = elim (either (is_at (order stamp) q) (contains order old q) (sym (h.0 q) ∙ tells new q e)) [
    | inl same ↦ inr (exact_bytes stamp q (equal_case (order stamp q) same))
    | inr before ↦ inl (has old q before)
  ]

  -- the stamp of a name was added
  pub adds_one : (name ending : List ℕ) → IsStamp stamp → name ≡ stamp_file_name stamp ending → AddsStamps (name ∷ []) ending old.keys new.keys
  adds_one name ending is named = record {
    kept = set_keeps;
    all = λ q also listed. elim (Contains-push_cases [] name (stamp_file_name q ending) listed) [
      | inl none ↦ absurd (let w = none.1 in omega (arith, w))
      | inr same ↦ subst (Contains new.keys) (one_stamp stamp q ending is also (sym named ∙ same)) set_has
    ];
    only = λ q e. elim (set_only q e) [
      | inl before ↦ inl before
      | inr same ↦ inr (subst IsStamp same is, subst (Contains (name ∷ [])) (named ∙ ap (λ s. stamp_file_name s ending) same) (Contains-push [] name))
    ];
  }

-- a name that is none of a stamp's adds none
pub adds_none : (name ending : List ℕ) (stamps : List (List ℕ)) → ((stamp : List ℕ) → IsStamp stamp → name ≡ stamp_file_name stamp ending → ⊥) → AddsStamps (name ∷ []) ending stamps stamps
adds_none name ending stamps none = record {
  kept = λ q h. h;
  all = λ q is listed. elim (Contains-push_cases [] name (stamp_file_name q ending) listed) [
    | inl none ↦ absurd (let w = none.1 in omega (arith, w))
    | inr same ↦ absurd (none q is same)
  ];
  only = λ q h. inl h;
}

pub adds_nothing : (ending : List ℕ) (stamps : List (List ℕ)) → AddsStamps [] ending stamps stamps
adds_nothing ending stamps = record {
  kept = λ q h. h;
  all = λ q is listed. absurd (let w = listed.1 in omega (arith, w));
  only = λ q h. inl h;
}

-- names and then others
pub adds_both : (names others : List (List ℕ)) (ending : List ℕ) (old mid new : List (List ℕ)) → AddsStamps names ending old mid → AddsStamps others ending mid new → AddsStamps (names ++ others) ending old new
adds_both names others ending old mid new a b = record {
  kept = λ q h. b.kept q (a.kept q h);
  all = λ q is listed. elim (Contains-append_cases names others (stamp_file_name q ending) listed) [
    | inl first ↦ b.kept q (a.all q is first)
    | inr second ↦ b.all q is second
  ];
  only = λ q h. elim (b.only q h) [
    | inl before ↦ elim (a.only q before) [
      | inl old ↦ inl old
      | inr named ↦ inr (named.0, Contains-append_left names others _ named.1)
    ]
    | inr named ↦ inr (named.0, Contains-append_right names others _ named.1)
  ];
}

pub adds_more : (names : List (String Global)) (i : ℕ) (name : String Global) (bytes ending : List ℕ) (old mid new : List (List ℕ)) → i < length names → name ≡ get_or names i name → bytes ≡ string_bytes name → AddsStamps (map string_bytes (take i names)) ending old mid → AddsStamps (bytes ∷ []) ending mid new → AddsStamps (map string_bytes (take (i + 1) names)) ending old new
adds_more names i name bytes ending old mid new within at is a b =
    let more = ap (map string_bytes) (take_more names i name within) ∙ map-append string_bytes (take i names) (get_or names i name ∷ []) in
    let same : bytes ≡ string_bytes (get_or names i name) = is ∙ ap string_bytes at in
    subst (λ ns. AddsStamps ns ending old new) (sym more) (adds_both (map string_bytes (take i names)) (string_bytes (get_or names i name) ∷ []) ending old mid new a (subst (λ bs. AddsStamps (bs ∷ []) ending mid new) same b))

-- ---- folders

-- what was added to none is all
pub are_stamps : (names : List (List ℕ)) (ending : List ℕ) (none stamps : List (List ℕ)) → none ≡ [] → AddsStamps names ending none stamps → AreStampsIn names ending stamps
are_stamps names ending none stamps empty h = record {
  all = h.all;
  only = λ q has. elim (h.only q has) [
    | inl before ↦ absurd (let w = (subst (λ ss. Contains ss q) empty before).1 in omega (arith, w))
    | inr listed ↦ listed
  ];
}

-- whether a set has a stamp
pub is_listed : (s : BTreeSet (List ℕ)) (stamp : List ℕ) (b : Bool) → b ≡ contains order s stamp → b ≡ true → Contains s.keys stamp
is_listed s stamp b is e = (btree_set_contains_iff (lists_total nat_cmp_total) exact_bytes s stamp).0 (sym is ∙ e)

pub is_unlisted : (s : BTreeSet (List ℕ)) (stamp : List ℕ) (b : Bool) → b ≡ contains order s stamp → b ≡ false → Contains s.keys stamp → ⊥
is_unlisted s stamp b is e has =
    let t : true ≡ false = sym ((btree_set_contains_iff (lists_total nat_cmp_total) exact_bytes s stamp).1 has) ∙ sym is ∙ e in cc
