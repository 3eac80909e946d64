-- Tokens that are written one after the other.
use Rattle.std.proofs.Common.{◌≡◌, ◌∙◌, sym, ap, refl, subst, ℕ, ℤ, ◌<◌, ◌^◌, ◌≤◌, ◌++◌, Bool, true, false, cond, List, [], ◌∷◌, Option, Some, append_assoc, append-nil, option_and_then, arith, ◌+◌, length, take, get_or}
use Rattle.std.specs.Fmt.{decimal, signed_decimal}
use Rattle.std.specs.Int.Signed.{mag}
use Rattle.std.specs.Io.KnownBytes.{Appends}
use Rattle.std.proofs.KnownBytes.{Appends-nil, Appends-trans}
use Rattle.std.proofs.lemmas.List.Sums.{fold-append}
use Rattle.std.proofs.lemmas.Grind.{flat_map-append}
use Rattle.std.proofs.lemmas.List.{take_more}
use Rattle.std.specs.List.{IsFirstAndRest}
use Rattle.json.specs.Token.{Token, end_object, end_array, key}
use Rattle.json.specs.Json.{Json, null, boolean, number, string, array, object, Items, no_items, item, Members, no_members, member, max_depth, document, value, if_last}
use Rattle.json.specs.Print.{ArePrintable, IsPrintable, escape, escape_byte, print_from, quoted, separator, token_text}
use Rattle.json.specs.Tree.{json_tokens, items_tokens, members_tokens, depth}
use Rattle.json.proofs.Printed.Decimals.{IsNumber-decimal, IsNumber-signed_decimal}
use Rattle.json.proofs.Printed.Tokens.{print_from-append, tokens-print}
use Rattle.json.proofs.Printed.Strings.{escape_byte_plain}
use Rattle.json.proofs.Printed.Trees.{value-json_tokens}
use Rattle.json_lines.specs.declared.members.Member.{Member}
use Rattle.json_lines.specs.Inside.Members.{Writes, members_of, open_items, open_tokens, value_ends_behind, value_json}
use Rattle.json_lines.specs.Objects.{followed_by, json_text}

-- ---- printing

none_printable : ArePrintable []
unfolding ArePrintable
none_printable = tt

both_printable : (ts us : List Token) → ArePrintable ts → ArePrintable us → ArePrintable (ts ++ us)
unfolding ArePrintable
both_printable [] us h k = k
both_printable (t ∷ ts) us h k = (h.0, both_printable ts us h.1 k)

one_printable : (t : Token) → IsPrintable t → ArePrintable (t ∷ [])
unfolding ArePrintable
one_printable t h = (h, tt)

one_text : (later : Bool) (t : Token) → print_from later (t ∷ []) ≡ separator later t ++ token_text t
unfolding print_from
one_text later t = ap (λ l. separator later t ++ l) (append-nil (token_text t))

no_text : (later : Bool) → print_from later [] ≡ []
unfolding print_from
no_text later = refl

-- ---- what ends

mutual
  pub ended_json : (later : Bool) (j : Json) → value_ends_behind later (json_tokens j) ≡ true
  ended_json later null = refl
  ended_json later (boolean b) = refl
  ended_json later (number s) = refl
  ended_json later (string s) = refl
  ended_json later (array js) = ended_items false js
  ended_json later (object ms) = ended_members false ms

  ended_items : (later : Bool) (js : Items) → value_ends_behind later (items_tokens js) ≡ true
  ended_items later no_items = refl
  ended_items later (item j js) = fold-append _ later (json_tokens j) (items_tokens js) ∙ ended_items _ js

  ended_members : (later : Bool) (ms : Members) → value_ends_behind later (members_tokens ms) ≡ true
  ended_members later no_members = refl
  ended_members later (member k j ms) = fold-append _ false (json_tokens j) (members_tokens ms) ∙ ended_members _ ms

-- ---- writing

pub writes_nothing : (later : Bool) (old : Option (List ℕ)) → Writes later [] old old
writes_nothing later old = record { text = subst (Appends old old) (sym (no_text later)) (Appends-nil old); printable = none_printable }

pub writes_one : (later : Bool) (t : Token) (old new : Option (List ℕ)) → IsPrintable t → Appends old new (separator later t ++ token_text t) → Writes later (t ∷ []) old new
writes_one later t old new h text = record { text = subst (Appends old new) (sym (one_text later t)) text; printable = one_printable t h }

pub writes_both : (later : Bool) (ts us : List Token) (old mid new : Option (List ℕ)) → Writes later ts old mid → Writes (value_ends_behind later ts) us mid new → Writes later (ts ++ us) old new
writes_both later ts us old mid new a b = record {
  text = subst (Appends old new) (sym (print_from-append later ts us)) (Appends-trans old mid new _ _ a.text b.text);
  printable = both_printable ts us a.printable b.printable;
}

pub writes_number : (z : ℤ) (old new : Option (List ℕ)) → mag z < 2 ^ 31 → Appends old new (signed_decimal z) → Writes false (Token.number (signed_decimal z) ∷ []) old new
writes_number z old new few text = writes_one false _ old new (IsNumber-signed_decimal z (omega (arith, few))) text

pub writes_count : (n : ℕ) (old new : Option (List ℕ)) → n < 2 ^ 64 → Appends old new (decimal n) → Writes false (Token.number (decimal n) ∷ []) old new
writes_count n old new few text = writes_one false _ old new (IsNumber-decimal n few) text

-- a name, behind a comma where a value stands before it, and its colon
pub writes_key : (later : Bool) (k : List ℕ) (old mid after new : Option (List ℕ)) → Appends old mid (cond later (44 ∷ []) []) → Appends mid after (quoted k) → Appends after new (58 ∷ []) → Writes later (key k ∷ []) old new
writes_key later k old mid after new a b d =
    writes_one later (key k) old new tt
    (subst (λ s. Appends old new (s ++ (quoted k ++ 58 ∷ []))) (comma_is later)
    (Appends-trans old mid new _ _ a (Appends-trans mid after new (quoted k) (58 ∷ []) b d)))
  where
    comma_is : (later : Bool) → cond later (44 ∷ []) [] ≡ separator later (key k)
    comma_is true = refl
    comma_is false = refl

-- members, one after the other
pub writes_more : (later : Bool) (k : List ℕ) (j : Json) (ts : List Token) (old mid new : Option (List ℕ)) → Writes later (key k ∷ json_tokens j) old mid → Writes true ts mid new → Writes later (key k ∷ (json_tokens j ++ ts)) old new
writes_more later k j ts old mid new a b = writes_both later (key k ∷ json_tokens j) ts old mid new a (subst (λ c. Writes c ts mid new) (sym (ended_json false j)) b)

-- no member at the end of a list, and one at its front
pub no_more : (later : Bool) (ms : List Member) (old : Option (List ℕ)) → length ms ≡ 0 → Writes later (open_tokens (members_of ms)) old old
no_more later [] old h = writes_nothing later old
no_more later (m ∷ ms) old h = absurd (omega (arith, h))

pub one_member : (later : Bool) (all : List Member) (m : Member) (ms : List Member) (old mid new : Option (List ℕ)) → IsFirstAndRest all m ms → Writes later (key m.name.now ∷ json_tokens (value_json m.value)) old mid → Writes true (open_tokens (members_of ms)) mid new → Writes later (open_tokens (members_of all)) old new
one_member later all m ms old mid new h a b = subst (λ xs. Writes later (open_tokens (members_of xs)) old new) (sym h.0) (writes_more later m.name.now (value_json m.value) _ old mid new a b)

-- ---- strings

-- one byte more that stands for itself
pub plain_more : (d : List ℕ) (i : ℕ) → i < length d → (get_or d i 0 ≡ 34 → ⊥) → (get_or d i 0 ≡ 92 → ⊥) → 32 ≤ get_or d i 0 → escape (take i d) ≡ take i d → escape (take (i + 1) d) ≡ take (i + 1) d
plain_more d i lt quote slash above so_far =
    let more = take_more d i 0 lt in
    ap escape more
    ∙ flat_map-append escape_byte (take i d) (get_or d i 0 ∷ [])
    ∙ ap (λ l. l ++ escape (get_or d i 0 ∷ [])) so_far
    ∙ ap (λ l. take i d ++ (l ++ [])) (escape_byte_plain (get_or d i 0) quote slash above)
    ∙ sym more

pub string_is : (front rest : List ℕ) (old mid after new : Option (List ℕ)) → Appends old mid (34 ∷ []) → Appends mid after (escape (front ++ rest)) → Appends after new (34 ∷ []) → Appends old new (quoted (front ++ rest))
string_is front rest old mid after new a b d = Appends-trans old mid new (34 ∷ []) _ a (Appends-trans mid after new (escape (front ++ rest)) (34 ∷ []) b d)

pub parts_are : (front rest : List ℕ) (old mid new : Option (List ℕ)) → Appends old mid (escape front) → Appends mid new (escape rest) → Appends old new (escape (front ++ rest))
parts_are front rest old mid new a b = subst (Appends old new) (sym (flat_map-append escape_byte front rest)) (Appends-trans old mid new _ _ a b)

-- behind members a comma stands
pub ended_open : (k : List ℕ) (j : Json) (later : Bool) (ms : Members) → value_ends_behind later (open_tokens (member k j ms)) ≡ true
ended_open k j later no_members = ap (λ ts. value_ends_behind false ts) (append-nil (json_tokens j)) ∙ ended_json false j
ended_open k j later (member l i ms) = fold-append _ false (json_tokens j) (open_tokens (member l i ms)) ∙ ended_open l i (value_ends_behind false (json_tokens j)) ms

-- ---- members and items in two parts

pub open_followed : (ms others : Members) → open_tokens (followed_by ms others) ≡ open_tokens ms ++ open_tokens others
open_followed no_members others = refl
open_followed (member k j ms) others = ap (λ ts. key k ∷ (json_tokens j ++ ts)) (open_followed ms others) ∙ ap (λ ts. key k ∷ ts) (sym (append_assoc (json_tokens j) _ _))

pub closed_members : (ms : Members) → members_tokens ms ≡ open_tokens ms ++ end_object ∷ []
closed_members no_members = refl
closed_members (member k j ms) = ap (λ ts. key k ∷ (json_tokens j ++ ts)) (closed_members ms) ∙ ap (λ ts. key k ∷ ts) (sym (append_assoc (json_tokens j) _ _))

pub closed_items : (js : Items) → items_tokens js ≡ open_items js ++ end_array ∷ []
closed_items no_items = refl
closed_items (item j js) = ap (λ ts. json_tokens j ++ ts) (closed_items js) ∙ sym (append_assoc (json_tokens j) _ _)

-- ---- reading back

pub reads_back : (j : Json) (old new : Option (List ℕ)) → Writes false (json_tokens j) old new → depth j ≤ max_depth → document (json_text j) ≡ Some j
reads_back j old new w shallow =
    ap (λ ts. option_and_then (λ p. if_last p.0 p.1) (value max_depth ts)) (tokens-print (json_tokens j) w.printable ∙ sym (append-nil (json_tokens j)))
    ∙ ap (option_and_then (λ p. if_last p.0 p.1)) (value-json_tokens j max_depth [] shallow)
