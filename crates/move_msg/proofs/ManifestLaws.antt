-- The lines of a manifest.
use Rattle.std.proofs.Common.{◌≡◌, ◌<◌, ◌≤◌, ◌+◌, ◌++◌, ℕ, zero, suc, Bool, true, false, cond, get_or, List, [], ◌∷◌, length, take, drop, Result, Ok, refl, sym, ap, ◌∙◌, arith, inl, inr, append_assoc}
use Rattle.std.proofs.lemmas.List.{take_at, drop_at, append-nil, take-append-drop, length-append}
use Rattle.std.proofs.Common.{subst}
use Rattle.hex.specs.Hex.{encode_lower, decode_of}
use Rattle.hex.specs.declared.error.FromHexError.{FromHexError}
use Rattle.hex.proofs.HexLemmas.{decode_of-encode_lower}
use Rattle.move_msg.specs.Inside.Cut.{LacksByte}
use Rattle.move_msg.specs.TableNames.{IsFileName}
use Rattle.move_msg.specs.Manifests.{Entry, IsEntry, IsAfter, IsBefore, AreOfFiles, AreRising, AreEntries, SpellsManifest, IsFirstBadLine, HasFirstLine, entry_text, line_text, lines_text}
use Rattle.move_msg.proofs.CutBytes.{cut_one_way, lacks_append, is_there, tail_same}
use Rattle.move_msg.proofs.TableNameLaws.{table_lacks, both}
use Rattle.std.proofs.lemmas.Bool.{eqb-true}
use Rattle.std.proofs.lemmas.Str.{IsUtf8-from_ascii}
use Rattle.std.specs.Prelude.{◌==◌, nat_lt, IsAscii, IsUtf8}
use Rattle.move_msg.specs.TableNames.{man_place, are_men_from, IsTableName}
use Rattle.move_msg.proofs.HexDigits.{digits_lack, digits_long}

name_lacks : (name : List ℕ) → IsFileName name → LacksByte 10 name
name_lacks name h =
    let table = table_lacks 10 refl (λ e. absurd (omega arith)) (λ e. absurd (omega arith)) h.table h.is_table in
    elim h.ending [
      | inl w ↦ rw w (lacks_append 10 h.table _ table ((λ e. absurd (omega arith)), ((λ e. absurd (omega arith)), ((λ e. absurd (omega arith)), ((λ e. absurd (omega arith)), ((λ e. absurd (omega arith)), tt))))))
      | inr z ↦ rw z (lacks_append 10 h.table _ table ((λ e. absurd (omega arith)), ((λ e. absurd (omega arith)), ((λ e. absurd (omega arith)), ((λ e. absurd (omega arith)), ((λ e. absurd (omega arith)), tt))))))
    ]

-- a line feed stands only at the end of a line
pub entry_lacks : (e : Entry) → IsEntry e → LacksByte 10 (entry_text e)
unfolding entry_text
entry_lacks e h = lacks_append 10 (encode_lower e.digest) _ (digits_lack e.digest h.bytes) ((λ x. absurd (omega arith)), ((λ x. absurd (omega arith)), name_lacks e.name h.file))

line_parts : (e : Entry) (rest : List ℕ) → line_text e ++ rest ≡ entry_text e ++ 10 ∷ rest
line_parts e rest = append_assoc (entry_text e) (10 ∷ []) rest

-- the first line feed ends the first line
pub line_by : (e : Entry) → IsEntry e → (bytes text rest after : List ℕ) → bytes ≡ text ++ 10 ∷ rest → LacksByte 10 text → bytes ≡ line_text e ++ after → (text ≡ entry_text e) × (rest ≡ after)
line_by e h bytes text rest after cut lacks line =
    cut_one_way 10 text rest (entry_text e) after lacks (entry_lacks e h) (sym cut ∙ line ∙ line_parts e after)

pub line_there : (e : Entry) (bytes rest : List ℕ) → bytes ≡ line_text e ++ rest → LacksByte 10 bytes → ⊥
line_there e bytes rest line lacks = is_there 10 (entry_text e) rest (rw (line ∙ line_parts e rest) at lacks)

pub line_joined : (e : Entry) (bytes text rest : List ℕ) → bytes ≡ text ++ 10 ∷ rest → text ≡ entry_text e → bytes ≡ line_text e ++ rest
line_joined e bytes text rest cut same = cut ∙ ap (λ (t : List ℕ). t ++ 10 ∷ rest) same ∙ sym (line_parts e rest)

-- the digits and the rest of a line
pub digits_first : (e : Entry) → IsEntry e → (text : List ℕ) → text ≡ entry_text e → (take 64 text ≡ encode_lower e.digest) × (drop 64 text ≡ 32 ∷ 32 ∷ e.name)
unfolding entry_text
digits_first e h text same =
    let long = digits_long e.digest h.long in (
      ap (take 64) same ∙ take_at (encode_lower e.digest) (32 ∷ 32 ∷ e.name) 64 long,
      ap (drop 64) same ∙ drop_at (encode_lower e.digest) (32 ∷ 32 ∷ e.name) 64 long,
    )

-- one more line
pub lines_more : (es : List Entry) (e : Entry) → lines_text (es ++ e ∷ []) ≡ lines_text es ++ line_text e
lines_more [] e = append-nil (line_text e)
lines_more (a ∷ es) e = ap (λ (t : List ℕ). line_text a ++ t) (lines_more es e) ∙ sym (append_assoc (line_text a) (lines_text es) (line_text e))

rising_more : (es : List Entry) (e : Entry) → AreRising es → IsAfter es e → AreRising (es ++ e ∷ [])
rising_more [] e r a = tt
rising_more (b ∷ []) e r a = (a, tt)
rising_more (b ∷ d ∷ es) e r a = (r.0, rising_more (d ∷ es) e r.1 a)

all_more : (es : List Entry) (e : Entry) → AreOfFiles es → IsEntry e → AreOfFiles (es ++ e ∷ [])
all_more [] e h i = (i, tt)
all_more (a ∷ es) e h i = (h.0, all_more es e h.1 i)

pub entries_more : (es : List Entry) (e : Entry) → AreEntries es → IsEntry e → IsAfter es e → AreEntries (es ++ e ∷ [])
entries_more es e h i a = (all_more es e h.0 i, rising_more es e h.1 a)

-- after the last
pub after_last : (es : List Entry) (a e : Entry) → IsAfter (es ++ a ∷ []) e ≡ IsBefore a e
after_last [] a e = refl
after_last (b ∷ []) a e = refl
after_last (b ∷ d ∷ es) a e = after_last (d ∷ es) a e

pub after_at : (es : List Entry) (i : ℕ) (d e : Entry) → length es ≡ i + 1 → IsAfter es e ≡ IsBefore (get_or es i d) e
after_at [] i d e len = absurd (omega arith)
after_at (a ∷ []) zero d e len = refl
after_at (a ∷ []) (suc i) d e len = absurd (omega arith)
after_at (a ∷ b ∷ es) zero d e len = absurd (omega arith)
after_at (a ∷ b ∷ es) (suc i) d e len = after_at (b ∷ es) i d e (omega arith)

-- names have no byte above 127, and at most eleven
letter_small : (letter : ℕ) → nat_lt (man_place letter) 5 ≡ true → letter < 128
letter_small letter is_man = by (letter == 81) (letter == 82) (letter == 66) (letter == 78) (letter == 80) refl refl refl refl refl is_man
  where
    by : (q r b n p : Bool) → (letter == 81) ≡ q → (letter == 82) ≡ r → (letter == 66) ≡ b → (letter == 78) ≡ n → (letter == 80) ≡ p → nat_lt (cond q 0 (cond r 1 (cond b 2 (cond n 3 (cond p 4 5))))) 5 ≡ true → letter < 128
    by true r b n p q' r' b' n' p' e = omega (arith, eqb-true letter 81 q')
    by false true b n p q' r' b' n' p' e = omega (arith, eqb-true letter 82 r')
    by false false true n p q' r' b' n' p' e = omega (arith, eqb-true letter 66 b')
    by false false false true p q' r' b' n' p' e = omega (arith, eqb-true letter 78 n')
    by false false false false true q' r' b' n' p' e = omega (arith, eqb-true letter 80 p')
    by false false false false false q' r' b' n' p' e = let f = e in cc

abbrev AreSmall : List ℕ → Type 0
AreSmall [] = Unit {0}
AreSmall (b ∷ others) = (b < 128) × AreSmall others

small_append : (a b : List ℕ) → AreSmall a → AreSmall b → AreSmall (a ++ b)
small_append [] b h i = i
small_append (x ∷ a) b h i = (h.0, small_append a b h.1 i)

men_small : (least : ℕ) (men : List ℕ) → are_men_from least men ≡ true → AreSmall men
unfolding are_men_from
men_small least [] e = tt
men_small least (letter ∷ others) e =
    let a = both _ _ e in
    let b = both _ _ a.1 in
    (letter_small letter b.0, men_small (man_place letter) others b.1)

table_small : (name : List ℕ) → IsTableName name → AreSmall name
table_small name t =
    rw t.text (omega arith, small_append t.first _ (men_small 0 t.first t.first_men) (omega arith, (omega arith, men_small 0 t.second t.second_men)))

small_ascii : (bs : List ℕ) → AreSmall bs → IsAscii bs
small_ascii [] h i = omega arith
small_ascii (b ∷ others) h zero = h.0
small_ascii (b ∷ others) h (suc i) = small_ascii others h.1 i

pub name_utf8 : (name : List ℕ) → IsFileName name → IsUtf8 name
name_utf8 name h = IsUtf8-from_ascii name (small_ascii name (elim h.ending [
  | inl w ↦ rw w (small_append h.table _ (table_small h.table h.is_table) (omega arith, (omega arith, (omega arith, (omega arith, (omega arith, tt))))))
  | inr z ↦ rw z (small_append h.table _ (table_small h.table h.is_table) (omega arith, (omega arith, (omega arith, (omega arith, (omega arith, tt))))))
]))

-- the digits, the two spaces and the name make the line
pub entry_by : (e : Entry) (text : List ℕ) → take 64 text ≡ encode_lower e.digest → drop 64 text ≡ 32 ∷ 32 ∷ e.name → text ≡ entry_text e
unfolding entry_text
entry_by e text digits rest = sym (take-append-drop 64 text) ∙ (λ i. digits i ++ rest i)

pub entry_long : (e : Entry) → IsEntry e → 64 ≤ length (entry_text e)
unfolding entry_text
entry_long e h = omega (arith, digits_long e.digest h.long, length-append (encode_lower e.digest) (32 ∷ 32 ∷ e.name))

abbrev done : List ℕ → Result (List ℕ) FromHexError
done x = Ok x

-- a line tells one entry
pub one_entry : (a b : Entry) → IsEntry a → IsEntry b → entry_text a ≡ entry_text b → a ≡ b
one_entry a b h i same =
    let first = digits_first a h (entry_text a) refl in
    let second = digits_first b i (entry_text a) same in
    let digits : encode_lower a.digest ≡ encode_lower b.digest = sym first.0 ∙ second.0 in
    let digest : a.digest ≡ b.digest = ok_same _ _ (sym (decode_of-encode_lower a.digest h.bytes) ∙ ap decode_of digits ∙ decode_of-encode_lower b.digest i.bytes) in
    let name : a.name ≡ b.name = tail_same _ _ _ _ (tail_same _ _ _ _ (sym first.1 ∙ second.1)) in
    λ j. record { digest = digest j; name = name j }
  where
    ok_same : (x y : List ℕ) → done x ≡ done y → x ≡ y
    ok_same x y e = cc

-- the text goes on in one way
pub one_line : (a b : Entry) (x y : List ℕ) → IsEntry a → IsEntry b → line_text a ++ x ≡ line_text b ++ y → (a ≡ b) × (x ≡ y)
one_line a b x y h i same =
    let cut = line_by b i (line_text a ++ x) (entry_text a) x y (line_parts a x) (entry_lacks a h) same in
    (one_entry a b h i cut.0, cut.1)

lines_apart : (e : Entry) (es : List Entry) (rest : List ℕ) → lines_text (e ∷ es) ++ rest ≡ line_text e ++ (lines_text es ++ rest)
lines_apart e es rest = append_assoc (line_text e) (lines_text es) rest

line_some : (e : Entry) (rest : List ℕ) → [] ≡ line_text e ++ rest → ⊥
line_some e rest none = no_feed_left (entry_text e) rest (none ∙ line_parts e rest)
  where
    no_feed_left : (a b : List ℕ) → [] ≡ a ++ 10 ∷ b → ⊥
    no_feed_left [] b e = let f = ap length e in absurd (omega arith)
    no_feed_left (x ∷ a) b e = let f = ap length e in absurd (omega arith)

-- a name in a rising list comes after the last of those before it
rising_after : (p : List Entry) (e : Entry) (es : List Entry) → AreRising (p ++ e ∷ es) → IsAfter p e
rising_after [] e es r = tt
rising_after (a ∷ []) e es r = r.0
rising_after (a ∷ b ∷ p) e es r = rising_after (b ∷ p) e es r.1

-- no entry whose name comes later follows
abbrev StopsAt : List Entry → List ℕ → Type 0
StopsAt es rest = (e : Entry) (after : List ℕ) → IsEntry e → IsAfter es e → rest ≡ line_text e ++ after → ⊥

-- a text has one front of lines, and stops in one way
one_front : (p xs ys : List Entry) (r s : List ℕ) → AreOfFiles xs → AreOfFiles ys → AreRising (p ++ xs) → AreRising (p ++ ys) → lines_text xs ++ r ≡ lines_text ys ++ s → StopsAt (p ++ xs) r → StopsAt (p ++ ys) s → (xs ≡ ys) × (r ≡ s)
one_front p [] [] r s hx hy rx ry same stop end = (refl, same)
one_front p [] (y ∷ ys) r s hx hy rx ry same stop end =
    absurd (stop y _ hy.0 (subst (λ q. IsAfter q y) (sym (append-nil p)) (rising_after p y ys ry)) (same ∙ lines_apart y ys s))
one_front p (x ∷ xs) [] r s hx hy rx ry same stop end =
    absurd (end x _ hx.0 (subst (λ q. IsAfter q x) (sym (append-nil p)) (rising_after p x xs rx)) (sym same ∙ lines_apart x xs r))
one_front p (x ∷ xs) (y ∷ ys) r s hx hy rx ry same stop end =
    let line = one_line x y _ _ hx.0 hy.0 (sym (lines_apart x xs r) ∙ same ∙ lines_apart y ys s) in
    let moved : (es : List Entry) → (p ++ x ∷ []) ++ es ≡ p ++ x ∷ es = λ es. append_assoc p (x ∷ []) es in
    let headed : p ++ y ∷ ys ≡ (p ++ x ∷ []) ++ ys = ap (λ (e : Entry). p ++ e ∷ ys) (sym line.0) ∙ sym (moved ys) in
    let rest = one_front (p ++ x ∷ []) xs ys r s hx.1 hy.1 (subst AreRising (sym (moved xs)) rx) (subst AreRising headed ry) line.1
    (subst (λ q. StopsAt q r) (sym (moved xs)) stop) (subst (λ q. StopsAt q s) headed end) in
    ((λ i. line.0 i ∷ rest.0 i), rest.1)

nothing_follows : (es : List Entry) → StopsAt es []
nothing_follows es e after h later none = line_some e after none

pub one_manifest : (t : List ℕ) (a b : List Entry) → SpellsManifest t a → SpellsManifest t b → a ≡ b
one_manifest t a b h i =
    (one_front [] a b [] [] h.0.0 i.0.0 h.0.1 i.0.1 (append-nil (lines_text a) ∙ sym h.1 ∙ i.1 ∙ sym (append-nil (lines_text b))) (nothing_follows a) (nothing_follows b)).0

pub one_bad_line : (t : List ℕ) (j k : ℕ) → IsFirstBadLine t j → IsFirstBadLine t k → j ≡ k
one_bad_line t j k h i =
    let front = one_front [] h.before i.before h.rest i.rest h.manifest.0 i.manifest.0 h.manifest.1 i.manifest.1 (sym h.text ∙ i.text) h.none i.none in
    h.number ∙ ap (λ (es : List Entry). length es + 1) front.0 ∙ sym i.number

pub manifest_or_not : (t : List ℕ) (a : List Entry) (k : ℕ) → SpellsManifest t a → IsFirstBadLine t k → ⊥
manifest_or_not t a k h i =
    let front = one_front [] a i.before [] i.rest h.0.0 i.manifest.0 h.0.1 i.manifest.1 (append-nil (lines_text a) ∙ sym h.1 ∙ i.text) (nothing_follows a) i.none in
    i.more (sym front.1)

-- where entries were read and then one more, there is a first line
pub first_line_of : (t : List ℕ) (es : List Entry) (e : Entry) (rest after : List ℕ) → AreOfFiles es → IsEntry e → t ≡ lines_text es ++ rest → rest ≡ line_text e ++ after → HasFirstLine t
first_line_of t [] e rest after h i text line = (e, after, i, text ∙ line)
first_line_of t (a ∷ es) e rest after h i text line = (a, lines_text es ++ rest, h.0, text ∙ lines_apart a es rest)
