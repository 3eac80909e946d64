-- Objects and lists that are written whole.
use Rattle.std.proofs.Common.{◌≡◌, ◌∙◌, sym, ap, refl, subst, ℕ, ℤ, ◌<◌, ◌≤◌, max, Bool, true, false, cond, List, [], ◌∷◌, ◌++◌, length, Option, Some, None, append-nil, arith}
use Rattle.std.specs.Prelude.{Result, Ok, Err, codes, ⊤}
use Rattle.std.specs.List.{IsFirstAndRest}
use Rattle.std.specs.Io.KnownBytes.{Appends}
use Rattle.std.proofs.KnownBytes.{Appends-trans}
use Rattle.board_core.specs.declared.parts.Parts.{Parts}
use Rattle.board_core.specs.declared.verdict.Verdict.{Verdict}
use Rattle.judge_core.specs.declared.fault.ProbeFault.{ProbeFault}
use Rattle.judge_core.specs.declared.probe_result.ProbeResult.{ProbeResult}
use Rattle.judge_core.specs.Words.{probe_fault_words}
use Rattle.json.specs.Token.{begin_array, begin_object, end_array, end_object, key}
use Rattle.json.specs.Json.{Json, array, object, string, Items, Members, no_members, member, document}
use Rattle.json.specs.Tree.{depth, items_depth, json_tokens, members_depth}
use Rattle.json_lines.specs.declared.members.Member.{Member}
use Rattle.json_lines.specs.declared.told.JsonLine.{JsonLine}
use Rattle.json_lines.specs.declared.told.JsonLine.TheVariants as line
use Rattle.json_lines.specs.declared.told.MoveTold.{MoveTold}
use Rattle.json_lines.specs.Inside.Members.{Writes, members_of, open_items, open_tokens, value_ends_behind, value_json}
use Rattle.json_lines.specs.Objects.{error_members, fault_members, first_probe_fault, followed_by, json_text, line_json, move_json, move_members, moves_items, moves_members, number_or_null, position_members, verdict_or_null}
use Rattle.json_lines.proofs.Pieces.{closed_items, closed_members, ended_json, ended_open, open_followed, reads_back, writes_both, writes_more, writes_nothing, writes_one}

-- ---- braces and brackets

pub begin_written : (later : Bool) (old mid new : Option (List ℕ)) → Appends old mid (cond later (44 ∷ []) []) → Appends mid new (123 ∷ []) → Writes later (begin_object ∷ []) old new
begin_written true old mid new a b = writes_one true begin_object old new tt (Appends-trans old mid new (44 ∷ []) (123 ∷ []) a b)
begin_written false old mid new a b = writes_one false begin_object old new tt (Appends-trans old mid new [] (123 ∷ []) a b)

pub end_list_written : (old new : Option (List ℕ)) → Appends old new (93 ∷ []) → (later : Bool) → Writes later (end_array ∷ []) old new
end_list_written old new h true = writes_one true end_array old new tt h
end_list_written old new h false = writes_one false end_array old new tt h

-- ---- objects

ended_some : (later : Bool) (all : List Member) → 0 < length all → value_ends_behind later (open_tokens (members_of all)) ≡ true
ended_some later [] h = absurd (omega (arith, h))
ended_some later (m ∷ ms) h = ended_open m.name.now (value_json m.value) later (members_of ms)

-- members, and why a value is missing
pub told_written : (later : Bool) (all : List Member) (e : Members) (a b c : Option (List ℕ)) → 0 < length all → Writes later (open_tokens (members_of all)) a b → Writes true (open_tokens e) b c → Writes later (open_tokens (followed_by (members_of all) e)) a c
told_written later all e a b c some facts errors =
    subst (λ ts. Writes later ts a c) (sym (open_followed (members_of all) e))
    (writes_both later (open_tokens (members_of all)) (open_tokens e) a b c facts (subst (λ l. Writes l (open_tokens e) b c) (sym (ended_some later all some)) errors))

-- a brace, and then members
pub opened_written : (later : Bool) (ms : Members) (a b c : Option (List ℕ)) → Writes later (begin_object ∷ []) a b → Writes false (open_tokens ms) b c → Writes later (begin_object ∷ open_tokens ms) a c
opened_written later ms a b c begins facts = writes_both later (begin_object ∷ []) (open_tokens ms) a b c begins facts

-- a brace, a member, and then others
pub move_written : (later : Bool) (k : List ℕ) (j : Json) (ms : Members) (a b c d : Option (List ℕ)) → Writes later (begin_object ∷ []) a b → Writes false (key k ∷ json_tokens j) b c → Writes true (open_tokens ms) c d → Writes later (begin_object ∷ open_tokens (member k j ms)) a d
move_written later k j ms a b c d begins one more = opened_written later (member k j ms) a b d begins (writes_more false k j (open_tokens ms) b c d one more)

abbrev pub HasMember : Members → Type 0
HasMember no_members = ⊥
HasMember (member k j ms) = ⊤

-- with its closing brace
pub object_written : (later : Bool) (ms : Members) (a b c : Option (List ℕ)) → HasMember ms → Writes later (begin_object ∷ open_tokens ms) a b → Writes true (end_object ∷ []) b c → Writes later (json_tokens (object ms)) a c
object_written later no_members a b c some facts ends = absurd some
object_written later (member k j ms) a b c some facts ends =
    subst (λ ts. Writes later (begin_object ∷ ts) a c) (sym (closed_members (member k j ms)))
    (writes_both later (begin_object ∷ open_tokens (member k j ms)) (end_object ∷ []) a b c facts (subst (λ l. Writes l (end_object ∷ []) b c) (sym (ended_open k j false ms)) ends))

-- with further members
pub followed_written : (later : Bool) (ms others : Members) (a b c : Option (List ℕ)) → HasMember ms → Writes later (begin_object ∷ open_tokens ms) a b → Writes true (open_tokens others) b c → Writes later (begin_object ∷ open_tokens (followed_by ms others)) a c
followed_written later no_members others a b c some facts more = absurd some
followed_written later (member k j ms) others a b c some facts more =
    subst (λ ts. Writes later (begin_object ∷ ts) a c) (sym (open_followed (member k j ms) others))
    (writes_both later (begin_object ∷ open_tokens (member k j ms)) (open_tokens others) a b c facts (subst (λ l. Writes l (open_tokens others) b c) (sym (ended_open k j false ms)) more))

-- members, one member, and then others
pub around_written : (ms : Members) (k : List ℕ) (j : Json) (others : Members) (a b c d : Option (List ℕ)) → HasMember ms → Writes true (open_tokens ms) a b → Writes true (key k ∷ json_tokens j) b c → Writes true (open_tokens others) c d → Writes true (open_tokens (followed_by ms (member k j others))) a d
around_written no_members k j others a b c d some facts one more = absurd some
around_written (member l i ms) k j others a b c d some facts one more =
    let rest = writes_more true k j (open_tokens others) b c d one more in
    subst (λ ts. Writes true ts a d) (sym (open_followed (member l i ms) (member k j others)))
    (writes_both true (open_tokens (member l i ms)) (open_tokens (member k j others)) a b d facts (subst (λ c. Writes c (open_tokens (member k j others)) b d) (sym (ended_open l i true ms)) rest))

-- a member alone
pub one_open : (later : Bool) (k : List ℕ) (j : Json) (a b : Option (List ℕ)) → Writes later (key k ∷ json_tokens j) a b → Writes later (open_tokens (member k j no_members)) a b
one_open later k j a b h = subst (λ ts. Writes later (key k ∷ ts) a b) (sym (append-nil (json_tokens j))) h

-- an object of one member
pub alone_written : (k : List ℕ) (i j : Json) (a b c d : Option (List ℕ)) → i ≡ j → Writes false (begin_object ∷ []) a b → Writes false (key k ∷ json_tokens i) b c → Writes true (end_object ∷ []) c d → Writes false (json_tokens (object (member k j no_members))) a d
alone_written k i j a b c d same begins one ends =
    let it = subst (λ x. Writes false (key k ∷ json_tokens x) b c) same one in
    object_written false (member k j no_members) a c d tt (writes_both false (begin_object ∷ []) (open_tokens (member k j no_members)) a b c begins (one_open false k j b c it)) ends

-- why a value is missing, where none is and where one is
pub no_error : (probed : ProbeResult) (o : Option ProbeFault) (a : Option (List ℕ)) → o ≡ first_probe_fault probed.wdl probed.dtz → o ≡ None → Writes true (open_tokens (error_members probed)) a a
no_error probed o a is none = subst (λ x. Writes true (open_tokens (fault_members x)) a a) (sym none ∙ is) (writes_nothing true a)

pub one_error : (probed : ProbeResult) (o : Option ProbeFault) (fault : ProbeFault) (a b : Option (List ℕ)) → o ≡ first_probe_fault probed.wdl probed.dtz → o ≡ Some fault → Writes true (key (codes "error") ∷ json_tokens (string (probe_fault_words fault))) a b
    → Writes true (open_tokens (error_members probed)) a b
one_error probed o fault a b is some h = subst (λ x. Writes true (open_tokens (fault_members x)) a b) (sym some ∙ is) (one_open true (codes "error") (string (probe_fault_words fault)) a b h)

-- a member as it is told, and then others
pub one_same : (m n : Member) (j : Json) (ms ns : Members) → m ≡ n → value_json n.value ≡ j → ms ≡ ns → member m.name.now (value_json m.value) ms ≡ member n.name.now j ns
one_same m n j ms ns is told others =
    ap (λ (x : Member). member x.name.now (value_json x.value) ms) is
    ∙ ap (λ k. member n.name.now k ms) told
    ∙ ap (λ xs. member n.name.now j xs) others

-- ---- lists

pub list_written : (js : Items) (a b c d : Option (List ℕ)) → Writes false (begin_array ∷ []) a b → Writes false (open_items js) b c → ((later : Bool) → Writes later (end_array ∷ []) c d) → Writes false (json_tokens (array js)) a d
list_written js a b c d begins items ends =
    subst (λ ts. Writes false (begin_array ∷ ts) a d) (sym (closed_items js))
    (writes_both false (begin_array ∷ []) (open_items js ++ end_array ∷ []) a b d begins (writes_both false (open_items js) (end_array ∷ []) b c d items (ends _)))

pub no_move : {T : Type 0} (json : T → Json) (later : Bool) (ts : List T) (old : Option (List ℕ)) → length ts ≡ 0 → Writes later (open_items (moves_items json ts)) old old
no_move json later [] old h = writes_nothing later old
no_move json later (t ∷ ts) old h = absurd (omega (arith, h))

pub one_move : {T : Type 0} (json : T → Json) (later : Bool) (all : List T) (t : T) (ts : List T) (a b c : Option (List ℕ)) → IsFirstAndRest all t ts → Writes later (json_tokens (json t)) a b → Writes true (open_items (moves_items json ts)) b c → Writes later (open_items (moves_items json all)) a c
one_move json later all t ts a b c h one more =
    subst (λ xs. Writes later (open_items (moves_items json xs)) a c) (sym h.0)
    (writes_both later (json_tokens (json t)) (open_items (moves_items json ts)) a b c one (subst (λ l. Writes l (open_items (moves_items json ts)) b c) (sym (ended_json later (json t))) more))

-- ---- how deep a line nests

pub flat_number : (r : Result ℤ ProbeFault) → depth (number_or_null r) ≡ 0
flat_number (Ok n) = refl
flat_number (Err fault) = refl

pub flat_verdict : (v : Option Verdict) → depth (verdict_or_null v) ≡ 0
flat_verdict None = refl
flat_verdict (Some v) = refl

pub flat_fault : (o : Option ProbeFault) → members_depth (fault_members o) ≡ 0
flat_fault None = refl
flat_fault (Some fault) = refl

pub flat_followed : (ms others : Members) → members_depth (followed_by ms others) ≡ max (members_depth ms) (members_depth others)
flat_followed no_members others = omega arith
flat_followed (member k j ms) others =
    let e = flat_followed ms others in
    omega (arith, e)

flat_position : (p : Parts) (probed : ProbeResult) (verdict : Option Verdict) → members_depth (position_members p probed verdict) ≡ 0
flat_position p probed verdict =
    let w = flat_number probed.wdl in
    let d = flat_number probed.dtz in
    let v = flat_verdict verdict in
    let e = flat_fault (first_probe_fault probed.wdl probed.dtz) in
    omega (arith, w, d, v, e)

flat_move : (t : MoveTold) → members_depth (move_members t) ≡ 0
flat_move t =
    let w = flat_number t.probed.wdl in
    let d = flat_number t.probed.dtz in
    let e = flat_fault (first_probe_fault t.probed.wdl t.probed.dtz) in
    omega (arith, w, d, e)

pub moves_depth : {T : Type 0} (members : T → Members) → ((t : T) → members_depth (members t) ≡ 0) → (ts : List T) → items_depth (moves_items (λ t. object (members t)) ts) ≤ 1
moves_depth members flat [] = omega arith
moves_depth members flat (t ∷ ts) =
    let one = flat t in
    let more = moves_depth members flat ts in
    omega (arith, one, more)

pub shallow : (l : JsonLine) → depth (line_json l) ≤ 3
shallow (line.Fault fault) = omega arith
shallow (line.Refused words) = omega arith
shallow (line.Position t) = (let e = flat_position t.position t.columns.probed t.columns.verdict in omega (arith, e))
shallow (line.Root t moves) =
    let e = flat_position t.position t.columns.probed t.columns.verdict in
    let f = flat_followed (position_members t.position t.columns.probed t.columns.verdict) (moves_members move_json moves.items) in
    let m = moves_depth move_members flat_move moves.items in
    omega (arith, e, f, m)

pub line_reads_back : (l : JsonLine) (old new : Option (List ℕ)) → Writes false (json_tokens (line_json l)) old new → document (json_text (line_json l)) ≡ Some (line_json l)
line_reads_back l old new w = reads_back (line_json l) old new w (let s = shallow l in omega (arith, s))

-- an object of some members, and its text
pub some_object_written : (all : List Member) (a b c d : Option (List ℕ)) → 0 < length all → Writes false (begin_object ∷ []) a b → Writes false (open_tokens (members_of all)) b c → Writes true (end_object ∷ []) c d → Appends a d (json_text (object (members_of all)))
some_object_written [] a b c d some begins facts ends = absurd (omega (arith, some))
some_object_written (m ∷ ms) a b c d some begins facts ends =
    (object_written false (members_of (m ∷ ms)) a c d tt (opened_written false (members_of (m ∷ ms)) a b c begins facts) ends).text
