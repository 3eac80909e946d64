-- The plies of a game, written one after another.
use Rattle.std.proofs.Common.{◌≡◌, ◌∙◌, ◌++◌, ◌≤◌, ℕ, Bool, List, [], ◌∷◌, Option, Some, None, refl, sym, ap, subst, append_assoc, append-nil, arith, length}
use Rattle.std.specs.Prelude.{codes}
use Rattle.board_core.specs.declared.moves.Move.{Move}
use Rattle.board_core.specs.declared.parts.Parts.{Parts}
use Rattle.board_core.specs.ComputedMoves.{position_after}
use Rattle.json.specs.Json.{Json, array, document, max_depth, member, no_members}
use Rattle.json.specs.Lex.{tokens}
use Rattle.json.specs.Print.{print}
use Rattle.json.specs.Token.{Token, begin_array, end_array, key}
use Rattle.json.specs.Tree.{depth, items_depth, items_tokens, json_tokens}
use Rattle.json.specs.Written.{Written}
use Rattle.system_io.specs.Disks.{DiskFacts}
use Rattle.table_folder.specs.Folders.{Folder, FolderOn}
use Rattle.json_lines.proofs.Whole.{shallow}
use Rattle.game_reports.specs.declared.asked.GameFound.{GameFound}
use Rattle.game_status.specs.StatusObjects.{AddsMembers, AddsTokens, count_or_null, json_text, members_if, second_members}
use Rattle.game_status.proofs.ObjectDepth.{first_flat, flat_count, flat_text, second_if_shallow}
use Rattle.game_status.proofs.ObjectLaws.{both, no_tokens, reads_back, valued}
use Rattle.http_answer.specs.Games.{ArePlies, GoesOn, IsNext, Ply, delay_in, plies_items, ply_json, whole_game_json}
use Rattle.http_answer.specs.Inside.{AddsGame, AddsMoves, AddsNext, AddsPlies, AddsStart, IsGameText, plies_tokens}

module _ (disk : DiskFacts) (folder : Folder) (start : Parts) (moves : List Move) (before : Written) where
  -- of the plies after moves, all up to this position are written; whatever plies come after the rest, all of them are the plies after all moves
  pub record SoFar (p : Parts) (rest : List Move) (now : Written) : Type 0 where
    pub so_far : List Token
    pub written : AddsTokens before now so_far
    pub goes : (ts : List Ply) → GoesOn disk folder p rest ts → (us : List Ply) × GoesOn disk folder start moves us × (plies_tokens us ≡ so_far ++ plies_tokens ts)

  pub at_start : SoFar start moves before
  at_start = record { so_far = []; written = no_tokens before; goes = λ ts h. (ts, h, refl) }

  -- one ply more
  pub one_more : (p next : Parts) (rest tail : List Move) (m : Move) (now new : Written) → rest ≡ m ∷ tail → SoFar p rest now → AddsNext disk folder p m now new next → SoFar next tail new
  one_more p next rest tail m now new front h (t, is, at, wrote) = record {
    so_far = h.so_far ++ json_tokens (ply_json t);
    written = both before now new h.so_far (json_tokens (ply_json t)) h.written wrote;
    goes = λ ts on.
        let all = h.goes (t ∷ ts) (subst (λ (ms : List Move). GoesOn disk folder p ms (t ∷ ts)) (sym front) (is, subst (λ (q : Parts). GoesOn disk folder q tail ts) (sym at) on)) in
        (all.0, all.1, all.2 ∙ sym (append_assoc h.so_far (json_tokens (ply_json t)) (plies_tokens ts)));
  }

  -- no ply more
  pub no_more : (p : Parts) (rest : List Move) (now : Written) → SoFar p rest now → GoesOn disk folder p rest [] → AddsMoves disk folder start moves before now
  no_more p rest now h on =
      let all = h.goes [] on in
      (all.0, all.1, record { before = h.written.before; tokens = h.written.tokens ∙ ap (λ l. before.tokens ++ l) (sym (append-nil h.so_far) ∙ sym all.2) })

  -- there are no moves left
  pub at_end : (p : Parts) (rest : List Move) (now : Written) → SoFar p rest now → rest ≡ [] → AddsMoves disk folder start moves before now
  at_end p rest now h none = no_more p rest now h (subst (λ (ms : List Move). GoesOn disk folder p ms []) (sym none) refl)

  -- the next move isn't legal
  pub at_illegal : (p : Parts) (rest tail : List Move) (m : Move) (now : Written) → SoFar p rest now → rest ≡ m ∷ tail → position_after p m ≡ None → AddsMoves disk folder start moves before now
  at_illegal p rest tail m now h front none = no_more p rest now h (subst (λ (ms : List Move). GoesOn disk folder p ms []) (sym front) none)

-- ---- the list of them

plies_closed : (ts : List Ply) → plies_tokens ts ++ end_array ∷ [] ≡ items_tokens (plies_items ts)
plies_closed [] = refl
plies_closed (t ∷ ts) = append_assoc (json_tokens (ply_json t)) (plies_tokens ts) (end_array ∷ []) ∙ ap (λ l. json_tokens (ply_json t) ++ l) (plies_closed ts)

-- it is a member
pub listed : (a k b c d : Written) (name : List ℕ) (ts : List Ply) → AddsTokens a k (key name ∷ []) → AddsTokens k b (begin_array ∷ []) → AddsTokens b c (plies_tokens ts) → AddsTokens c d (end_array ∷ []) → AddsMembers a d (member name (array (plies_items ts)))
listed a k b c d name ts named h m e =
    let all = both k c d (begin_array ∷ plies_tokens ts) (end_array ∷ []) (both k b c (begin_array ∷ []) (plies_tokens ts) h m) e in
    valued a k d name (array (plies_items ts)) named (record { before = all.before; tokens = all.tokens ∙ ap (λ l. k.tokens ++ (begin_array ∷ l)) (plies_closed ts) })

-- ---- all of them

-- the ply before the first move, and those after the moves, by one folder
pub all_plies : {D : Type 0} (facts : D → DiskFacts) (first now : FolderOn D) (start : Parts) (moves : List Move) (a b c : Written) → now ≡ first
    → AddsStart (facts first.disk) first.folder start a b → AddsMoves (facts now.disk) now.folder start moves b c → AddsPlies (ArePlies (facts first.disk) first.folder start moves) a c
all_plies {D} facts first now start moves a b c same (t, is, wrote) more =
    let (ts, on, rest) = subst (λ (f : FolderOn D). AddsMoves (facts f.disk) f.folder start moves b c) same more in
    (t ∷ ts, (is, on), both a b c (json_tokens (ply_json t)) (plies_tokens ts) wrote rest)

-- ---- how deep the object nests

ply_shallow : (t : Ply) → depth (ply_json t) ≤ 4
ply_shallow t =
    let u = flat_text t.uci in
    let s = flat_text t.san in
    let l = shallow t.line in
    omega (arith, u, s, l)

plies_shallow : (ts : List Ply) → items_depth (plies_items ts) ≤ 4
plies_shallow [] = omega arith
plies_shallow (t ∷ ts) =
    let one = ply_shallow t in
    let others = plies_shallow ts in
    omega (arith, one, others)

game_shallow : (compares : Bool) (stamp : List ℕ) (g : GameFound) (ts : List Ply) → depth (whole_game_json compares stamp g ts) ≤ max_depth
game_shallow compares stamp g ts =
    let second = second_if_shallow compares g.both in
    let plies = plies_shallow ts in
    let delay = flat_count (delay_in g.first) in
    let first = first_flat g.first (member (codes "delay") (count_or_null (delay_in g.first)) (member (codes "plies") (array (plies_items ts)) (members_if compares (second_members g.both) no_members))) in
    omega (arith, second, plies, delay, first)

-- the text of an object that was written to a text that was empty
pub written_text : (disk : DiskFacts) (folder : Folder) (compares : Bool) (stamp : List ℕ) (g : GameFound) (start text : Written) (items : List ℕ) → start.before ≡ [] → start.tokens ≡ []
    → AddsGame disk folder compares stamp g start text → items ≡ text.before ++ print text.tokens → tokens (print text.tokens) ≡ text.tokens → IsGameText disk folder compares stamp g items
written_text disk folder compares stamp g start text items nothing empty (ts, are, wrote) is same =
    let j = whole_game_json compares stamp g ts in
    let written : text.tokens ≡ json_tokens j = wrote.tokens ∙ ap (λ l. l ++ json_tokens j) empty in
    let whole : items ≡ json_text j = is ∙ ap (λ front. front ++ print text.tokens) (wrote.before ∙ nothing) ∙ ap print written in
    let back = reads_back j (ap (λ l. tokens (print l)) (sym written) ∙ same ∙ written) (game_shallow compares stamp g ts) in
    (ts, are, whole, subst (λ (t : List ℕ). document t ≡ Some j) (sym whole) back)

-- a text is one value
pub one_value : (text : List ℕ) (a b : Json) → document text ≡ Some a → document text ≡ Some b → a ≡ b
one_value text a b x y = let s = sym x ∙ y in cc

-- ---- as the loop sees it

-- by the folder of the start, which is still the same
pub more_by : {D : Type 0} (facts : D → DiskFacts) (first at : FolderOn D) (start : Parts) (moves : List Move) (before : Written) (p next : Parts) (rest tail : List Move) (m : Move) (now new : Written) → at ≡ first → rest ≡ m ∷ tail
    → SoFar (facts first.disk) first.folder start moves before p rest now → AddsNext (facts at.disk) at.folder p m now new next → SoFar (facts first.disk) first.folder start moves before next tail new
more_by {D} facts first at start moves before p next rest tail m now new same front h adds =
    one_more (facts first.disk) first.folder start moves before p next rest tail m now new front h (subst (λ (f : FolderOn D). AddsNext (facts f.disk) f.folder p m now new next) same adds)

-- the next move isn't legal, and nothing was written
pub at_illegal_by : (disk : DiskFacts) (folder : Folder) (start : Parts) (moves : List Move) (before : Written) (p : Parts) (rest tail : List Move) (m : Move) (now new : Written)
    → SoFar disk folder start moves before p rest now → rest ≡ m ∷ tail → position_after p m ≡ None → new ≡ now → AddsMoves disk folder start moves before new
at_illegal_by disk folder start moves before p rest tail m now new h front none same =
    subst (AddsMoves disk folder start moves before) (sym same) (at_illegal disk folder start moves before p rest tail m now h front none)

pub nothing_left : (moves : List Move) → length moves ≡ 0 → moves ≡ []
nothing_left [] e = refl
nothing_left (m ∷ moves) e = absurd (omega (arith, e))
