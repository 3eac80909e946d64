-- The eight ranks of a board, read from the last one.
use Rattle.std.proofs.Common.{◌≡◌, ℕ, zero, suc, ◌+◌, ◌-◌, ◌*◌, ◌<◌, ◌≤◌, Bool, true, false, List, [], ◌∷◌, ◌++◌, length, take, drop, get_or, Option, None, refl, sym, ap, ap₂, subst, ◌∙◌, arith, append_assoc, append-nil, add-one, drop-cons, lit≤, true≢false}
use Rattle.std.specs.Prelude.{replicate, reverse, ◌&&◌, ◌==◌}
use Rattle.std.specs.List.{list_all, flat_map, AllZip, join_with_byte}
use Rattle.std.proofs.lemmas.List.{length-append, length-drop, length-take-le, length-replicate, replicate-append-replicate, reverse-append, take_more, take-append-le, take-append-drop, drop-append-le, nil_from_length}
use Rattle.std.proofs.Math.Seq.{take-length, drop-append_seam}
use Rattle.std.proofs.lemmas.List.Concat.{flat_map-cons, flat_map-append}
use Rattle.std.proofs.lemmas.List.Splits.{slice_split_none, join_with_byte-slice_split}
use Rattle.std.proofs.lemmas.List.Folds.{list_all_more}
use Rattle.std.proofs.lemmas.List.Sums.{AllPass-from_list_all}
use Rattle.board_core.specs.declared.piece.Piece.{Piece}
use Rattle.fen_text.specs.Cuts.{cut_at}
use Rattle.fen_text.specs.Placement.{cells_of, rank_men, ranks_down, SpellsRank, SpellsPlacement}
use Rattle.fen_text.specs.Inside.Scan.{fills, IsFilled}
use Rattle.fen_text.proofs.RankLaws.{rank_found, rank_only, rank_no_slash}

-- the men of the ranks that were read
pub rank_cells : List (List ℕ) → List (Option Piece)
rank_cells texts = flat_map (flat_map cells_of) (reverse texts)

rank_cells-cons : (text : List ℕ) (texts : List (List ℕ)) → rank_cells (text ∷ texts) ≡ rank_cells texts ++ flat_map cells_of text
unfolding rank_cells
rank_cells-cons text texts =
    ap (flat_map (flat_map cells_of)) (reverse-append (text ∷ []) texts)
    ∙ flat_map-append (flat_map cells_of) (reverse texts) (text ∷ [])
    ∙ ap (λ (t : List (Option Piece)). flat_map (flat_map cells_of) (reverse texts) ++ t) (flat_map-cons (flat_map cells_of) text [] ∙ append-nil (flat_map cells_of text))

rank_cells-push : (texts : List (List ℕ)) (text : List ℕ) → rank_cells (texts ++ text ∷ []) ≡ flat_map cells_of text ++ rank_cells texts
unfolding rank_cells
rank_cells-push texts text =
    ap (flat_map (flat_map cells_of)) (reverse-append texts (text ∷ []))
    ∙ flat_map-cons (flat_map cells_of) text (reverse texts)

-- the first n texts are ranks, and the board has them from its end on; so many ranks are left
pub record ReadsRanks (texts : List (List ℕ)) (n rank : ℕ) (men : List (Option Piece)) : Type 0 where
  pub count : n + rank ≡ 8
  pub ranks : list_all (fills false 8) (take n texts) ≡ true
  pub board : men ≡ replicate (8 * rank) None ++ rank_cells (take n texts)

pub reads_none : (texts : List (List ℕ)) → ReadsRanks texts 0 8 (replicate 64 None)
unfolding rank_cells
reads_none texts = record { count = refl; ranks = refl; board = sym (append-nil (replicate 64 None)) }

length-empty : (n : ℕ) → length (replicate {A = Option Piece} n None) ≡ n
length-empty n = length-replicate n None

-- the rank before them is empty
pub reads_is_filled : (texts : List (List ℕ)) (n : ℕ) (men : List (Option Piece)) → n ≤ 7 → ReadsRanks texts n (8 - n) men → IsFilled men (replicate (8 * (7 - n)) None) (8 * (7 - n)) 8 (rank_cells (take n texts))
reads_is_filled texts n men le h =
    let empty : replicate {A = Option Piece} (8 * (8 - n)) None ≡ replicate (8 * (7 - n)) None ++ replicate 8 None =
    ap (λ (k : ℕ). replicate k None) (omega arith) ∙ sym (replicate-append-replicate (8 * (7 - n)) 8 None) in
    record {
      board = h.board ∙ ap (λ (t : List (Option Piece)). t ++ rank_cells (take n texts)) empty ∙ append_assoc (replicate (8 * (7 - n)) None) (replicate 8 None) (rank_cells (take n texts));
      place = length-empty (8 * (7 - n));
    }

-- the place of the first of the texts that are left
pub record First (texts : List (List ℕ)) (n : ℕ) (text : List ℕ) (rest : List (List ℕ)) : Type 0 where
  pub more : n < length texts
  pub at : get_or texts n text ≡ text
  pub after : drop (n + 1) texts ≡ rest

pub first_left : (texts : List (List ℕ)) (n : ℕ) (text : List ℕ) (rest : List (List ℕ)) → drop n texts ≡ text ∷ rest → First texts n text rest
first_left texts n text rest e =
    let more : n < length texts = omega (arith, length-drop n texts, ap length e) in
    let here : get_or texts n text ∷ drop (suc n) texts ≡ text ∷ rest = sym (drop-cons texts n text more) ∙ e in
    record { more = more; at = cc; after = ap (λ (k : ℕ). drop k texts) (add-one n) ∙ cc }

-- one more rank
pub reads_next : (texts : List (List ℕ)) (n : ℕ) (text : List ℕ) (rest : List (List ℕ)) (men men' : List (Option Piece)) → n ≤ 7 → ReadsRanks texts n (8 - n) men → drop n texts ≡ text ∷ rest → fills false 8 text ≡ true → men' ≡ (replicate (8 * (7 - n)) None ++ flat_map cells_of text) ++ rank_cells (take n texts) → ReadsRanks texts (n + 1) (8 - (n + 1)) men'
reads_next texts n text rest men men' le h left fits e =
    let first = first_left texts n text rest left in
    let next : take (n + 1) texts ≡ take n texts ++ text ∷ [] = take_more texts n text first.more ∙ ap (λ (t : List ℕ). take n texts ++ t ∷ []) first.at in
    record {
      count = omega (arith, h.count);
      ranks = list_all_more (fills false 8) texts n text first.more ∙ ap₂ (λ (a b : Bool). a && b) h.ranks (ap (fills false 8) first.at ∙ fits);
      board = e ∙ append_assoc (replicate (8 * (7 - n)) None) (flat_map cells_of text) (rank_cells (take n texts))
          ∙ ap (λ (k : ℕ). replicate (8 * k) None ++ (flat_map cells_of text ++ rank_cells (take n texts))) {x = 7 - n} {y = 8 - (n + 1)} (omega arith)
          ∙ ap (λ (t : List (Option Piece)). replicate (8 * (8 - (n + 1))) None ++ t) (sym (rank_cells-push (take n texts) text) ∙ ap rank_cells (sym next));
    }

-- the lower ranks of a board stay where more squares follow
ranks_below : (men more : List (Option Piece)) (n : ℕ) → 8 * n ≤ length men → ranks_down (men ++ more) n ≡ ranks_down men n
unfolding ranks_down rank_men
ranks_below men more zero le = refl
ranks_below men more (suc n) le =
    ap₂ (λ (rank : List (Option Piece)) (ranks : List (List (Option Piece))). rank ∷ ranks)
    (ap (take 8) (drop-append-le (8 * n) men more (omega arith)) ∙ take-append-le 8 (drop (8 * n) men) more (omega (arith, length-drop (8 * n) men)))
    (ranks_below men more n (omega arith))

record Found (texts : List (List ℕ)) (men : List (Option Piece)) : Type 0 where
  long : length men ≡ 8 * length texts
  ranks : AllZip SpellsRank texts (ranks_down men (length texts))

both : (a b : Bool) → (a && b) ≡ true → (a ≡ true) × (b ≡ true)
both true b e = (refl, e)
both false b e = absurd cc

-- the last rank of a board
last_rank : (men cells : List (Option Piece)) (n : ℕ) → length men ≡ 8 * n → length cells ≡ 8 → rank_men (men ++ cells) n ≡ cells
unfolding rank_men
last_rank men cells n long eight =
    ap (λ (k : ℕ). take 8 (drop k (men ++ cells))) (sym long) ∙ ap (take 8) (drop-append_seam men cells)
    ∙ ap (λ (k : ℕ). take k cells) (sym eight) ∙ take-length cells

found : (texts : List (List ℕ)) → list_all (fills false 8) texts ≡ true → Found texts (rank_cells texts)
unfolding rank_cells ranks_down
found [] e = record { long = refl; ranks = tt }
found (text ∷ texts) e =
    let parts = both (fills false 8 text) (list_all (fills false 8) texts) e in
    let below = found texts parts.1 in
    let here = rank_found text parts.0 in
    let all = rank_cells-cons text texts in
    let n = length texts in
    record {
      long = ap length all ∙ omega (arith, length-append (rank_cells texts) (flat_map cells_of text), below.long, here.eight);
      ranks = subst (λ (men : List (Option Piece)). AllZip SpellsRank (text ∷ texts) (rank_men men n ∷ ranks_down men n)) (sym all) (
        subst (SpellsRank text) (sym (last_rank (rank_cells texts) (flat_map cells_of text) n below.long here.eight)) here,
        subst (AllZip SpellsRank texts) (sym (ranks_below (rank_cells texts) (flat_map cells_of text) n (omega (arith, below.long)))) below.ranks,
      );
    }

pub record Only (texts : List (List ℕ)) (n : ℕ) (men : List (Option Piece)) : Type 0 where
  pub count : length texts ≡ n
  pub ranks : list_all (fills false 8) texts ≡ true
  pub board : men ≡ rank_cells texts

only : (texts : List (List ℕ)) (n : ℕ) (men : List (Option Piece)) → length men ≡ 8 * n → AllZip SpellsRank texts (ranks_down men n) → Only texts n men
unfolding rank_cells ranks_down
only [] zero men long z = record { count = refl; ranks = refl; board = nil_from_length men long }
only [] (suc n) men long z = absurd z
only (text ∷ texts) zero men long z = absurd z
only (text ∷ texts) (suc n) men long z =
    let below = take (8 * n) men in
    let cells = drop (8 * n) men in
    let whole = take-append-drop (8 * n) men in
    let long_below : length below ≡ 8 * n = length-take-le (8 * n) men (omega (arith, long)) in
    let eight : length cells ≡ 8 = omega (arith, length-drop (8 * n) men, long) in
    let lower : ranks_down men n ≡ ranks_down below n = ap (λ (m : List (Option Piece)). ranks_down m n) (sym whole) ∙ ranks_below below cells n (omega (arith, long_below)) in
    let rank : rank_men men n ≡ cells = ap (λ (m : List (Option Piece)). rank_men m n) (sym whole) ∙ last_rank below cells n long_below eight in
    let rest = only texts n below long_below (subst (AllZip SpellsRank texts) lower z.1) in
    record {
      count = omega (arith, rest.count);
      ranks = ap₂ (λ (a b : Bool). a && b) (rank_only text (rank_men men n) z.0) rest.ranks;
      board = sym whole ∙ ap₂ (λ (a b : List (Option Piece)). a ++ b) rest.board (sym rank ∙ sym z.0.squares) ∙ sym (rank_cells-cons text texts);
    }

-- the texts of a placement are eight ranks, and so are the men
pub placement_only : (t : List ℕ) (men : List (Option Piece)) → SpellsPlacement t men → Only (cut_at 47 t) 8 men
placement_only t men h = only (cut_at 47 t) 8 men h.squares h.ranks

-- a rank has no slash
pub rank_uncut : (text : List ℕ) → fills false 8 text ≡ true → cut_at 47 text ≡ text ∷ []
rank_uncut text e = slice_split_none (λ b. b == 47) text (rank_no_slash text (rank_found text e).bytes)

-- the last rank was read, and with it all of them
pub reads_last : (t : List ℕ) (men men' : List (Option Piece)) (text : List ℕ) → ReadsRanks (cut_at 47 t) 7 1 men → drop 7 (cut_at 47 t) ≡ cut_at 47 text → fills false 8 text ≡ true → men' ≡ flat_map cells_of text ++ rank_cells (take 7 (cut_at 47 t)) → SpellsPlacement t men'
reads_last t men men' text h left fits e =
    let texts = cut_at 47 t in
    let last : drop 7 texts ≡ text ∷ [] = left ∙ rank_uncut text fits in
    let next = reads_next texts 7 text [] men men' (lit≤ tt) h last fits e in
    let first = first_left texts 7 text [] last in
    let eight : length texts ≡ 8 = omega (arith, length-drop 7 texts, ap length last) in
    let whole : take 8 texts ≡ texts = ap (λ (k : ℕ). take k texts) (sym eight) ∙ take-length texts in
    let f = found texts (ap (list_all (fills false 8)) (sym whole) ∙ next.ranks) in
    let board : men' ≡ rank_cells texts = next.board ∙ ap rank_cells whole in
    subst (SpellsPlacement t) (sym board) (record {
      squares = f.long ∙ ap (λ (k : ℕ). 8 * k) eight;
      ranks = subst (λ (k : ℕ). AllZip SpellsRank texts (ranks_down (rank_cells texts) k)) eight f.ranks;
    })

-- too few texts
pub too_few : (t : List ℕ) (n : ℕ) (text : List ℕ) → n < 7 → drop n (cut_at 47 t) ≡ cut_at 47 text → cut_at 47 text ≡ text ∷ [] → (men : List (Option Piece)) → SpellsPlacement t men → ⊥
too_few t n text lt left one men spells =
    let o = placement_only t men spells in
    absurd (omega (arith, length-drop n (cut_at 47 t), ap length (left ∙ one), o.count))

-- a text that is no rank
pub no_rank : (t : List ℕ) (n : ℕ) (text : List ℕ) (rest : List (List ℕ)) → drop n (cut_at 47 t) ≡ text ∷ rest → fills false 8 text ≡ false → (men : List (Option Piece)) → SpellsPlacement t men → ⊥
no_rank t n text rest left bad men spells =
    let o = placement_only t men spells in
    let first = first_left (cut_at 47 t) n text rest left in
    let yes = AllPass-from_list_all (fills false 8) (cut_at 47 t) o.ranks n text first.more in
    true≢false (sym yes ∙ ap (fills false 8) first.at ∙ bad)

single : (c : ℕ) (text : List ℕ) (pieces : List (List ℕ)) → length pieces ≡ 1 → join_with_byte c pieces ≡ text → pieces ≡ text ∷ []
single c text [] one e = absurd (omega (arith, one))
single c text (p ∷ []) one e = ap (λ (t : List ℕ). t ∷ []) e
single c text (p ∷ q ∷ ps) one e = absurd (omega (arith, one))

-- a text of one piece
pub one_piece : (c : ℕ) (text : List ℕ) → length (cut_at c text) ≡ 1 → cut_at c text ≡ text ∷ []
one_piece c text one = single c text (cut_at c text) one (join_with_byte-slice_split c text)

-- the last text is no rank
pub no_last : (t : List ℕ) (text : List ℕ) → drop 7 (cut_at 47 t) ≡ cut_at 47 text → fills false 8 text ≡ false → (men : List (Option Piece)) → SpellsPlacement t men → ⊥
no_last t text left bad men spells =
    let o = placement_only t men spells in
    let one : length (cut_at 47 text) ≡ 1 = omega (arith, length-drop 7 (cut_at 47 t), ap length left, o.count) in
    no_rank t 7 text [] (left ∙ one_piece 47 text one) bad men spells
