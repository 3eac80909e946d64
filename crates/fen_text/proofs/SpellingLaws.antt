-- A rank, a placement and a position have one text each.
use Rattle.std.proofs.Common.{◌≡◌, ℕ, zero, suc, ◌+◌, ◌-◌, ◌≤◌, Bool, true, false, List, [], ◌∷◌, ◌++◌, Option, Some, None, refl, sym, ap, ap₂, ◌∙◌, arith, append-nil}
use Rattle.std.specs.Prelude.{◌&&◌, ◌||◌, not, is_some, replicate, map}
use Rattle.std.specs.List.{list_all, flat_map, AllZip, join_with_byte}
use Rattle.std.proofs.lemmas.Bool.{leb-true}
use Rattle.std.proofs.Math.Dec.{leb}
use Rattle.std.proofs.lemmas.List.Concat.{flat_map-cons}
use Rattle.std.proofs.lemmas.List.Splits.{join_with_byte-slice_split}
use Rattle.board_core.specs.declared.piece.Piece.{Piece}
use Rattle.board_core.specs.declared.parts.Parts.{Parts}
use Rattle.fen_text.specs.Cuts.{cut_at}
use Rattle.fen_text.specs.Placement.{man_of, is_run, is_rank_byte, cells_of, ranks_down, SpellsRank, SpellsPlacement}
use Rattle.std.specs.Fmt.{decimal}
use Rattle.fen_text.specs.Fields.{side_text, castling_text, en_passant_text}
use Rattle.fen_text.specs.Written.{run_text, rank_text, placement_text, fen_of}
use Rattle.fen_text.specs.Fen.{SpellsPosition}
use Rattle.fen_text.proofs.RankLaws.{run_cells, man_back, apart_after, apart_is, both}

-- empty squares after a run
run_grows : (run n : ℕ) (cells : List (Option Piece)) → rank_text run (replicate n None ++ cells) ≡ rank_text (run + n) cells
unfolding rank_text
run_grows run zero cells = ap (λ (k : ℕ). rank_text k cells) {x = run} {y = run + 0} (omega arith)
run_grows run (suc n) cells = run_grows (run + 1) n cells ∙ ap (λ (k : ℕ). rank_text k cells) {x = run + 1 + n} {y = run + suc n} (omega arith)

run_digit : (c : ℕ) → 49 ≤ c → run_text (c - 48) ≡ c ∷ []
run_digit c low = ap run_text {x = c - 48} {y = suc (c - 49)} (omega arith) ∙ ap (λ (d : ℕ). d ∷ []) {x = 49 + (c - 49)} {y = c} (omega arith)

record Rest (after : Bool) (cs : List ℕ) : Type 0 where
  bytes : list_all is_rank_byte cs ≡ true
  apart : apart_after after cs ≡ true

-- a byte of a rank, as a digit or a letter
byte_text : (r : Bool) (o : Option Piece) (c : ℕ) (cs : List ℕ) (after : Bool) (run : ℕ) → is_run c ≡ r → man_of c ≡ o → (after ≡ false → run ≡ 0) → (r || is_some o) ≡ true → not (after && r) ≡ true
    → ((next : ℕ) → (r ≡ false → next ≡ 0) → rank_text next (flat_map cells_of cs) ≡ run_text next ++ cs)
    → rank_text run (flat_map cells_of (c ∷ cs)) ≡ run_text run ++ c ∷ cs
unfolding rank_text
byte_text true o c cs true run is man none byte apart more = absurd cc
byte_text true o c cs false run is man none byte apart more =
    let range = both (leb 49 c) (leb c 56) is in
    let low = leb-true 49 c range.0 in
    let high = leb-true c 56 range.1 in
    let cells = flat_map-cons cells_of c cs ∙ ap (λ (t : List (Option Piece)). t ++ flat_map cells_of cs) (run_cells c low high) in
    let zero_run : run ≡ 0 = none refl in
    ap (rank_text run) cells ∙ run_grows run (c - 48) (flat_map cells_of cs)
    ∙ ap (λ (k : ℕ). rank_text k (flat_map cells_of cs)) {x = run + (c - 48)} {y = c - 48} (omega arith)
    ∙ more (c - 48) (λ no. absurd cc)
    ∙ ap (λ (t : List ℕ). t ++ cs) (run_digit c low)
    ∙ ap (λ (k : ℕ). run_text k ++ c ∷ cs) (sym zero_run)
byte_text false None c cs after run is man none byte apart more = absurd cc
byte_text false (Some m) c cs after run is man none byte apart more =
    let here : cells_of c ≡ Some m ∷ [] = rw (is, man) refl in
    let cells = flat_map-cons cells_of c cs ∙ ap (λ (t : List (Option Piece)). t ++ flat_map cells_of cs) here in
    ap (rank_text run) cells
    ∙ ap₂ (λ (d : ℕ) (t : List ℕ). run_text run ++ d ∷ t) (man_back c m man) (more 0 (λ _. refl))

text_back : (t : List ℕ) (after : Bool) (run : ℕ) → (after ≡ false → run ≡ 0) → list_all is_rank_byte t ≡ true → apart_after after t ≡ true → rank_text run (flat_map cells_of t) ≡ run_text run ++ t
unfolding rank_text
text_back [] after run none bytes apart = sym (append-nil (run_text run))
text_back (c ∷ cs) after run none bytes apart =
    let b = both (is_rank_byte c) (list_all is_rank_byte cs) bytes in
    let a = both (not (after && is_run c)) (apart_after (is_run c) cs) apart in
    byte_text (is_run c) (man_of c) c cs after run refl refl none b.0 a.0 (λ next zero_next. text_back cs (is_run c) next zero_next b.1 a.1)

-- a rank has one text
pub rank_one : (t : List ℕ) (cells : List (Option Piece)) → SpellsRank t cells → t ≡ rank_text 0 cells
rank_one t cells h =
    sym (text_back t false 0 (λ _. refl) h.bytes (apart_is t ∙ h.apart)) ∙ ap (rank_text 0) h.squares

ranks_one : (texts : List (List ℕ)) (ranks : List (List (Option Piece))) → AllZip SpellsRank texts ranks → texts ≡ map (rank_text 0) ranks
ranks_one [] [] h = refl
ranks_one [] (rank ∷ ranks) h = absurd h
ranks_one (text ∷ texts) [] h = absurd h
ranks_one (text ∷ texts) (rank ∷ ranks) h = ap₂ (λ (t : List ℕ) (ts : List (List ℕ)). t ∷ ts) (rank_one text rank h.0) (ranks_one texts ranks h.1)

-- a placement has one text
placement_one : (t : List ℕ) (men : List (Option Piece)) → SpellsPlacement t men → t ≡ placement_text men
unfolding placement_text
placement_one t men h = sym (join_with_byte-slice_split 47 t) ∙ ap (join_with_byte 47) (ranks_one (cut_at 47 t) (ranks_down men 8) h.ranks)

-- a position has one text
pub position_one : (t : List ℕ) (p : Parts) → SpellsPosition t p → t ≡ fen_of p
unfolding fen_of
position_one t p h =
    let f = h.fields in
    let placement = placement_one f.placement p.men h.men in
    let side = h.side in
    let castling = h.rights in
    let en_passant = h.en_passant.text in
    let halfmove = h.halfmove.text in
    let fullmove = h.fullmove.text in
    let texts = placement_text p.men ∷ side_text p.side ∷ castling_text p.rights ∷ en_passant_text p.en_passant ∷ decimal p.halfmove ∷ decimal p.fullmove ∷ [] in
    let same : f.placement ∷ f.side ∷ f.castling ∷ f.en_passant ∷ f.halfmove ∷ f.fullmove ∷ [] ≡ texts = cc in
    sym (join_with_byte-slice_split 32 t) ∙ ap (join_with_byte 32) (f.cut ∙ same)
