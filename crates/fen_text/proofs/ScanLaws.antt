-- A rank is filled byte by byte exactly where it is spelled.
use Rattle.std.proofs.Common.{◌≡◌, ℕ, suc, ◌+◌, ◌<◌, ◌≤◌, Bool, false, List, length, get_or, drop, Option, Some, None, sym, ap, ◌∙◌, add-one, drop-cons, eqb}
use Rattle.std.specs.Option.{option_map_or}
use Rattle.std.proofs.Math.ListN.{drop_of_length-le}
use Rattle.fen_text.specs.Inside.Scan.{step, fills}

pub fills_next : (text : List ℕ) (i : ℕ) (after : Bool) (left : ℕ) (s : Bool × ℕ) → i < length text → step (get_or text i 0) after left ≡ Some s → fills after left (drop i text) ≡ fills s.0 s.1 (drop (i + 1) text)
unfolding fills
fills_next text i after left s lt e =
    ap (fills after left) (drop-cons text i 0 lt) ∙ ap (λ (o : Option (Bool × ℕ)). option_map_or (λ s. fills s.0 s.1 (drop (suc i) text)) o false) e ∙ ap (λ (k : ℕ). fills s.0 s.1 (drop k text)) (sym (add-one i))

pub fills_stuck : (text : List ℕ) (i : ℕ) (after : Bool) (left : ℕ) → i < length text → step (get_or text i 0) after left ≡ None → fills after left (drop i text) ≡ false
unfolding fills
fills_stuck text i after left lt e =
    ap (fills after left) (drop-cons text i 0 lt) ∙ ap (λ (o : Option (Bool × ℕ)). option_map_or (λ s. fills s.0 s.1 (drop (suc i) text)) o false) e

pub fills_end : (text : List ℕ) (i : ℕ) (after : Bool) (left : ℕ) → length text ≤ i → fills after left (drop i text) ≡ eqb left 0
unfolding fills
fills_end text i after left le = ap (fills after left) (drop_of_length-le text le)
