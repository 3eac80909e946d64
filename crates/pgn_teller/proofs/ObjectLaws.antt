-- The objects of games.
use Rattle.std.proofs.Common.{◌≡◌, ◌∙◌, ap, sym, ℕ, ◌+◌, List, [], ◌∷◌, ◌++◌, take, codes}
use Rattle.std.specs.Prelude.{Option, Some, None, option_map}
use Rattle.std.specs.List.{fold}
use Rattle.std.proofs.lemmas.List.Sums.{fold-append}
use Rattle.board_core.specs.declared.moves.Move.{Move}
use Rattle.table_folder.specs.declared.fault.FileRefusal.{FileRefusal}
use Rattle.table_folder.specs.Faults.{file_fault_name}
use Rattle.pgn_teller.specs.GameLines.{file_words}
use Rattle.pgn_teller.specs.GameObjects.{lossy, moves_text, tag_or_null, text_or_null, with_move}

-- a tag that stands as text, or null
pub as_told : (text tag : Option (List ℕ)) → text ≡ option_map lossy tag → text_or_null text ≡ tag_or_null tag
as_told text None is = ap text_or_null is
as_told text (Some value) is = ap text_or_null is

-- one move more
pub moves_more : (moves : List Move) (i : ℕ) (m : Move) (text after : List ℕ) → take (i + 1) moves ≡ take i moves ++ m ∷ [] → text ≡ moves_text (take i moves) → after ≡ with_move text m → after ≡ moves_text (take (i + 1) moves)
unfolding moves_text
moves_more moves i m text after at before more =
    more ∙ ap (λ t. with_move t m) before ∙ sym (fold-append with_move [] (take i moves) (m ∷ [])) ∙ ap (fold with_move []) (sym at)

-- the name of a file and its fault, put together
pub file_text : (front fault : List ℕ) (refusal : FileRefusal) → front ≡ refusal.name.bytes ++ codes " " → fault ≡ file_fault_name refusal.fault → front ++ fault ≡ file_words refusal
file_text front fault refusal a b = ap (λ t. t ++ fault) a ∙ ap (λ t. refusal.name.bytes ++ codes " " ++ t) b

pub no_moves : (text : List ℕ) → text ≡ [] → text ≡ moves_text []
unfolding moves_text
no_moves text none = none
