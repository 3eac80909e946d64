-- The WDL value of a position: its own table's, and those of the positions after its captures. A table may hold less where
-- a capture does better, and ignores en passant.
use Rattle.std.specs.Prelude.{ℕ, zero, suc, nat_le, Bool, false, not, List, [], ◌∷◌, ◌++◌, Result, Ok, Err, filter, filter_map, fold, if◌then◌else◌}
use Rattle.std.specs.Result.{result_ok}
use Rattle.std.specs.List.{list_all}
use Rattle.board_core.specs.declared.parts.Parts.{Parts}
use Rattle.board_core.specs.declared.moves.Move.{Move}
use Rattle.board_core.specs.ComputedMoves.{legal_moves, legal_captures, is_en_passant, count_of_men}
use Rattle.judge_core.specs.declared.wdl.Wdl.{Wdl}
use Rattle.judge_core.specs.declared.wdl.Wdl.TheVariants.{Loss, Draw}
use Rattle.judge_core.specs.declared.fault.ValueFault.{ValueFault}
use Rattle.judge_core.specs.declared.found.CaptureSearch.{CaptureSearch}
use Rattle.judge_core.specs.Values.{Reading, opposite_reading, greater}
use Rattle.judge_core.specs.Tables.{Tables, table_value}
use Rattle.judge_core.specs.Asked.{asked, fault_in, unless}

-- ---- lists of values

-- the values of the positions after these moves for the side that makes them, where `value` gives those of positions
abbrev pub values_after : (Parts → Reading) → Parts → List Move → List Reading
values_after value p moves = asked (λ q. opposite_reading (value q)) p moves

-- The greatest value of a list. Without one it is a loss, which is as good as less than every value: nothing below asks
-- more than whether it is greater than another one.
abbrev pub greatest_value : List Reading → Wdl
greatest_value rs = fold greater Loss (filter_map result_ok rs)

-- ---- one position

abbrev pub are_en_passant : Parts → List Move → Bool
are_en_passant p [] = false
are_en_passant p (m ∷ moves) = list_all (is_en_passant p) (m ∷ moves)

-- there are legal moves, and all are en passant
unfoldable pub is_forced : Parts → Bool
is_forced p = are_en_passant p (legal_moves p)

abbrev pub value_or_loss : Reading → Wdl
value_or_loss (Ok v) = v
value_or_loss (Err fault) = Loss

-- The best capture other than en passant, the best en passant, and the own table's value, or the first fault among them.
-- Captures come in the order of moves, the own table last. `own` gives what the own tables of positions say.
unfoldable pub searched_where : (Parts → Reading) → (Parts → Reading) → Parts → Result CaptureSearch ValueFault
searched_where own value p =
    unless (fault_in (values_after value p (legal_captures p) ++ own p ∷ [])) (Ok (record {
      capture = greatest_value (values_after value p (filter (λ m. not (is_en_passant p m)) (legal_captures p)));
      passant = greatest_value (values_after value p (filter (is_en_passant p) (legal_captures p)));
      own = value_or_loss (own p);
      forced = is_forced p;
    }))

-- ... by the tables of a set
unfoldable pub searched_by : Tables → (Parts → Reading) → Parts → Result CaptureSearch ValueFault
searched_by tables value p = searched_where (table_value tables) value p

-- en passant where there is no other move, else the best of all
abbrev pub worth : CaptureSearch → Wdl
worth w = if w.forced then w.passant else greater (greater w.capture w.passant) w.own

abbrev pub worth_in : Result CaptureSearch ValueFault → Reading
worth_in (Ok w) = Ok (worth w)
worth_in (Err fault) = Err fault

-- the value of a position: a draw for bare kings, else by what is searched
abbrev pub wdl_from_search : Parts → Result CaptureSearch ValueFault → Reading
wdl_from_search p w = if nat_le (count_of_men p) 2 then Ok Draw else worth_in w

-- the value of a position, where `value` gives those of the positions after its captures
abbrev pub wdl_by : Tables → (Parts → Reading) → Parts → Reading
wdl_by tables value p = wdl_from_search p (searched_by tables value p)

-- ---- captures in a row

-- the value by what the own tables say, where at most so many captures in a row are visited
unfoldable pub wdl_to : (Parts → Reading) → ℕ → Parts → Reading
wdl_to own zero p = Ok Draw
wdl_to own (suc n) p = wdl_from_search p (searched_where own (wdl_to own n) p)

-- The value by what the own tables say. Each capture takes a man, so that there are no more captures in a row than men.
unfoldable pub wdl_where : (Parts → Reading) → Parts → Reading
wdl_where own p = wdl_to own (count_of_men p) p

-- the WDL value, by the tables of a set
unfoldable pub wdl_of : Tables → Parts → Reading
wdl_of tables p = wdl_where (table_value tables) p
