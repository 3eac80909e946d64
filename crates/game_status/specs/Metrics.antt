-- How many games there are of each kind, in the text format of Prometheus, version 0.0.4 (its documentation, "Exposition formats").
use Rattle.std.specs.Prelude.{ℕ, Bool, List, [], ◌++◌, codes, if◌then◌else◌}
use Rattle.std.specs.Fmt.{decimal}
use Rattle.move_msg.specs.TextLines.{ended}
use Rattle.game_status.specs.declared.totals.Totals.{Totals}

-- what a metric is, and that it goes up and down
abbrev pub gauge : List ℕ → List ℕ → List ℕ
gauge name help = ended (codes "# HELP " ++ name ++ codes " " ++ help) ++ ended (codes "# TYPE " ++ name ++ codes " gauge")

abbrev pub sample : List ℕ → ℕ → List ℕ
sample series n = ended (series ++ codes " " ++ decimal n)

-- a metric of one sample
abbrev pub metric : List ℕ → List ℕ → ℕ → List ℕ
metric name help n = gauge name help ++ sample name n

abbrev pub state_metrics : Totals → List ℕ
state_metrics t =
    gauge (codes "adjudicate_games") (codes "Games of the folder, by state.")
    ++ sample (codes "adjudicate_games{state=\"open\"}") t.open_games
    ++ sample (codes "adjudicate_games{state=\"with_verdict\"}") t.sums.ruled
    ++ sample (codes "adjudicate_games{state=\"at_fault\"}") t.sums.faults
    ++ sample (codes "adjudicate_games{state=\"differ\"}") t.sums.differ

abbrev pub compared_metrics : Totals → List ℕ
compared_metrics t =
    metric (codes "adjudicate_games_differ") (codes "Games whose records in the two folders differ.") t.sums.differ
    ++ metric (codes "adjudicate_games_behind") (codes "Games of which one folder has a front of the other's record.") t.behind

abbrev pub metrics_if_compared : Bool → Totals → List ℕ
metrics_if_compared compares t = if compares then compared_metrics t else []

-- games by state, those at fault, where two folders are compared those that differ and those behind, and the moves that are kept
abbrev pub metrics_text : Bool → Totals → List ℕ
metrics_text compares t =
    state_metrics t
    ++ metric (codes "adjudicate_games_at_fault") (codes "Games of which something is at fault.") t.sums.faults
    ++ metric (codes "adjudicate_moves") (codes "Moves in the records of the folder.") t.moves
    ++ metrics_if_compared compares t
