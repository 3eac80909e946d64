-- Texts that are added one behind the other.
use Rattle.std.proofs.Common.{◌≡◌, ◌∙◌, ◌++◌, ℕ, List, [], ◌∷◌, true, false, append_assoc, ap, sym}
use Rattle.std.specs.Prelude.{Bool, codes}
use Rattle.std.specs.Fmt.{decimal}
use Rattle.std.proofs.lemmas.Bool.{false≢true}
use Rattle.game_status.specs.declared.totals.Totals.{Totals}
use Rattle.game_status.specs.Metrics.{compared_metrics, gauge, metric, metrics_if_compared, metrics_text, sample, state_metrics}

pub two : (a b c x y : List ℕ) → b ≡ a ++ x → c ≡ b ++ y → c ≡ a ++ (x ++ y)
two a b c x y p q = q ∙ ap (λ l. l ++ y) p ∙ append_assoc a x y

pub three : (a b c d x y z : List ℕ) → b ≡ a ++ x → c ≡ b ++ y → d ≡ c ++ z → d ≡ a ++ (x ++ (y ++ z))
three a b c d x y z p q r = two a b d x (y ++ z) p (two b c d y z q r)

pub four : (a b c d e x y z w : List ℕ) → b ≡ a ++ x → c ≡ b ++ y → d ≡ c ++ z → e ≡ d ++ w → e ≡ a ++ (x ++ (y ++ (z ++ w)))
four a b c d e x y z w p q r s = two a b e x (y ++ (z ++ w)) p (three b c d e y z w q r s)

-- seven pieces are two lines
line : (h n b x e t g : List ℕ) → ((h ++ n ++ b ++ x) ++ e) ++ ((t ++ n ++ g) ++ e) ≡ h ++ (n ++ (b ++ (x ++ (e ++ (t ++ (n ++ (g ++ e)))))))
line h n b x e t g = simp append_assoc

gauge_text : (name help : List ℕ) → codes "# HELP " ++ (name ++ (codes " " ++ (help ++ (codes "\n# TYPE " ++ (name ++ codes " gauge\n"))))) ≡ gauge name help
gauge_text name help = sym (line (codes "# HELP ") name (codes " ") help (10 ∷ []) (codes "# TYPE ") (codes " gauge"))

pub gauge_added : (a b c d e f g h name help : List ℕ) → b ≡ a ++ codes "# HELP " → c ≡ b ++ name → d ≡ c ++ codes " " → e ≡ d ++ help → f ≡ e ++ codes "\n# TYPE " → g ≡ f ++ name → h ≡ g ++ codes " gauge\n" → h ≡ a ++ gauge name help
gauge_added a b c d e f g h name help p q r s t u v =
    two a b h (codes "# HELP ") _ p (four b c d e h name (codes " ") help _ q r s (three e f g h (codes "\n# TYPE ") name (codes " gauge\n") t u v))
    ∙ ap (λ l. a ++ l) (gauge_text name help)

sample_text : (series : List ℕ) (n : ℕ) → series ++ (codes " " ++ (decimal n ++ codes "\n")) ≡ sample series n
sample_text series n = simp append_assoc

pub sample_added : (a b c d e series : List ℕ) (n : ℕ) → b ≡ a ++ series → c ≡ b ++ codes " " → d ≡ c ++ decimal n → e ≡ d ++ codes "\n" → e ≡ a ++ sample series n
sample_added a b c d e series n p q r s = four a b c d e series (codes " ") (decimal n) (codes "\n") p q r s ∙ ap (λ l. a ++ l) (sample_text series n)

-- five texts that are added
five : (a b c d e f x y z w v : List ℕ) → b ≡ a ++ x → c ≡ b ++ y → d ≡ c ++ z → e ≡ d ++ w → f ≡ e ++ v → f ≡ a ++ (x ++ y ++ z ++ w ++ v)
five a b c d e f x y z w v p q r s t = two a e f (x ++ y ++ z ++ w) v (two a d e (x ++ y ++ z) w (two a c d (x ++ y) z (two a b c x y p q) r) s) t

pub states_added : (t : Totals) (a b c d e f : List ℕ) → b ≡ a ++ gauge (codes "adjudicate_games") (codes "Games of the folder, by state.") → c ≡ b ++ sample (codes "adjudicate_games{state=\"open\"}") t.open_games → d ≡ c ++ sample (codes "adjudicate_games{state=\"with_verdict\"}") t.sums.ruled
    → e ≡ d ++ sample (codes "adjudicate_games{state=\"at_fault\"}") t.sums.faults → f ≡ e ++ sample (codes "adjudicate_games{state=\"differ\"}") t.sums.differ → f ≡ a ++ state_metrics t
states_added t a b c d e f p q r s u = five a b c d e f (gauge (codes "adjudicate_games") (codes "Games of the folder, by state.")) (sample (codes "adjudicate_games{state=\"open\"}") t.open_games) (sample (codes "adjudicate_games{state=\"with_verdict\"}") t.sums.ruled) (sample (codes "adjudicate_games{state=\"at_fault\"}") t.sums.faults) (sample (codes "adjudicate_games{state=\"differ\"}") t.sums.differ) p q r s u

-- texts that are added to none
from_none : (a b c d e x y z w : List ℕ) → a ≡ [] → b ≡ a ++ x → c ≡ b ++ y → d ≡ c ++ z → e ≡ d ++ w → e ≡ x ++ y ++ z ++ w
from_none a b c d e x y z w is p q r s = two a d e (x ++ y ++ z) w (two a c d (x ++ y) z (two a b c x y p q) r) s ∙ ap (λ l. l ++ (x ++ y ++ z ++ w)) is

pub all_added : (compares : Bool) (t : Totals) (a b c d e : List ℕ) → a ≡ [] → b ≡ a ++ state_metrics t → c ≡ b ++ metric (codes "adjudicate_games_at_fault") (codes "Games of which something is at fault.") t.sums.faults
    → d ≡ c ++ metric (codes "adjudicate_moves") (codes "Moves in the records of the folder.") t.moves → e ≡ d ++ metrics_if_compared compares t → e ≡ metrics_text compares t
all_added compares t a b c d e is p q r s = from_none a b c d e (state_metrics t) (metric (codes "adjudicate_games_at_fault") (codes "Games of which something is at fault.") t.sums.faults) (metric (codes "adjudicate_moves") (codes "Moves in the records of the folder.") t.moves) (metrics_if_compared compares t) is p q r s

pub compared_is : (compares : Bool) (t : Totals) (a b : List ℕ) → compares ≡ true → b ≡ a ++ compared_metrics t → b ≡ a ++ metrics_if_compared compares t
compared_is true t a b e h = h
compared_is false t a b e h = absurd (false≢true e)
