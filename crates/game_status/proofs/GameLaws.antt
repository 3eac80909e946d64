-- Games that are one, and games that are audited.
use Rattle.std.proofs.Common.{◌≡◌, ◌∙◌, ℕ, Bool, true, false, List, Option, Some, sym, ap, subst, IsTrue, ◌↔◌}
use Rattle.board_core.specs.declared.parts.Parts.{Parts}
use Rattle.fen_text.specs.Fen.{SpellsPosition}
use Rattle.fen_text.specs.Laws.{HasOnePosition}
use Rattle.fen_text.specs.Written.{fen_of}
use Rattle.move_msg.specs.declared.record_bytes.Record.{Record as Records}
use Rattle.move_msg.specs.Stamps.{IsGameName, stamp_of}
use Rattle.arbiter_server.specs.declared.game_file.Game.{Game}
use Rattle.arbiter_server.specs.GameFiles.{GameContents}
use Rattle.arbiter_server.specs.Games.{IsGameOf}
use Rattle.board_core.specs.declared.verdict.Verdict.{Verdict}
use Rattle.judge_core.specs.Tables.{Tables}
use Rattle.move_msg.specs.Records.{SpellsRecord}
use Rattle.record_audit.specs.declared.auditing.Finding.{Finding}
use Rattle.record_audit.specs.declared.auditing.Finding.TheVariants as found
use Rattle.record_audit.specs.Findings.{IsFound, IsOfRecord, is_whole, rules_with}
use Rattle.game_status.specs.Entries.{game_told}
use Rattle.game_status.specs.GameAudits.{IsWholeRecord}

-- ---- one game

same_made : (n m : List ℕ) (p q : Parts) (d e : ℕ) → n ≡ m → p ≡ q → d ≡ e → ◌≡◌ {A = GameContents} (record { name = n; start = p; delay = d }) (record { name = m; start = q; delay = e })
same_made n m p q d e f g h = cc

pub same_so : (a b : Game) (r : Bool) → a.name.items ≡ b.name.items → a.delay ≡ b.delay → IsTrue r ↔ (a.start ≡ b.start) → IsTrue r ↔ (game_told a ≡ game_told b)
same_so a b r name delay start = (
  (λ t. same_made a.name.items b.name.items a.start b.start a.delay b.delay name (start.0 t) delay),
  (λ e. start.1 (ap (λ (g : GameContents). g.start) e)),
)

pub other_so : (a b : Game) → ((game_told a ≡ game_told b) → ⊥) → IsTrue false ↔ (game_told a ≡ game_told b)
other_so a b none = ((λ t. let f : false ≡ true = t in absurd (cc)), (λ e. absurd (none e)))

-- starts are one where their texts are
pub start_so : (s t a b : List ℕ) (p q : Parts) (r : Bool) → HasOnePosition → SpellsPosition s p → SpellsPosition t q → s ≡ fen_of p → t ≡ fen_of q → a ≡ s → b ≡ t → IsTrue r ↔ (a ≡ b) → IsTrue r ↔ (p ≡ q)
start_so s t a b p q r law spells its fs ft is also h = (
  (λ same. law s p q spells (subst (λ (x : List ℕ). SpellsPosition x q) (sym also ∙ sym (h.0 same) ∙ is) its)),
  (λ e. h.1 (is ∙ fs ∙ ap fen_of e ∙ sym ft ∙ sym also)),
)

-- ---- a game of a stamp

pub own_so : (manifest stamp name : List ℕ) (start : Parts) (delay : ℕ) (own : List ℕ) (r : Bool) → IsGameName name → own ≡ stamp_of name (fen_of start) manifest delay → IsTrue r ↔ (own ≡ stamp) → IsTrue r ↔ IsGameOf manifest stamp name start delay
own_so manifest stamp name start delay own r named is same = (
  (λ t. record { is_name = named; stamped = sym (same.0 t) ∙ is }),
  (λ g. same.1 (is ∙ sym g.stamped)),
)

pub none_so : (manifest stamp name : List ℕ) (start : Parts) (delay : ℕ) → (IsGameName name → ⊥) → IsTrue false ↔ IsGameOf manifest stamp name start delay
none_so manifest stamp name start delay none = ((λ t. let f : false ≡ true = t in absurd (cc)), (λ g. absurd (none g.is_name)))

-- ---- what is found of a record

-- what is whole has the record's own number of moves and verdict
pub whole_so : (start : Parts) (tables : Tables) (r : Records) (finding : Finding) → is_whole finding ≡ true → IsOfRecord r finding → ((bytes : List ℕ) → SpellsRecord bytes r → IsFound (rules_with start tables r) r.stamp bytes finding) → IsWholeRecord start tables (Some r)
whole_so start tables r (found.Whole count verdict) e own h = λ bytes spelled.
    subst (λ (n : ℕ). IsFound (rules_with start tables r) r.stamp bytes (found.Whole n r.verdict)) own.0 (subst (λ (v : Option Verdict). IsFound (rules_with start tables r) r.stamp bytes (found.Whole count v)) own.1 (h bytes spelled))
whole_so start tables r (found.BadRecord fault) e own h = let f : false ≡ true = e in absurd (cc)
whole_so start tables r found.OtherStamp e own h = let f : false ≡ true = e in absurd (cc)
whole_so start tables r (found.BadMoves place) e own h = let f : false ≡ true = e in absurd (cc)
whole_so start tables r (found.BadVerdict verdict) e own h = let f : false ≡ true = e in absurd (cc)
