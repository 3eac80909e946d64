-- What holds of every world of a schedule (this project's own, docs/RULES.md).
use Rattle.std.specs.Prelude.{◌≡◌, ◌↔◌, ℕ, ◌≤◌, true, List, length, take, Option, Some, None, IfSome, IsSome}
use Rattle.board_core.specs.declared.moves.Move.{Move as Moves}
use Rattle.board_core.specs.declared.verdict.Verdict.{Verdict as Ruling}
use Rattle.judge_core.specs.Games.{Rules, IsFirst, IsUnruled, position_after_all}
use Rattle.arbiter_core.specs.Recording.{Recorded, reaches, record_at, move_count}
use Rattle.relay_world.specs.Worlds.{Judged, World}

-- ---- in plain words

-- The record of the game's first so many moves: they are legal in turn, no earlier ply has a verdict, and the record has a
-- verdict exactly where its ply is the first of the game with that verdict.
pub record IsFrontOf (rules : Rules) (game : List Moves) (kept : Recorded) : Type 0 where
  pub ply : ℕ
  pub within : ply ≤ length game
  pub moves : kept.moves ≡ take ply game
  pub legal : IsSome (position_after_all rules.start (take ply game))
  pub unruled : IsUnruled rules game ply
  pub verdict : (v : Ruling) → (kept.verdict ≡ Some v) ↔ IsFirst rules game ply v

-- What both arbiters keep is true to the game: each keeps nothing or the record of its first so many moves, and where both
-- keep a verdict, it is one, at one ply.
pub record IsFaithful (game : Judged) (world : World) : Type 0 where
  pub a : IfSome world.a.kept (IsFrontOf game.rules game.moves)
  pub b : IfSome world.b.kept (IsFrontOf game.rules game.moves)
  pub agree : (one other : Recorded) (v w : Ruling) → world.a.kept ≡ Some one → world.b.kept ≡ Some other → one.verdict ≡ Some v → other.verdict ≡ Some w → (move_count one ≡ move_count other) × (v ≡ w)

-- how many moves are kept
abbrev pub kept_count : Option Recorded → ℕ
kept_count None = 0
kept_count (Some kept) = move_count kept

-- ---- as it is proved; cited by private functions alone

-- the record of the game's first k moves, k a ply that the game reaches
pub record IsRecordOf (rules : Rules) (game : List Moves) (kept : Recorded) : Type 0 where
  pub ply : ℕ
  pub reached : reaches rules game ply ≡ true
  pub is : kept ≡ record_at rules game ply

-- two verdicts are one, at one ply, and it is the first of the game
pub record IsOneVerdict (rules : Rules) (game : List Moves) (one other : Recorded) (v w : Ruling) : Type 0 where
  pub ply : move_count one ≡ move_count other
  pub verdict : v ≡ w
  pub first : IsFirst rules game (move_count one) v

abbrev pub Agree : Rules → List Moves → Recorded → Recorded → Type 0
Agree rules game one other = (v w : Ruling) → one.verdict ≡ Some v → other.verdict ≡ Some w → IsOneVerdict rules game one other v w

pub record IsRight (game : Judged) (world : World) : Type 0 where
  pub a : IfSome world.a.kept (IsRecordOf game.rules game.moves)
  pub b : IfSome world.b.kept (IsRecordOf game.rules game.moves)
  pub agree : IfSome world.a.kept (λ one. IfSome world.b.kept (Agree game.rules game.moves one))
