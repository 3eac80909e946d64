-- What comes at a port with keys.
use Rattle.std.specs.Prelude.{ℕ, List}
use Rattle.move_msg.specs.declared.message.Message.{Message}
use Rattle.relay_world.specs.Worlds.{Judged}
use Rattle.sealed_port.specs.Laws.{IsSealedAs}
use Rattle.sealed_port.specs.Sealing.{is_sealed_by, opened}
use Rattle.sealed_port.specs.declared.seal_port.Keys.{Keys}
use Rattle.theorems.specs.Nets.{IsNoForgery}

-- The bytes that a datagram seals under one of the keys are no forgery: where they are a message of the game, it was sent before. So it
-- is with each datagram of those who can't make a tag of the keys.
abbrev pub HasNoForgedTag : Judged → List Message → Keys → List ℕ → Type 0
HasNoForgedTag game log keys datagram = (bytes : List ℕ) → IsSealedAs keys bytes datagram → IsNoForgery game log bytes

-- Without a forged tag there is no forged message: of such a datagram a port with these keys passes on no forgery, which is what the
-- headline asks of all that comes.
abbrev pub NoTagNoForgery : Type 0
NoTagNoForgery =
    (game : Judged) (log : List Message) (keys : Keys) (datagram : List ℕ) → HasNoForgedTag game log keys datagram
    → IsNoForgery game log (opened (is_sealed_by keys datagram) datagram)
