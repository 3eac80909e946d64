-- What holds of all that a sealed port passes on (this project's own).
use Rattle.std.specs.Prelude.{◌≡◌, ◌≢◌, ◌⊎◌, ℕ, List}
use Rattle.system_io.specs.Ports.{no_tag}
use Rattle.sealed_port.specs.Sealing.{is_sealed_by, opened, sealed}
use Rattle.sealed_port.specs.declared.seal_port.Keys.{Keys}

-- it is these bytes with their tag under one of the keys
abbrev pub IsSealedAs : Keys → List ℕ → List ℕ → Type 0
IsSealedAs keys bytes datagram = (datagram ≡ sealed keys.first bytes) ⊎ (datagram ≡ sealed keys.second bytes)

-- a datagram that is passed on as anything but 64 zeros is that with its tag
abbrev pub OnlySealedIsPassedOn : Type 0
OnlySealedIsPassedOn = (keys : Keys) (datagram bytes : List ℕ) → opened (is_sealed_by keys datagram) datagram ≡ bytes → bytes ≢ no_tag → IsSealedAs keys bytes datagram

-- and one with its tag is passed on
abbrev pub SealedIsPassedOn : Type 0
SealedIsPassedOn = (keys : Keys) (bytes datagram : List ℕ) → IsSealedAs keys bytes datagram → opened (is_sealed_by keys datagram) datagram ≡ bytes
