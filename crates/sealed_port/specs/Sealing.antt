-- Datagrams that carry a tag (this project's own).
use Rattle.std.specs.Prelude.{◌++◌, ◌+◌, ◌-◌, ◌^◌, ◌&&◌, ℕ, Bool, true, List, length, min, take, drop, cond, nat_le}
use Rattle.std.specs.Str.{bytes_eq}
use Rattle.system_io.specs.Ports.{no_tag}
use Rattle.sealed_port.specs.Hmac.{hmac}
use Rattle.sealed_port.specs.declared.seal_port.Keys.{Keys}

-- the tag of bytes: the first 16 bytes of their HMAC
abbrev pub tag_of : List ℕ → List ℕ → List ℕ
tag_of key bytes = take 16 (hmac key bytes)

-- bytes with their tag behind them
abbrev pub sealed : List ℕ → List ℕ → List ℕ
sealed key bytes = bytes ++ tag_of key bytes

-- what stands before the last 16 bytes of a datagram, and these
abbrev pub before_tag : List ℕ → List ℕ
before_tag datagram = take (length datagram - 16) datagram

abbrev pub tag_in : List ℕ → List ℕ
tag_in datagram = drop (length datagram - 16) datagram

-- whether a datagram ends with the tag of what stands before
abbrev pub is_sealed : List ℕ → List ℕ → Bool
is_sealed key datagram = nat_le 16 (length datagram) && bytes_eq (tag_of key (before_tag datagram)) (tag_in datagram)

-- under one of the keys
abbrev pub is_sealed_by : Keys → List ℕ → Bool
is_sealed_by keys datagram = cond (is_sealed keys.first datagram) true (is_sealed keys.second datagram)

-- what a datagram is passed on as: without its tag where that is right, and as 64 bytes that are zero where it isn't
abbrev pub opened : Bool → List ℕ → List ℕ
opened is datagram = cond is (before_tag datagram) no_tag

-- a count, which stays at its greatest value
abbrev pub capped_count : ℕ → ℕ
capped_count n = min n (2 ^ 64 - 1)
