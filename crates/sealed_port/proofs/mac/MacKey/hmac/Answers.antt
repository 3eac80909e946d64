use Rattle.std.proofs.Common.{rules, ◌≡◌, ◌++◌}
use Rattle.sha2.specs.Hashers.{Holds256}
use Rattle.sha2.specs.Sha256.{sha256}
use Rattle.sealed_port.specs.Hmac.{hmac, masked}
use Rattle.sealed_port.proofs.mac.MacKey.hmac.Goals as goal

pub returns : goal.returns
unfolding hmac
returns c =
    let held = c.self.invariant in
    let first : Holds256 c.unwrap-inner.result (masked 0x36 c.self.inside.key) = search rules in
    let second : Holds256 c.unwrap-outer.result (masked 0x5c c.self.inside.key) = search rules in
    let inner : c.finalize-digest.result ≡ sha256 (masked 0x36 c.self.inside.key ++ c.args.text.now) = search rules in
    let outer : c.finalize.result ≡ sha256 (masked 0x5c c.self.inside.key ++ c.finalize-digest.result) = search rules in
    search rules
