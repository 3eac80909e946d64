use Rattle.std.proofs.Common.{◌≡◌, ◌∙◌, ℕ, List, [], ap, arith, get_or, length, refl}
use Rattle.std.proofs.lemmas.List.{get_or-replicate, length-replicate}
use Rattle.arbiter_server.proofs.Remembers.{remembers_none}
use Rattle.arbiter_server.proofs.last_lines.LastLines.new.Goals as goal

pub returns : goal.returns
returns c =
    let few = c.loop.auto.counter-end in
    let all : c.loop.counter ≡ 65536 = omega (arith, c.loop-test.false, few) in
    remembers_none _ refl (ap (λ (l : List (List ℕ)). length l) c.loop.invariant ∙ length-replicate c.loop.counter [] ∙ all) (λ kind lt. get_or-replicate 8 kind 0 0 lt)
    (λ place lt. ap (λ (l : List (List ℕ)). get_or l place []) c.loop.invariant ∙ get_or-replicate c.loop.counter place [] [] (omega (arith, all, lt)))
