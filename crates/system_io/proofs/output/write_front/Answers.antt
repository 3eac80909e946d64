use Rattle.std.proofs.Common.{◌≡◌, ◌+◌, ℕ, List, length, take, drop, Option, Some, None, ap, arith, subst, sym, ◌∙◌}
use Rattle.std.proofs.Math.Seq.{take-add}
use Rattle.std.proofs.lemmas.List.{take_rest}
use Rattle.std.specs.Io.KnownBytes.{Appends, Keeps}
use Rattle.std.proofs.KnownBytes.{Appends-trans}
use Rattle.system_io.proofs.output.write_front.Goals.{in-Ok, in-Err+else-ne}
use Rattle.system_io.proofs.output.write_front.Goals as goal

more : (a b c : Option (List ℕ)) (xs : List ℕ) (w n m : ℕ) → Appends a b (take w xs) → Appends b c (take n (drop w xs)) → m ≡ w + n → Appends a c (take m xs)
more a b c xs w n m p q e = subst (Appends a c) (sym (ap (λ k. take k xs) e ∙ take-add w n xs)) (Appends-trans a b c _ _ p q)

still : (a b c : Option (List ℕ)) (bs : List ℕ) → Appends a b bs → Keeps b c → Appends a c bs
still None b c bs p q = tt
still (Some xs) None c bs p q = absurd p
still (Some xs) (Some ys) None bs p q = absurd q
still (Some xs) (Some ys) (Some zs) bs p q = q ∙ p

pub loop-preserved : goal.loop-preserved
loop-preserved g c =
    let start : Option (List ℕ) = g.W.Write.contents c.args.out.now in
    let old : Option (List ℕ) = g.W.Write.contents c.loop.out in
    let new : Option (List ℕ) = g.W.Write.contents c.write.new.self in
    let bytes : List ℕ = c.args.bytes.now in
    let within = c.loop.invariant.within in
    elim c.match-write.branch [
      | in-Ok w ↦ record {
        front = more start old new bytes c.loop.written w.in-Ok.n c.match-write.written c.loop.invariant.front (subst (λ (t : List ℕ). Appends old new (take w.in-Ok.n t)) (take_rest bytes c.loop.written) w.in-Ok.ensures.bytes) w.written-is;
        within = let bound = w.in-Ok.ensures.bound in let is = w.written-is in let size = ap length (take_rest bytes c.loop.written) in omega arith;
      }
      | in-Err+else-ne w ↦ record {
        front = subst (λ (k : ℕ). Appends start new (take k bytes)) (sym w.written-is) (still start old new (take c.loop.written bytes) c.loop.invariant.front w.in-Err.ensures.bytes);
        within = let is = w.written-is in omega arith;
      }
    ]
