use Rattle.std.proofs.Common.{◌≡◌, ◌<◌, ◌≤◌, ℕ, zero, suc, true, false, List, [], ◌∷◌, map, length, get_or, refl, sym, ap, ◌∙◌, subst, arith}
use Rattle.move_msg.specs.declared.manifest.Line.{Line}
use Rattle.move_msg.specs.Manifests.{entry_of}
use Rattle.relay_world.proofs.Placing.{after_more, ahead_at}
use Rattle.relay_world.proofs.listing.place_of.Goals as goal

entry_at : (lines : List Line) (i : ℕ) (x : Line) → i < length lines → x ≡ get_or lines i x → entry_of x ≡ get_or (map entry_of lines) i (entry_of x)
entry_at [] i x l is = absurd (omega arith)
entry_at (y ∷ lines) zero x l is = ap entry_of is
entry_at (y ∷ lines) (suc i) x l is = entry_at lines i x (omega arith) is

entries : (lines : List Line) → length (map entry_of lines) ≡ length lines
entries [] = refl
entries (x ∷ lines) = ap suc (entries lines)

within : (lines : List Line) (i : ℕ) → i < length lines → i < length (map entry_of lines)
within lines i l = subst (λ n. i < n) (sym (entries lines)) l

pub loop-place-preserved : goal.loop-place-preserved
loop-place-preserved c =
    let i : ℕ = c.loop-place.place in
    let x : Line = c.index-lines-place.result in
    let l : i < length c.args.lines.now = c.loop-place-test.true in
    record {
      within = omega (arith, l);
      after = after_more (map entry_of c.args.lines.now) i (entry_of x) (entry_of c.args.line.now) (within c.args.lines.now i l) (entry_at c.args.lines.now i x l c.index-lines-place.is) (c.is_before.ensures.0 c.if-is_before.true);
    }

pub returns-else-is_before : goal.returns-else-is_before
returns-else-is_before c =
    let i : ℕ = c.loop-place.place in
    let x : Line = c.index-lines-place.result in
    let l : i < length c.args.lines.now = c.loop-place-test.true in
    record {
      within = subst (λ n. i ≤ n) (sym (entries c.args.lines.now)) c.loop-place.invariant.within;
      after = c.loop-place.invariant.after;
      before = ahead_at (entry_of c.args.line.now) (map entry_of c.args.lines.now) i (entry_of x) c.requires (within c.args.lines.now i l) (entry_at c.args.lines.now i x l c.index-lines-place.is) (λ b. let bad : true ≡ false = sym (c.is_before.ensures.1 b) ∙ c.if-is_before.false in cc);
    }
