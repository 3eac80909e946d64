use Rattle.std.proofs.Common.{◌≡◌, ◌≤◌, ◌-◌, ◌∙◌, ◌++◌, ◌∷◌, [], length, take, get_or, ap, sym, arith}
use Rattle.std.proofs.lemmas.List.{take_more, append_assoc}
use Rattle.place_index.specs.Choose.{choose}
use Rattle.place_index.specs.Others.{free_number}
use Rattle.place_index.proofs.Counting.MappedSets.{mapped_drop, mapped_end, falling_at}
use Rattle.place_index.proofs.Counting.Choosing.{choose_few}
use Rattle.place_index.proofs.Indices.HigherMen.{free_after}
use Rattle.place_index.proofs.numbers.free_set_number.Goals as goal

pub overflow_add-sum : goal.overflow_add-sum
overflow_add-sum c =
    let small : c.free_number-free.result ≤ 64 = c.free_number-free.ensures.small in
    let few = choose_few c.free_number-free.result (length c.args.squares.now - c.loop-i.i) small (omega (arith, c.requires.room)) in
    omega (arith, c.choices-sum.ensures, few, c.loop-i.invariant.most, c.loop-i-test.true, c.requires.room)

pub loop-i-preserved : goal.loop-i-preserved
loop-i-preserved c =
    let small : c.free_number-free.result ≤ 64 = c.free_number-free.ensures.small in
    let few = choose_few c.free_number-free.result (length c.args.squares.now - c.loop-i.i) small (omega (arith, c.requires.room)) in
    let free : c.free_number-free.result ≡ free_number c.args.first c.args.earlier.now (get_or c.args.squares.now c.loop-i.i 0) =
    c.free_number-free.ensures.is ∙ ap (free_number c.args.first c.loop-i.earlier) c.at-square.ensures ∙ ap (λ l. free_number c.args.first l (get_or c.args.squares.now c.loop-i.i 0)) c.loop-i.invariant.added
    ∙ free_after c.args.first c.args.earlier.now c.args.squares.now c.loop-i.i c.requires.falling c.loop-i-test.true in
    record {
      is = omega (
        arith,
        c.loop-i.invariant.is,
        c.choices-sum.ensures,
        ap (λ n. choose n (length c.args.squares.now - c.loop-i.i)) free,
        mapped_drop (free_number c.args.first c.args.earlier.now) c.args.squares.now c.loop-i.i c.loop-i-test.true,
      );
      most = omega (arith, c.choices-sum.ensures, few, c.loop-i.invariant.most);
      added =
          c.push.ensures ∙ ap (λ x. c.loop-i.earlier ++ x ∷ []) c.at-square.ensures ∙ ap (λ l. l ++ get_or c.args.squares.now c.loop-i.i 0 ∷ []) c.loop-i.invariant.added
          ∙ append_assoc c.args.earlier.now (take c.loop-i.i c.args.squares.now) (get_or c.args.squares.now c.loop-i.i 0 ∷ [])
          ∙ ap (λ l. c.args.earlier.now ++ l) (sym (take_more c.args.squares.now c.loop-i.i 0 c.loop-i-test.true));
    }

pub returns-clause-number : goal.returns-clause-number
returns-clause-number c = omega (arith, c.loop-i.invariant.is, mapped_end (free_number c.args.first c.args.earlier.now) c.args.squares.now c.loop-i.i c.loop-i-test.false)

pub at-square-requires : goal.at-square-requires
at-square-requires c = falling_at 64 c.args.squares.now c.loop-i.i c.requires.falling c.loop-i-test.true
