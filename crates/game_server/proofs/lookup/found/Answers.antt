use Rattle.std.proofs.Common.{ℕ, List, ap, inl, inr, refl, subst, sym, ◌∙◌}
use Rattle.std.specs.Prelude.{not}
use Rattle.std.proofs.lemmas.Bool.{false≢true}
use Rattle.std.proofs.lemmas.Slice.Eq.{bytes_eq-Decides}
use Rattle.fen_text.specs.Written.{fen_of}
use Rattle.move_msg.specs.Stamps.{IsGameName, stamp_of}
use Rattle.game_server.proofs.lookup.found.Goals as goal

pub returns-in-Err : goal.returns-in-Err
returns-in-Err g c = let h = c.in-Err.ensures.made in record { made = (h.0, h.1, record { quiet = h.2.quiet; is = inl h.2.found }) }

pub returns-in_default : goal.returns-in_default
returns-in_default g c = let h = c.in-Ok.ensures.made in record {
  made = (
    h.0,
    h.1,
    record { quiet = h.2.quiet; is = inr (c.in-Ok.game, h.2.found, (λ is. c.in_default.ensures.none (subst (λ (n : List ℕ). IsGameName n) (sym c.as_slice.ensures.value) is.is_name)), refl) },
  );
}

pub returns-then-ne : goal.returns-then-ne
returns-then-ne g c = let h = c.in-Ok.ensures.made in record {
  made = (
    h.0,
    h.1,
    record {
      quiet = h.2.quiet;
      is = inr (
        c.in-Ok.game,
        h.2.found,
        (λ is.
            let own = c.stamp.ensures ∙ ap (λ (n : List ℕ). stamp_of n (fen_of c.in-Ok.game.start) c.args.manifest.now c.in-Ok.game.delay) (c.in-Some.ensures.some ∙ c.as_slice.ensures.value) ∙ sym is.stamped in
            let same = (bytes_eq-Decides c.stamp.result c.args.stamp).1 own in
            false≢true (sym (c.if-ne.ensures ∙ ap not same))),
        refl,
      );
    },
  );
}
