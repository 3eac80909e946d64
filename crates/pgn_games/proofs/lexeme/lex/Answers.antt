use Rattle.std.proofs.Common.{◌≡◌, ◌+◌, ◌∷◌, ◌∙◌, ap, arith, length-drop, take_all, drop, get_or, length, take, ◌-◌}
use Rattle.pgn_games.specs.declared.bytes.ByteKind.{ByteKind}
use Rattle.pgn_games.specs.Bytes.{is_symbol, run_len}
use Rattle.pgn_games.specs.Lexemes.{lexed_by, symbol_tells}
use Rattle.pgn_games.proofs.RunLaws.{slice_from}
use Rattle.pgn_games.proofs.lexeme.lex.Goals as goal

pub returns-in-Symbol-clause-is : goal.returns-in-Symbol-clause-is
returns-in-Symbol-clause-is c =
    let s = c.args.line.now in
    let i = c.args.place in
    let rest = drop (i + 1) s in
    let b = get_or s i 0 in
    let whole : take (length s - (i + 1)) rest ≡ rest = take_all (length s - (i + 1)) rest (omega (arith, length-drop (i + 1) s)) in
    let run : c.run_len-len.result ≡ run_len is_symbol rest = c.run_len-len.ensures.is ∙ ap (run_len is_symbol) whole in
    λ first.
    c.symbol_tells.ensures first ∙ ap symbol_tells (slice_from s i c.run_len-len.result (omega arith)) ∙ ap (λ n. symbol_tells (b ∷ take n rest)) run ∙ ap (λ (k : ByteKind). (lexed_by k first b rest).tells) (c.in-Symbol.ensures {u = tt})
