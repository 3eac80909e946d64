use Rattle.std.proofs.Common.{refl}
use Rattle.std.proofs.lemmas.Result.{err_from_is_err_and}
use Rattle.host_commands.proofs.StepLaws.{alone, alone_so, both, both_so, given}
use Rattle.host_commands.proofs.hosting.open_all.Goals as goal

pub returns-in_err-tables : goal.returns-in_err-tables
returns-in_err-tables g c =
    let o = g.S.System.outside c.args.system.now in
    let p = err_from_is_err_and c.from_residual.result c.from_residual.ensures.1 in
    rw (p.1, p.2) (alone_so o _ _ _ _ c.in_err-tables.ensures)

pub returns-in_err-list_games : goal.returns-in_err-list_games
returns-in_err-list_games g c =
    let o = g.S.System.outside c.args.system.now in
    let p = err_from_is_err_and c.from_residual-in_err-list_games.result c.from_residual-in_err-list_games.ensures.1 in
    rw (p.1, p.2) (both_so o _ _ _ _ _ _ c.in_ok-tables.ensures (alone o _ _ _ _ _ c.in_err-list_games.ensures))

pub returns-in_err-manifest : goal.returns-in_err-manifest
returns-in_err-manifest g c =
    let o = g.S.System.outside c.args.system.now in
    let p = err_from_is_err_and c.from_residual-in_err-manifest.result c.from_residual-in_err-manifest.ensures.1 in
    rw (p.1, p.2) (both_so o _ _ _ _ _ _ c.in_ok-tables.ensures (both o _ _ _ _ _ _ _ c.in_ok-list_games.ensures (alone_so o _ _ _ _ c.in_err-manifest.ensures)))

pub returns-in_err-port : goal.returns-in_err-port
returns-in_err-port g c =
    let o = g.S.System.outside c.args.system.now in
    let p = err_from_is_err_and c.from_residual-in_err-port.result c.from_residual-in_err-port.ensures.1 in
    rw (p.1, p.2) (both_so o _ _ _ _ _ _ c.in_ok-tables.ensures (both o _ _ _ _ _ _ _ c.in_ok-list_games.ensures (both_so o _ _ _ _ _ _ c.in_ok-manifest.ensures (alone o _ _ _ _ _ c.in_err-port.ensures))))

pub returns-in_err-line : goal.returns-in_err-line
returns-in_err-line g c =
    let o = g.S.System.outside c.args.system.now in
    let p = err_from_is_err_and c.from_residual-in_err-line.result c.from_residual-in_err-line.ensures.1 in
    rw (p.1, p.2) (both_so o _ _ _ _ _ _ c.in_ok-tables.ensures (both o _ _ _ _ _ _ _ c.in_ok-list_games.ensures (both_so o _ _ _ _ _ _ c.in_ok-manifest.ensures (both o _ _ _ _ _ _ _ c.in_ok-port.ensures (alone_so o _ _ _ _ c.in_err-line.ensures)))))

pub returns-in_err-held : goal.returns-in_err-held
returns-in_err-held g c =
    let o = g.S.System.outside c.args.system.now in
    let p = err_from_is_err_and c.from_residual-in_err-held.result c.from_residual-in_err-held.ensures.1 in
    rw (p.1, p.2) (both_so o _ _ _ _ _ _ c.in_ok-tables.ensures (both o _ _ _ _ _ _ _ c.in_ok-list_games.ensures (both_so o _ _ _ _ _ _ c.in_ok-manifest.ensures (both o _ _ _ _ _ _ _ c.in_ok-port.ensures (both_so o _ _ _ _ _ _ c.in_ok-line.ensures (alone o _ _ _ _ _ c.in_err-held.ensures))))))

pub returns-in_err-store : goal.returns-in_err-store
returns-in_err-store g c =
    let o = g.S.System.outside c.args.system.now in
    let p = err_from_is_err_and c.from_residual-in_err-store.result c.from_residual-in_err-store.ensures.1 in
    rw (p.1, p.2) (both_so o _ _ _ _ _ _ c.in_ok-tables.ensures (both o _ _ _ _ _ _ _ c.in_ok-list_games.ensures (both_so o _ _ _ _ _ _ c.in_ok-manifest.ensures (both o _ _ _ _ _ _ _ c.in_ok-port.ensures (both_so o _ _ _ _ _ _ c.in_ok-line.ensures (both o _ _ _ _ _ _ _ c.in_ok-held.ensures (alone o _ _ _ _ _ c.in_err-store.ensures)))))))

pub returns : goal.returns
returns g c =
    let o = g.S.System.outside c.args.system.now in
    both_so o _ _ _ _ _ _ c.in_ok-tables.ensures (both o _ _ _ _ _ _ _ c.in_ok-list_games.ensures (both_so o _ _ _ _ _ _ c.in_ok-manifest.ensures (both o _ _ _ _ _ _ _ c.in_ok-port.ensures (both_so o _ _ _ _ _ _ c.in_ok-line.ensures (both o _ _ _ _ _ _ _ c.in_ok-held.ensures (both o _ _ _ _ _ _ _ c.in_ok-store.ensures (given o _ _ _ refl)))))))
