use Rattle.std.proofs.Common.{refl}
use Rattle.std.proofs.lemmas.Result.{err_from_is_err_and}
use Rattle.host_commands.proofs.StepLaws.{alone, alone_so, both, both_so, given}
use Rattle.host_commands.proofs.listening.open_one.Goals as goal

pub returns-in_err-start : goal.returns-in_err-start
returns-in_err-start g c =
    let o = g.S.System.outside c.args.system.now in
    let p = err_from_is_err_and c.from_residual.result c.from_residual.ensures.1 in
    rw (p.1, p.2) (alone_so o _ _ _ _ c.in_err-start.ensures)

pub returns-in_err-tables : goal.returns-in_err-tables
returns-in_err-tables g c =
    let o = g.S.System.outside c.args.system.now in
    let p = err_from_is_err_and c.from_residual-in_err-tables.result c.from_residual-in_err-tables.ensures.1 in
    rw (p.1, p.2) (both_so o _ _ _ _ _ _ c.in_ok-start.ensures (alone_so o _ _ _ _ (rw c.usual.ensures at c.in_err-tables.ensures)))

pub returns-in_err-manifest : goal.returns-in_err-manifest
returns-in_err-manifest g c =
    let o = g.S.System.outside c.args.system.now in
    let p = err_from_is_err_and c.from_residual-in_err-manifest.result c.from_residual-in_err-manifest.ensures.1 in
    rw (p.1, p.2) (both_so o _ _ _ _ _ _ c.in_ok-start.ensures (both_so o _ _ _ _ _ _ (rw c.usual.ensures at c.in_ok-tables.ensures) (alone_so o _ _ _ _ c.in_err-manifest.ensures)))

pub returns-in_err-port : goal.returns-in_err-port
returns-in_err-port g c =
    let o = g.S.System.outside c.args.system.now in
    let p = err_from_is_err_and c.from_residual-in_err-port.result c.from_residual-in_err-port.ensures.1 in
    rw (p.1, p.2) (both_so o _ _ _ _ _ _ c.in_ok-start.ensures (both_so o _ _ _ _ _ _ (rw c.usual.ensures at c.in_ok-tables.ensures) (both_so o _ _ _ _ _ _ c.in_ok-manifest.ensures (alone o _ _ _ _ _ c.in_err-port.ensures))))

pub returns-in_err-line : goal.returns-in_err-line
returns-in_err-line g c =
    let o = g.S.System.outside c.args.system.now in
    let p = err_from_is_err_and c.from_residual-in_err-line.result c.from_residual-in_err-line.ensures.1 in
    rw (p.1, p.2) (both_so o _ _ _ _ _ _ c.in_ok-start.ensures (both_so o _ _ _ _ _ _ (rw c.usual.ensures at c.in_ok-tables.ensures) (both_so o _ _ _ _ _ _ c.in_ok-manifest.ensures (both o _ _ _ _ _ _ _ c.in_ok-port.ensures (alone_so o _ _ _ _ c.in_err-line.ensures)))))

pub returns : goal.returns
returns g c =
    let o = g.S.System.outside c.args.system.now in
    both_so o _ _ _ _ _ _ c.in_ok-start.ensures (both_so o _ _ _ _ _ _ (rw c.usual.ensures at c.in_ok-tables.ensures) (both_so o _ _ _ _ _ _ c.in_ok-manifest.ensures (both o _ _ _ _ _ _ _ c.in_ok-port.ensures (both_so o _ _ _ _ _ _ c.in_ok-line.ensures (given o _ _ _ refl)))))
