use Rattle.std.proofs.Common.{rules}
use Rattle.board_core.proofs.rules.is_castle.Goals as goal

pub returns : goal.returns
returns c =
    let way = rw (c.king_home-home.ensures, c.king_end-end.ensures, c.other.ensures) at c.is_way_safe.ensures in
    let empty = rw (c.king_home-home.ensures, c.rook_home.ensures) at c.is_way_empty.ensures in (
      λ t. record {
        stands = search rules;
        right = search rules;
        from_home = search rules;
        to_end = search rules;
        clear = empty.0 (search rules);
        safe = way.0 t;
        whole = search rules;
      },
      λ h. way.1 h.safe,
    )
