use Rattle.table_file.specs.PlannedFile.{one_map_bytes, four_maps_bytes}
use Rattle.table_file.proofs.Planned.{on_ok}
use Rattle.table_file.proofs.Appending.{four_put}
use Rattle.table_file.proofs.forging.layout.put_four_maps.Goals as goal

pub returns : goal.returns
unfolding four_maps_bytes
returns c =
    let put = one_map_bytes c.args.wide in
    let maps = c.args.maps.now in
    on_ok c.put_map-4.result c.put_map-4.ensures (λ last.
    four_put c.args.file.now.items c.put_map.new.file.items c.put_map-2.new.file.items c.put_map-3.new.file.items c.put_map-4.new.file.items (put maps.win.items) (put maps.loss.items) (put maps.cursed_win.items) (put maps.blessed_loss.items)
    (rw c.deref.ensures.value at c.in_ok-put_map.ensures) (rw c.deref-2.ensures.value at c.in_ok-put_map-2.ensures) (rw c.deref-3.ensures.value at c.in_ok-put_map-3.ensures) (rw c.deref-4.ensures.value at last))
