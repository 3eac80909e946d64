use Rattle.std.proofs.Common.{ap, get_or, refl, ◌∙◌}
use Rattle.std.specs.Option.{option_map}
use Rattle.std.proofs.lemmas.Option.{slice_get-map, slice_get-get_or}
use Rattle.move_msg.specs.Files.{table_file_of}
use Rattle.answer_commands.proofs.run.refused_table.Goals as goal

pub returns : goal.returns
returns c =
    let files = c.args.files.now in
    let file = c.index-files-place.result in
    record {
      place = c.args.place;
      fault = c.args.fault;
      file = table_file_of (get_or files c.args.place file);
      first = c.requires.refused;
      at = slice_get-map table_file_of files c.args.place ∙ ap (option_map table_file_of) (slice_get-get_or files c.args.place file c.requires.within);
      told = refl;
    }
