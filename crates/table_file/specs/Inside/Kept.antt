-- Figures as they are kept.
use Rattle.table_file.specs.Figures.{Figures, AreFigures}
use Rattle.table_file.specs.declared.codes.Codes.TheInside.{Inside}

abbrev pub figures_of : Inside → Figures
figures_of a = record { block_exponent = a.block_exponent; span_exponent = a.span_exponent; padding = a.padding; blocks = a.blocks; dictionary = a.dictionary }

abbrev pub AreKept : Inside → Type 0
AreKept a = AreFigures (figures_of a)
