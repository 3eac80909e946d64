-- The parts of a table as it is kept, each with its sections.
use Rattle.std.specs.Prelude.{ℕ, List, map}
use Rattle.table_file.specs.declared.parts.Part.{Part}
use Rattle.table_file.specs.declared.table.OpenedPart.{OpenedPart}

abbrev pub plain_parts : List OpenedPart → List Part
plain_parts opened = map (λ o. o.head) opened

abbrev pub all_entries : List OpenedPart → List (List ℕ)
all_entries opened = map (λ o. o.entries) opened

abbrev pub all_lengths : List OpenedPart → List (List ℕ)
all_lengths opened = map (λ o. o.lengths) opened

abbrev pub all_blocks : List OpenedPart → List (List ℕ)
all_blocks opened = map (λ o. o.blocks) opened
