use Rattle.place_index.proofs.Counting.PartList.{listed_falls, falling_listed, listed_once}
use Rattle.place_index.proofs.choose.parts_are_listed.Goals as goal

pub returns : goal.returns
returns c n = (λ part. (listed_falls n part, falling_listed n part), listed_once n)
