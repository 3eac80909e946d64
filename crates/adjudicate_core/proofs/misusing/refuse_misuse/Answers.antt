use Rattle.adjudicate_core.proofs.misusing.refuse_misuse.Goals as goal

pub returns : goal.returns
returns g c = record { mid = c.tell_misuse.new.timeline; tells = c.tell_misuse.ensures; ends = c.end.ensures }
