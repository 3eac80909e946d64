use Rattle.fen_text.proofs.FenLaws.{six}
use Rattle.fen_text.proofs.reading.read_parts.Goals as goal

pub returns-in_default-read_placement-clause-err : goal.returns-in_default-read_placement-clause-err
returns-in_default-read_placement-clause-err c = (six _ _ _ _ _ _ _ c.in-Some.ensures.some, (λ x. c.in_default-read_placement.ensures.none x.0 x.1))

pub returns-in_default-read_side-clause-err : goal.returns-in_default-read_side-clause-err
returns-in_default-read_side-clause-err c = (six _ _ _ _ _ _ _ c.in-Some.ensures.some, (c.in-Some-read_placement.men, c.in-Some-read_placement.ensures.some), (λ x. c.in_default-read_side.ensures.none x.0 x.1))

pub returns-in_default-read_castling-clause-err : goal.returns-in_default-read_castling-clause-err
returns-in_default-read_castling-clause-err c = (six _ _ _ _ _ _ _ c.in-Some.ensures.some, (c.in-Some-read_placement.men, c.in-Some-read_placement.ensures.some), (c.in-Some-read_side.side, c.in-Some-read_side.ensures.some), (λ x. c.in_default-read_castling.ensures.none x.0 x.1))

pub returns-in_default-read_en_passant-clause-err : goal.returns-in_default-read_en_passant-clause-err
returns-in_default-read_en_passant-clause-err c = (six _ _ _ _ _ _ _ c.in-Some.ensures.some, (c.in-Some-read_placement.men, c.in-Some-read_placement.ensures.some), (c.in-Some-read_side.side, c.in-Some-read_side.ensures.some), (c.in-Some-read_castling.rights, c.in-Some-read_castling.ensures.some), (λ x. c.in_default-read_en_passant.ensures.none x.0 x.1))

pub returns-in_default-read_counter-clause-err : goal.returns-in_default-read_counter-clause-err
returns-in_default-read_counter-clause-err c = (six _ _ _ _ _ _ _ c.in-Some.ensures.some, (c.in-Some-read_placement.men, c.in-Some-read_placement.ensures.some), (c.in-Some-read_side.side, c.in-Some-read_side.ensures.some), (c.in-Some-read_castling.rights, c.in-Some-read_castling.ensures.some), (c.in-Some-read_en_passant.en_passant, c.in-Some-read_en_passant.ensures.some), (λ n. c.in_default-read_counter.ensures.none n.0.0 n.0.1))

pub returns-in_default-read_counter-2-clause-err : goal.returns-in_default-read_counter-2-clause-err
returns-in_default-read_counter-2-clause-err c = (six _ _ _ _ _ _ _ c.in-Some.ensures.some, (c.in-Some-read_placement.men, c.in-Some-read_placement.ensures.some), (c.in-Some-read_side.side, c.in-Some-read_side.ensures.some), (c.in-Some-read_castling.rights, c.in-Some-read_castling.ensures.some), (c.in-Some-read_en_passant.en_passant, c.in-Some-read_en_passant.ensures.some), (λ n. c.in_default-read_counter-2.ensures.none n.1.0 n.1.1))

pub returns-clause-ok : goal.returns-clause-ok
returns-clause-ok c = record {
  fields = six _ _ _ _ _ _ _ c.in-Some.ensures.some;
  men = c.in-Some-read_placement.ensures.some;
  side = c.in-Some-read_side.ensures.some;
  rights = c.in-Some-read_castling.ensures.some;
  en_passant = c.in-Some-read_en_passant.ensures.some;
  halfmove = c.in-Some-read_counter.ensures.some;
  fullmove = c.in-Some-read_counter-2.ensures.some;
}
