use Rattle.std.proofs.Common.{◌∙◌, sym}
use Rattle.pgn_games.proofs.CourseLaws.{plain}
use Rattle.pgn_games.proofs.course.Course.take.Goals as goal

pub take_main-requires : goal.take_main-requires
take_main-requires c = record {
  main = sym c.depth_of.ensures ∙ c.if-depth_of-eq0.true;
  plain = plain c.args.lexeme c.in_default.not-Tag c.in_default.not-BadTag c.in_default.not-Endless c.in_default.not-TooLong;
}
