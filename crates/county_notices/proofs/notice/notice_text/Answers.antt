-- The segments of the lines may be written, and their text is the notice.
use Rattle.std.proofs.lemmas.List.Elements.{recursion_from_All}
use Rattle.county_notices.specs.Notices.{IsPlainLine}
use Rattle.county_notices.proofs.Answered.{is_notice}
use Rattle.county_notices.proofs.PlainSegments.{plain_segments}
use Rattle.county_notices.proofs.notice.notice_text.Goals as goal

pub segments_text-requires : goal.segments_text-requires
segments_text-requires c = record {
  minute = c.requires.minute;
  office = c.requires.office;
  segments = plain_segments c.args.lines.now c.in_ok-segments.segments c.in_ok-segments.ensures (recursion_from_All IsPlainLine c.args.lines.now c.requires.lines);
}

pub returns : goal.returns
returns c = is_notice c.args.issuer.now c.args.t c.args.watch c.args.lines.now c.in_ok-segments.segments c.segments_text.result c.in_ok-segments.ensures c.segments_text.ensures.value c.segments_text.ensures.frame c.segments_text.ensures.one
