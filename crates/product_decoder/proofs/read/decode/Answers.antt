-- What a frame says is read, where the text has that frame.
use Rattle.std.proofs.Common.{◌≡◌, List, Result, Ok, Err, map, refl, rules}
use Rattle.hazard_types.specs.Given.{Gives}
use Rattle.hazard_types.specs.declared.or.Or.{Or}
use Rattle.hazard_types.specs.declared.or.Or.TheVariants.{No, OutOfMemory}
use Rattle.product_frame.specs.ZoneLinesOf.{zone_lines_of, lines_of_segments}
use Rattle.product_frame.specs.declared.frame.Frame.{Frame}
use Rattle.product_frame.specs.declared.frame.FrameFault.{FrameFault}
use Rattle.product_decoder.specs.declared.types.Decoded.{Decoded}
use Rattle.product_decoder.specs.declared.types.ZonePair.{ZonePair}
use Rattle.product_decoder.specs.Decoded.{pair_of, decoded_of}
use Rattle.product_decoder.proofs.read.decode.Goals as goal

refused : (e : Or FrameFault) (f : Frame) → Gives (Err e) (Ok f) → Gives {X = Decoded} (Err e) (Ok (decoded_of f))
refused (No x) f h = cc
refused OutOfMemory f h = tt

one_frame : (f g : Frame) → ◌≡◌ {A = Result Frame FrameFault} (Ok f) (Ok g) → f ≡ g
one_frame f g h = cc

told : (f g : Frame) (pairs : List ZonePair) → f ≡ g → pairs ≡ map pair_of (lines_of_segments g.segments) →
    ◌≡◌ {A = Result Decoded FrameFault} (Ok (decoded_of f)) (Ok (record { identifier = g.identifier; issue = g.issue; pairs = pairs }))
unfolding zone_lines_of
told f g pairs h p = rw (h, p) refl

pub returns-in_err-frame-clause-only : goal.returns-in_err-frame-clause-only
returns-in_err-frame-clause-only c = λ f h. let g = refused c.in_err-frame.field-0.0 f (c.in_err-frame.ensures.only f h) in search (rules, g)

pub returns-clause-only : goal.returns-clause-only
returns-clause-only c = λ f h. told f c.in_ok-frame.frame c.in_ok-pairs.pairs (one_frame f c.in_ok-frame.frame (c.in_ok-frame.ensures.only f h)) c.in_ok-pairs.ensures
