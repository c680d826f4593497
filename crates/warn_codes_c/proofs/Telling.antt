-- What is told of what was read.
use Rattle.std.proofs.Common.{ℕ, List, subst, sym, Result, Ok, Err, inr}
use Rattle.hazard_types.specs.Given.{Gives}
use Rattle.hazard_types.specs.declared.or.Or.{Or}
use Rattle.hazard_types.specs.declared.or.Or.TheVariants.{No, OutOfMemory}
use Rattle.product_frame.specs.declared.frame.Frame.{Frame}
use Rattle.product_frame.specs.declared.frame.FrameFault.{FrameFault}
use Rattle.ugc_codes.specs.declared.read.UgcRead.{UgcRead}
use Rattle.ugc_codes.specs.declared.read.UgcFault.{UgcFault}
use Rattle.warn_codes_c.specs.Frames.{ReadsFrame, IsToldFrame}
use Rattle.warn_codes_c.specs.Ugc.{ReadsUgc, IsToldUgc}
use Rattle.warn_codes_c.specs.declared.fields.ZoneFields.{ZoneFields}
use Rattle.warn_codes_c.specs.declared.frames.FrameFields.{FrameFields}
use Rattle.warn_codes_c.specs.declared.frames.LineFields.{LineFields}
use Rattle.warn_codes_c.specs.declared.frames.SegmentFields.{SegmentFields}
use Rattle.warn_codes_c.specs.declared.ugc.UgcFields.{UgcFields}

-- what is told is what the bytes say, unless memory ran out

pub ugc_told : (answer : Result UgcRead (Or UgcFault)) (says : Result UgcRead UgcFault) (status : ℕ) (old new : List ZoneFields) (out out' : UgcFields) → Gives answer says → IsToldUgc answer status old new out out' → ReadsUgc says status old new out out'
ugc_told (Ok u) says status old new out out' gives told = subst (λ (x : Result UgcRead UgcFault). ReadsUgc x status old new out out') (sym gives) told
ugc_told (Err (No f)) says status old new out out' gives told = subst (λ (x : Result UgcRead UgcFault). ReadsUgc x status old new out out') (sym gives) told
ugc_told (Err OutOfMemory) says status old new out out' gives told = inr told

pub frame_told : (answer : Result Frame (Or FrameFault)) (says : Result Frame FrameFault) (status : ℕ) (segments segments' : List SegmentFields) (zones zones' : List ZoneFields) (lines lines' : List LineFields) (out out' : FrameFields)
    → Gives answer says → IsToldFrame answer status segments segments' zones zones' lines lines' out out' → ReadsFrame says status segments segments' zones zones' lines lines' out out'
frame_told (Ok f) says status segments segments' zones zones' lines lines' out out' gives told = subst (λ (x : Result Frame FrameFault). ReadsFrame x status segments segments' zones zones' lines lines' out out') (sym gives) told
frame_told (Err (No x)) says status segments segments' zones zones' lines lines' out out' gives told = subst (λ (y : Result Frame FrameFault). ReadsFrame y status segments segments' zones zones' lines lines' out out') (sym gives) told
frame_told (Err OutOfMemory) says status segments segments' zones zones' lines lines' out out' gives told = inr told
