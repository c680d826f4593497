use Rattle.std.proofs.Common.{◌≡◌, ◌-◌, ◌∙◌, List, length, take, drop, Result, sym, subst, arith}
use Rattle.std.proofs.lemmas.List.{take_all, length-drop}
use Rattle.hazard_types.specs.Given.{Gives}
use Rattle.product_frame.specs.Frames.{frame_from}
use Rattle.product_frame.specs.declared.frame.Frame.{Frame}
use Rattle.product_frame.specs.declared.frame.FrameFault.{FrameFault}
use Rattle.product_frame.proofs.HeadingPlaces.{frame_found, no_frame}
use Rattle.product_frame.proofs.read.read_first_frame.Goals as goal

pub returns-in_default : goal.returns-in_default
returns-in_default c = no_frame c.args.bytes.now (sym c.in_default.is ∙ c.first_heading.ensures.value)

pub returns : goal.returns
returns c =
    let bytes = c.args.bytes.now in
    let at = c.in-Some.at in
    let whole : take (length bytes - at) (drop at bytes) ≡ drop at bytes = take_all (length bytes - at) (drop at bytes) (omega (arith, length-drop at bytes)) in
    subst (λ (a : Result Frame FrameFault). Gives c.frame_from.result a) (frame_found bytes at c.in-Some.ensures.value) (subst (λ (rest : List _). Gives c.frame_from.result (frame_from rest)) whole c.frame_from.ensures)
