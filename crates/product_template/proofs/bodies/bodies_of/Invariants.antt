use Rattle.std.proofs.Common.{◌≡◌, ◌++◌, drop, map}
use Rattle.product_template.specs.Bodies.{body_of}
use Rattle.product_template.proofs.bodies.bodies_of.Given as goal

-- the bodies of what is left follow
abbrev pub invariant-loop-segment : goal.invariant-loop-segment
invariant-loop-segment l =
    map (body_of l.settings l.class l.texts l.t l.edition) l.segments ≡ l.bodies ++ map (body_of l.settings l.class l.texts l.t l.edition) (drop l.segment-index l.segments)
