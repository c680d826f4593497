use Rattle.std.proofs.Common.{◌≡◌, ◌++◌, drop}
use Rattle.product_template.specs.Bodies.{all_bullets, headlines}
use Rattle.product_template.proofs.bodies.lines_text.Given as goal

-- the headlines and the bullets of what is left follow
abbrev pub invariant-loop-line : goal.invariant-loop-line
invariant-loop-line l =
    (headlines l.zone l.t l.lines ≡ l.headlines ++ headlines l.zone l.t (drop l.line-index l.lines))
    × (all_bullets l.edition l.zone l.t l.texts l.lines ≡ l.bullets ++ all_bullets l.edition l.zone l.t l.texts (drop l.line-index l.lines))
