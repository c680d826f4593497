use Rattle.std.proofs.Common.{ℕ, Bool, true, false, List, ◌∷◌, ◌+◌, take, drop, subst}
use Rattle.office_journal.specs.Damage.{FailsAt}
use Rattle.office_journal.specs.Replaying.{HasTaken, Takes}
use Rattle.office_journal.proofs.Taking.{one_more, parted}
use Rattle.office_journal.proofs.replay.replay_others.Goals as goal

pub loop-body-preserved : goal.loop-body-preserved
loop-body-preserved c =
    let at = c.loop-body.body-index in
    let others = c.args.others.now in
    let body = c.body-item.result in
    let taken : Takes c.loop-body.found c.take.new.self c.as_slice.result.now true = subst (λ (b : Bool). Takes c.loop-body.found c.take.new.self c.as_slice.result.now b) c.if-not-taken.false c.in_ok-taken.ensures in
    let here : Takes c.loop-body.found c.take.new.self body true = subst (λ (b : List ℕ). Takes c.loop-body.found c.take.new.self b true) c.as_slice.ensures taken in
    subst (λ (l : List (List ℕ)). HasTaken l c.take.new.self) (one_more c.args.file.now others at body c.loop-body-test.true c.body-item.is) (here (c.args.file.now ∷ take at others) c.loop-body.invariant)

pub returns-then-not-taken : goal.returns-then-not-taken
returns-then-not-taken c =
    let at = c.loop-body.body-index in
    let others = c.args.others.now in
    let body = c.body-item.result in
    let failed : Takes c.loop-body.found c.take.new.self c.as_slice.result.now false = subst (λ (b : Bool). Takes c.loop-body.found c.take.new.self c.as_slice.result.now b) c.if-not-taken.true c.in_ok-taken.ensures in
    let here : Takes c.loop-body.found c.take.new.self body false = subst (λ (b : List ℕ). Takes c.loop-body.found c.take.new.self b false) c.as_slice.ensures failed in
    subst (λ (l : List (List ℕ)). FailsAt l c.take.new.self.size) (parted c.args.file.now others at body c.loop-body-test.true c.body-item.is) (here (c.args.file.now ∷ take at others) (drop (at + 1) others) c.loop-body.invariant)
