use Rattle.std.proofs.Common.{◌≡◌, ℕ, ◌+◌, ◌-◌, List, ◌++◌, length, take, drop, ap, sym, ◌∙◌, append_assoc, append-nil, subst, arith}
use Rattle.headline_text.specs.Wrapping.{part, wrapped}
use Rattle.headline_text.proofs.Pieces.{between}
use Rattle.headline_text.proofs.Words.{Going, blank_step, other_step, last_step}
use Rattle.headline_text.proofs.wrapping.wrapped.Goals as goal
use Rattle.headline_text.proofs.wrapping.wrapped.Goals.{then-byte-eq32, then-follows, else-follows+in_ok-extend+in_ok-column, else-byte-eq32}

pub loop-i-preserved : goal.loop-i-preserved
loop-i-preserved c =
    let l = c.loop-i in
    let text = c.args.text.now in
    let piece = between text l.from l.to in
    let word = between text l.start l.i in
    elim c.if-byte-eq32.branch [
      | then-byte-eq32 w ↦ elim w.if-follows.branch [
        | then-follows v ↦
            let f = w.follows.ensures v.if-follows.true in
            rw (w.out-is, w.column-is, w.start-is, w.from-is, w.to-is, v.out-is, v.column-is, v.from-is) (
              blank_step text (l.out ++ piece) (l.out ++ between text l.from l.i) l.column (l.column + (l.i - l.to)) l.start l.i l.invariant.0 c.loop-i-test.true w.if-byte-eq32.true
                  (ap (λ (xs : List ℕ). l.out ++ xs) (f.piece l.from l.invariant.3) ∙ sym (append_assoc l.out piece (part l.column word))) (sym f.moves),
              omega arith,
              f.within,
              omega (arith, l.invariant.3, l.invariant.4),
              omega arith,
            )
        | else-follows+in_ok-extend+in_ok-column v ↦
            let h = v.in_ok-column.ensures in
            let out = v.put.new.out in
            let none : l.i - l.i ≡ 0 = omega arith in
            let whole : out ++ between text l.i l.i ≡ out = ap (λ (n : ℕ). out ++ take n (drop l.i text)) none ∙ append-nil out in
            let laid : out ≡ l.out ++ piece ++ part l.column word = h.text ∙ ap (λ (xs : List ℕ). xs ++ part l.column word) v.in_ok-extend.ensures.ok in
            rw (w.out-is, w.column-is, w.start-is, w.from-is, w.to-is, v.out-is, v.column-is, v.from-is) (
              subst (λ (xs : List ℕ). Going text xs v.in_ok-column.column (l.i + 1) (l.i + 1)) (sym whole)
                  (blank_step text (l.out ++ piece) out l.column v.in_ok-column.column l.start l.i l.invariant.0 c.loop-i-test.true w.if-byte-eq32.true laid h.column),
              omega arith,
              h.within,
              omega arith,
              omega arith,
            )
      ]
      | else-byte-eq32 w ↦
          rw (w.out-is, w.column-is, w.start-is, w.from-is, w.to-is) (
            other_step text (l.out ++ piece) l.column l.start l.i l.invariant.0 l.invariant.1 c.loop-i-test.true w.if-byte-eq32.false,
            omega arith,
            l.invariant.2,
            l.invariant.3,
            omega (arith, l.invariant.4),
          )
    ]

pub returns : goal.returns
unfolding wrapped
returns c =
    let l = c.loop-i in
    let text = c.args.text.now in
    let h = c.in_ok-put.ensures in
    let piece = between text l.from l.to in
    let word = between text l.start (length text) in
    h.text ∙ ap (λ (xs : List ℕ). xs ++ part l.column word) c.in_ok-extend-2.ensures.ok
    ∙ sym (last_step text (l.out ++ piece) l.column l.start l.i l.invariant.0 l.invariant.1 (omega arith) c.loop-i-test.false)
