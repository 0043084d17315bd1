use Rattle.std.proofs.Common.{◌∙◌, ◌<◌, ◌+◌, ap, sym, drop, not, length, arith}
use Rattle.rgo_region_interpreter.proofs.passing.Lists.{any_in, given_end, left_at, left_given, left_lent, left_other, left_protected, not_named, unbinds_as, unbinds_from, unbinds_more, unbinds_none}
use Rattle.rgo_region_interpreter.proofs.calls.leave_given.Goals as goal
use Rattle.rgo_region_interpreter.proofs.calls.leave_given.Goals.{in-Name+then-not-same_class+then-is_err, in-Name+else-not-same_class, else-not-same_class-via-then-not-same_class+else-is_err, else-not-same_class-via-else-not-same_class, in-NoClass}

pub loop-i-preserved : goal.loop-i-preserved
loop-i-preserved c = λ rising d h.
    let fs = c.args.formals.now in
    let ps = c.args.passes.now in
    let lent = c.args.lent in
    let protects = c.args.protects.now in
    let i = c.loop-i.i in
    let a : i < length fs = omega (arith, c.loop-i-test.true, c.min-i-end.ensures) in
    let b : i < length ps = omega (arith, c.loop-i-test.true, c.min-i-end.ensures) in
    elim c.match-passes-i.branch [
      | in-Name+then-not-same_class+then-is_err w ↦
          let k = w.in-Name.name in
          c.loop-i.invariant rising d
          (unbinds_as c.loop-i.holder d _ _
          (left_given lent _ (drop (i + 1) fs) (drop (i + 1) ps) k protects
          (any_in k protects _ w.binary_search.ensures.position rising
          ∙ ap not (sym w.is_err.ensures.value ∙ w.if-is_err.true))
          (sym w.same_class.ensures ∙ w.if-not-same_class.true)
          ∙ left_at lent fs ps protects i k a b w.in-Name.is)
          (unbinds_more c.loop-i.holder w.unbind.new.self d k _ w.unbind.ensures (unbinds_from _ _ d _ w.holder-is h)))
      | in-Name+else-not-same_class w ↦
          let k = w.in-Name.name in
          let at = left_at lent fs ps protects i k a b w.in-Name.is in
          let kept = unbinds_from _ _ d _ w.holder-is h in
          elim w.else-not-same_class.branch [
            | else-not-same_class-via-then-not-same_class+else-is_err w' ↦
                c.loop-i.invariant rising d
                (unbinds_as c.loop-i.holder d _ _
                (left_protected lent _ (drop (i + 1) fs) (drop (i + 1) ps) k protects
                (any_in k protects _ w'.binary_search.ensures.position rising
                ∙ ap not (sym w'.is_err.ensures.value ∙ w'.if-is_err.false)) ∙ at)
                kept)
            | else-not-same_class-via-else-not-same_class w' ↦
                c.loop-i.invariant rising d
                (unbinds_as c.loop-i.holder d _ _
                (left_lent lent _ (drop (i + 1) fs) (drop (i + 1) ps) k protects
                (sym w.same_class.ensures ∙ w'.if-not-same_class.false) ∙ at)
                kept)
          ]
      | in-NoClass w ↦
          c.loop-i.invariant rising d
          (unbinds_as c.loop-i.holder d _ _ (left_other lent fs ps protects i a b (not_named _ w.in-NoClass.is)) (unbinds_from _ _ d _ w.holder-is h))
    ]

pub returns : goal.returns
returns c = λ rising.
    c.loop-i.invariant rising c.loop-i.holder
    (unbinds_none c.loop-i.holder _
    (given_end c.args.lent c.args.formals.now c.args.passes.now c.args.protects.now c.loop-i.i
    (λ a b. omega (arith, a, b, c.loop-i-test.false, c.min-i-end.ensures))))
