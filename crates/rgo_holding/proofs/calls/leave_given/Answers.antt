use Rattle.std.proofs.Common.{◌≡◌, ◌∙◌, ◌<◌, ◌+◌, ap, arith, drop, length, not, subst, sym}
use Rattle.rgo_holding.specs.declared.frames.Frames.{Frames}
use Rattle.rgo_holding.specs.Naming.{KeepsRoom}
use Rattle.rgo_holding.specs.Tables.{IsOrdered}
use Rattle.rgo_holding.proofs.Passages.{any_in, clears_as, clears_from, clears_more, clears_none, given_end, left_at, left_given, left_lent, left_other, left_protected, not_named}
use Rattle.rgo_holding.proofs.calls.leave_given.Goals as goal
use Rattle.rgo_holding.proofs.calls.leave_given.Goals.{in-Name+then-not-same_class+then-is_err, in-Name+else-not-same_class, else-not-same_class-via-then-not-same_class+else-is_err, else-not-same_class-via-else-not-same_class, in-NoClass}

keeps_from : (a b c : Frames) → b ≡ c → KeepsRoom a b → KeepsRoom a c
keeps_from a b c e h = subst (KeepsRoom a) e h

pub loop-i-preserved : goal.loop-i-preserved
loop-i-preserved c =
    let fs = c.args.formals.now in
    let ps = c.args.passes.now in
    let lent = c.args.lent in
    let protects = c.args.protects.now in
    let rising = c.requires.rises in
    let i = c.loop-i.i in
    let room = c.loop-i.invariant.1 in
    let a : i < length fs = omega (arith, c.loop-i-test.true, c.min-i-end.ensures) in
    let b : i < length ps = omega (arith, c.loop-i-test.true, c.min-i-end.ensures) in
    elim c.match-passes-i.branch [
      | in-Name+then-not-same_class+then-is_err w ↦ (
        λ ordered.
            let old = c.loop-i.invariant.0 ordered in
            let k = w.in-Name.name in
            let set = w.set.ensures.set old.0 in (
              subst IsOrdered (sym w.frames-is) set.ordered,
              λ d h.
                  old.1 d
                  (clears_as c.loop-i.frames d _ _
                  (left_given lent _ (drop (i + 1) fs) (drop (i + 1) ps) k protects
                  (any_in k protects _ w.binary_search.ensures.position rising
                  ∙ ap not (sym w.is_err.ensures.value ∙ w.if-is_err.true))
                  (sym w.same_class.ensures ∙ w.if-not-same_class.true)
                  ∙ left_at lent fs ps protects i k a b w.in-Name.is)
                  (clears_more c.loop-i.frames w.set.new.self d k _ set (clears_from _ _ d _ w.frames-is h))),
            ),
        keeps_from c.args.frames.now w.set.new.self _ (sym w.frames-is) (λ n x. w.set.ensures.room n (room n x)),
      )
      | in-Name+else-not-same_class w ↦ (
        λ ordered.
            let old = c.loop-i.invariant.0 ordered in
            let k = w.in-Name.name in
            let at = left_at lent fs ps protects i k a b w.in-Name.is in (
              subst IsOrdered (sym w.frames-is) old.0,
              λ d h.
                  let kept = clears_from _ _ d _ w.frames-is h in
                  elim w.else-not-same_class.branch [
                    | else-not-same_class-via-then-not-same_class+else-is_err w' ↦
                        old.1 d
                        (clears_as c.loop-i.frames d _ _
                        (left_protected lent _ (drop (i + 1) fs) (drop (i + 1) ps) k protects
                        (any_in k protects _ w'.binary_search.ensures.position rising
                        ∙ ap not (sym w'.is_err.ensures.value ∙ w'.if-is_err.false)) ∙ at)
                        kept)
                    | else-not-same_class-via-else-not-same_class w' ↦
                        old.1 d
                        (clears_as c.loop-i.frames d _ _
                        (left_lent lent _ (drop (i + 1) fs) (drop (i + 1) ps) k protects
                        (sym w.same_class.ensures ∙ w'.if-not-same_class.false) ∙ at)
                        kept)
                  ],
            ),
        keeps_from c.args.frames.now c.loop-i.frames _ (sym w.frames-is) room,
      )
      | in-NoClass w ↦ (
        λ ordered.
            let old = c.loop-i.invariant.0 ordered in (
              subst IsOrdered (sym w.frames-is) old.0,
              λ d h.
                  old.1 d
                  (clears_as c.loop-i.frames d _ _ (left_other lent fs ps protects i a b (not_named _ w.in-NoClass.is))
                  (clears_from _ _ d _ w.frames-is h)),
            ),
        keeps_from c.args.frames.now c.loop-i.frames _ (sym w.frames-is) room,
      )
    ]

pub returns-clause-clears : goal.returns-clause-clears
returns-clause-clears c = λ ordered.
    let old = c.loop-i.invariant.0 ordered in
    (old.1 c.loop-i.frames
    (clears_none c.loop-i.frames _ old.0
    (given_end c.args.lent c.args.formals.now c.args.passes.now c.args.protects.now c.loop-i.i
    (λ a b. omega (arith, a, b, c.loop-i-test.false, c.min-i-end.ensures))))).changed
