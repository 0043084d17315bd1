-- One step of the walk in each arm. A kept print is swapped to the front; what comes after `i` stays, so the rest of the walk is still
-- sorted. A failed write leaves the walk where it is, and the first bytes of one print more have gone out.
use Rattle.std.proofs.Common.{◌≡◌, ◌+◌, ◌<◌, ◌∙◌, ◌∷◌, arith, drop, length}
use Rattle.rgo_runtime.proofs.lists.Walks.{drop-at, drop-swap, pieces_more, take-swap, walk_fault, walk_given, walk_has, walk_kept}
use Rattle.rgo_runtime.proofs.printing.write_in_order.Goals.{then-from-next+in-Ok, else-from-next}
use Rattle.rgo_runtime.proofs.printing.write_in_order.Goals as goal

pub returns-in-Err-clause-part : goal.returns-in-Err-clause-part
returns-in-Err-clause-part g c =
    let xs = c.loop-i.waiting.items in
    let x = c.index-print.result.now in
    let within : c.loop-i.i < length xs = omega (arith, c.loop-i-test.true, c.loop-i.invariant.len, c.loop-i.waiting.ok.0) in
    let cut : drop c.loop-i.i xs ≡ x ∷ drop (c.loop-i.i + 1) xs = drop-at xs c.loop-i.i x within c.index-print.ensures in
    let turn : x.ticket ≡ c.loop-i.next = cc in
    let out = rw c.deref.ensures.value at c.in-Err.ensures.written.grown in
    walk_fault _ _ _ x _ _ _ _ (rw cut at c.loop-i.invariant.walk) _ c.in-Err.fault.written turn out

pub returns-in-Err-clause-pieces : goal.returns-in-Err-clause-pieces
returns-in-Err-clause-pieces g c =
    let xs = c.loop-i.waiting.items in
    let x = c.index-print.result.now in
    let within : c.loop-i.i < length xs = omega (arith, c.loop-i-test.true, c.loop-i.invariant.len, c.loop-i.waiting.ok.0) in
    let cut : drop c.loop-i.i xs ≡ x ∷ drop (c.loop-i.i + 1) xs = drop-at xs c.loop-i.i x within c.index-print.ensures in
    let has = walk_has _ _ _ x _ _ _ _ (rw cut at c.loop-i.invariant.walk) in
    pieces_more _ x _ _ _ has c.loop-i.invariant.pieces (rw c.deref.ensures.value at c.in-Err.ensures.pieces)

pub loop-i-preserved : goal.loop-i-preserved
loop-i-preserved g c =
    let xs = c.loop-i.waiting.items in
    let x = c.index-print.result.now in
    let within : c.loop-i.i < length xs = omega (arith, c.loop-i-test.true, c.loop-i.invariant.len, c.loop-i.waiting.ok.0) in
    let cut : drop c.loop-i.i xs ≡ x ∷ drop (c.loop-i.i + 1) xs = drop-at xs c.loop-i.i x within c.index-print.ensures in
    let walk = rw cut at c.loop-i.invariant.walk in
    elim c.if-from-next.branch [
      | then-from-next+in-Ok w ↦
          let turn : x.ticket ≡ c.loop-i.next = cc in
          let out = rw w.deref.ensures.value at w.in-Ok.ensures.ok in
          let has = walk_has _ _ _ x _ _ _ _ walk in
          rw (w.waiting-is, w.kept-is, w.next-is, w.out-is)
          (record {
            within = omega (arith, c.loop-i.invariant.within);
            len = c.loop-i.invariant.len;
            walk = walk_given _ _ _ x _ _ _ _ walk _ turn out;
            faults = w.in-Ok.ensures.cause.ok ∙ c.loop-i.invariant.faults;
            pieces = pieces_more _ x _ _ _ has c.loop-i.invariant.pieces (rw w.deref.ensures.value at w.in-Ok.ensures.pieces);
          })
      | else-from-next w ↦
          let kept = c.loop-i.kept in
          let taken = take-swap xs kept c.loop-i.i x c.loop-i.invariant.within within c.index-print.ensures in
          let dropped = drop-swap xs kept c.loop-i.i x c.loop-i.invariant.within within in
          let apart : x.ticket ≡ c.loop-i.next → ⊥ = λ e. w.if-from-next.false (c.from.ensures ∙ e) in
          rw (w.waiting-is, w.kept-is, w.next-is, w.out-is)
          (record {
            within = omega (arith, c.loop-i.invariant.within);
            len = w.swap.ensures.len ∙ c.loop-i.invariant.len;
            walk = rw (w.swap.ensures.items, taken, dropped) (walk_kept _ _ _ x _ _ _ _ walk apart);
            faults = c.loop-i.invariant.faults;
            pieces = c.loop-i.invariant.pieces;
          })
    ]
