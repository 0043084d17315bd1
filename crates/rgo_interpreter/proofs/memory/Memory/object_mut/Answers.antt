use Rattle.std.proofs.Common.{refl, ap, sym, ◌∙◌}
use Rattle.rgo_interpreter.specs.Views.{object_view_or_empty, memory_view}
use Rattle.rgo_interpreter.proofs.Heap.{read_slot, read_past, lent, not_lent}
use Rattle.rgo_interpreter.proofs.memory.Memory.object_mut.Goals as goal

pub returns-in-Some : goal.returns-in-Some
returns-in-Some c =
    let m = c.args.self.now in
    let found = c.in-Some.ensures.value in
    let object = c.get_mut in (
      (
        refl,
        λ w. lent m _ c.args.n _ _ found (rw c.in-Some.is at (c.block_mut.follows.holds (object.follows.lender w)))
            object.result w (object.follows.holds w),
        not_lent m _ c.args.n _ _ found (rw c.in-Some.is at (c.block_mut.follows.holds object.follows.lender-at-none))
            object.follows.holds-at-none,
      ),
      record {
        writes_back = tt;
        value = read_slot m c.args.n _ found c.if-n-self.true ∙ ap object_view_or_empty (sym object.ensures.value);
      },
    )

pub returns-in-None : goal.returns-in-None
returns-in-None c =
    let m = c.args.self.now in (
      (refl, λ w. tt, ap memory_view c.block_mut.follows.holds-at-none),
      record { writes_back = tt; value = read_slot m c.args.n _ c.in-None.ensures.value c.if-n-self.true },
    )

pub returns-else-n-self : goal.returns-else-n-self
returns-else-n-self c =
    ((refl, λ w. tt, refl), record { writes_back = tt; value = read_past c.args.self.now c.args.n c.if-n-self.false })
