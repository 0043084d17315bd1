use Rattle.std.proofs.Common.{◌∷◌, ◌++◌, ◌∙◌, [], ap, refl, subst}
use Rattle.rgo_tac.specs.Tac.{tac_start}
use Rattle.rgo_region_interpreter.specs.Holders.{HolderBegins}
use Rattle.rgo_region_interpreter.proofs.holding.FirstState.{starts}
use Rattle.rgo_region_interpreter.proofs.worlds.World.new.Goals as goal

pub returns : goal.returns
returns c =
    let holder = c.in_ok-new.field-0 in
    record {
      starts = starts c.args.code.now c.args.sizes _ holder c.code-code.ensures.code refl
          (c.in_ok-push.ensures.items ∙ ap (λ l. l ++ holder ∷ []) c.new-holders.ensures.items)
          (subst (λ l. HolderBegins holder l []) c.new.ensures.items
          (subst (HolderBegins holder c.new.result.items) c.new-2.ensures.items c.in_ok-new.ensures))
          (record {
            checked = c.code-code.ensures.checked;
            ascends = c.ascends.ensures;
            marks = c.in_ok-marks.ensures;
            formals = c.in_ok-formals.ensures;
          })
          (c.in_ok-start.ensures ∙ ap tac_start c.tac.ensures) c.new-4.ensures;
    }
