use Rattle.std.proofs.Common.{◌<◌, length, sym, ◌∙◌, arith}
use Rattle.std.proofs.lemmas.Option.{none-some, slice_get-get_or}
use Rattle.rgo_tac.specs.Flow.{variables_of}
use Rattle.rgo_region_sets.proofs.Naming.{none_named, more_named, all_named}
use Rattle.rgo_region_sets.proofs.used.add_read.Goals.{in-Some+in_ok-add_name, in_default}
use Rattle.rgo_region_sets.proofs.used.add_read.Goals as goal

pub loop-n-init : goal.loop-n-init
loop-n-init c =
    none_named c.args.f.now c.args.names.now.items

pub loop-n-preserved : goal.loop-n-preserved
loop-n-preserved c =
    let variables = variables_of c.args.variables in
    let within : c.loop-n.n < length variables = omega (arith, c.loop-n-test.true, c.len-n-end.ensures) in
    elim c.match-get.branch [
      | in-Some+in_ok-add_name w ↦
          rw w.names-is (more_named c.args.f.now c.args.names.now.items c.loop-n.names.items w.add_name.new.names.items
          variables c.loop-n.n w.in-Some.variable (sym c.get.ensures ∙ w.in-Some.is) c.loop-n.invariant
          w.in_ok-add_name.ensures)
      | in_default w ↦
          absurd (none-some _ (sym w.in_default.is ∙ c.get.ensures ∙ slice_get-get_or variables c.loop-n.n 0 within))
    ]

pub returns : goal.returns
returns c =
    all_named c.args.f.now c.args.names.now.items c.loop-n.names.items (variables_of c.args.variables) c.loop-n.n
    (omega (arith, c.loop-n-test.false, c.len-n-end.ensures)) c.loop-n.invariant
