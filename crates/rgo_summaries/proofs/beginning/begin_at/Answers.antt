use Rattle.std.proofs.Common.{refl, sym, ap, ◌∙◌, arith}
use Rattle.std.specs.Option.{option_map}
use Rattle.std.proofs.lemmas.Option.{slice_get_within}
use Rattle.std.proofs.lemmas.Result.{on_ok_weaker}
use Rattle.rgo_summaries.specs.Beginning.{OwnHere}
use Rattle.rgo_summaries.specs.Views.{parts_of_call, called_with}
use Rattle.rgo_summaries.proofs.Kinding.{kinds_first, kinds_longer}
use Rattle.rgo_summaries.proofs.Standing.{call_here}
use Rattle.rgo_summaries.proofs.Steps.{call_begins, grows_none, own_begins_at, steps}
use Rattle.rgo_summaries.proofs.beginning.begin_at.Goals as goal

pub begin_call-requires-clause-own : goal.begin_call-requires-clause-own
begin_call-requires-clause-own c =
    let code = c.args.code.now in
    let f = c.args.function.now in
    omega (arith, c.requires.size, kinds_longer code f 0 c.args.at (omega arith), kinds_first code f)

pub begin_call-requires-clause-called : goal.begin_call-requires-clause-called
begin_call-requires-clause-called c =
    let code = c.args.code.now in
    let call = parts_of_call c.in-Some.call in
    let here = sym c.callee_at.ensures ∙ ap (option_map called_with) c.in-Some.is in
    let h = call_here code c.args.function.now c.args.at call c.in-Some.callee.now here in
    omega (arith, slice_get_within code.functions call.function c.in-Some.callee.now h.known, c.requires.sites)

pub begin_own-requires-clause-own : goal.begin_own-requires-clause-own
begin_own-requires-clause-own c =
    let code = c.args.code.now in
    let f = c.args.function.now in
    omega (arith, c.requires.size, kinds_longer code f 0 c.args.at (omega arith), kinds_first code f)

pub returns-in-Some-clause-begins : goal.returns-in-Some-clause-begins
returns-in-Some-clause-begins c =
    let here = sym c.callee_at.ensures ∙ ap (option_map called_with) c.in-Some.is in
    on_ok_weaker c.begin_call.result
    (λ b. call_begins c.args.code.now c.args.n c.args.function.now c.args.at c.args.progress.now.nodes.items
    c.begin_call.new.progress.nodes.items c.args.sites.now.items c.begin_call.new.sites.items c.requires.known
    c.requires.size (parts_of_call c.in-Some.call) c.in-Some.callee.now here b)
    c.begin_call.ensures.begins

pub returns-in-None-clause-begins : goal.returns-in-None-clause-begins
returns-in-None-clause-begins c =
    let p = c.args.progress.now in
    let r = c.begin_own.new.progress in
    let n = c.args.n in
    let f = c.args.function.now in
    let none = sym c.callee_at.ensures ∙ ap (option_map called_with) c.in-None.is in
    on_ok_weaker c.begin_own.result
    (λ adds. own_begins_at c.args.code.now n f c.args.at p.nodes.items r.nodes.items c.args.sites.now.items
    c.args.sites.now.items c.requires.known c.requires.size none
    (steps p p r n 0 (OwnHere f c.args.at) (grows_none p n) adds) refl)
    c.begin_own.ensures.adds
