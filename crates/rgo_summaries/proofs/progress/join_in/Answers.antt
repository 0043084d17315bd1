use Rattle.std.proofs.Common.{◌++◌, refl, sym, ap, ◌∙◌}
use Rattle.std.proofs.lemmas.List.{append-nil}
use Rattle.rgo_summaries.specs.Progress.{events_of}
use Rattle.rgo_summaries.proofs.Progressing.{nodes_read, progress_adds, progress_is}
use Rattle.rgo_summaries.proofs.progress.join_in.Goals as goal

pub returns-in_ok-push-in-Some-clause-is : goal.returns-in_ok-push-in-Some-clause-is
returns-in_ok-push-in-Some-clause-is c =
    let p = c.args.progress.now in
    let was =
    nodes_read p.nodes.items c.args.function c.args.one c.index_mut.result.now c.requires.one
    c.index_mut.ensures.value in
    let log = c.in_ok-push-in-Some.ensures.items
    ∙ ap (λ k. p.log.items ++ events_of c.args.function k) (sym c.in-Some.is) in
    progress_is p _ c.args.function c.index_mut.result.now c.join.new.nodes c.args.one c.args.other c.in_ok-one.field-0
    c.requires.is was refl log c.in_ok-one.ensures.is c.in_ok-one.ensures.joined

pub returns-in_ok-push-in-Some-clause-adds : goal.returns-in_ok-push-in-Some-clause-adds
returns-in_ok-push-in-Some-clause-adds c =
    let p = c.args.progress.now in
    let was =
    nodes_read p.nodes.items c.args.function c.args.one c.index_mut.result.now c.requires.one
    c.index_mut.ensures.value in
    let log = c.in_ok-push-in-Some.ensures.items
    ∙ ap (λ k. p.log.items ++ events_of c.args.function k) (sym c.in-Some.is) in
    progress_adds p _ c.args.function c.index_mut.result.now c.join.new.nodes c.args.one c.args.other
    c.in_ok-one.field-0
    c.requires.is was refl log c.in_ok-one.ensures.is c.in_ok-one.ensures.joined

pub returns-in-None-clause-is : goal.returns-in-None-clause-is
returns-in-None-clause-is c =
    let p = c.args.progress.now in
    let was =
    nodes_read p.nodes.items c.args.function c.args.one c.index_mut.result.now c.requires.one
    c.index_mut.ensures.value in
    let log = sym (ap (λ k. p.log.items ++ events_of c.args.function k) c.in-None.is ∙ append-nil p.log.items) in
    progress_is p _ c.args.function c.index_mut.result.now c.join.new.nodes c.args.one c.args.other c.in_ok-one.field-0
    c.requires.is was refl log c.in_ok-one.ensures.is c.in_ok-one.ensures.joined

pub returns-in-None-clause-adds : goal.returns-in-None-clause-adds
returns-in-None-clause-adds c =
    let p = c.args.progress.now in
    let was =
    nodes_read p.nodes.items c.args.function c.args.one c.index_mut.result.now c.requires.one
    c.index_mut.ensures.value in
    let log = sym (ap (λ k. p.log.items ++ events_of c.args.function k) c.in-None.is ∙ append-nil p.log.items) in
    progress_adds p _ c.args.function c.index_mut.result.now c.join.new.nodes c.args.one c.args.other
    c.in_ok-one.field-0
    c.requires.is was refl log c.in_ok-one.ensures.is c.in_ok-one.ensures.joined
