use Rattle.std.proofs.Common.{◌≡◌, length, refl, sym, ap, ◌∙◌, arith}
use Rattle.std.proofs.lemmas.Option.{slice_get_read}
use Rattle.rgo_summaries.specs.Joining.{size_of}
use Rattle.rgo_summaries.specs.Progress.{size_at}
use Rattle.rgo_summaries.proofs.Growing.{grown_progress, grows_in}
use Rattle.rgo_summaries.proofs.beginning.grow_in.Goals as goal

pub returns-clause-is : goal.returns-clause-is
returns-clause-is c =
    let p = c.args.progress.now in
    let n = c.index_mut-nodes.result.now in
    let was =
    slice_get_read p.nodes.items
    (length p.nodes.items) c.args.function n refl c.requires.inside c.index_mut-nodes.ensures.value in
    grown_progress p _ c.args.function c.args.count n c.grow.new.nodes c.requires.is was refl refl
    c.in_ok-grow.ensures.is
    c.in_ok-grow.ensures.grows

pub returns-clause-grows : goal.returns-clause-grows
returns-clause-grows c =
    let p = c.args.progress.now in
    let n = c.index_mut-nodes.result.now in
    let was =
    slice_get_read p.nodes.items
    (length p.nodes.items) c.args.function n refl c.requires.inside c.index_mut-nodes.ensures.value in
    grows_in p _ c.args.function c.args.count n c.grow.new.nodes c.requires.is was refl refl c.in_ok-grow.ensures.is
    c.in_ok-grow.ensures.grows

pub returns-clause-base : goal.returns-clause-base
returns-clause-base c =
    let p = c.args.progress.now in
    let n = c.index_mut-nodes.result.now in
    let was =
    slice_get_read p.nodes.items
    (length p.nodes.items) c.args.function n refl c.requires.inside c.index_mut-nodes.ensures.value in
    let e : c.len-base.result ≡ size_of n = omega arith in
    e ∙ ap size_at (sym was)
