use Rattle.std.proofs.Common.{List, length, slice_get, refl, sym, ap, ◌∙◌, arith}
use Rattle.std.proofs.lemmas.Option.{slice_get_read}
use Rattle.rgo_tac.specs.Code.{TacFn}
use Rattle.rgo_summaries.proofs.Steps.{begun_all, begun_first, begun_more, empty_progress}
use Rattle.rgo_summaries.proofs.beginning.begin_all.Goals as goal

pub loop-n-init : goal.loop-n-init
loop-n-init c =
    let long = ap (λ (l : List TacFn). length l) c.functions-functions.ensures in
    record {
      is = empty_progress _ c.new.ensures.items c.new-2.ensures.items;
      begun =
          begun_first c.args.code.now c.new.result.items c.in_ok-sites.sites.items (omega arith)
          (omega (arith, long, c.in_ok-sites.ensures.len))
          c.in_ok-sites.ensures.none;
    }

pub begin-requires-clause-known : goal.begin-requires-clause-known
begin-requires-clause-known c =
    let found = c.functions-functions.result.now in
    ap (λ (l : List TacFn). slice_get l c.loop-n.n) (sym c.functions-functions.ensures)
    ∙ slice_get_read found (length found) c.loop-n.n c.index-functions-n.result refl
    (omega arith) c.index-functions-n.is

pub loop-n-preserved : goal.loop-n-preserved
loop-n-preserved c =
    let found = c.functions-functions.result.now in
    let known = ap (λ (l : List TacFn). slice_get l c.loop-n.n) (sym c.functions-functions.ensures)
    ∙ slice_get_read found (length found) c.loop-n.n c.index-functions-n.result refl
    (omega arith) c.index-functions-n.is
    in
    record {
      is = c.in_ok-begin.ensures.is;
      begun =
          begun_more c.args.code.now c.loop-n.n c.index-functions-n.result c.loop-n.progress.nodes.items
          c.begin.new.progress.nodes.items c.loop-n.sites.items c.begin.new.sites.items known c.loop-n.invariant.begun
          c.in_ok-begin.ensures.begins;
    }

pub returns-clause-begun : goal.returns-clause-begun
returns-clause-begun c =
    let long = ap (λ (l : List TacFn). length l) c.functions-functions.ensures in
    begun_all c.args.code.now c.loop-n.progress.nodes.items c.loop-n.sites.items c.loop-n.n (omega (arith, long))
    c.loop-n.invariant.begun
