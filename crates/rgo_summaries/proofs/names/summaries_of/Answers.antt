use Rattle.std.proofs.Common.{◌≡◌, ◌+◌, List, length, set, refl, sym, ◌∙◌, subst, arith}
use Rattle.std.proofs.lemmas.Option.{slice_get_read, slice_get_within}
use Rattle.rgo_classes.specs.declared.classes.Summary.{Summary}
use Rattle.rgo_summaries.specs.declared.nodes.Nodes.{Nodes}
use Rattle.rgo_summaries.proofs.Taking.{AreTaken, IsNamed, taken_more}
use Rattle.rgo_summaries.proofs.names.summaries_of.Goals as goal

pub loop-n-preserved : goal.loop-n-preserved
loop-n-preserved c =
    let functions = c.args.functions.now in
    let given = c.args.nodes.now in
    let now = c.loop-n.nodes in
    let n = c.loop-n.n in
    let t = c.loop-n.invariant in
    let f = c.index-functions-n.result in
    let m = c.index-nodes-n.result in
    let s = c.in_ok-summary.field-0 in
    let rest = set now n c.replace-own.new.dest in
    let known = slice_get_read functions (length functions) n f refl (omega arith) c.index-functions-n.is in
    let own = slice_get_read now (length now) n m refl (omega (arith, t.size)) c.index-nodes-n.is in
    let taken : c.replace-own.result ≡ m = c.replace-own.ensures.value ∙ sym c.index-nodes-n.is in
    let named = subst (λ (k : Nodes). IsNamed f k s) taken c.in_ok-summary.ensures in
    subst (λ (all : List Summary). AreTaken functions given rest all (n + 1))
    (sym {A = List Summary} c.in_ok-push.ensures.items)
    (taken_more functions given now c.loop-n.all.items n f m c.replace-own.new.dest s t known own named)

pub returns-clause-named : goal.returns-clause-named
returns-clause-named c = λ n f m s fn nodes sum.
    c.loop-n.invariant.named n f m s
    (omega (arith, slice_get_within c.loop-n.all.items n s sum, c.loop-n.invariant.len)) fn nodes sum
