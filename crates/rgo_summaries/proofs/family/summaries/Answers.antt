use Rattle.std.proofs.Common.{ℕ, List, Vec, length, slice_get, sym, ap, ◌∙◌, subst, arith}
use Rattle.std.specs.Global.{Global}
use Rattle.rgo_tac.specs.Code.{TacFn}
use Rattle.rgo_summaries.specs.declared.nodes.Nodes.{Nodes}
use Rattle.rgo_summaries.specs.declared.progress.Site.{Site}
use Rattle.rgo_summaries.specs.Families.{IsLeastFamily}
use Rattle.rgo_summaries.specs.Progress.{HasRoom, IsSpread, width_in}
use Rattle.rgo_summaries.specs.Views.{call_sites_of}
use Rattle.rgo_summaries.proofs.Whole.{final_size, least_family, room}
use Rattle.rgo_summaries.proofs.family.summaries.Goals as goal

pub spread-requires-clause-room : goal.spread-requires-clause-room
spread-requires-clause-room c =
    let nodes = c.in_ok-begun.begun.progress.nodes.items in
    let sites = c.in_ok-begun.begun.sites.items in
    subst (λ (rows : List (Vec Site Global)). (g : ℕ) → HasRoom nodes (width_in nodes g) (call_sites_of rows g))
    (sym c.deref.ensures.value)
    (room c.args.code.now nodes sites c.in_ok-begun.ensures.begun)

pub summaries_of-requires-clause-own : goal.summaries_of-requires-clause-own
summaries_of-requires-clause-own c =
    let nodes = c.in_ok-begun.begun.progress.nodes.items in
    let sites = c.in_ok-begun.begun.sites.items in
    let final = c.spread.new.progress.nodes.items in
    let spread =
    subst (λ (rows : List (Vec Site Global)). IsSpread nodes final rows) c.deref.ensures.value c.in_ok-spread.ensures
    in
    λ n f m known at.
    final_size c.args.code.now nodes sites c.in_ok-begun.ensures.begun final spread n f m
    (ap (λ (l : List TacFn). slice_get l n) (sym c.functions.ensures) ∙ known)
    (ap (λ (l : List Nodes). slice_get l n) (sym c.deref_mut.ensures.value) ∙ at)

pub returns : goal.returns
returns c =
    let nodes = c.in_ok-begun.begun.progress.nodes.items in
    let sites = c.in_ok-begun.begun.sites.items in
    let final = c.spread.new.progress.nodes.items in
    let all = c.in_ok-functions.functions.items in
    let long = ap (λ (l : List TacFn). length l) c.functions.ensures in
    let spread =
    subst (λ (rows : List (Vec Site Global)). IsSpread nodes final rows) c.deref.ensures.value c.in_ok-spread.ensures
    in
    subst (IsLeastFamily c.args.code.now) (sym c.new.ensures)
    (least_family c.args.code.now nodes sites c.in_ok-begun.ensures.begun final spread all
    (omega (arith, c.in_ok-functions.ensures.len, long))
    (λ n f m s known at sum. c.in_ok-functions.ensures.named n f m s
    (ap (λ (l : List TacFn). slice_get l n) c.functions.ensures ∙ known)
    (ap (λ (l : List Nodes). slice_get l n) c.deref_mut.ensures.value ∙ at) sum))
