use Rattle.std.proofs.Common.{⊎_elim, ◌+◌, ltb, ◌∙◌, ap, arith}
use Rattle.std.specs.Prelude.{if◌then◌else◌}
use Rattle.rgo_summaries.proofs.Growing.{grown_only, grown_size, min_more}
use Rattle.rgo_summaries.proofs.beginning.own_nodes.Goals as goal

pub loop-number-preserved : goal.loop-number-preserved
loop-number-preserved c =
    let i = c.loop-number.invariant in
    let g = c.in_ok-add.ensures.grows in
    record {
      is = c.in_ok-add.ensures.is;
      size = omega (arith, grown_size c.loop-number.nodes c.add.new.nodes _ i.is g, i.size);
      width =
          g.width ∙ ap (λ k. if ltb c.loop-number.number c.width_of-width.result then k + 1 else k) i.width
          ∙ min_more c.loop-number.number c.width_of-width.result;
      alone = λ x y s. ⊎_elim (λ e. e) (λ t. i.alone x y t)
          (grown_only c.loop-number.nodes c.add.new.nodes _ i.is g x y s);
    }
