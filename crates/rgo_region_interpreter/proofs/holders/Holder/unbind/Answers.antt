use Rattle.std.proofs.Common.{ap, ◌-◌, ◌∙◌, refl}
use Rattle.rgo_region_interpreter.specs.Holders.{bound_without}
use Rattle.rgo_region_interpreter.proofs.holding.Newest.{last_set}
use Rattle.rgo_region_interpreter.proofs.holders.Holder.unbind.Goals as goal

pub returns-in-Some : goal.returns-in-Some
returns-in-Some c = record {
  renamed = λ names frames e.
      let x = last_set (λ v. v.items) c.args.self.now.frames.items _ c.in-Some.names.now c.unbind.new.names (ap (λ n. n - 1) c.args.self.now.frames.ok.0) c.in-Some.ensures.value names frames e in
      (c.unbind.new.names.items, x.0, λ k. c.unbind.ensures k ∙ ap (λ ns. bound_without ns c.args.name k) x.1);
  kept = record { protections = λ r. refl; fills = λ r. refl; base = refl; reserved = refl; done = refl };
}
