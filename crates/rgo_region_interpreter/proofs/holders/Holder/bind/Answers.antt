use Rattle.std.proofs.Common.{ap, ◌-◌, ◌∙◌, refl}
use Rattle.rgo_region_interpreter.specs.Holders.{bound_with}
use Rattle.rgo_region_interpreter.proofs.holding.Newest.{last_set}
use Rattle.rgo_region_interpreter.proofs.holders.Holder.bind.Goals as goal

pub returns-in_ok-bind : goal.returns-in_ok-bind
returns-in_ok-bind c = record {
  binds = record {
    renamed = λ names frames e.
        let x = last_set (λ v. v.items) c.args.self.now.frames.items _ c.in-Some.names.now c.bind.new.names (ap (λ n. n - 1) c.args.self.now.frames.ok.0) c.in-Some.ensures.value names frames e in
        (c.bind.new.names.items, x.0, λ k. c.in_ok-bind.ensures.binds k ∙ ap (λ ns. bound_with ns c.args.name c.args.region k) x.1);
    kept = record { protections = λ r. refl; fills = λ r. refl; base = refl; reserved = refl; done = refl };
  };
}
