use Rattle.std.proofs.Common.{None, ap, arith, length, replicate, reverse, refl, subst, sym, vec_len, ◌++◌, ◌-◌, ◌≤◌, ◌∙◌, ◌≡◌}
use Rattle.std.proofs.lemmas.List.{take_all}
use Rattle.rgo_holding.specs.Tables.{StartWithin, key_in, keys_at, named_below, named_in}
use Rattle.rgo_holding.proofs.TableLemmas.{longer_at, longer_below, longer_keys, longer_within}
use Rattle.rgo_holding.proofs.frames.Frames.lengthen.Goals as goal

pub returns-in_ok-resize-clause-same : goal.returns-in_ok-resize-clause-same
returns-in_ok-resize-clause-same c = λ ordered.
    let f = c.args.self.now in
    let ts = reverse f.tables.items in
    let at = c.requires.start in
    let m = c.in-Some.end - vec_len f.keys in
    let fits : length f.keys.items ≤ c.in-Some.end = omega arith in
    let grown : c.resize.new.self.items ≡ f.keys.items ++ replicate m None =
    c.in_ok-resize.ensures.items ∙ ap (λ ks. ks ++ replicate m None) (take_all c.in-Some.end f.keys.items fits) in
    record {
      keys = λ k. ap (λ ks. key_in (keys_at (named_in ks ts) f.depth) k) grown
          ∙ ap (λ ks. key_in ks k) (longer_at f.keys.items ts f.depth c.args.start m at ordered)
          ∙ longer_keys (keys_at (named_in f.keys.items ts) f.depth) m k;
      below = ap (λ ks. named_below (named_in ks ts) f.depth) grown ∙ longer_below f.keys.items ts f.depth c.args.start m at ordered;
      depth = refl;
      ordered = subst (λ ks. StartWithin ks ts) (sym grown) (longer_within f.keys.items ts f.depth c.args.start m at ordered);
    }
