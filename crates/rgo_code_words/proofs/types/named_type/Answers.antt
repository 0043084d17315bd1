use Rattle.std.proofs.Common.{◌≡◌, ◌-◌, ℕ, List, [], length, take, drop, Some, arith, length-drop, append-nil, ap, ◌∙◌, sym}
use Rattle.std.specs.Option.{option_map}
use Rattle.std.proofs.lemmas.List.{take_all}
use denote.Ref.{Bor}
use Rattle.rgo_typed.specs.declared.types.Base.{Base}
use Rattle.rgo_typed.specs.declared.types.Layer.{Layer}
use Rattle.rgo_code_words.specs.Readers.{as_named_type, read_base}
use Rattle.rgo_code_words.proofs.TypeSteps.{base_ends, layered_is, layer_more, with_layers}
use Rattle.rgo_code_words.proofs.types.named_type.Goals as goal

pub loop-l-preserved : goal.loop-l-preserved
loop-l-preserved c =
    let word = c.args.word.now in
    let at = c.loop-l.at in
    let rest = take (length word - at) (drop at word) in
    let whole : rest ≡ drop at word = take_all (length word - at) (drop at word) (omega (arith, length-drop at word)) in
    let e = sym c.layer.ensures ∙ c.in-Some.is in
    record {
      within = omega (arith, (layered_is rest c.in-Some.l e).within, ap length whole, length-drop at word, c.width-at.ensures);
      read = layer_more c.loop-l.layers.items c.push.new.self.items word rest at c.width-at.result c.in-Some.l whole e
          c.width-at.ensures c.in_ok-push.ensures.items c.loop-l.invariant.read;
    }

pub returns-in-Some-base : goal.returns-in-Some-base
returns-in-Some-base c =
    let word = c.args.word.now in
    let layers = c.loop-l.layers.items in
    let at = c.loop-l.at in
    let rest = take (length word - at) (drop at word) in
    let whole : rest ≡ drop at word = take_all (length word - at) (drop at word) (omega (arith, length-drop at word)) in
    let b = c.in-Some-base.base in
    let name = c.in-Some-base.name.now in
    let read : read_base rest ≡ Some (as_named_type [] b name) =
    sym c.base.ensures ∙ ap (option_map (λ (p : Base × Bor (List ℕ)). as_named_type [] p.0 p.1.now)) c.in-Some-base.is in
    ap (λ (ls : List Layer). Some (as_named_type ls b name)) (c.new-layers-in-Some-base.ensures ∙ sym (append-nil layers))
    ∙ ap (with_layers layers) (sym read)
    ∙ base_ends layers word rest at whole (sym c.layer.ensures ∙ c.in_default.is) c.loop-l.invariant.read
