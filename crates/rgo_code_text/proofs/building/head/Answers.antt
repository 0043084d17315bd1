use Rattle.std.proofs.Common.{◌∙◌, sym, ap, List, ℕ, Option, Some}
use Rattle.std.specs.Option.{option_map}
use Rattle.rgo_code.specs.Views.{slot}
use Rattle.rgo_typed.specs.declared.types.Type.{«Type»}
use Rattle.rgo_code_text.specs.declared.items.NamedSlot.{NamedSlot as CodeSlot}
use Rattle.rgo_code_text.specs.Building.{names_now, numbered_slot}
use Rattle.rgo_code_text.specs.CodeLines.{no_function}
use Rattle.rgo_code_text.specs.Views.{named_slot_of}
use Rattle.rgo_code_text.proofs.building.head.Goals as goal

pub returns-in-Some-clause-function : goal.returns-in-Some-clause-function
returns-in-Some-clause-function c =
    let n = names_now c.args.tables.now in
    let class = c.in-Some.slot.class in
    c.opened.ensures.function
    ∙ ap (λ (name : List ℕ). record no_function {
      name = name;
      params = c.args.params;
      result = Some (slot c.numbered_type-ty.result class);
    }) c.in_ok-name.ensures
    ∙ ap (λ (ty : «Type»). record no_function {
      name = c.args.name.now;
      params = c.args.params;
      result = Some (slot ty class);
    }) c.numbered_type-ty.ensures
    ∙ ap (λ (s : Option CodeSlot). record no_function {
      name = c.args.name.now;
      params = c.args.params;
      result = option_map (numbered_slot n) (option_map named_slot_of s);
    }) (sym c.in-Some.is)

pub returns-in-None-clause-function : goal.returns-in-None-clause-function
returns-in-None-clause-function c =
    let n = names_now c.args.tables.now in
    c.opened-in-None.ensures.function
    ∙ ap (λ (name : List ℕ). record no_function { name = name; params = c.args.params }) c.in_ok-name.ensures
    ∙ ap (λ (s : Option CodeSlot). record no_function {
      name = c.args.name.now;
      params = c.args.params;
      result = option_map (numbered_slot n) (option_map named_slot_of s);
    }) (sym c.in-None.is)
