use Rattle.std.proofs.Common.{◌∙◌, sym, ap, arith}
use Rattle.std.specs.Option.{option_copied}
use Rattle.rgo_code_words.specs.Cuts.{nows}
use Rattle.rgo_code_text.specs.Written.{number_of_name}
use Rattle.rgo_code_text.proofs.naming.Tables.{number_none, nows_length}
use Rattle.rgo_code_text.proofs.numbers.Numbers.number.Goals as goal

pub returns-in-None : goal.returns-in-None
returns-in-None c =
    omega (
      arith,
      c.len.ensures,
      ap (λ ns. number_of_name ns c.args.name.now) c.self.view_is,
      c.self.inside.names.ok,
      nows_length c.self.inside.names.items,
      number_none (nows c.self.inside.names.items) c.args.name.now
          (sym (c.self.invariant c.args.name.now) ∙ sym c.get.ensures.value ∙ ap option_copied c.in-None.is),
    )
