-- What `emit` prints, `code` accepts: compiled code is printable (Printed.antt), the text of printable code is read back as that code,
-- and compiled code keeps all rules.
use Rattle.std.proofs.Common.{refl, ap}
use Rattle.rgo_code.specs.declared.code.Undeclared.{Undeclared}
use Rattle.rgo_code_text.proofs.readings.Ruled.{rules_suffice}
use Rattle.rgo_run.specs.Accepted.{EmittedPasses}
use Rattle.rgo_run.proofs.Printed.{printable}

pub emitted_passes : EmittedPasses
emitted_passes text code is fits short =
    let from = is.from in
    record {
      code = code;
      is_text = record {
        within = short;
        written = rules_suffice code from.checked from.ascends (ap (λ (u : Undeclared). u.structs) from.declared)
            (ap (λ (u : Undeclared). u.variables) from.declared) (ap (λ (u : Undeclared). u.functions) from.declared)
            (printable text code is short fits);
        text_is = refl;
      };
      checked = from.checked;
    }
