use Rattle.std.proofs.Common.{Err, ap}
use Rattle.rgo_run.proofs.ProgramLemmas.{no_program_is_too_large, programs_are_well_formed}
use Rattle.rgo_run.proofs.pipeline.lower_text.Goals as goal

pub lower-requires : goal.lower-requires
lower-requires c = (programs_are_well_formed c.args.text.now _ c.in_ok-program.ensures.ok).0

pub unreachable-requires : goal.unreachable-requires
unreachable-requires c =
    no_program_is_too_large c.args.text.now _ c.in_ok-program.ensures.ok
    (c.in-Err-TooLarge.ensures.large.0 (ap Err c.in-Err-TooLarge.field-0-is))
