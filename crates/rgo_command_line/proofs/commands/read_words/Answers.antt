use Rattle.std.proofs.Common.{◌∙◌, ap, subst, map, string_bytes}
use Rattle.clap.specs.Words.{App, HasKind, fault_of, is_simple_and_free}
use Rattle.rgo_command_line.proofs.CommandLemmas.{is_exact, refused}
use Rattle.rgo_command_line.proofs.commands.read_words.Goals as goal

pub returns-clause-asked : goal.returns-clause-asked
returns-clause-asked c = λ _.
    let words = map string_bytes c.args.words.now in
    let error = c.in-Err.error in
    let kinds = c.in-Err.ensures.kinds (ap is_simple_and_free c.in_ok-parser.ensures ∙ is_exact) in
    refused words error (subst (λ (a : App). HasKind (fault_of a words) error) c.in_ok-parser.ensures kinds)
    (λ memory. c.in_default.not-OutOfMemory (c.kind.ensures ∙ memory))
